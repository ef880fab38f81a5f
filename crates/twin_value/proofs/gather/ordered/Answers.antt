use Rattle.twin_value.proofs.Gathered.{ordered_so}
use Rattle.twin_value.proofs.gather.ordered.Goals as goal

pub returns : goal.returns
returns c = λ ms h. rw c.from_vec.ensures (ordered_so ms c.args.members.items c.sort_by_key.new.members.items h c.sort_by_key.ensures.same c.sort_by_key.ensures.sorted)
