use Rattle.std.proofs.Common.{codes, subst}
use Rattle.json_decimal.specs.Number.{Number}
use Rattle.json_tree.specs.Values.{object, Members, no_members, member}
use Rattle.json_tree.specs.View.{view, members_view}
use Rattle.json_tree.specs.Sorting.{IsSortedOf}
use Rattle.twin_value.proofs.Gathered.{none_at}
use Rattle.twin_value.proofs.print.print_part.Goals as goal

pub returns : goal.returns
returns c =
    let metadata : IsSortedOf (object no_members) (view c.ordered-metadata.result) = c.ordered-metadata.ensures no_members (none_at _ c.new.ensures.items) in
    let one = c.in_ok-push_made.ensures (object no_members) metadata no_members (none_at _ c.in_ok-members.ensures.items) in
    let all = c.in_ok-push_all.ensures (member (codes "$metadata") (object no_members) no_members) one in
    subst (λ (rest : Members Number). IsSortedOf (object (member (codes "$metadata") (object no_members) rest)) (view c.ordered.result)) c.members_in-from.ensures
    (c.ordered.ensures (member (codes "$metadata") (object no_members) (members_view c.members_in-from.result.now)) all)
