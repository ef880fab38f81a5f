use Rattle.std.proofs.Common.{take, [], codes, bytes_eq}
use Rattle.std.specs.Prelude.{not}
use Rattle.json_tree.specs.View.{members_view}
use Rattle.twin_value.specs.Twins.{picked, same_value}
use Rattle.twin_value.specs.Machinery.Gathering.{PutsBehind}
use Rattle.twin_value.proofs.gather.bare_part.Given as goal

abbrev pub invariant-loop-member : goal.invariant-loop-member
invariant-loop-member l = PutsBehind [] l.members.items (picked (λ key. not (bytes_eq key (codes "$metadata"))) same_value (members_view (take l.member-index l.from)))
