use Rattle.std.proofs.Common.{sym, ap, ◌∙◌}
use Rattle.twin_patch.specs.Patched.{patched_from}
use Rattle.twin_patch.proofs.Sorted.{sorted_is}
use Rattle.twin_patch.proofs.laws.order_of_members.Goals as goal

pub returns : goal.returns
returns c = λ v w sorted os d e h k. ap (patched_from 0 os) (sym (sorted_is v sorted d h) ∙ sorted_is w sorted e k)
