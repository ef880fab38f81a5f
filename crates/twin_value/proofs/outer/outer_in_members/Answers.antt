use Rattle.std.proofs.Common.{sym, subst}
use Rattle.std.proofs.lemmas.Result.{IfOk-weaker}
use Rattle.twin_value.specs.Machinery.Views.{role_view}
use Rattle.twin_value.specs.Machinery.Outer.{IsMild}
use Rattle.twin_value.proofs.Outermost.{members_mild}
use Rattle.twin_value.proofs.outer.outer_in_members.Goals as goal

pub outer_under-found-requires : goal.outer_under-found-requires
outer_under-found-requires c = λ key. subst IsMild (sym (c.in_ok-keys.ensures key)) (members_mild (role_view c.args.role) c.requires key)

pub returns : goal.returns
returns c = IfOk-weaker c.outer_under-found.result _ _ (λ found h. h (role_view c.args.role) c.in_ok-keys.ensures) c.outer_under-found.ensures
