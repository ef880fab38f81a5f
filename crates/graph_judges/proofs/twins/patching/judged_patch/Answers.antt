use Rattle.std.proofs.Common.{sym, ap, ◌∙◌}
use Rattle.std.specs.Option.{option_copied, option_map}
use Rattle.graph_steps.specs.held.Held.{state_of, twin_of}
use Rattle.twin_patch.specs.Operations.{operations_of}
use Rattle.graph_judges.proofs.twins.Patched.{patch_judged}
use Rattle.graph_judges.proofs.twins.patching.judged_patch.Goals as goal

pub returns-clause-judged : goal.returns-clause-judged
returns-clause-judged c =
    patch_judged (state_of c.args.lent.now) c.args.id.now (operations_of c.args.patch.now.ops) (twin_of c.in-Some.held.now) (sym c.in_ok-there.ensures.there ∙ ap (λ o. option_map twin_of (option_copied o)) c.in-Some.is) c.in_ok-there.ensures.frozen c.judged_patched.result c.judged_patched.ensures.judged
