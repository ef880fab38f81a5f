use Rattle.std.proofs.Common.{◌∙◌, List, Option, Bor, sym, ap, subst}
use Rattle.std.specs.Cmp.Lexicographic.{slice_cmp}
use Rattle.std.specs.List.{AllByRecursion}
use Rattle.std.specs.Option.{option_copied}
use Rattle.std.specs.Ordering.{nat_cmp}
use Rattle.std.proofs.lemmas.Result.{IfOk-weaker}
use Rattle.graph_steps.specs.twins.Held.{TwinsInOrder, of_model}
use Rattle.graph_steps.specs.declared.twins.held.Held.{Held}
use Rattle.twin_value.specs.declared.twin.Twin.{Twin}
use Rattle.graph_steps.specs.bodies.Kept.{twin_view}
use Rattle.graph_steps.specs.held.Held.{state_of}
use Rattle.graph_judges.specs.fits.Machinery.Firsts.{IsFirstOf, IsLeastOf}
use Rattle.graph_judges.specs.fits.Machinery.Judged.{Misfits, MisfitsOf, StandsLive}
use Rattle.graph_judges.proofs.fits.Unfit.{all_stand, model_least}
use Rattle.graph_judges.proofs.fits.misfits.model_misfit.Goals as goal

pub first_misfit-requires-clause-stand : goal.first_misfit-requires-clause-stand
first_misfit-requires-clause-stand c =
    subst (AllByRecursion (StandsLive c.args.lent.now c.in-Some.interface.now)) (sym (c.of_model.ensures ∙ ap (of_model c.args.model.now) c.twins-twins.ensures))
    (all_stand c.args.lent.now c.args.model.now c.in-Some.interface.now c.in-Some.ensures (subst (λ (hs : List Held). TwinsInOrder hs) c.twins-twins.ensures c.len-many.ensures.ordered) c.right.ensures.twins)

pub returns-clause-least : goal.returns-clause-least
returns-clause-least c =
    IfOk-weaker c.first_misfit.result
    (λ (o : Option (Bor Twin)). IsFirstOf (λ (t : Twin). Misfits (state_of c.args.lent.now) (twin_view t)) c.of_model.result (option_copied o))
    (λ (o : Option (Bor Twin)). IsLeastOf (λ (a b : Twin). slice_cmp nat_cmp a.id b.id) (MisfitsOf c.args.lent.now c.args.model.now) (option_copied o))
    (λ o first. model_least c.args.lent.now c.args.model.now c.in-Some.interface.now c.in-Some.ensures (subst (λ (hs : List Held). TwinsInOrder hs) c.twins-twins.ensures c.len-many.ensures.ordered) (option_copied o)
    (subst (λ (ts : List Twin). IsFirstOf (λ (t : Twin). Misfits (state_of c.args.lent.now) (twin_view t)) ts (option_copied o)) (c.of_model.ensures ∙ ap (of_model c.args.model.now) c.twins-twins.ensures) first))
    c.first_misfit.ensures.first
