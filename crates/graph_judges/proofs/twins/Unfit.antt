-- Where no relationship can become ill.
use Rattle.std.proofs.Common.{◌≡◌, ℕ, List, Bool, true, false, cond, Some, refl, sym, ap, ◌∙◌, is_eq}
use Rattle.std.proofs.lemmas.Option.{same_Some}
use Rattle.ordered_table.proofs.Flat.{C}
use Rattle.graph_steps.specs.States.{State, Twin, twin_at, with_twin}
use Rattle.graph_steps.specs.Typed.{LinkIsTyped, WellTyped}
use Rattle.graph_steps.specs.TwinAsks.{DoesNotFit}
use Rattle.graph_steps.proofs.invariants.Keyed.{one_text}
use Rattle.graph_steps.proofs.invariants.Kept.{HadModel, link_kept}
use Rattle.graph_steps.proofs.invariants.Lists.{all_at}
use Rattle.graph_steps.proofs.invariants.Twins.{twin_with}
use Rattle.graph_steps.specs.held.Judged.{Unrefused}

module _ (s : State) (w : WellTyped s) (t u : Twin) (found : twin_at t.id s ≡ Some u) (same : u.model ≡ t.model) where
  had : (q : List ℕ) (x : Twin) → twin_at q (with_twin t s) ≡ Some x → HadModel s q x
  had q x e = by (is_eq (C q t.id)) refl (sym (twin_with t s q) ∙ e)
    where
      by : (b : Bool) → is_eq (C q t.id) ≡ b → cond (is_eq (C q t.id)) (Some t) (twin_at q s) ≡ Some x → HadModel s q x
      by true is h =
          let one : t ≡ x = same_Some t x (sym (ap (λ b. cond b (Some t) (twin_at q s)) is) ∙ h) in
          (u, ap (λ (k : List ℕ). twin_at k s) (one_text q t.id is) ∙ found, same ∙ ap (λ (v : Twin). v.model) one)
      by false is h = (x, sym (ap (λ b. cond b (Some t) (twin_at q s)) is) ∙ h, refl)

  pub same_fits : Unrefused (DoesNotFit (with_twin t s) t.id)
  same_fits r (l, would, least, e) =
      would.ill (link_kept s (with_twin t s).twins s.links l (had l.source) (had l.target) (λ v j at on f. f.few) (all_at (LinkIsTyped s) s.links l w.links_fit would.there))
