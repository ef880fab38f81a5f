-- Decommissioned models.
use Rattle.std.proofs.Common.{◌≡◌, ℕ, List, [], ◌∷◌, map, true, Option, Some, None, refl, sym, ap, ◌∙◌, subst}
use Rattle.std.specs.Option.{IsSomeAnd}
use Rattle.std.specs.List.Sorted.{IsStrictlySortedBy}
use Rattle.dt_base.specs.names.Grammar.{Identifier, id_cmp, dtmi_text}
use Rattle.dtdl_terms.specs.Sets.{InOrder as InterfacesInOrder}
use Rattle.dtdl_terms.specs.declared.interface.Interface.{Interface}
use Rattle.model_life.specs.Models.{Model, interfaces_of, model_at}
use Rattle.model_life.proofs.resolution.ByKey.{at, at-spelling, contained, in_contained}
use Rattle.graph_asks.specs.declared.refusal.Refusal.TheVariants as refusals
use Rattle.graph_steps.specs.States.{State, twin_at}
use Rattle.graph_steps.specs.TwinAsks.{Decommissioned}
use Rattle.graph_steps.specs.Typed.{WellTyped}
use Rattle.graph_steps.specs.held.Judged.{Unrefused}

abbrev id_of : Model → Identifier
id_of m = m.interface.id

same_ids : (ms : List Model) → map (λ (i : Interface). i.id) (interfaces_of ms) ≡ map id_of ms
same_ids [] = refl
same_ids (m ∷ ms) = ap (λ ids. m.interface.id ∷ ids) (same_ids ms)

in_order : (ms : List Model) → InterfacesInOrder (interfaces_of ms) → IsStrictlySortedBy id_cmp (map id_of ms)
in_order ms sorted = subst (IsStrictlySortedBy id_cmp) (same_ids ms) sorted

abbrev pub IsMarked : State → Identifier → Type 0
IsMarked s id = IsSomeAnd (model_at id s.models) (λ m. m.decommissioned ≡ true)

abbrev pub IsOfModel : State → List ℕ → Identifier → Type 0
IsOfModel s q id = IsSomeAnd (twin_at q s) (λ t. dtmi_text t.model ≡ dtmi_text id)

some_model : (o : Option Model) → IsSomeAnd o (λ m. m.decommissioned ≡ true) → (m : Model) × (o ≡ Some m) × (m.decommissioned ≡ true)
some_model None h = absurd h
some_model (Some m) h = (m, refl, h)

module _ (s : State) (q : List ℕ) (id : Identifier) where
  pub marked : IsMarked s id → (IsOfModel s q id → ⊥) → Decommissioned s q (dtmi_text id) (refusals.Decommissioned (dtmi_text id))
  marked is other =
      let m = some_model (model_at id s.models) is in
      (m.0, contained id_of dtmi_text (dtmi_text id) s.models m.0 m.1, sym (at-spelling id_of dtmi_text (dtmi_text id) s.models m.0 m.1), m.2, other, refl)

  pub same_model : IsOfModel s q id → Unrefused (Decommissioned s q (dtmi_text id))
  same_model is r (m, there, named, on, other, e) = other is

  pub unmarked : WellTyped s → (IsMarked s id → ⊥) → Unrefused (Decommissioned s q (dtmi_text id))
  unmarked w none r (m, there, named, on, other, e) =
      let own = in_contained id_of dtmi_text s.models m (in_order s.models w.models.ordered) there in
      let found : model_at id s.models ≡ Some m = ap (λ (u : List ℕ). at id_of dtmi_text u s.models) (sym named) ∙ own in
      none (subst (λ (o : Option Model). IsSomeAnd o (λ m. m.decommissioned ≡ true)) (sym found) on)
