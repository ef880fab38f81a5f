-- What the asks on twins are answered, from what is known of the twins.
use Rattle.std.proofs.Common.{◌≡◌, ℕ, List, true, false, Some, None, refl, sym, ap, ◌∙◌, inl, inr}
use Rattle.std.specs.List.{find}
use Rattle.std.specs.Option.{is_some}
use Rattle.std.proofs.lemmas.Option.{none-some, same_Some}
use Rattle.json_tree.specs.Values.{Json}
use Rattle.graph_asks.specs.Answers.{body, done, refused}
use Rattle.graph_asks.specs.declared.ask.Ask.TheVariants as asks
use Rattle.graph_asks.specs.declared.refusal.Refusal.{Refusal}
use Rattle.graph_asks.specs.declared.refusal.Refusal.TheVariants as refusals
use Rattle.graph_steps.specs.States.{State, Twin, Link, twin_at, is_end, twin_value, part_value}
use Rattle.graph_steps.specs.Steps.{Answers}
use Rattle.graph_steps.specs.TwinAsks.{component_at, RefusesGetPart, RefusesDropTwin}
use Rattle.graph_machine.proofs.Links.{is_there, not_there}

-- ---- one twin
pub twin_found : (s : State) (id : List ℕ) (t : Twin) → Some t ≡ twin_at id s → Answers s (asks.GetTwin id) (body (twin_value t))
twin_found s id t is = inr ((λ r h. none-some t (sym h.0 ∙ sym is)), (t, sym is, refl))

pub twin_missing : (s : State) (id : List ℕ) → None ≡ twin_at id s → Answers s (asks.GetTwin id) (refused (refusals.TwinNotFound id))
twin_missing s id none = inl (refusals.TwinNotFound id, (sym none, refl), refl)

-- ---- one component
pub part_found : (s : State) (id name : List ℕ) (t : Twin) (v : Json) → twin_at id s ≡ Some t → component_at name t ≡ Some v → Answers s (asks.GetPart id name) (body (part_value v))
part_found s id name t v is has = inr ((λ r. refuse r), (t, v, is, has, refl))
  where
    refuse : (r : Refusal) → RefusesGetPart s id name r → ⊥
    refuse r (inl h) = none-some t (sym h.0 ∙ is)
    refuse r (inr (before, (u, at, none, e))) =
        let same : t ≡ u = same_Some t u (sym is ∙ at) in
        none-some v (sym none ∙ sym (ap (component_at name) same) ∙ has)

pub part_missing : (s : State) (id name : List ℕ) (t : Twin) → twin_at id s ≡ Some t → component_at name t ≡ None → Answers s (asks.GetPart id name) (refused (refusals.ComponentNotFound name))
part_missing s id name t is none = inl (refusals.ComponentNotFound name, inr ((λ q h. none-some t (sym h.0 ∙ is)), (t, is, none, refl)), refl)

pub part_of_none : (s : State) (id name : List ℕ) → None ≡ twin_at id s → Answers s (asks.GetPart id name) (refused (refusals.TwinNotFound id))
part_of_none s id name none = inl (refusals.TwinNotFound id, inl (sym none, refl), refl)

-- ---- a twin that goes
pub twin_free : (s : State) (id : List ℕ) → is_some (twin_at id s) ≡ true → find (is_end id) s.links ≡ None → (r : Refusal) → RefusesDropTwin s id r → ⊥
twin_free s id twin none r (inl h) = is_there (twin_at id s) twin h.0
twin_free s id twin none r (inr (before, (l, found, e))) = none-some l (sym none ∙ found)

pub twin_dropped : (s : State) (id : List ℕ) → is_some (twin_at id s) ≡ true → find (is_end id) s.links ≡ None → Answers s (asks.DropTwin id) done
twin_dropped s id twin none = inr (twin_free s id twin none, refl)

no_twin : (s : State) (id : List ℕ) → is_some (twin_at id s) ≡ false → RefusesDropTwin s id (refusals.TwinNotFound id)
no_twin s id none = inl (not_there (twin_at id s) none, refl)

in_use : (s : State) (id : List ℕ) (l : Link) → is_some (twin_at id s) ≡ true → Some l ≡ find (is_end id) s.links → RefusesDropTwin s id (refusals.TwinInUse l.id l.source)
in_use s id l twin found = inr ((λ q h. is_there (twin_at id s) twin h.0), (l, sym found, refl))

pub no_twin_to_drop : (s : State) (id : List ℕ) → is_some (twin_at id s) ≡ false → Answers s (asks.DropTwin id) (refused (refusals.TwinNotFound id))
no_twin_to_drop s id none = inl (refusals.TwinNotFound id, no_twin s id none, refl)

pub twin_used : (s : State) (id : List ℕ) (l : Link) → is_some (twin_at id s) ≡ true → Some l ≡ find (is_end id) s.links → Answers s (asks.DropTwin id) (refused (refusals.TwinInUse l.id l.source))
twin_used s id l twin found = inl (refusals.TwinInUse l.id l.source, in_use s id l twin found, refl)

-- Where it is done, the twin is there, and is an end of none.
drop_told : (s : State) (id : List ℕ) → Answers s (asks.DropTwin id) done → (r : Refusal) → RefusesDropTwin s id r → ⊥
drop_told s id (inl (r, h, e)) = absurd cc
drop_told s id (inr (free, e)) = free

pub had_twin : (s : State) (id : List ℕ) → Answers s (asks.DropTwin id) done → is_some (twin_at id s) ≡ false → ⊥
had_twin s id told none = drop_told s id told (refusals.TwinNotFound id) (no_twin s id none)

pub had_no_use : (s : State) (id : List ℕ) (l : Link) → Answers s (asks.DropTwin id) done → is_some (twin_at id s) ≡ true → Some l ≡ find (is_end id) s.links → ⊥
had_no_use s id l told twin found = drop_told s id told (refusals.TwinInUse l.id l.source) (in_use s id l twin found)
