-- Paths that are one, and what the steps of a look for an interface of a path and a version tell.
use Rattle.std.proofs.Common.{◌≡◌, ◌↔◌, ℕ, zero, suc, List, [], ◌∷◌, Bool, true, false, ◌||◌, ◌&&◌, Option, Some, None, refl, sym, ap, ap₂, ◌∙◌, true≢false}
use Rattle.std.specs.Prelude.{bytes_eq}
use Rattle.std.specs.List.{list_any, flat_map}
use Rattle.std.proofs.lemmas.List.Folds.{list_any-append}
use Rattle.std.proofs.lemmas.Slice.Eq.{bytes_eq-Decides}
use Rattle.dt_base.specs.names.Grammar.{Identifier}
use Rattle.dtdl_terms.specs.Sets.{interface_at}
use Rattle.dtdl_terms.specs.declared.interface.Interface.{Interface}
use Rattle.extend_resolve.specs.Machinery.Within.{interface_passes}
use Rattle.graph_steps.specs.Conditions.{same_segments, reaches_version}
use Rattle.graph_steps.specs.Inherited.{those, reached}
use Rattle.query_eval.specs.conditions.Models.{is_of_model}
use Rattle.query_eval.specs.conditions.Machinery.Within.{leads_within, any_leads_within}

-- ---- paths
pub both : (a b : Bool) → (a && b) ≡ true → (a ≡ true) × (b ≡ true)
both true b h = (refl, h)
both false b h = absurd (true≢false (sym h))

pub same-from : (ps qs : List (List ℕ)) → same_segments ps qs ≡ true → ps ≡ qs
same-from [] [] h = refl
same-from [] (q ∷ qs) h = absurd (true≢false (sym h))
same-from (p ∷ ps) [] h = absurd (true≢false (sym h))
same-from (p ∷ ps) (q ∷ qs) h =
    let each = both (bytes_eq p q) (same_segments ps qs) h in
    ap₂ (λ (x : List ℕ) (xs : List (List ℕ)). x ∷ xs) ((bytes_eq-Decides p q).0 each.0) (same-from ps qs each.1)

same-self : (ps : List (List ℕ)) → same_segments ps ps ≡ true
same-self [] = refl
same-self (p ∷ ps) = ap₂ (λ (a b : Bool). a && b) ((bytes_eq-Decides p p).1 refl) (same-self ps)

-- what decides whether two paths are one
pub path_decided : (r : Bool) (ps qs : List (List ℕ)) → (r ≡ true) ↔ (ps ≡ qs) → r ≡ same_segments ps qs
path_decided true ps qs h = sym (ap (same_segments ps) (sym (h.0 refl)) ∙ same-self ps)
path_decided false ps qs h =
    elim (same_segments ps qs) as (λ b. same_segments ps qs ≡ b → false ≡ b) [
      | true ↦ λ e. absurd (true≢false (sym (h.1 (same-from ps qs e))))
      | false ↦ λ e. refl
    ] refl

-- ---- chains
or_false : (b : Bool) → (b || false) ≡ b
or_false true = refl
or_false false = refl

module _ (set : List Interface) (named : Identifier) where
  abbrev is_named : Interface → Bool
  is_named a = reaches_version a.id named

  -- the steps look at those that are reached
  abbrev Looks : ℕ → Type 0
  Looks n = (i : Interface) → list_any is_named (reached n set i) ≡ leads_within set named n i

  those_within : (n : ℕ) → Looks n → (o : Option Interface) → list_any is_named (those o (reached n set)) ≡ interface_passes (leads_within set named n) o
  those_within n looks None = refl
  those_within n looks (Some i) = looks i

  parents_within : (n : ℕ) → Looks n → (ps : List Identifier)
      → list_any is_named (flat_map (λ p. those (interface_at p set) (reached n set)) ps) ≡ any_leads_within set named n ps
  parents_within n looks [] = refl
  parents_within n looks (p ∷ ps) =
      list_any-append is_named (those (interface_at p set) (reached n set)) (flat_map (λ q. those (interface_at q set) (reached n set)) ps)
      ∙ ap₂ (λ (a b : Bool). a || b) (those_within n looks (interface_at p set)) (parents_within n looks ps)

  pub reached_within : (n : ℕ) (i : Interface) → list_any is_named (reached n set i) ≡ leads_within set named n i
  reached_within zero i = or_false (is_named i)
  reached_within (suc n) i = ap (λ (b : Bool). is_named i || b) (parents_within n (reached_within n) i.parents)

-- a model that is there
pub model_found : (set : List Interface) (exact : Bool) (model named : Identifier) (i : Interface) → exact ≡ false → interface_at model set ≡ Some i
    → is_of_model set exact model named ≡ leads_within set named 10 i
model_found set true model named i off found = absurd (true≢false off)
model_found set false model named i off found = rw found (reached_within set named 10 i)
