-- What the steps of a look for an ancestor tell, and that ten are enough where no rule is broken.
use Rattle.std.proofs.Common.{◌≡◌, ◌↔◌, ℕ, zero, suc, ◌<◌, ◌≤◌, ◌⊎◌, inl, inr, List, [], ◌∷◌, Bool, true, false, cond, ◌||◌, length, slice_index_or, Option, Some, None, refl, sym, ap, ◌∙◌, subst, true≢false, is_eq, arith}
use Rattle.std.specs.Prelude.{slice_get}
use Rattle.std.specs.List.{list_any}
use Rattle.std.specs.Map.{lookup}
use Rattle.std.specs.BTreeMap.{is_at}
use Rattle.std.proofs.lemmas.Option.{same_Some, none-some}
use Rattle.std.proofs.lemmas.Slice.Eq.{bytes_eq-Decides}
use Rattle.std.proofs.lemmas.Bool.{or_cases}
use Rattle.dt_base.specs.names.Grammar.{Identifier, dtmi_text, id_cmp, id_eq}
use Rattle.dtdl_terms.specs.Sets.{keyed, interface_at}
use Rattle.dtdl_terms.specs.declared.interface.Interface.{Interface}
use Rattle.dtdl_terms.specs.declared.spot.Spot.TheVariants as spots
use Rattle.extend_resolve.specs.declared.rule.SetRule.TheVariants as rules
use Rattle.extend_resolve.specs.Chains.{IsChain, chain_end, IsAncestor, ReachesCycle}
use Rattle.extend_resolve.specs.Breaches.{BreaksNoRule}
use Rattle.extend_resolve.specs.Machinery.Within.{interface_passes, reaches_within, any_within}

-- ---- elements by their positions
module _ {X : Type 0} where
  pub placed_from_contained : (xs : List X) (x : X) (k : ℕ) → k < length xs → slice_index_or xs k x ≡ x → slice_get xs k ≡ Some x
  placed_from_contained [] x k low is = absurd (omega (arith, low))
  placed_from_contained (y ∷ ys) x zero low is = ap Some is
  placed_from_contained (y ∷ ys) x (suc k) low is = placed_from_contained ys x k (omega (arith, low)) is

  pub contained_from_placed : (xs : List X) (x : X) (k : ℕ) → slice_get xs k ≡ Some x → (k < length xs) × (slice_index_or xs k x ≡ x)
  contained_from_placed [] x k is = absurd (none-some x is)
  contained_from_placed (y ∷ ys) x zero is = (omega arith, same_Some y x is)
  contained_from_placed (y ∷ ys) x (suc k) is = let more = contained_from_placed ys x k is in (omega (arith, more.0), more.1)

  pub any_from_placed : (p : X → Bool) (xs : List X) (k : ℕ) (x : X) → slice_get xs k ≡ Some x → p x ≡ true → list_any p xs ≡ true
  any_from_placed p [] k x is holds = absurd (none-some x is)
  any_from_placed p (y ∷ ys) zero x is holds = ap (λ b. b || list_any p ys) (ap p (same_Some y x is) ∙ holds)
  any_from_placed p (y ∷ ys) (suc k) x is holds =
      elim (p y) as (λ b. (b || list_any p ys) ≡ true) [ true ↦ refl | false ↦ any_from_placed p ys k x is holds ]

  pub placed_from_any : (p : X → Bool) (xs : List X) → list_any p xs ≡ true → (k : ℕ) × (x : X) × (slice_get xs k ≡ Some x) × (p x ≡ true)
  placed_from_any p [] some = absurd (true≢false (sym some))
  placed_from_any p (y ∷ ys) some =
      elim (p y) as (λ b. p y ≡ b → (b || list_any p ys) ≡ true → (k : ℕ) × (x : X) × (slice_get (y ∷ ys) k ≡ Some x) × (p x ≡ true)) [
        | true ↦ λ e h. (zero, y, refl, e)
        | false ↦ λ e h. let later = placed_from_any p ys h in (suc later.0, later.1, later.2, later.3)
      ] refl some

-- what is found in a set stands in it
pub found_placed : (set : List Interface) (p : Identifier) (j : Interface) → interface_at p set ≡ Some j → (k : ℕ) × (slice_get set k ≡ Some j)
found_placed [] p j found = absurd (none-some j found)
found_placed (i ∷ is) p j found =
    elim (is_eq (id_cmp p i.id)) as (λ b. cond b (Some i) (lookup (is_at (id_cmp p)) (keyed is)) ≡ Some j → (k : ℕ) × (slice_get (i ∷ is) k ≡ Some j)) [
      | true ↦ λ h. (zero, h)
      | false ↦ λ h. let later = found_placed is p j h in (suc later.0, later.1)
    ] found

module _ (set : List Interface) (id : Identifier) where
  abbrev pub HasId : Interface → Type 0
  HasId i = dtmi_text i.id ≡ dtmi_text id

  -- a chain of at most so many steps to the identifier
  abbrev pub Leads : ℕ → Interface → Type 0
  Leads n i = (js : List Interface) × IsChain set i js × (length js ≤ n) × HasId (chain_end i js)

  here : (n : ℕ) (i : Interface) → id_eq i.id id ≡ true → Leads n i
  here n i same = ([], tt, omega arith, (bytes_eq-Decides (dtmi_text i.id) (dtmi_text id)).0 same)

  passed : (test : Interface → Bool) (o : Option Interface) → interface_passes test o ≡ true → (j : Interface) × (o ≡ Some j) × (test j ≡ true)
  passed test None h = absurd (true≢false (sym h))
  passed test (Some j) h = (j, refl, h)

  pub leads_from : (n : ℕ) (i : Interface) → reaches_within set id n i ≡ true → Leads n i
  leads_from zero i h = here zero i h
  leads_from (suc n) i h =
      elim (or_cases (id_eq i.id id) (any_within set id n i.parents) h) [
        | inl same ↦ here (suc n) i same
        | inr some ↦
            let one = placed_from_any (λ p. interface_passes (reaches_within set id n) (interface_at p set)) i.parents some in
            let found = passed (reaches_within set id n) (interface_at one.1 set) one.3 in
            let more = leads_from n found.0 found.2 in
            let listed = contained_from_placed i.parents one.1 one.0 one.2 in
            (found.0 ∷ more.0, ((one.1, (one.0, listed.0, listed.1), found.1), more.1), omega (arith, more.2), more.3)
      ]

  same_here : (n : ℕ) (i : Interface) → id_eq i.id id ≡ true → reaches_within set id n i ≡ true
  same_here zero i same = same
  same_here (suc n) i same = ap (λ b. b || any_within set id n i.parents) same

  or_right : (a b : Bool) → b ≡ true → (a || b) ≡ true
  or_right true b h = refl
  or_right false b h = h

  pub leads_to : (n : ℕ) (i : Interface) (js : List Interface) → IsChain set i js → length js ≤ n → HasId (chain_end i js) → reaches_within set id n i ≡ true
  leads_to n i [] chain short same = same_here n i ((bytes_eq-Decides (dtmi_text i.id) (dtmi_text id)).1 same)
  leads_to zero i (j ∷ js) chain short same = absurd (omega (arith, short))
  leads_to (suc n) i (j ∷ js) ((p, (k, low, is), found), chain) short same =
      let holds : interface_passes (reaches_within set id n) (interface_at p set) ≡ true =
      ap (interface_passes (reaches_within set id n)) found ∙ leads_to n j js chain (omega (arith, short)) same in
      or_right (id_eq i.id id) (any_within set id n i.parents) (any_from_placed (λ q. interface_passes (reaches_within set id n) (interface_at q set)) i.parents k p (placed_from_contained i.parents p k low is) holds)

-- ---- ten steps are enough
pub at_most : (m n : ℕ) → (n ≤ m) ⊎ (suc m ≤ n)
at_most m zero = inl (omega arith)
at_most zero (suc n) = inr (omega arith)
at_most (suc m) (suc n) =
    elim (at_most m n) [
      | inl low ↦ inl (omega (arith, low))
      | inr high ↦ inr (omega (arith, high))
    ]

module _ (set : List Interface) (sound : BreaksNoRule set) where
  end_placed : (i : Interface) (js : List Interface) → ((k : ℕ) × (slice_get set k ≡ Some i)) → IsChain set i js → (k : ℕ) × (slice_get set k ≡ Some (chain_end i js))
  end_placed i [] at chain = at
  end_placed i (j ∷ js) at ((p, named, found), chain) = end_placed j js (found_placed set p j found) chain

  no_cycle : (i : Interface) → ((k : ℕ) × (slice_get set k ≡ Some i)) → ReachesCycle set i → ⊥
  no_cycle i at (a, j, (js, chain, is), (p, (k, low, named), found), back) =
      let there : (n : ℕ) × (slice_get set n ≡ Some a) = subst (λ x. (n : ℕ) × (slice_get set n ≡ Some x)) is (end_placed i js at chain) in
      sound there.0 a rules.Cycle (spots.Parent k) there.1 (j, (p, placed_from_contained a.parents p k low named, found), back)

  cut : (n : ℕ) (i : Interface) (js : List Interface) → IsChain set i js → n ≤ length js → (ks : List Interface) × IsChain set i ks × (length ks ≡ n)
  cut zero i js chain long = ([], tt, refl)
  cut (suc n) i [] chain long = absurd (omega (arith, long))
  cut (suc n) i (j ∷ js) (step, chain) long = let less = cut n j js chain (omega (arith, long)) in (j ∷ less.0, (step, less.1), ap suc less.2)

  pub short : (k : ℕ) (i : Interface) (js : List Interface) → slice_get set k ≡ Some i → IsChain set i js → length js ≤ 10
  short k i js at chain =
      elim (at_most 10 (length js)) [
        | inl low ↦ low
        | inr high ↦ absurd (sound k i rules.LongChain spots.Parents at (record { ends = no_cycle i (k, at); long = cut 11 i js chain high }))
      ]

  -- ten steps decide whether an ancestor has the identifier
  pub decided : (id : Identifier) (k : ℕ) (i : Interface) → slice_get set k ≡ Some i
      → (reaches_within set id 10 i ≡ true) ↔ ((a : Interface) × IsAncestor set i a × (dtmi_text a.id ≡ dtmi_text id))
  decided id k i at = (
    λ h. let l = leads_from set id 10 i h in (chain_end i l.0, (l.0, l.1, refl), l.3),
    λ x. leads_to set id 10 i x.1.0 x.1.1 (short k i x.1.0 at x.1.1) (subst (λ y. dtmi_text y.id ≡ dtmi_text id) (sym x.1.2) x.2),
  )
