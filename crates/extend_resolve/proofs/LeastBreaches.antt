-- New interfaces break no rule on sets, or have a first breach.
use Rattle.std.proofs.Common.{◌≡◌, ◌≢◌, ℕ, zero, suc, ◌<◌, ◌≤◌, ◌⊎◌, inl, inr, List, [], ◌∷◌, Bool, true, false, length, Option, Some, None, refl, sym, subst, ◌∙◌, Ordering, Less, Equal, Greater, arith}
use Rattle.std.specs.Prelude.{slice_get}
use Rattle.std.specs.Option.{unwrap_or}
use Rattle.std.specs.Cmp.{nat_cmp_is}
use Rattle.std.specs.Cmp.Lexicographic.{slice_cmp}
use Rattle.std.specs.Ordering.{nat_cmp, ordering_then}
use Rattle.std.proofs.lemmas.Bool.{cases_lt}
use Rattle.std.proofs.lemmas.Map.Lookups.{exact_bytes}
use Rattle.dt_base.specs.Existence.{IsThere}
use Rattle.dt_base.proofs.Existence.{is_there, holds_or_not, from_there, map_there, least_there}
use Rattle.dtdl_terms.specs.declared.interface.Interface.{Interface}
use Rattle.dtdl_terms.specs.declared.spot.Spot.{Spot}
use Rattle.dtdl_terms.specs.declared.spot.Spot.TheVariants as spots
use Rattle.dtdl_terms.specs.declared.uploaded.Uploaded.{Uploaded}
use Rattle.extend_resolve.specs.Breaches.{set_rule_number, parent_place, place_of, place_at, Breach, breach_cmp, IsSetBreach, IsFirstSetBreach, IsSound}

-- ---- comparing
not_less_then : (o p : Ordering) → o ≢ Greater → (o ≡ Equal → p ≢ Greater) → ordering_then o p ≢ Greater
not_less_then Less p first more = λ (e : Less ≡ Greater). cc
not_less_then Equal p first more = more refl
not_less_then Greater p first more = absurd (first refl)

not_above : (m n : ℕ) → m ≤ n → nat_cmp m n ≢ Greater
not_above m n within above = elim (cases_lt m n) [
  | inl less ↦ (let e : Less ≡ nat_cmp m n = nat_cmp_is m n Less less in let f : Less ≡ Greater = e ∙ above in cc)
  | inr more ↦ (let same : m ≡ n = omega (arith, within, more) in
      let e : Equal ≡ nat_cmp m n = nat_cmp_is m n Equal same in let f : Equal ≡ Greater = e ∙ above in cc)
]

-- ---- of the lists that have a property, none of them longer than a bound, one is the least
abbrev IsLeastList : (List ℕ → Type 0) → List ℕ → Type 0
IsLeastList At p = At p × ((q : List ℕ) → At q → slice_cmp nat_cmp p q ≢ Greater)

empty_least : (q : List ℕ) → slice_cmp nat_cmp [] q ≢ Greater
empty_least [] = λ (e : Equal ≡ Greater). cc
empty_least (k ∷ q) = λ (e : Less ≡ Greater). cc

least_below : (At : List ℕ → Type 0) (h : ℕ) (p : List ℕ) → (At [] → ⊥) → ((k : ℕ) → k < h → (q : List ℕ) → At (k ∷ q) → ⊥)
    → IsLeastList (λ rest. At (h ∷ rest)) p → (q : List ℕ) → At q → slice_cmp nat_cmp (h ∷ p) q ≢ Greater
least_below At h p root heads least [] a = absurd (root a)
least_below At h p root heads least (k ∷ q) a = elim (cases_lt k h) [
  | inl less ↦ absurd (heads k less q a)
  | inr within ↦ not_less_then (nat_cmp h k) (slice_cmp nat_cmp p q) (not_above h k within)
      (λ e. elim (cases_lt h k) [
        | inl less ↦ (let f : Less ≡ nat_cmp h k = nat_cmp_is h k Less less in let g : Less ≡ Equal = f ∙ e in absurd cc)
        | inr more ↦ (let same : k ≡ h = omega (arith, within, more) in least.1 q (subst (λ (n : ℕ). At (n ∷ q)) same a))
      ])
]

abbrev HasHead : (List ℕ → Type 0) → ℕ → Type 0
HasHead At h = (rest : List ℕ) × At (h ∷ rest)

-- from the least lists behind each head
least_headed : (At : List ℕ → Type 0) → (At [] → ⊥) → (p : List ℕ) → At p
    → ((h : ℕ) (rest : List ℕ) → At (h ∷ rest) → IsThere ((q : List ℕ) × IsLeastList (λ r. At (h ∷ r)) q)) → IsThere ((q : List ℕ) × IsLeastList At q)
least_headed At none [] a deeper = absurd (none a)
least_headed At none (k ∷ p) a deeper =
    from_there (least_there (HasHead At) k (p, a)) (λ (h : (n : ℕ) × HasHead At n × ((i : ℕ) → i < n → HasHead At i → ⊥)).
    map_there (λ (q : (q : List ℕ) × IsLeastList (λ r. At (h.0 ∷ r)) q).
    (h.0 ∷ q.0, (q.1.0, least_below At h.0 q.0 none (λ i less rest b. h.2 i less (rest, b)) q.1)))
    (deeper h.0 h.1.0 h.1.1))

least_from : (At : List ℕ → Type 0) (p : List ℕ) → At p
    → ((h : ℕ) (rest : List ℕ) → At (h ∷ rest) → IsThere ((q : List ℕ) × IsLeastList (λ r. At (h ∷ r)) q)) → IsThere ((q : List ℕ) × IsLeastList At q)
least_from At p a deeper = from_there (holds_or_not (At [])) (λ (root : At [] ⊎ (At [] → ⊥)). elim root [
  | inl here ↦ is_there ([], (here, λ q b. empty_least q))
  | inr none ↦ least_headed At none p a deeper
])

least_list : (bound : ℕ) (At : List ℕ → Type 0) → ((p : List ℕ) → At p → length p ≤ bound) → (p : List ℕ) → At p → IsThere ((q : List ℕ) × IsLeastList At q)
least_list zero At short p a = least_from At p a (λ h rest b. absurd (let long = short (h ∷ rest) b in omega (arith, long)))
least_list (suc bound) At short p a =
    least_from At p a (λ h rest b. least_list bound (λ r. At (h ∷ r)) (λ r c. let long = short (h ∷ r) c in omega (arith, long)) rest b)

-- ---- places of breaches
parent_short : (alone : Bool) (at k : ℕ) → length (parent_place alone at k) ≤ 2
parent_short true at k = omega arith
parent_short false at k = omega arith

place_short : (u : Option Uploaded) (spot : Spot) → length (place_of u spot) ≤ 2
place_short None spot = omega arith
place_short (Some u) spots.Whole = omega arith
place_short (Some u) spots.Id = omega arith
place_short (Some u) spots.Parents = omega arith
place_short (Some u) (spots.Parent k) = parent_short u.parents_as_text (unwrap_or u.parents_at 0) k
place_short (Some u) (spots.ContentSchema k) = omega arith

short_place : (new : List Uploaded) (index : ℕ) (spot : Spot) → length (place_at new index spot) ≤ 3
short_place new index spot = let short = place_short (slice_get new index) spot in omega (arith, short)

-- ---- the first breach
module _ (set : List Interface) (new : List Uploaded) where
  abbrev place : Breach → List ℕ
  place b = place_at new b.index b.spot

  abbrev IsBrokenAt : List ℕ → Type 0
  IsBrokenAt p = (b : Breach) × IsSetBreach set new b × (place b ≡ p)

  abbrev IsBrokenBy : List ℕ → ℕ → Type 0
  IsBrokenBy p n = (b : Breach) × IsSetBreach set new b × (place b ≡ p) × (set_rule_number b.rule ≡ n)

  not_before : (p : List ℕ) (n : ℕ) → ((q : List ℕ) → IsBrokenAt q → slice_cmp nat_cmp p q ≢ Greater) → ((k : ℕ) → k < n → IsBrokenBy p k → ⊥)
      → (b c : Breach) → place b ≡ p → set_rule_number b.rule ≡ n → IsSetBreach set new c → breach_cmp new b c ≢ Greater
  not_before p n places rules b c at by is =
      not_less_then (slice_cmp nat_cmp (place b) (place c)) (nat_cmp (set_rule_number b.rule) (set_rule_number c.rule))
      (subst (λ (q : List ℕ). slice_cmp nat_cmp q (place c) ≢ Greater) (sym at) (places (place c) (c, is, refl)))
      (λ e. elim (cases_lt (set_rule_number c.rule) (set_rule_number b.rule)) [
        | inl less ↦ absurd (rules (set_rule_number c.rule) (omega (arith, less, by)) (c, is, sym (exact_bytes (place b) (place c) e) ∙ at, refl))
        | inr within ↦ not_above (set_rule_number b.rule) (set_rule_number c.rule) within
      ])

  first_breach : (b : Breach) → IsSetBreach set new b → IsThere ((c : Breach) × IsFirstSetBreach set new c)
  first_breach b is =
      from_there (least_list 3 IsBrokenAt (λ p (c, broken, at). subst (λ (q : List ℕ). length q ≤ 3) at (short_place new c.index c.spot)) (place b) (b, is, refl))
      (λ (l : (p : List ℕ) × IsLeastList IsBrokenAt p).
      map_there (λ (n : (n : ℕ) × IsBrokenBy l.0 n × ((k : ℕ) → k < n → IsBrokenBy l.0 k → ⊥)).
      (n.1.0, record { breach = n.1.1; least = λ c broken. not_before l.0 n.0 l.1.1 n.2 n.1.0 c n.1.2 n.1.3 broken }))
      (least_there (IsBrokenBy l.0) (set_rule_number l.1.0.0.rule) (l.1.0.0, l.1.0.1, l.1.0.2, refl)))

  pub breach_or_none : IsThere (IsSound set new ⊎ ((b : Breach) × IsFirstSetBreach set new b))
  breach_or_none =
      from_there (holds_or_not ((b : Breach) × IsSetBreach set new b)) (λ (some : ((b : Breach) × IsSetBreach set new b) ⊎ (((b : Breach) × IsSetBreach set new b) → ⊥)).
      elim some [
        | inl broken ↦ map_there (λ (first : (b : Breach) × IsFirstSetBreach set new b). inr first) (first_breach broken.0 broken.1)
        | inr none ↦ is_there (inl (λ b broken. none (b, broken)))
      ])
