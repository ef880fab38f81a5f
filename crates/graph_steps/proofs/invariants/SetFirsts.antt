-- Where no breach of the rules on sets comes first among those of new interfaces, there is none: places are lists of at most
-- three numbers, in which no list descends for ever.
use Rattle.std.proofs.Common.{◌≡◌, ◌≢◌, ℕ, zero, suc, ◌<◌, ◌≤◌, ◌⊎◌, inl, inr, List, [], ◌∷◌, length, Bool, true, false, Option, Some, None, refl, sym, ap, ◌∙◌, subst, true≢false, Ordering, Less, Equal, Greater, arith, rules}
use Rattle.std.specs.Prelude.{slice_get}
use Rattle.std.specs.Ordering.{nat_cmp, is_lt, is_gt, ordering_then, ordering_reverse}
use Rattle.std.proofs.lemmas.Cmp.{nat_cmp_total, nat_list_cmp_total, tied_itself}
use Rattle.std.proofs.lemmas.Bool.{cases_order}
use Rattle.std.proofs.lemmas.Map.Lookups.{exact_bytes}
use Rattle.dtdl_terms.specs.declared.interface.Interface.{Interface}
use Rattle.dtdl_terms.specs.declared.spot.Spot.{Spot}
use Rattle.dtdl_terms.specs.declared.spot.Spot.TheVariants as spots
use Rattle.dtdl_terms.specs.declared.uploaded.Uploaded.{Uploaded}
use Rattle.extend_resolve.specs.Breaches.{Breach, IsSetBreach, IsFirstSetBreach, IsSound, set_rule_number, place_in, place_of, place_at, parent_place, breach_cmp}
use Rattle.ordered_table.proofs.Flat.{C}

-- ---- numbers
less : (a b : ℕ) → a < b → nat_cmp a b ≡ Less
less a b low = search rules

less_then : (x y : ℕ) (o : Ordering) → ordering_then (nat_cmp x y) o ≡ Less → (x < y) ⊎ ((x ≡ y) × (o ≡ Less))
less_then x y o e = elim (cases_order x y) [
  | inl same ↦ inr (same, sym (ap (λ p. ordering_then p o) (ap (nat_cmp x) (sym same) ∙ tied_itself nat_cmp_total x)) ∙ e)
  | inr (inl low) ↦ inl low
  | inr (inr high) ↦ absurd (true≢false (sym (ap is_lt e) ∙ ap is_lt (ap (λ p. ordering_then p o) (nat_cmp_total.antisymm x y ∙ ap ordering_reverse (less y x high)))))
]

-- ---- lists of at most n numbers
-- What holds of a list wherever it holds of those before it.
abbrev Goes : ℕ → (List ℕ → Type 0) → Type 0
Goes n Q = (xs : List ℕ) → length xs ≤ n → ((ys : List ℕ) → length ys ≤ n → C ys xs ≡ Less → Q ys) → Q xs

none_less : (ys : List ℕ) → C ys [] ≡ Less → ⊥
none_less [] e = true≢false (sym (ap is_lt e))
none_less (y ∷ ys) e = true≢false (sym (ap is_lt e))

module _ (n : ℕ) (inner : (Q : List ℕ → Type 0) → Goes n Q → (xs : List ℕ) → length xs ≤ n → Q xs) (Q : List ℕ → Type 0) (goes : Goes (suc n) Q) where
  empty : Q []
  empty = goes [] (omega arith) (λ ys short e. absurd (none_less ys e))

  -- all that begin with this number, where all that begin with a smaller one were shown
  from_head : (x : ℕ) → ((y : ℕ) → y < x → (ys : List ℕ) → length ys ≤ n → Q (y ∷ ys)) → (xs : List ℕ) → length xs ≤ n → Q (x ∷ xs)
  from_head x smaller xs short = inner (λ (tail : List ℕ). Q (x ∷ tail)) step xs short
    where
      before : (tail : List ℕ) → ((ys : List ℕ) → length ys ≤ n → C ys tail ≡ Less → Q (x ∷ ys)) → (zs : List ℕ) → length zs ≤ suc n → C zs (x ∷ tail) ≡ Less → Q zs
      before tail rest [] low e = empty
      before tail rest (y ∷ ys) low e = elim (less_then y x (C ys tail) e) [
        | inl head ↦ smaller y head ys (omega (arith, low))
        | inr both ↦ subst (λ (h : ℕ). Q (h ∷ ys)) (sym both.0) (rest ys (omega (arith, low)) both.1)
      ]

      step : Goes n (λ (tail : List ℕ). Q (x ∷ tail))
      step tail low rest = goes (x ∷ tail) (omega (arith, low)) (before tail rest)

  heads_below : (m x : ℕ) → x < m → (xs : List ℕ) → length xs ≤ n → Q (x ∷ xs)
  heads_below zero x low xs short = absurd (omega (arith, low))
  heads_below (suc m) x low xs short = from_head x (λ y l ys sh. heads_below m y (omega (arith, low, l)) ys sh) xs short

  all_next : (xs : List ℕ) → length xs ≤ suc n → Q xs
  all_next [] short = empty
  all_next (x ∷ xs) short = heads_below (suc x) x (omega arith) xs (omega (arith, short))

all_short : (n : ℕ) (Q : List ℕ → Type 0) → Goes n Q → (xs : List ℕ) → length xs ≤ n → Q xs
all_short zero Q goes [] short = goes [] short (λ ys low e. absurd (none_less ys e))
all_short zero Q goes (x ∷ xs) short = absurd (omega (arith, short))
all_short (suc n) Q goes xs short = all_next n (all_short n) Q goes xs short

-- ---- breaches
parent_short : (b : Bool) (at k : ℕ) → length (parent_place b at k) ≤ 2
parent_short true at k = omega arith
parent_short false at k = omega arith

in_short : (u : Uploaded) (s : Spot) → length (place_in u s) ≤ 2
in_short u spots.Whole = omega arith
in_short u spots.Id = omega arith
in_short u spots.Parents = omega arith
in_short u (spots.Parent k) = parent_short u.parents_as_text _ k
in_short u (spots.ContentSchema k) = omega arith

of_short : (o : Option Uploaded) (s : Spot) → length (place_of o s) ≤ 2
of_short None s = omega arith
of_short (Some u) s = in_short u s

at_short : (new : List Uploaded) (b : Breach) → length (place_at new b.index b.spot) ≤ 3
at_short new b = let short = of_short (slice_get new b.index) b.spot in omega (arith, short)

greater_then : (o p : Ordering) → ordering_then o p ≡ Greater → (o ≡ Greater) ⊎ ((o ≡ Equal) × (p ≡ Greater))
greater_then Less p e = absurd (true≢false (sym (ap is_gt e)))
greater_then Equal p e = inr (refl, e)
greater_then Greater p e = inl refl

more : (a b : ℕ) → nat_cmp a b ≡ Greater → b < a
more a b e = elim (cases_order a b) [
  | inl same ↦ absurd (true≢false (sym (ap is_gt e) ∙ ap is_gt (ap (nat_cmp a) (sym same) ∙ tied_itself nat_cmp_total a)))
  | inr (inl low) ↦ absurd (true≢false (sym (ap is_gt e) ∙ ap is_gt (less a b low)))
  | inr (inr high) ↦ high
]

module _ (set : List Interface) (new : List Uploaded) (none : (b : Breach) → IsFirstSetBreach set new b → ⊥) where
  abbrev at : Breach → List ℕ
  at b = place_at new b.index b.spot

  abbrev NoneAt : List ℕ → Type 0
  NoneAt place = (b : Breach) → at b ≡ place → IsSetBreach set new b → ⊥

  -- at one place, the least rule
  by_rule : (place : List ℕ) → ((other : List ℕ) → length other ≤ 3 → C other place ≡ Less → NoneAt other) → (n : ℕ) (b : Breach) → set_rule_number b.rule < n → at b ≡ place → IsSetBreach set new b → ⊥
  by_rule place before zero b low is broken = omega (arith, low)
  by_rule place before (suc n) b low is broken = none b (record { breach = broken; least = earlier place before n b low is (λ c l e h. by_rule place before n c l e h) })
    where
      earlier : (place : List ℕ) → ((other : List ℕ) → length other ≤ 3 → C other place ≡ Less → NoneAt other) → (n : ℕ) (b : Breach) → set_rule_number b.rule < suc n → at b ≡ place
          → ((c : Breach) → set_rule_number c.rule < n → at c ≡ place → IsSetBreach set new c → ⊥) → (c : Breach) → IsSetBreach set new c → breach_cmp new b c ≢ Greater
      earlier place before n b low is rest c h e = elim (greater_then (C (at b) (at c)) (nat_cmp (set_rule_number b.rule) (set_rule_number c.rule)) e) [
        | inl ahead ↦ before (at c) (at_short new c) (ap (C (at c)) (sym is) ∙ nat_list_cmp_total.antisymm (at c) (at b) ∙ ap ordering_reverse ahead) c refl h
        | inr both ↦
            let lower = more (set_rule_number b.rule) (set_rule_number c.rule) both.1 in
            rest c (omega (arith, low, lower)) (sym (exact_bytes (at b) (at c) both.0) ∙ is) h
      ]

  pub sound_set : IsSound set new
  sound_set b broken = all_short 3 NoneAt (λ place short before b is broken. by_rule place before (suc (set_rule_number b.rule)) b (omega arith) is broken) (at b) (at_short new b) b refl broken
