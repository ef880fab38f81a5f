-- There is at most one first breach.
use Rattle.std.proofs.Common.{◌≡◌, ◌≢◌, ℕ, zero, suc, ◌<◌, ◌≤◌, ◌⊎◌, inl, inr, List, [], ◌∷◌, Bool, true, false, length, map, Some, refl, sym, ap, ◌∙◌, subst, Ordering, Less, Equal, Greater, is_eq, true≢false, arith}
use Rattle.std.specs.Prelude.{slice_get, take}
use Rattle.std.specs.Option.{unwrap_or}
use Rattle.std.specs.Ordering.{nat_cmp, ordering_then, ordering_reverse}
use Rattle.std.specs.Cmp.{IsTotalOrder}
use Rattle.std.specs.Cmp.Lexicographic.{slice_cmp}
use Rattle.std.specs.List.{AllByRecursion}
use Rattle.std.proofs.lemmas.Cmp.{nat_list_cmp_total, nat_cmp_total, on_total, then_total}
use Rattle.std.proofs.lemmas.Option.{same_Some, none-some, slice_get_within}
use Rattle.std.proofs.lemmas.Map.Lookups.{exact_bytes}
use Rattle.dtdl_terms.specs.declared.interface.Interface.{Interface}
use Rattle.dtdl_terms.specs.declared.spot.Spot.{Spot}
use Rattle.dtdl_terms.specs.declared.spot.Spot.TheVariants as spots
use Rattle.dtdl_terms.specs.declared.uploaded.Uploaded.{Uploaded}
use Rattle.extend_resolve.specs.declared.rule.SetRule.{SetRule}
use Rattle.extend_resolve.specs.declared.rule.SetRule.TheVariants as rules
use Rattle.extend_resolve.specs.Breaches.{set_rule_number, BreaksSetRule, parent_place, place_in, place_of, place_at, Breach, breach_cmp, IsSetBreach, IsFirstSetBreach, HasOrdinals}
use Rattle.extend_resolve.specs.SetRules.{together}

-- ---- positions
all_at : {X : Type 0} (P : X → Type 0) (xs : List X) (k : ℕ) (x : X) → AllByRecursion P xs → slice_get xs k ≡ Some x → P x
all_at P [] k x all h = absurd (none-some x h)
all_at P (y ∷ ys) zero x all h = subst P (same_Some y x h) all.0
all_at P (y ∷ ys) (suc k) x all h = all_at P ys k x all.1 h

abbrev first : List ℕ → ℕ
first [] = 0
first (x ∷ xs) = x

abbrev rest : List ℕ → List ℕ
rest [] = []
rest (x ∷ xs) = xs

-- ---- rules by their numbers
abbrev nth : ℕ → List SetRule → SetRule
nth k [] = rules.TooManyResolved
nth zero (r ∷ rs) = r
nth (suc k) (r ∷ rs) = nth k rs

abbrev rule_of : ℕ → SetRule
rule_of n = nth n (rules.TooManyResolved ∷ rules.RepeatedId ∷ rules.AbsentReference ∷ rules.Cycle ∷ rules.LongChain ∷ rules.NameClash ∷ rules.ComponentInComponent ∷ [])

rule_back : (r : SetRule) → rule_of (set_rule_number r) ≡ r
rule_back rules.RepeatedId = refl
rule_back rules.AbsentReference = refl
rule_back rules.Cycle = refl
rule_back rules.LongChain = refl
rule_back rules.NameClash = refl
rule_back rules.ComponentInComponent = refl
rule_back rules.TooManyResolved = refl

-- ---- places of parents and of contents
parent_first : (b : Bool) (at k : ℕ) → first (parent_place b at k) ≡ at
parent_first true at k = refl
parent_first false at k = refl

parents_same : (b : Bool) (at k l n : ℕ) → (b ≡ true → n ≤ 1) → k < n → l < n → parent_place b at k ≡ parent_place b at l → k ≡ l
parents_same true at k l n alone low high p = let one = alone refl in omega (arith, one, low, high)
parents_same false at k l n alone low high p = ap (λ xs. first (rest xs)) p

contents_same : (at k l : ℕ) → at ∷ k ∷ [] ≡ at ∷ l ∷ [] → k ≡ l
contents_same at k l p = ap (λ xs. first (rest xs)) p

apart : (b : Bool) (at k other l : ℕ) → parent_place b at k ≡ other ∷ l ∷ [] → at ≡ other
apart b at k other l p = sym (parent_first b at k) ∙ ap first p

-- ---- the places at which a rule can be broken
abbrev AtParent : Interface → Spot → Type 0
AtParent i s = (k : ℕ) × (s ≡ spots.Parent k) × (k < length i.parents)

abbrev AtContent : Interface → Spot → Type 0
AtContent i s = (k : ℕ) × (s ≡ spots.ContentSchema k) × (k < length i.contents)

module _ (set earlier : List Interface) (i : Interface) where
  of_repeated : (s : Spot) → BreaksSetRule set earlier i rules.RepeatedId s → s ≡ spots.Id
  of_repeated spots.Whole h = absurd h
  of_repeated spots.Id h = refl
  of_repeated spots.Parents h = absurd h
  of_repeated (spots.Parent k) h = absurd h
  of_repeated (spots.ContentSchema k) h = absurd h

  of_long : (s : Spot) → BreaksSetRule set earlier i rules.LongChain s → s ≡ spots.Parents
  of_long spots.Whole h = absurd h
  of_long spots.Id h = absurd h
  of_long spots.Parents h = refl
  of_long (spots.Parent k) h = absurd h
  of_long (spots.ContentSchema k) h = absurd h

  of_many : (s : Spot) → BreaksSetRule set earlier i rules.TooManyResolved s → s ≡ spots.Whole
  of_many spots.Whole h = refl
  of_many spots.Id h = absurd h
  of_many spots.Parents h = absurd h
  of_many (spots.Parent k) h = absurd h
  of_many (spots.ContentSchema k) h = absurd h

  of_cycle : (s : Spot) → BreaksSetRule set earlier i rules.Cycle s → AtParent i s
  of_cycle spots.Whole h = absurd h
  of_cycle spots.Id h = absurd h
  of_cycle spots.Parents h = absurd h
  of_cycle (spots.Parent k) h = (k, refl, slice_get_within i.parents k h.1.0 h.1.1)
  of_cycle (spots.ContentSchema k) h = absurd h

  of_clash : (s : Spot) → BreaksSetRule set earlier i rules.NameClash s → AtParent i s
  of_clash spots.Whole h = absurd h
  of_clash spots.Id h = absurd h
  of_clash spots.Parents h = absurd h
  of_clash (spots.Parent k) h = (k, refl, slice_get_within i.parents k h.3.0 h.3.1)
  of_clash (spots.ContentSchema k) h = absurd h

  of_component : (s : Spot) → BreaksSetRule set earlier i rules.ComponentInComponent s → AtContent i s
  of_component spots.Whole h = absurd h
  of_component spots.Id h = absurd h
  of_component spots.Parents h = absurd h
  of_component (spots.Parent k) h = absurd h
  of_component (spots.ContentSchema k) h = (k, refl, slice_get_within i.contents k h.2.1.0 h.2.1.1)

  of_absent : (s : Spot) → BreaksSetRule set earlier i rules.AbsentReference s → AtParent i s ⊎ AtContent i s
  of_absent spots.Whole h = absurd h
  of_absent spots.Id h = absurd h
  of_absent spots.Parents h = absurd h
  of_absent (spots.Parent k) h = inl (k, refl, slice_get_within i.parents k h.0 h.1)
  of_absent (spots.ContentSchema k) h = inr (k, refl, slice_get_within i.contents k h.1.0 h.1.1)

-- ---- two places of one interface that stand at one place in the text
module _ (u : Uploaded) (told : HasOrdinals u) where
  same_parents : (s t : Spot) → AtParent u.interface s → AtParent u.interface t → place_in u s ≡ place_in u t → s ≡ t
  same_parents s t (k, e, low) (l, f, high) p =
      e
      ∙ ap spots.Parent (parents_same u.parents_as_text (unwrap_or u.parents_at 0) k l (length u.interface.parents) told.alone low high (sym (ap (place_in u) e) ∙ p ∙ ap (place_in u) f))
      ∙ sym f

  same_contents : (s t : Spot) → AtContent u.interface s → AtContent u.interface t → place_in u s ≡ place_in u t → s ≡ t
  same_contents s t (k, e, low) (l, f, high) p =
      e ∙ ap spots.ContentSchema (contents_same (unwrap_or u.contents_at 0) k l (sym (ap (place_in u) e) ∙ p ∙ ap (place_in u) f)) ∙ sym f

  never_both : (s t : Spot) → AtParent u.interface s → AtContent u.interface t → place_in u s ≡ place_in u t → ⊥
  never_both s t (k, e, low) (l, f, high) p =
      told.apart (omega (arith, low)) (omega (arith, high))
      (apart u.parents_as_text (unwrap_or u.parents_at 0) k (unwrap_or u.contents_at 0) l (sym (ap (place_in u) e) ∙ p ∙ ap (place_in u) f))

  same_absent : (s t : Spot) → AtParent u.interface s ⊎ AtContent u.interface s → AtParent u.interface t ⊎ AtContent u.interface t → place_in u s ≡ place_in u t → s ≡ t
  same_absent s t (inl a) (inl b) p = same_parents s t a b p
  same_absent s t (inl a) (inr b) p = absurd (never_both s t a b p)
  same_absent s t (inr a) (inl b) p = absurd (never_both t s b a (sym p))
  same_absent s t (inr a) (inr b) p = same_contents s t a b p

  same_spot : (set earlier : List Interface) (r : SetRule) (s t : Spot) → BreaksSetRule set earlier u.interface r s → BreaksSetRule set earlier u.interface r t → place_in u s ≡ place_in u t → s ≡ t
  same_spot set earlier rules.RepeatedId s t h g p = of_repeated set earlier u.interface s h ∙ sym (of_repeated set earlier u.interface t g)
  same_spot set earlier rules.AbsentReference s t h g p = same_absent s t (of_absent set earlier u.interface s h) (of_absent set earlier u.interface t g) p
  same_spot set earlier rules.Cycle s t h g p = same_parents s t (of_cycle set earlier u.interface s h) (of_cycle set earlier u.interface t g) p
  same_spot set earlier rules.LongChain s t h g p = of_long set earlier u.interface s h ∙ sym (of_long set earlier u.interface t g)
  same_spot set earlier rules.NameClash s t h g p = same_parents s t (of_clash set earlier u.interface s h) (of_clash set earlier u.interface t g) p
  same_spot set earlier rules.ComponentInComponent s t h g p = same_contents s t (of_component set earlier u.interface s h) (of_component set earlier u.interface t g) p
  same_spot set earlier rules.TooManyResolved s t h g p = of_many set earlier u.interface s h ∙ sym (of_many set earlier u.interface t g)

abbrev breach : ℕ → SetRule → Spot → Breach
breach n r s = record { index = n; rule = r; spot = s }

-- ---- the order of breaches
breaches_total : (new : List Uploaded) → IsTotalOrder (breach_cmp new)
breaches_total new = then_total (on_total (λ (b : Breach). place_at new b.index b.spot) nat_list_cmp_total) (on_total (λ (b : Breach). set_rule_number b.rule) nat_cmp_total)

less_apart : Less ≡ Equal → ⊥
less_apart h = true≢false (sym (ap is_eq h))

greater_apart : Greater ≡ Equal → ⊥
greater_apart h = true≢false (sym (ap is_eq h))

tied : (o p : Ordering) → o ≡ ordering_reverse p → o ≢ Greater → p ≢ Greater → o ≡ Equal
tied o Less back one other = absurd (one back)
tied o Equal back one other = back
tied o Greater back one other = absurd (other refl)

then_parts : (o p : Ordering) → ordering_then o p ≡ Equal → (o ≡ Equal) × (p ≡ Equal)
then_parts Less p h = absurd (less_apart h)
then_parts Equal p h = (refl, h)
then_parts Greater p h = absurd (greater_apart h)

numbers : (a b : ℕ) → nat_cmp a b ≡ Equal → a ≡ b
numbers a b h = ap first (exact_bytes (a ∷ []) (b ∷ []) (ap (λ o. ordering_then o Equal) h))

-- breaches of one rule at one place of one interface are one
same_at : (set : List Interface) (new : List Uploaded) → AllByRecursion HasOrdinals new → (n : ℕ) (r : SetRule) (s t : Spot)
    → IsSetBreach set new (breach n r s) → IsSetBreach set new (breach n r t) → place_of (slice_get new n) s ≡ place_of (slice_get new n) t → s ≡ t
same_at set new told n r s t (u, here, h) (v, there, g) p =
    let one : v ≡ u = same_Some v u (sym there ∙ here) in
    let at : slice_get new n ≡ Some u = here in
    same_spot u (all_at HasOrdinals new n u told here) (together set new) (map (λ w. w.interface) (take n new)) r s t h
    (subst (λ w. BreaksSetRule (together set new) (map (λ x. x.interface) (take n new)) w.interface r t) one g)
    (sym (ap (λ o. place_of o s) at) ∙ p ∙ ap (λ o. place_of o t) at)

pub one_first : (set : List Interface) (new : List Uploaded) → AllByRecursion HasOrdinals new → (b c : Breach) → IsFirstSetBreach set new b → IsFirstSetBreach set new c → b ≡ c
one_first set new told b c hb hc =
    let equal = tied (breach_cmp new b c) (breach_cmp new c b) ((breaches_total new).antisymm b c) (hb.least c hc.breach) (hc.least b hb.breach) in
    let parts = then_parts (slice_cmp nat_cmp (place_at new b.index b.spot) (place_at new c.index c.spot)) (nat_cmp (set_rule_number b.rule) (set_rule_number c.rule)) equal in
    let place : place_at new b.index b.spot ≡ place_at new c.index c.spot = exact_bytes (place_at new b.index b.spot) (place_at new c.index c.spot) parts.0 in
    let index : b.index ≡ c.index = ap first place in
    let rule : b.rule ≡ c.rule = sym (rule_back b.rule) ∙ ap rule_of (numbers (set_rule_number b.rule) (set_rule_number c.rule) parts.1) ∙ rule_back c.rule in
    let other : IsSetBreach set new (breach b.index b.rule c.spot) =
    subst (λ r. IsSetBreach set new (breach b.index r c.spot)) (sym rule) (subst (λ n. IsSetBreach set new (breach n c.rule c.spot)) (sym index) hc.breach) in
    let places : place_of (slice_get new b.index) b.spot ≡ place_of (slice_get new b.index) c.spot = ap rest place ∙ ap (λ n. place_of (slice_get new n) c.spot) (sym index) in
    let spot : b.spot ≡ c.spot = same_at set new told b.index b.rule b.spot c.spot hb.breach other places in
    ap (λ n. breach n b.rule b.spot) index ∙ ap (λ r. breach c.index r b.spot) rule ∙ ap (λ s. breach c.index c.rule s) spot
