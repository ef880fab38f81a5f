-- Two lists of members with rising keys that have the same members are equal.
use Rattle.std.proofs.Common.{◌≡◌, ℕ, zero, suc, ◌+◌, ◌<◌, ◌⊎◌, inl, inr, List, [], ◌∷◌, length, map, get_or, Bool, true, false, refl, sym, ap, ap₂, ◌∙◌, subst, arith}
use Rattle.std.specs.Prelude.{bytes_eq}
use Rattle.std.specs.List.{AllByRecursion, IsDistinct}
use Rattle.std.specs.List.Sorted.{IsPermutation, IsSortedBy, IsStrictlySortedBy}
use Rattle.std.specs.Map.{keys_of}
use Rattle.std.specs.BTreeMap.{insert_entry}
use Rattle.std.specs.Ordering.{nat_cmp, is_lt, is_eq, match_ordering}
use Rattle.std.specs.declared.cmp.Ordering.{Ordering}
use Rattle.std.specs.declared.cmp.Ordering.TheVariants.{Less, Equal, Greater}
use Rattle.std.proofs.Math.ListN.{get_or-map}
use Rattle.std.proofs.lemmas.Cmp.{nat_list_cmp_total}
use Rattle.std.proofs.lemmas.Map.Text.{is_eq-slice_cmp}
use Rattle.std.proofs.lemmas.Map.Lookups.{exact_bytes}
use Rattle.std.proofs.lemmas.Map.Entries.{length-keys_of}
use Rattle.std.proofs.lemmas.Map.Keys.{sorted_head, sorted_tail, apart_from_distinct, sorted_from_all_adjacent, IsDistinct-head, IsDistinct-tail, IsDistinct-IsPermutation}
use Rattle.std.proofs.lemmas.List.Elements.{All-from_recursion, recursion_from_All}
use Rattle.std.proofs.lemmas.List.Sorted.{All-permutation, IsPermutation-sym, IsPermutation-map}
use Rattle.json_tree.specs.Values.{Json, null}
use Rattle.json_tree.specs.Sorting.{AreInOrder}
use Rattle.twin_patch.specs.Machinery.Orders.{compared_keys}
use Rattle.twin_patch.proofs.Found.{turned, turned_back}
use Rattle.twin_patch.proofs.Edits.{same_test}

abbrev pub Pair : Type 0
Pair = List ℕ × Json

abbrev pub IsIn : Pair → List Pair → Type 0
IsIn e [] = ⊥
IsIn e (x ∷ xs) = (e ≡ x) ⊎ IsIn e xs

all_in : (P : Pair → Type 0) (xs : List Pair) (e : Pair) → AllByRecursion P xs → IsIn e xs → P e
all_in P [] e h is = absurd is
all_in P (x ∷ xs) e h (inl same) = subst P (sym same) h.0
all_in P (x ∷ xs) e h (inr rest) = all_in P xs e h.1 rest

widen : (x : Pair) (ys xs : List Pair) → AllByRecursion (λ e. IsIn e xs) ys → AllByRecursion (λ e. IsIn e (x ∷ xs)) ys
widen x [] xs h = tt
widen x (y ∷ ys) xs h = (inr h.0, widen x ys xs h.1)

all_of : (xs : List Pair) → AllByRecursion (λ e. IsIn e xs) xs
all_of [] = tt
all_of (x ∷ xs) = (inl refl, widen x xs xs (all_of xs))

-- what is in a list is in it in another order
pub moved_in : (xs ys : List Pair) → IsPermutation xs ys → (e : Pair) → IsIn e xs → IsIn e ys
moved_in xs ys p e is =
    all_in (λ x. IsIn x ys) xs e
    (recursion_from_All (λ x. IsIn x ys) xs (All-permutation (λ x. IsIn x ys) ys xs (IsPermutation-sym xs ys p) (All-from_recursion (λ x. IsIn x ys) ys (all_of ys)))) is

-- the head of rising keys is below those behind it
above : (m : Pair) (xs : List Pair) (e : Pair) → AllByRecursion (λ y. compared_keys m.0 y ≡ Less) (keys_of xs) → IsIn e xs → compared_keys m.0 e.0 ≡ Less
above m [] e h is = absurd is
above m (x ∷ xs) e h (inl same) = subst (λ (z : Pair). compared_keys m.0 z.0 ≡ Less) (sym same) h.0
above m (x ∷ xs) e h (inr rest) = above m xs e h.1 rest

never_less : (k : List ℕ) → compared_keys k k ≡ Less → ⊥
never_less k h = let g : compared_keys k k ≡ Greater = turned k k h in let e : Less ≡ Greater = sym h ∙ g in absurd cc

never_both : (k q : List ℕ) → compared_keys k q ≡ Less → compared_keys q k ≡ Less → ⊥
never_both k q h g = never_less k (nat_list_cmp_total.trans k q k h g)

pub same_sorted : (xs ys : List Pair) → IsStrictlySortedBy compared_keys (keys_of xs) → IsStrictlySortedBy compared_keys (keys_of ys)
    → ((e : Pair) → IsIn e xs → IsIn e ys) → ((e : Pair) → IsIn e ys → IsIn e xs) → xs ≡ ys
same_sorted [] [] s t f g = refl
same_sorted [] (y ∷ ys) s t f g = absurd (g y (inl refl))
same_sorted (x ∷ xs) [] s t f g = absurd (f x (inl refl))
same_sorted (x ∷ xs) (y ∷ ys) s t f g =
    let low = sorted_head compared_keys x.0 (keys_of xs) s in
    let high = sorted_head compared_keys y.0 (keys_of ys) t in
    let same : x ≡ y = first low high (f x (inl refl)) (g y (inl refl)) in
    ap₂ (λ (z : Pair) (zs : List Pair). z ∷ zs) same
    (same_sorted xs ys (sorted_tail compared_keys x.0 (keys_of xs) s) (sorted_tail compared_keys y.0 (keys_of ys) t)
    (λ e is. behind x y ys e same (above x xs e low is) (f e (inr is)))
    (λ e is. behind y x xs e (sym same) (above y ys e high is) (g e (inr is)))) where
      first : AllByRecursion (λ k. compared_keys x.0 k ≡ Less) (keys_of xs) → AllByRecursion (λ k. compared_keys y.0 k ≡ Less) (keys_of ys) → IsIn x (y ∷ ys) → IsIn y (x ∷ xs) → x ≡ y
      first low high (inl e) other = e
      first low high (inr is) (inl e) = sym e
      first low high (inr is) (inr other) = absurd (never_both y.0 x.0 (above y ys x high is) (above x xs y low other))

      behind : (a b : Pair) (bs : List Pair) (e : Pair) → a ≡ b → compared_keys a.0 e.0 ≡ Less → IsIn e (b ∷ bs) → IsIn e bs
      behind a b bs e same less (inl is) = absurd (never_less e.0 (subst (λ (z : Pair). compared_keys z.0 e.0 ≡ Less) (same ∙ sym is) less))
      behind a b bs e same less (inr is) = is

-- the members inserted one after another, from the last on
abbrev pub gathered : List Pair → List Pair
gathered [] = []
gathered (m ∷ ms) = insert_entry compared_keys (gathered ms) m.0 m.1

later : (e m x : Pair) (es : List Pair) → (e ≡ m) ⊎ IsIn e es → (e ≡ m) ⊎ IsIn e (x ∷ es)
later e m x es (inl same) = inl same
later e m x es (inr old) = inr (inr old)

in_inserted : (e : Pair) (es : List Pair) (m : Pair) → IsIn e (insert_entry compared_keys es m.0 m.1) → (e ≡ m) ⊎ IsIn e es
in_inserted e [] m (inl is) = inl is
in_inserted e [] m (inr is) = absurd is
in_inserted e (x ∷ es) m h = step (compared_keys m.0 x.0) refl (in_inserted e es m) h where
  step : (o : Ordering) → compared_keys m.0 x.0 ≡ o → (IsIn e (insert_entry compared_keys es m.0 m.1) → (e ≡ m) ⊎ IsIn e es)
      → IsIn e (match_ordering o (m ∷ x ∷ es) ((x.0, m.1) ∷ es) (x ∷ insert_entry compared_keys es m.0 m.1)) → (e ≡ m) ⊎ IsIn e (x ∷ es)
  step Less is behind (inl same) = inl same
  step Less is behind (inr rest) = inr rest
  step Equal is behind (inl same) = let k : m.0 ≡ x.0 = exact_bytes m.0 x.0 is in inl (same ∙ ap (λ (q : List ℕ). let p : Pair = (q, m.1) in p) (sym k))
  step Equal is behind (inr rest) = inr (inr rest)
  step Greater is behind (inl same) = inr (inl same)
  step Greater is behind (inr rest) = later e m x es (behind rest)

new_inserted : (es : List Pair) (m : Pair) → IsIn m (insert_entry compared_keys es m.0 m.1)
new_inserted [] m = inl refl
new_inserted (x ∷ es) m = step (compared_keys m.0 x.0) refl (new_inserted es m) where
  step : (o : Ordering) → compared_keys m.0 x.0 ≡ o → IsIn m (insert_entry compared_keys es m.0 m.1) → IsIn m (match_ordering o (m ∷ x ∷ es) ((x.0, m.1) ∷ es) (x ∷ insert_entry compared_keys es m.0 m.1))
  step Less is behind = inl refl
  step Equal is behind = let k : m.0 ≡ x.0 = exact_bytes m.0 x.0 is in inl (ap (λ (q : List ℕ). let p : Pair = (q, m.1) in p) k)
  step Greater is behind = inr behind

old_inserted : (e : Pair) (es : List Pair) (m : Pair) → bytes_eq m.0 e.0 ≡ false → IsIn e es → IsIn e (insert_entry compared_keys es m.0 m.1)
old_inserted e [] m other is = absurd is
old_inserted e (x ∷ es) m other is = step (compared_keys m.0 x.0) refl (old_inserted e es m other) is where
  step : (o : Ordering) → compared_keys m.0 x.0 ≡ o → (IsIn e es → IsIn e (insert_entry compared_keys es m.0 m.1)) → IsIn e (x ∷ es) → IsIn e (match_ordering o (m ∷ x ∷ es) ((x.0, m.1) ∷ es) (x ∷ insert_entry compared_keys es m.0 m.1))
  step Less k behind h = inr h
  step Equal k behind (inl same) =
      let key : m.0 ≡ e.0 = exact_bytes m.0 x.0 k ∙ sym (ap (λ (z : Pair). z.0) same) in
      let t : bytes_eq m.0 e.0 ≡ true = same_test e.0 m.0 (sym key) in
      let no : true ≡ false = sym t ∙ other in absurd cc
  step Equal k behind (inr rest) = inr rest
  step Greater k behind (inl same) = inl same
  step Greater k behind (inr rest) = inr (behind rest)

in_gathered : (ms : List Pair) (e : Pair) → IsIn e (gathered ms) → IsIn e ms
in_gathered [] e is = is
in_gathered (m ∷ ms) e is = step (in_inserted e (gathered ms) m is) (in_gathered ms e) where
  step : (e ≡ m) ⊎ IsIn e (gathered ms) → (IsIn e (gathered ms) → IsIn e ms) → IsIn e (m ∷ ms)
  step (inl same) behind = inl same
  step (inr rest) behind = inr (behind rest)

other_key : (m : Pair) (ms : List Pair) (e : Pair) → AllByRecursion (λ y. bytes_eq m.0 y ≡ false) (keys_of ms) → IsIn e ms → bytes_eq m.0 e.0 ≡ false
other_key m [] e h is = absurd is
other_key m (x ∷ ms) e h (inl same) = subst (λ (z : Pair). bytes_eq m.0 z.0 ≡ false) (sym same) h.0
other_key m (x ∷ ms) e h (inr rest) = other_key m ms e h.1 rest

gathered_in : (ms : List Pair) (e : Pair) → IsDistinct bytes_eq (keys_of ms) → IsIn e ms → IsIn e (gathered ms)
gathered_in [] e d is = is
gathered_in (m ∷ ms) e d (inl same) = subst (λ (z : Pair). IsIn z (insert_entry compared_keys (gathered ms) m.0 m.1)) (sym same) (new_inserted (gathered ms) m)
gathered_in (m ∷ ms) e d (inr rest) =
    old_inserted e (gathered ms) m (other_key m ms e (IsDistinct-head bytes_eq m.0 (keys_of ms) d) rest) (gathered_in ms e (IsDistinct-tail bytes_eq m.0 (keys_of ms) d) rest)

-- keys that do not fall and are distinct rise
rises : (o : Ordering) (k q : List ℕ) → compared_keys k q ≡ o → is_lt (compared_keys q k) ≡ false → bytes_eq k q ≡ false → compared_keys k q ≡ Less
rises Less k q e falls apart = e
rises Equal k q e falls apart = let t : is_eq (compared_keys k q) ≡ true = ap is_eq e in let f : true ≡ false = sym t ∙ is_eq-slice_cmp k q ∙ apart in absurd cc
rises Greater k q e falls apart = let t : is_lt (compared_keys q k) ≡ true = ap is_lt (turned_back k q e) in let f : true ≡ false = sym t ∙ falls in absurd cc

strict : (ms : List Pair) → AreInOrder ms → IsDistinct bytes_eq (keys_of ms) → IsStrictlySortedBy compared_keys (keys_of ms)
strict ms o d = sorted_from_all_adjacent nat_list_cmp_total (keys_of ms) [] (λ k within.
    let default : Pair = ([], null) in
    let size : length (keys_of ms) ≡ length ms = length-keys_of ms in
    let less : is_lt (compared_keys (get_or ms (k + 1) default).0 (get_or ms k default).0) ≡ false = o k default (omega arith) (omega (arith, within, size)) in
    let first : get_or (keys_of ms) k [] ≡ (get_or ms k default).0 = get_or-map (λ (z : Pair). z.0) ms k default in
    let second : get_or (keys_of ms) (k + 1) [] ≡ (get_or ms (k + 1) default).0 = get_or-map (λ (z : Pair). z.0) ms (k + 1) default in
    let apart : bytes_eq (get_or (keys_of ms) k []) (get_or (keys_of ms) (k + 1) []) ≡ false = apart_from_distinct bytes_eq (keys_of ms) k (k + 1) [] d (omega arith) within in
    let falls : is_lt (compared_keys (get_or (keys_of ms) (k + 1) []) (get_or (keys_of ms) k [])) ≡ false = rw (first, second) less in
    rises (compared_keys (get_or (keys_of ms) k []) (get_or (keys_of ms) (k + 1) [])) (get_or (keys_of ms) k []) (get_or (keys_of ms) (k + 1) []) refl falls apart)

pub equal : (a b : List ℕ) → bytes_eq a b ≡ true → a ≡ b
equal a b e = exact_bytes a b (step (compared_keys a b) refl) where
  step : (o : Ordering) → compared_keys a b ≡ o → compared_keys a b ≡ Equal
  step Less h = let f : true ≡ false = sym e ∙ sym (is_eq-slice_cmp a b) ∙ ap is_eq h in absurd cc
  step Equal h = h
  step Greater h = let f : true ≡ false = sym e ∙ sym (is_eq-slice_cmp a b) ∙ ap is_eq h in absurd cc

flips : (a b : List ℕ) → bytes_eq a b ≡ bytes_eq b a
flips a b = step (bytes_eq a b) (bytes_eq b a) refl refl where
  step : (p q : Bool) → bytes_eq a b ≡ p → bytes_eq b a ≡ q → p ≡ q
  step true true e f = refl
  step false false e f = refl
  step true false e f = let h : bytes_eq b a ≡ true = same_test a b (equal a b e) in let g : true ≡ false = sym h ∙ f in absurd cc
  step false true e f = let h : bytes_eq a b ≡ true = same_test b a (equal b a f) in let g : true ≡ false = sym h ∙ e in absurd cc

-- the members moved into order are those gathered
pub moved_are : (values moved : List Pair) → IsDistinct bytes_eq (keys_of values) → IsPermutation values moved → AreInOrder moved
    → IsStrictlySortedBy compared_keys (keys_of (gathered values)) → moved ≡ gathered values
moved_are values moved d p o s =
    same_sorted moved (gathered values)
    (strict moved o (IsDistinct-IsPermutation bytes_eq flips (keys_of values) (keys_of moved) (IsPermutation-map (λ (z : Pair). z.0) values moved p) d)) s
    (λ e is. gathered_in values e d (moved_in moved values (IsPermutation-sym values moved p) e is))
    (λ e is. moved_in values moved p e (in_gathered values e is))
