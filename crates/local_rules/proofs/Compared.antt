-- Entries that repeat an earlier one.
use Rattle.std.proofs.Common.{◌≡◌, ℕ, zero, suc, ◌+◌, ◌<◌, ◌⊎◌, inl, inr, List, [], ◌∷◌, ◌++◌, length, map, take, get_or, Bool, true, false, cond, not, ◌||◌, Option, Some, None, refl, sym, ap, ap₂, ◌∙◌, arith, rules}
use Rattle.std.specs.Prelude.{slice_get}
use Rattle.std.specs.Option.{option_map}
use Rattle.std.specs.List.{list_any, take-map}
use Rattle.std.specs.Ordering.{is_eq}
use Rattle.std.specs.BTreeSet.{BTreeSet, contains}
use Rattle.std.proofs.lemmas.List.{take_more, map_push}
use Rattle.std.proofs.lemmas.List.Folds.{list_any-append}
use Rattle.std.proofs.lemmas.Map.Text.{is_eq-slice_cmp}
use Rattle.std.proofs.lemmas.Bool.{or_cases}
use Rattle.json_tree.specs.Values.{Json, text}
use Rattle.json_tree.specs.View.{view}
use Rattle.json_tree.specs.declared.tree.Tree.{Tree}
use Rattle.json_tree.specs.declared.buckets.Buckets.{Buckets}
use Rattle.local_rules.specs.Repeats.{holds_some, is_among, same_value}
use Rattle.local_rules.specs.Machinery.Repeated.{AreInBuckets, HasBucket, HasSeen, compared, is_seen, repeats_by, value_by}
use Rattle.local_rules.specs.declared.repeated.ComparisonKey.{ComparisonKey}
use Rattle.local_rules.specs.declared.repeated.ComparisonKey.TheVariants as comparison_key
use Rattle.local_rules.specs.declared.repeated.Comparison.{Comparison}
use Rattle.local_rules.specs.contracts.repeated.ComparisonKeyOrd.TheImpl as order

got : (f : Json → Option Json) (ts : List Tree) (i : ℕ) (t : Tree) → i < length ts → t ≡ get_or ts i t → slice_get (map f (map view ts)) i ≡ Some (f (view t))
got f [] i t lt e = absurd (omega (arith, lt))
got f (u ∷ ts) zero t lt e = ap (λ (x : Tree). Some (f (view x))) (sym e)
got f (u ∷ ts) (suc i) t lt e = got f ts i t (omega (arith, lt)) e

front : (f : Json → Option Json) (ts : List Tree) (i : ℕ) → take i (map f (map view ts)) ≡ map f (map view (take i ts))
front f ts i = take-map f i (map view ts) ∙ ap (λ (vs : List Json). map f vs) (take-map view i ts)

pub repeats_here : (s : Comparison) (ts : List Tree) (i : ℕ) (t : Tree) → i < length ts → t ≡ get_or ts i t
    → repeats_by s (map view ts) i ≡ is_among same_value (map (compared s) (map view (take i ts))) (compared s (view t))
repeats_here s ts i t lt e = rw (got (compared s) ts i t lt e, front (compared s) ts i) refl

-- ---- marks in a set
key_same : (m n : ComparisonKey) → is_eq ((order.cmp-value).it m n) ≡ same_value (value_by m) (value_by n)
key_same (comparison_key.Number d) (comparison_key.Number e) = search (rules, order.cmp-value)
key_same (comparison_key.Number d) (comparison_key.Text t) = refl
key_same (comparison_key.Text t) (comparison_key.Number d) = refl
key_same (comparison_key.Text t) (comparison_key.Text u) = is_eq-slice_cmp t.now u.now

any_same : (ks : List ComparisonKey) (q : ComparisonKey) → list_any (λ k. is_eq ((order.cmp-value).it q k)) ks ≡ list_any (λ k. same_value (value_by q) (value_by k)) ks
any_same [] q = refl
any_same (k ∷ ks) q = ap₂ ◌||◌ (key_same q k) (any_same ks q)

not_not : (a b : Bool) → a ≡ not b → not a ≡ b
not_not a true e = ap not e
not_not a false e = ap not e

as_or : (a b c : Bool) → a ≡ c → cond a true b ≡ (b || c)
as_or true true c e = refl
as_or true false c e = e
as_or false true c e = refl
as_or false false c e = e

pub put_in : (old new : BTreeSet ComparisonKey) (m : ComparisonKey) (added : Bool) → added ≡ not (contains (order.cmp-value).it old m)
    → ((q : ComparisonKey) → contains (order.cmp-value).it new q ≡ cond (is_eq ((order.cmp-value).it m q)) true (contains (order.cmp-value).it old q))
    → HasSeen old new (not added) (Some m)
put_in old new m added e more = (
  not_not added (contains (order.cmp-value).it old m) e ∙ any_same old.keys m,
  λ q. sym (any_same new.keys q) ∙ more q ∙ as_or (is_eq ((order.cmp-value).it m q)) (contains (order.cmp-value).it old q) (same_value (value_by m) (value_by q)) (key_same m q)
      ∙ ap (λ (b : Bool). b || same_value (value_by m) (value_by q)) (any_same old.keys q),
)

-- ---- one more entry
or_nothing : (a : Bool) → (a || false) ≡ a
or_nothing true = refl
or_nothing false = refl

any_push : {X : Type 0} (test : X → Bool) (xs : List X) (x : X) → list_any test (xs ++ x ∷ []) ≡ (list_any test xs || test x)
any_push test xs x = list_any-append test xs (x ∷ []) ∙ ap (λ (b : Bool). list_any test xs || b) (or_nothing (test x))

one_more : (s : Comparison) (ts : List Tree) (i : ℕ) (t : Tree) → i < length ts → t ≡ get_or ts i t
    → map (compared s) (map view (take (i + 1) ts)) ≡ map (compared s) (map view (take i ts)) ++ compared s (view t) ∷ []
one_more s ts i t lt e =
    let more : take (i + 1) ts ≡ take i ts ++ t ∷ [] = take_more ts i t lt ∙ ap (λ (x : Tree). take i ts ++ x ∷ []) (sym e) in
    ap (λ (us : List Tree). map (compared s) (map view us)) more
    ∙ ap (λ (vs : List Json). map (compared s) vs) (map_push view (take i ts) t)
    ∙ map_push (compared s) (map view (take i ts)) (view t)

-- what was seen is what the entries so far are compared by
abbrev pub HasSeenAll : Comparison → List Tree → ℕ → BTreeSet ComparisonKey → Type 0
HasSeenAll s ts i seen = (q : ComparisonKey) → is_seen seen (value_by q) ≡ list_any (holds_some (λ u. same_value u (value_by q))) (map (compared s) (map view (take i ts)))

pub seen_more : (s : Comparison) (ts : List Tree) (i : ℕ) (t : Tree) (old new : BTreeSet ComparisonKey) (b : Bool) (m : Option ComparisonKey) → i < length ts → t ≡ get_or ts i t
    → HasSeenAll s ts i old → option_map value_by m ≡ compared s (view t) → HasSeen old new b m → HasSeenAll s ts (i + 1) new
seen_more s ts i t old new b None lt e all is h = λ q.
    let test : Option Json → Bool = holds_some (λ u. same_value u (value_by q)) in
    h.1 q ∙ all q ∙ sym (or_nothing (list_any test (map (compared s) (map view (take i ts)))))
    ∙ ap (λ (v : Option Json). list_any test (map (compared s) (map view (take i ts))) || test v) is
    ∙ sym (ap (λ (vs : List (Option Json)). list_any test vs) (one_more s ts i t lt e) ∙ any_push test (map (compared s) (map view (take i ts))) (compared s (view t)))
seen_more s ts i t old new b (Some m) lt e all is h = λ q.
    let test : Option Json → Bool = holds_some (λ u. same_value u (value_by q)) in
    h.1 q ∙ ap (λ (c : Bool). c || same_value (value_by m) (value_by q)) (all q)
    ∙ ap (λ (v : Option Json). list_any test (map (compared s) (map view (take i ts))) || test v) is
    ∙ sym (ap (λ (vs : List (Option Json)). list_any test vs) (one_more s ts i t lt e) ∙ any_push test (map (compared s) (map view (take i ts))) (compared s (view t)))

answered : (s : Comparison) (ts : List Tree) (i : ℕ) (t : Tree) (old new : BTreeSet ComparisonKey) (b : Bool) (m : Option ComparisonKey)
    → HasSeenAll s ts i old → option_map value_by m ≡ compared s (view t) → HasSeen old new b m
    → b ≡ is_among same_value (map (compared s) (map view (take i ts))) (compared s (view t))
answered s ts i t old new b None all is h = h.0 ∙ ap (λ (v : Option Json). is_among same_value (map (compared s) (map view (take i ts))) v) is
answered s ts i t old new b (Some m) all is h = h.0 ∙ all m ∙ ap (λ (v : Option Json). is_among same_value (map (compared s) (map view (take i ts))) v) is

-- ---- entries that are apart
abbrev pub AreApartTo : Comparison → List Tree → ℕ → Type 0
AreApartTo s ts i = (k : ℕ) → k < i → repeats_by s (map view ts) k ≡ false

either : (k i : ℕ) → k < i + 1 → (k < i) ⊎ (k ≡ i)
either k i lt = grind arith

apart_more : (s : Comparison) (ts : List Tree) (i : ℕ) → AreApartTo s ts i → repeats_by s (map view ts) i ≡ false → AreApartTo s ts (i + 1)
apart_more s ts i apart here = λ k below. elim (either k i below) [
  | inl l ↦ apart k l
  | inr same ↦ ap (λ (j : ℕ). repeats_by s (map view ts) j) same ∙ here
]

-- what was seen of the entry tells that it is apart
pub apart_seen : (s : Comparison) (ts : List Tree) (i : ℕ) (t : Tree) (old new : BTreeSet ComparisonKey) (b : Bool) (m : Option ComparisonKey)
    → i < length ts → t ≡ get_or ts i t → AreApartTo s ts i
    → HasSeenAll s ts i old → option_map value_by m ≡ compared s (view t) → HasSeen old new b m → b ≡ false → AreApartTo s ts (i + 1)
apart_seen s ts i t old new b m lt e apart all is h no_repeat =
    apart_more s ts i apart (repeats_here s ts i t lt e ∙ sym (answered s ts i t old new b m all is h) ∙ no_repeat)

-- and so does what was put in its bucket
pub apart_put : (s : Comparison) (ts : List Tree) (i : ℕ) (t : Tree) (b : Bool) (m : Option ComparisonKey)
    → i < length ts → t ≡ get_or ts i t → AreApartTo s ts i → option_map value_by m ≡ compared s (view t)
    → b ≡ is_among same_value (map (compared s) (map view (take i ts))) (option_map value_by m) → b ≡ false → AreApartTo s ts (i + 1)
apart_put s ts i t b m lt e apart is h no_repeat =
    apart_more s ts i apart (repeats_here s ts i t lt e ∙ sym (h ∙ ap (λ (v : Option Json). is_among same_value (map (compared s) (map view (take i ts))) v) is) ∙ no_repeat)

-- ---- buckets

-- one more entry, where what it is compared by has its bucket
pub put_more : (s : Comparison) (ts : List Tree) (i : ℕ) (t : Tree) (old new : Buckets) (m : Option ComparisonKey)
    → i < length ts → t ≡ get_or ts i t → option_map value_by m ≡ compared s (view t)
    → AreInBuckets s (map view (take i ts)) old → HasBucket old new m → AreInBuckets s (map view (take (i + 1) ts)) new
put_more s ts i t old new m lt e is all put = λ u found.
    let test : Option Json → Bool = holds_some (λ v. same_value v (text u)) in
    let split : (list_any test (map (compared s) (map view (take i ts))) || test (compared s (view t))) ≡ true =
    sym (ap (λ (vs : List (Option Json)). list_any test vs) (one_more s ts i t lt e) ∙ any_push test (map (compared s) (map view (take i ts))) (compared s (view t))) ∙ found in
    elim (or_cases (list_any test (map (compared s) (map view (take i ts)))) (test (compared s (view t))) split) [
      | inl before ↦ put.0 u (all u before)
      | inr here ↦ put.1 u (ap test is ∙ here)
    ]
