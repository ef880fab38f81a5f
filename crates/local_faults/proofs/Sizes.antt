-- How large a value is: its parts are smaller.
use Rattle.std.proofs.Common.{◌≡◌, ℕ, suc, zero, ◌+◌, ◌<◌, ◌≤◌, List, [], ◌∷◌, length, get_or, Bool, true, false, Option, Some, None, refl, ap, sym, subst, arith, bytes_eq, cond}
use Rattle.std.specs.Prelude.{option_and_then}
use Rattle.json_decimal.specs.Number.{Number}
use Rattle.json_tree.specs.Values.{Value, Json, null, truth, number, text, array, object, Elements, no_elements, element, Members, no_members, member, elements_of}
use Rattle.json_tree.specs.View.{view, elements_view}
use Rattle.json_tree.specs.declared.tree.Tree.{Tree}
use Rattle.json_tree.specs.Members.{list_of, value_at, value_in, entries_in}
use Rattle.local_rules.specs.Levels.{entries_at, entries_under}

abbrev mutual
  pub size : {N : Type 0} → Value N → ℕ
  size null = 1
  size (truth b) = 1
  size (number n) = 1
  size (text bytes) = 1
  size (array vs) = suc (elements_size vs)
  size (object ms) = suc (members_size ms)

  pub elements_size : {N : Type 0} → Elements N → ℕ
  elements_size no_elements = 0
  elements_size (element v vs) = size v + elements_size vs

  pub members_size : {N : Type 0} → Members N → ℕ
  members_size no_members = 0
  members_size (member k v ms) = size v + members_size ms

abbrev pub option_size : Option Json → ℕ
option_size None = 0
option_size (Some v) = size v

size_positive : (v : Json) → 1 ≤ size v
size_positive null = omega arith
size_positive (truth b) = omega arith
size_positive (number n) = omega arith
size_positive (text bytes) = omega arith
size_positive (array vs) = omega arith
size_positive (object ms) = omega arith

value_at-smaller : (key : List ℕ) (ms : Members Number) → option_size (value_at key ms) < size (object ms)
value_at-smaller key no_members = omega arith
value_at-smaller key (member k v ms) =
    elim (bytes_eq k key) as (λ (b : Bool). option_size (cond b (Some v) (value_at key ms)) < suc (size v + members_size ms)) [
      | true ↦ omega arith
      | false ↦ let h = value_at-smaller key ms in omega (arith, h)
    ]

value_in-smaller : (key : List ℕ) (v : Json) → option_size (value_in key v) < size v
value_in-smaller key null = omega arith
value_in-smaller key (truth b) = omega arith
value_in-smaller key (number n) = omega arith
value_in-smaller key (text bytes) = omega arith
value_in-smaller key (array vs) = omega arith
value_in-smaller key (object ms) = value_at-smaller key ms

entry-smaller : (trees : List Tree) (i : ℕ) (d : Tree) → i < length trees → size (view (get_or trees i d)) < size (array (elements_view trees))
entry-smaller [] i d h = absurd (omega (arith, h))
entry-smaller (t ∷ ts) zero d h = omega arith
entry-smaller (t ∷ ts) (suc i) d h = let g = entry-smaller ts i d (omega (arith, h)) in omega (arith, g)

pub item_smaller : (trees : List Tree) (i : ℕ) (x : Tree) → i < length trees → x ≡ get_or trees i x → size (view x) < size (array (elements_view trees))
item_smaller trees i x h is =
    let P : Tree → Type 0 = λ t. size (view t) < size (array (elements_view trees)) in
    subst P (sym is) (entry-smaller trees i x h)

pub part_smaller : (o : Option Json) (key : List ℕ) (v : Json) → o ≡ value_in key v → option_size o < size v
part_smaller o key v is = let P : Option Json → Type 0 = λ w. option_size w < size v in subst P (sym is) (value_in-smaller key v)

below : (key : List ℕ) (n : ℕ) (o : Option Json) → option_size o < n → option_size (option_and_then (value_in key) o) < n
below key n None h = h
below key n (Some v) h = let g = value_in-smaller key v in omega (arith, g, h)

pub payload_smaller : (o : Option Json) (inner key : List ℕ) (ms : Members Number) → o ≡ option_and_then (value_in inner) (value_at key ms) → option_size o < size (object ms)
payload_smaller o inner key ms is =
    let P : Option Json → Type 0 = λ w. option_size w < size (object ms) in
    subst P (sym is) (below inner (size (object ms)) (value_at key ms) (value_at-smaller key ms))

elements_of-list_of : {N : Type 0} (vs : Elements N) → elements_of (list_of vs) ≡ vs
elements_of-list_of no_elements = refl
elements_of-list_of (element v vs) = ap (λ us. element v us) (elements_of-list_of vs)

entries_in-no_larger : (v : Json) → size (array (elements_of (entries_in v))) ≤ size v
entries_in-no_larger null = omega arith
entries_in-no_larger (truth b) = omega arith
entries_in-no_larger (number n) = omega arith
entries_in-no_larger (text bytes) = omega arith
entries_in-no_larger (array vs) = rw (elements_of-list_of vs) (omega arith)
entries_in-no_larger (object ms) = omega arith

entries_under-no_larger : (n : ℕ) (o : Option Json) → 1 ≤ n → option_size o < n → size (array (elements_of (entries_under o))) ≤ n
entries_under-no_larger n None one h = omega arith
entries_under-no_larger n (Some v) one h = let g = entries_in-no_larger v in omega (arith, g, h)

entries_at-no_larger : (key : List ℕ) (v : Json) → size (array (elements_of (entries_at key v))) ≤ size v
entries_at-no_larger key v = entries_under-no_larger (size v) (value_in key v) (size_positive v) (value_in-smaller key v)

pub fields_no_larger : (vs : List Json) (key : List ℕ) (v : Json) → vs ≡ entries_at key v → size (array (elements_of vs)) ≤ size v
fields_no_larger vs key v is = let P : List Json → Type 0 = λ ws. size (array (elements_of ws)) ≤ size v in subst P (sym is) (entries_at-no_larger key v)
