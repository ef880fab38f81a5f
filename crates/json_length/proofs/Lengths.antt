-- How long texts are.
use Rattle.std.proofs.Common.{Option, Some, None, MatchOption, get_or, drop-cons, add-one, ◌≡◌, ℕ, suc, ◌+◌, ◌<◌, ◌≤◌, List, [], ◌∷◌, ◌++◌, length, drop, max, refl, sym, ap, ap₂, ◌∙◌, arith, length-append}
use Rattle.std.specs.List.{sum_by}
use Rattle.std.specs.List.Sorted.{IsPermutation}
use Rattle.std.proofs.lemmas.List.Sums.{sum_by-cons}
use Rattle.std.proofs.lemmas.List.Sorted.{sum_by-IsPermutation}
use Rattle.json_decimal.specs.Number.{Number}
use Rattle.json_tree.specs.Values.{Json, null, truth, number, text, array, object, Elements, no_elements, element, Members, no_members, member, members_of}
use Rattle.json_tree.specs.Printing.{escaped_byte, escaped, quoted, printed, printed_elements, printed_more_elements, printed_members, printed_more_members}
use Rattle.json_tree.specs.Sorting.{IsSortedOf, ElementsAreSortedOf, MembersAreSortedOf}
use Rattle.json_tree.specs.View.{view, elements_view, members_view}
use Rattle.json_tree.specs.declared.tree.Tree.{Tree}
use Rattle.json_tree.specs.declared.tree.Member.{Member}
use Rattle.json_length.specs.Lengths.{elements_length, member_length, members_length}

-- ---- elements and members with one closing bracket or brace
pub more_elements_length : (vs : Elements Number) → length (printed_more_elements vs) ≡ 1 + elements_length vs
more_elements_length no_elements = refl
more_elements_length (element v vs) =
    let more = more_elements_length vs in
    let joined = length-append (printed v) (printed_more_elements vs) in
    omega arith

pub more_members_length : (ms : Members Number) → length (printed_more_members ms) ≡ 1 + members_length ms
more_members_length no_members = refl
more_members_length (member key v ms) =
    let more = more_members_length ms in
    let value = length-append (printed v) (printed_more_members ms) in
    let joined = length-append (quoted key) (58 ∷ (printed v ++ printed_more_members ms)) in
    omega arith

-- one element or more
pub elements_printed : (v : Json) (vs : Elements Number) → length (printed_elements (element v vs)) ≡ elements_length (element v vs)
elements_printed v vs =
    let more = more_elements_length vs in
    let joined = length-append (printed v) (printed_more_elements vs) in
    omega arith

pub members_printed : (key : List ℕ) (v : Json) (ms : Members Number) → length (printed_members (member key v ms)) ≡ members_length (member key v ms)
members_printed key v ms =
    let more = more_members_length ms in
    let value = length-append (printed v) (printed_more_members ms) in
    let joined = length-append (quoted key) (58 ∷ (printed v ++ printed_more_members ms)) in
    omega arith

-- any elements and members
pub elements_closed : (vs : Elements Number) → length (printed_elements vs) ≡ max 1 (elements_length vs)
elements_closed no_elements = refl
elements_closed (element v vs) = let whole = elements_printed v vs in omega arith

pub members_closed : (ms : Members Number) → length (printed_members ms) ≡ max 1 (members_length ms)
members_closed no_members = refl
members_closed (member key v ms) = let whole = members_printed key v ms in omega arith

-- what is left behind the closing bracket or brace
pub closed_behind : (r : Option ℕ) (left inner all printed : ℕ) → MatchOption r (inner < all) (λ rest. rest + all ≡ inner) → inner + 1 ≡ left → printed ≡ all
    → MatchOption r (left < 1 + printed) (λ rest. rest + (1 + printed) ≡ left)
closed_behind None left inner all printed h e f = omega arith
closed_behind (Some rest) left inner all printed h e f = omega arith

pub elements_some : (items : List Tree) → (items ≡ [] → ⊥) → length (printed_elements (elements_view items)) ≡ elements_length (elements_view items)
elements_some [] h = absurd (h refl)
elements_some (item ∷ items) h = elements_printed (view item) (elements_view items)

pub members_some : (members : List Member) → (members ≡ [] → ⊥) → length (printed_members (members_view members)) ≡ members_length (members_view members)
members_some [] h = absurd (h refl)
members_some (m ∷ members) h = members_printed m.key (view m.value) (members_view members)

-- ---- sorted
pub members_summed : (ms : List (List ℕ × Json)) → members_length (members_of ms) ≡ sum_by member_length ms
members_summed [] = refl
members_summed (m ∷ ms) = ap (λ n. member_length m + n) (members_summed ms) ∙ sym (sum_by-cons member_length m ms)

moved_length : (ms ns : List (List ℕ × Json)) → IsPermutation ms ns → members_length (members_of ms) ≡ members_length (members_of ns)
moved_length ms ns p = members_summed ms ∙ sym (sum_by-IsPermutation member_length ms ns p) ∙ sym (members_summed ns)

mutual
  pub sorted_length : (v w : Json) → IsSortedOf v w → length (printed v) ≡ length (printed w)
  sorted_length null w h = ap (λ x. length (printed x)) (sym h)
  sorted_length (truth b) w h = ap (λ x. length (printed x)) (sym h)
  sorted_length (number n) w h = ap (λ x. length (printed x)) (sym h)
  sorted_length (text t) w h = ap (λ x. length (printed x)) (sym h)
  sorted_length (array vs) w (ws, h, e) =
      ap suc (elements_closed vs ∙ ap (λ n. max 1 n) (sorted_elements_length vs ws h) ∙ sym (elements_closed ws)) ∙ ap (λ x. length (printed x)) (sym e)
  sorted_length (object ms) w (values, moved, h, p, s, e) =
      ap suc (members_closed ms ∙ ap (λ n. max 1 n) (sorted_members_length ms (members_of values) h ∙ moved_length values moved p) ∙ sym (members_closed (members_of moved)))
      ∙ ap (λ x. length (printed x)) (sym e)

  sorted_elements_length : (vs ws : Elements Number) → ElementsAreSortedOf vs ws → elements_length vs ≡ elements_length ws
  sorted_elements_length no_elements ws h = ap elements_length (sym h)
  sorted_elements_length (element v vs) ws (x, xs, h, hs, e) =
      ap₂ (λ m n. m + 1 + n) (sorted_length v x h) (sorted_elements_length vs xs hs) ∙ ap elements_length (sym e)

  sorted_members_length : (ms ns : Members Number) → MembersAreSortedOf ms ns → members_length ms ≡ members_length ns
  sorted_members_length no_members ns h = ap members_length (sym h)
  sorted_members_length (member key v ms) ns (x, xs, h, hs, e) =
      ap₂ (λ m n. length (quoted key) + m + 2 + n) (sorted_length v x h) (sorted_members_length ms xs hs) ∙ ap members_length (sym e)

-- ---- texts
pub escaped_longer : (bytes : List ℕ) → length bytes ≤ length (escaped bytes)
escaped_longer [] = omega arith
escaped_longer (b ∷ bytes) =
    let more = escaped_longer bytes in
    let joined = length-append (escaped_byte b) (escaped bytes) in
    let some = byte_longer b in
    omega arith
  where
    byte_longer : (b : ℕ) → 1 ≤ length (escaped_byte b)
    byte_longer b = search arith

pub quoted_length : (bytes : List ℕ) → length (quoted bytes) ≡ length (escaped bytes) + 2
quoted_length bytes = let joined = length-append (escaped bytes) (34 ∷ []) in omega arith

pub quoted_longer : (bytes : List ℕ) → length bytes + 2 ≤ length (quoted bytes)
quoted_longer bytes = omega (arith, quoted_length bytes, escaped_longer bytes)

-- the bytes from a place on do not fit
pub text_ends : (bytes : List ℕ) (i left rest more : ℕ) → i < length bytes → more + 1 ≡ length (escaped_byte (get_or bytes i 0)) → rest < more
    → left + length (escaped (drop i bytes)) ≡ rest + length (drop i bytes) + length (quoted bytes) → left < length (quoted bytes)
text_ends bytes i left rest more within one less is =
    let after = drop (i + 1) bytes in
    let split : drop i bytes ≡ get_or bytes i 0 ∷ after = drop-cons bytes i 0 within ∙ ap (λ n. get_or bytes i 0 ∷ drop n bytes) (sym (add-one i)) in
    let longer : length (drop i bytes) ≡ suc (length after) = ap length split in
    let joined : length (escaped (drop i bytes)) ≡ length (escaped_byte (get_or bytes i 0)) + length (escaped after)
    = ap (λ t. length (escaped t)) split ∙ length-append (escaped_byte (get_or bytes i 0)) (escaped after) in
    let others = escaped_longer after in
    omega (arith, is, longer, joined, others, one, less)
