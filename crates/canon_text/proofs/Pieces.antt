-- The texts of sets, printed interface by interface.
use Rattle.std.proofs.Common.{◌≡◌, ℕ, zero, suc, ◌+◌, ◌<◌, List, ◌∷◌, ◌++◌, Bor, map, length, drop, get_or, append_assoc, add-one, drop-cons, sym, ap, ◌∙◌}
use Rattle.std.proofs.lemmas.Simd.{map-map}
use Rattle.json_tree.specs.Values.{Json, elements_of}
use Rattle.json_tree.specs.Printing.{printed, printed_elements, printed_more_elements}
use Rattle.json_tree.specs.Machinery.Pieces.{comma_before}
use Rattle.dtdl_terms.specs.declared.interface.Interface.{Interface}
use Rattle.canon_text.specs.Canonical.{interface_value, interface_pair, interface_text, set_value}
use Rattle.canon_text.specs.Sorting.{sorted_by}
use Rattle.canon_text.specs.Machinery.Pairs.{pair_name, pair_value, pair_at}

-- what is still to be printed at a position
abbrev pub values_left : ℕ → List Json → List ℕ
values_left zero vs = printed_elements (elements_of vs)
values_left (suc n) vs = printed_more_elements (elements_of vs)

abbrev pub value_at : Bor Interface → Json
value_at i = interface_value i.now

value_split : (i : ℕ) (v : Json) (vs : List Json) → values_left i (v ∷ vs) ≡ comma_before i ++ (printed v ++ values_left (i + 1) vs)
value_split zero v vs = ap (λ e. printed v ++ e) (sym (ap (λ n. values_left n vs) (add-one 0)))
value_split (suc i) v vs = ap (λ e. 44 ∷ (printed v ++ e)) (sym (ap (λ n. values_left n vs) (add-one (suc i))))

drop_at : (is : List (Bor Interface)) (n : ℕ) (i : Bor Interface) → n < length is → i ≡ get_or is n i → drop n is ≡ i ∷ drop (n + 1) is
drop_at is n i within same =
    drop-cons is n i within ∙ ap (λ j. j ∷ drop (suc n) is) (sym same) ∙ ap (λ m. i ∷ drop m is) (sym (add-one n))

-- an interface behind its comma
pub interface_printed : (out all : List ℕ) (is : List (Bor Interface)) (n : ℕ) (i : Bor Interface) → n < length is → i ≡ get_or is n i
    → out ++ values_left n (map value_at (drop n is)) ≡ all
    → ((out ++ comma_before n) ++ interface_text i.now) ++ values_left (n + 1) (map value_at (drop (n + 1) is)) ≡ all
interface_printed out all is n i within same h =
    let rest = map value_at (drop (n + 1) is) in
    let split : values_left n (map value_at (drop n is)) ≡ comma_before n ++ (printed (value_at i) ++ values_left (n + 1) rest) =
    ap (λ (js : List (Bor Interface)). values_left n (map value_at js)) (drop_at is n i within same) ∙ value_split n (value_at i) rest in
    append_assoc (out ++ comma_before n) (printed (value_at i)) (values_left (n + 1) rest)
    ∙ append_assoc out (comma_before n) (printed (value_at i) ++ values_left (n + 1) rest)
    ∙ ap (λ e. out ++ e) (sym split) ∙ h

-- the text of a set is that of its interfaces in order
pub set_printed : (is : List (Bor Interface)) (all : List Interface) → map pair_at is ≡ sorted_by pair_name (map interface_pair all)
    → 91 ∷ printed_elements (elements_of (map value_at is)) ≡ printed (set_value all)
set_printed is all same =
    ap (λ vs. 91 ∷ printed_elements (elements_of vs)) (sym (map-map pair_value pair_at is) ∙ ap (map pair_value) same)
