-- Lists and localized texts printed element by element, in the order of names.
use Rattle.std.proofs.Common.{◌≡◌, ℕ, zero, suc, ◌+◌, ◌<◌, List, [], ◌∷◌, ◌++◌, Bor, map, length, drop, get_or, append_assoc, add-one, drop-cons, sym, ap, ◌∙◌}
use Rattle.std.proofs.lemmas.Simd.{map-map}
use Rattle.json_tree.specs.Values.{Json, elements_of, members_of}
use Rattle.json_tree.specs.Printing.{printed, quoted, printed_elements, printed_members}
use Rattle.json_tree.specs.Machinery.Pieces.{comma_before}
use Rattle.canon_text.specs.Sorting.{sorted_by}
use Rattle.canon_text.specs.Objects.{list_in_order, members_in_order}
use Rattle.canon_text.specs.Machinery.Pairs.{pair_name, pair_value}
use Rattle.canon_text.proofs.SortedMap.{map_sorted_by}
use Rattle.canon_print.specs.Machinery.Bodies.{head_text, elements_left, entries_left}
use Rattle.canon_print.specs.Machinery.Lent.{values_now}

element_split : (i : ℕ) (v : Json) (vs : List Json)
    → elements_left i (elements_of (v ∷ vs)) ≡ comma_before i ++ (printed v ++ elements_left (i + 1) (elements_of vs))
element_split zero v vs = ap (λ e. printed v ++ e) (sym (ap (λ n. elements_left n (elements_of vs)) (add-one 0)))
element_split (suc i) v vs = ap (λ e. 44 ∷ (printed v ++ e)) (sym (ap (λ n. elements_left n (elements_of vs)) (add-one (suc i))))

entry_split : (i : ℕ) (m : List ℕ × Json) (ms : List (List ℕ × Json))
    → entries_left i (members_of (m ∷ ms)) ≡ comma_before i ++ (head_text m.0 ++ (printed m.1 ++ entries_left (i + 1) (members_of ms)))
entry_split zero m ms = ap (λ e. quoted m.0 ++ 58 ∷ (printed m.1 ++ e)) (sym (ap (λ n. entries_left n (members_of ms)) (add-one 0)))
    ∙ sym (append_assoc (quoted m.0) (58 ∷ []) (printed m.1 ++ entries_left (0 + 1) (members_of ms)))
entry_split (suc i) m ms = ap (λ e. 44 ∷ (quoted m.0 ++ 58 ∷ (printed m.1 ++ e))) (sym (ap (λ n. entries_left n (members_of ms)) (add-one (suc i))))
    ∙ ap (λ e. 44 ∷ e) (sym (append_assoc (quoted m.0) (58 ∷ []) (printed m.1 ++ entries_left (suc i + 1) (members_of ms))))

module _ {A : Type 0} where
  drop_at : (xs : List (Bor A)) (n : ℕ) (x : Bor A) → n < length xs → x ≡ get_or xs n x → drop n xs ≡ x ∷ drop (n + 1) xs
  drop_at xs n x within same =
      drop-cons xs n x within ∙ ap (λ y. y ∷ drop (suc n) xs) (sym same) ∙ ap (λ m. x ∷ drop m xs) (sym (add-one n))

  -- an element behind its comma
  pub element_printed : (value : A → Json) (out all : List ℕ) (xs : List (Bor A)) (n : ℕ) (x : Bor A) → n < length xs → x ≡ get_or xs n x
      → out ++ elements_left n (elements_of (map (λ y. value y.now) (drop n xs))) ≡ all
      → ((out ++ comma_before n) ++ printed (value x.now)) ++ elements_left (n + 1) (elements_of (map (λ y. value y.now) (drop (n + 1) xs))) ≡ all
  element_printed value out all xs n x within same h =
      let v = value x.now in
      let vs = map (λ (y : Bor A). value y.now) (drop (n + 1) xs) in
      append_assoc (out ++ comma_before n) (printed v) (elements_left (n + 1) (elements_of vs))
      ∙ append_assoc out (comma_before n) (printed v ++ elements_left (n + 1) (elements_of vs))
      ∙ ap (λ e. out ++ e) (sym (ap (λ (ys : List (Bor A)). elements_left n (elements_of (map (λ y. value y.now) ys))) (drop_at xs n x within same) ∙ element_split n v vs))
      ∙ h

  -- an entry behind its comma
  pub entry_printed : (pair : A → List ℕ × Json) (out all : List ℕ) (xs : List (Bor A)) (n : ℕ) (x : Bor A) → n < length xs → x ≡ get_or xs n x
      → out ++ entries_left n (members_of (map (λ y. pair y.now) (drop n xs))) ≡ all
      → ((out ++ comma_before n) ++ (head_text (pair x.now).0 ++ printed (pair x.now).1)) ++ entries_left (n + 1) (members_of (map (λ y. pair y.now) (drop (n + 1) xs))) ≡ all
  entry_printed pair out all xs n x within same h =
      let m = pair x.now in
      let ms = map (λ (y : Bor A). pair y.now) (drop (n + 1) xs) in
      let rest = entries_left (n + 1) (members_of ms) in
      append_assoc (out ++ comma_before n) (head_text m.0 ++ printed m.1) rest
      ∙ ap (λ e. (out ++ comma_before n) ++ e) (append_assoc (head_text m.0) (printed m.1) rest)
      ∙ append_assoc out (comma_before n) (head_text m.0 ++ (printed m.1 ++ rest))
      ∙ ap (λ e. out ++ e) (sym (ap (λ (ys : List (Bor A)). entries_left n (members_of (map (λ y. pair y.now) ys))) (drop_at xs n x within same) ∙ entry_split n m ms))
      ∙ h

  -- a list in order behind its bracket
  pub list_printed : (pair : A → List ℕ × Json) (before opened now : List ℕ) (lent : List (Bor A)) (items : List A)
      → opened ≡ before ++ 91 ∷ [] → values_now lent ≡ sorted_by (λ x. pair_name (pair x)) items
      → now ≡ opened ++ printed_elements (elements_of (map (λ y. pair_value (pair y.now)) lent)) → now ≡ before ++ printed (list_in_order (map pair items))
  list_printed pair before opened now lent items bracket same body =
      let value = λ (x : A). pair_value (pair x) in
      let sorted = sorted_by (λ x. pair_name (pair x)) items in
      body ∙ ap (λ e. e ++ printed_elements (elements_of (map (λ y. value y.now) lent))) bracket
      ∙ append_assoc before (91 ∷ []) (printed_elements (elements_of (map (λ y. value y.now) lent)))
      ∙ ap (λ vs. before ++ 91 ∷ printed_elements (elements_of vs))
      (sym (map-map value (λ (y : Bor A). y.now) lent) ∙ ap (map value) same ∙ sym (map-map pair_value pair sorted) ∙ ap (map pair_value) (map_sorted_by pair pair_name items))

  -- members in order behind their brace
  pub members_printed : (pair : A → List ℕ × Json) (before opened now : List ℕ) (lent : List (Bor A)) (items : List A)
      → opened ≡ before ++ 123 ∷ [] → values_now lent ≡ sorted_by (λ x. pair_name (pair x)) items
      → now ≡ opened ++ printed_members (members_of (map (λ y. pair y.now) lent)) → now ≡ before ++ printed (members_in_order (map pair items))
  members_printed pair before opened now lent items brace same body =
      body ∙ ap (λ e. e ++ printed_members (members_of (map (λ y. pair y.now) lent))) brace
      ∙ append_assoc before (123 ∷ []) (printed_members (members_of (map (λ y. pair y.now) lent)))
      ∙ ap (λ ms. before ++ 123 ∷ printed_members (members_of ms))
      (sym (map-map pair (λ (y : Bor A). y.now) lent) ∙ ap (map pair) same ∙ map_sorted_by pair pair_name items)
