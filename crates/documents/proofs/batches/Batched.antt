-- Two texts of arrays, joined by a comma.
use Rattle.std.proofs.Common.{◌≡◌, ◌≢◌, ℕ, ◌+◌, ◌<◌, ◌≤◌, ◌==◌, false, inl, inr, List, [], ◌∷◌, ◌++◌, length, get_or, drop, refl, sym, ap, ◌∙◌, subst, arith, length-append}
use Rattle.std.specs.List.{slice_range, AllByRecursion}
use Rattle.std.proofs.lemmas.List.{append-nil}
use Rattle.std.proofs.lemmas.Bool.Decides.{nat_tests}
use Rattle.std.proofs.lemmas.List.Folds.{drop_split}
use Rattle.json_decimal.specs.Number.{Number}
use Rattle.json_tree.specs.Values.{Raw, Json, null, truth, number, text, array, object, Elements, no_elements, element, elements_of, HasDistinctKeys, ElementsHaveDistinctKeys, IsReadAs, ElementsAreReadAs}
use Rattle.json_tree.specs.Grammar.{IsSpace, IsSpaces, IsValue, IsElements, Spells}
use Rattle.documents.specs.batches.Batches.{batch_text, rest_text}
use Rattle.documents.proofs.batches.Starts.{dropped}
use Rattle.documents.proofs.batches.Appended.{appended, opened, appended_distinct, appended_read}

-- ---- what a bracket tells
bracket_is_no_space : IsSpace 91 → ⊥
bracket_is_no_space (inl e) = absurd (omega arith)
bracket_is_no_space (inr (inl e)) = absurd (omega arith)
bracket_is_no_space (inr (inr (inl e))) = absurd (omega arith)
bracket_is_no_space (inr (inr (inr e))) = absurd (omega arith)

close_is_no_space : IsSpace 93 → ⊥
close_is_no_space (inl e) = absurd (omega arith)
close_is_no_space (inr (inl e)) = absurd (omega arith)
close_is_no_space (inr (inr (inl e))) = absurd (omega arith)
close_is_no_space (inr (inr (inr e))) = absurd (omega arith)

-- no white space in front of the opening bracket
opens_at_once : (rest start : List ℕ) → IsSpaces (91 ∷ rest) start → start ≡ 91 ∷ rest
opens_at_once rest start ([], all, e) = sym e
opens_at_once rest start (b ∷ spaces, (space, all), e) = absurd (bracket_is_no_space (subst IsSpace (let same : b ≡ 91 = cc in same) space))

no_close : (bytes : List ℕ) → AllByRecursion IsSpace (bytes ++ 93 ∷ []) → ⊥
no_close [] (space, all) = close_is_no_space space
no_close (b ∷ bytes) (space, all) = no_close bytes all

-- none behind the last bracket: what stands in front of both is the same
closes_last : (piece front end : List ℕ) → AllByRecursion IsSpace end → piece ++ 93 ∷ [] ≡ front ++ 93 ∷ end → piece ≡ front
closes_last [] [] end all e = refl
closes_last [] (f ∷ front) end all e =
    let count : length {A = ℕ} (93 ∷ []) ≡ length {A = ℕ} (f ∷ (front ++ 93 ∷ end)) = ap (λ (l : List ℕ). length l) e in
    absurd (omega (arith, count, length-append front (93 ∷ end)))
closes_last (p ∷ piece) [] end all e = let same : end ≡ piece ++ 93 ∷ [] = cc in absurd (no_close piece (subst (λ (l : List ℕ). AllByRecursion IsSpace l) same all))
closes_last (p ∷ piece) (f ∷ front) end all e =
    let first : p ≡ f = cc in let others : piece ++ 93 ∷ [] ≡ front ++ 93 ∷ end = cc in
    let more = closes_last piece front end all others in cc

-- ---- what spells an array with elements
pub record IsArray (inner : ℕ) (mid : List ℕ) (xs : List Json) : Type 0 where
  pub first : Raw
  pub others : Elements (List ℕ)
  pub end : List ℕ
  pub elements : IsElements (element first others) inner mid end
  pub blank : AllByRecursion IsSpace end
  pub distinct : ElementsHaveDistinctKeys (element first others)
  pub read : ElementsAreReadAs (element first others) (elements_of xs)

elements_of_array : (inner : ℕ) (vs : Elements (List ℕ)) (mid end : List ℕ) (xs : List Json) → xs ≢ [] → IsElements vs inner mid end → AllByRecursion IsSpace end
    → ElementsHaveDistinctKeys vs → ElementsAreReadAs vs (elements_of xs) → IsArray inner mid xs
elements_of_array inner no_elements mid end [] some elements blank distinct read = absurd (some refl)
elements_of_array inner no_elements mid end (x ∷ xs) some elements blank distinct read = absurd cc
elements_of_array inner (element v vs) mid end xs some elements blank distinct read = record {
  first = v;
  others = vs;
  end = end;
  elements = elements;
  blank = blank;
  distinct = distinct;
  read = read;
}

array_read : (raw : Raw) (ws : Elements Number) → IsReadAs raw (array ws) → (vs : Elements (List ℕ)) × (raw ≡ array vs) × ElementsAreReadAs vs ws
array_read null ws e = absurd cc
array_read (truth b) ws e = absurd cc
array_read (number l) ws (n, is, range, e) = absurd cc
array_read (text t) ws e = absurd cc
array_read (array vs) ws (xs, read, e) = let same : xs ≡ ws = cc in (vs, refl, subst (λ (js : Elements Number). ElementsAreReadAs vs js) same read)
array_read (object ms) ws (ns, read, e) = absurd cc

-- of the parts of a text
parts_of_array : (rest start end : List ℕ) (vs : Elements (List ℕ)) (xs : List Json) → xs ≢ [] → IsSpaces (91 ∷ rest) start → IsValue (array vs) 64 start end → IsSpaces end []
    → ElementsHaveDistinctKeys vs → ElementsAreReadAs vs (elements_of xs) → IsArray 63 rest xs
parts_of_array rest start end vs xs some front (inner, mid, deep, e, elements) (spaces, blank, behind) distinct read =
    let opens : start ≡ 91 ∷ rest = opens_at_once rest start front in
    let same : mid ≡ rest = cc in
    let depth : inner ≡ 63 = omega (arith, deep) in
    let spaced : spaces ≡ end = sym (behind ∙ append-nil spaces) in
    elements_of_array 63 vs rest end xs some
    (subst (λ (m : List ℕ). IsElements vs 63 m end) same (subst (λ (n : ℕ). IsElements vs n mid end) depth elements))
    (subst (λ (l : List ℕ). AllByRecursion IsSpace l) spaced blank) distinct read

spelled_array : (rest : List ℕ) (xs : List Json) → xs ≢ [] → Spells (91 ∷ rest) (array (elements_of xs)) → IsArray 63 rest xs
spelled_array rest xs some (raw, (start, end, front, value, behind), distinct, read) =
    let a = array_read raw (elements_of xs) read in
    parts_of_array rest start end a.0 xs some front (subst (λ (r : Raw). IsValue r 64 start end) a.1 value) behind
    (subst (λ (r : Raw). HasDistinctKeys r) a.1 distinct) a.2

-- ---- both
arrays_joined : (piece rest : List ℕ) (xs ys : List Json) → IsArray 63 (piece ++ 93 ∷ []) xs → IsArray 63 rest ys
    → Spells (91 ∷ (piece ++ 44 ∷ rest)) (array (elements_of (xs ++ ys)))
arrays_joined piece rest xs ys a b =
    let open_part = opened a.first a.others 63 (piece ++ 93 ∷ []) a.end a.elements in
    let same : piece ≡ open_part.front = closes_last piece open_part.front a.end a.blank open_part.is in
    let all : IsElements (appended (element a.first a.others) (element b.first b.others)) 63 (piece ++ 44 ∷ rest) b.end =
    subst (λ (l : List ℕ). IsElements (appended (element a.first a.others) (element b.first b.others)) 63 (l ++ 44 ∷ rest) b.end) (sym same)
    (open_part.leaves (44 ∷ rest) b.first b.others rest b.end refl b.elements) in (
      array (appended (element a.first a.others) (element b.first b.others)),
      (91 ∷ (piece ++ 44 ∷ rest), b.end, ([], tt, refl), (63, piece ++ 44 ∷ rest, refl, refl, all), (b.end, b.blank, sym (append-nil b.end))),
      appended_distinct (element a.first a.others) (element b.first b.others) a.distinct b.distinct,
      (elements_of (xs ++ ys), appended_read (element a.first a.others) (element b.first b.others) xs ys a.read b.read, refl),
    )

-- ---- the text of a batch, and what follows it
inner_batch : (bytes : List ℕ) (at end : ℕ) → end < length bytes → batch_text bytes at end ≡ 91 ∷ (slice_range bytes at end ++ 93 ∷ [])
inner_batch bytes at end lt = let other : (end == length bytes) ≡ false = grind (arith, nat_tests) in rw other refl

whole_rest : (bytes : List ℕ) (at end : ℕ) → at ≤ end → end < length bytes → get_or bytes end 0 ≡ 44
    → drop at bytes ≡ slice_range bytes at end ++ 44 ∷ drop (end + 1) bytes
whole_rest bytes at end le lt e =
    drop_split bytes at end le ∙ ap (λ (r : List ℕ). slice_range bytes at end ++ r) (dropped bytes end lt ∙ ap (λ (b : ℕ). b ∷ drop (end + 1) bytes) e)

pub batches_joined : (bytes : List ℕ) (at end : ℕ) (vs ws : List Json) → at ≤ end → end < length bytes → get_or bytes end 0 ≡ 44 → vs ≢ [] → ws ≢ []
    → Spells (batch_text bytes at end) (array (elements_of vs)) → Spells (rest_text bytes (end + 1)) (array (elements_of ws))
    → Spells (rest_text bytes at) (array (elements_of (vs ++ ws)))
batches_joined bytes at end vs ws le lt e some more one two =
    let first = spelled_array (slice_range bytes at end ++ 93 ∷ []) vs some (subst (λ (l : List ℕ). Spells l (array (elements_of vs))) (inner_batch bytes at end lt) one) in
    let second = spelled_array (drop (end + 1) bytes) ws more two in
    subst (λ (l : List ℕ). Spells (91 ∷ l) (array (elements_of (vs ++ ws)))) (sym (whole_rest bytes at end le lt e))
    (arrays_joined (slice_range bytes at end) (drop (end + 1) bytes) vs ws first second)
