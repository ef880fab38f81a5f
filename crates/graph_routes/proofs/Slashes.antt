-- The pieces of a path, from a place on, by the place of the next slash.
use Rattle.std.proofs.Common.{◌≡◌, ◌≤◌, ◌<◌, ◌+◌, ◌-◌, ◌==◌, ◌∙◌, refl, sym, ap, ℕ, List, [], ◌∷◌, Bool, true, false, nat_lt, All, Some, None, suc, drop, take, length, get_or, slice_get, arith, length-drop, drop-drop, take_all, eqb-true}
use Rattle.std.specs.List.{position_or_len, slice_split, slice_range}
use Rattle.std.specs.Str.{IsCharBoundary}
use Rattle.std.proofs.lemmas.Bool.Decides.{nat_tests}
use Rattle.std.proofs.lemmas.List.{get_or-drop}
use Rattle.std.proofs.lemmas.List.Splits.{slice_split_first, slice_split_none}
use Rattle.std.proofs.lemmas.List.Sums.{fails_before_first, passes_at_first}
use Rattle.std.proofs.lemmas.Str.{IsCharBoundary-end, IsCharBoundary-before_ascii}
use Rattle.std.proofs.lemmas.Option.{slice_get_past}

abbrev is_slash : ℕ → Bool
is_slash b = b == 47

abbrev between : List ℕ → List (List ℕ)
between path = slice_split is_slash path

-- the place of the next slash, or the length
abbrev IsNext : List ℕ → ℕ → ℕ → Type 0
IsNext path start slash = slash ≡ start + position_or_len is_slash (drop start path)

-- the piece that ends at a slash, and those behind it
pub cut_at : (path : List ℕ) (start slash : ℕ) → start ≤ length path → IsNext path start slash → slash < length path → between (drop start path) ≡ slice_range path start slash ∷ between (drop (slash + 1) path)
cut_at path start slash le is lt =
    let rest = drop start path in
    let long : length rest ≡ length path - start = length-drop start path in
    let place : position_or_len is_slash rest ≡ slash - start = omega (arith, is) in
    let past : start + (position_or_len is_slash rest + 1) ≡ slash + 1 = omega (arith, is) in
    slice_split_first is_slash rest 0 (omega (arith, is, long, lt, le))
    ∙ ap (λ (n : ℕ). take n rest ∷ between (drop (position_or_len is_slash rest + 1) rest)) place
    ∙ ap (λ (l : List ℕ). slice_range path start slash ∷ between l) (drop-drop (position_or_len is_slash rest + 1) start path ∙ ap (λ (n : ℕ). drop n path) past)

-- the piece that ends with the path
pub last_at : (path : List ℕ) (start end : ℕ) → start ≤ length path → IsNext path start end → end ≡ length path → between (drop start path) ≡ slice_range path start end ∷ []
last_at path start end le is whole =
    let rest = drop start path in
    let long : length rest ≡ length path - start = length-drop start path in
    let none : All (λ b. is_slash b ≡ false) rest = λ k e m. fails_before_first is_slash rest k e (omega (arith, is, long, le, whole, m)) in
    slice_split_none is_slash rest none ∙ ap (λ (l : List ℕ). l ∷ []) (sym (take_all (end - start) rest (omega (arith, long, le, whole))))

-- a slash stands there, unless the path ends
pub slash_at : (path : List ℕ) (start slash : ℕ) → start ≤ length path → IsNext path start slash → slash < length path → get_or path slash 0 ≡ 47
slash_at path start slash le is lt =
    let rest = drop start path in
    let long : length rest ≡ length path - start = length-drop start path in
    let passes : is_slash (get_or rest (position_or_len is_slash rest) 0) ≡ true = passes_at_first is_slash rest 0 (omega (arith, is, long, lt, le)) in
    let here : get_or rest (position_or_len is_slash rest) 0 ≡ get_or path slash 0 = get_or-drop start path (position_or_len is_slash rest) 0 ∙ ap (λ (n : ℕ). get_or path n 0) (sym is) in
    sym here ∙ eqb-true _ 47 passes

-- the path may be cut there
pub boundary_at : (path : List ℕ) (start end : ℕ) → start ≤ length path → IsNext path start end → end ≤ length path → IsCharBoundary path end
boundary_at path start end le is within = by (nat_lt end (length path)) refl
  where
    by : (v : Bool) → nat_lt end (length path) ≡ v → IsCharBoundary path end
    by true e = let lt : end < length path = grind (arith, nat_tests) in IsCharBoundary-before_ascii path end lt (omega (arith, slash_at path start end le is lt))
    by false e = let whole : end ≡ length path = grind (arith, nat_tests) in rw whole (IsCharBoundary-end path)

-- what is found: nothing behind the last piece, the piece at the front, or the same behind a slash with one slash less
pub none_at : (path : List ℕ) (start slash counter slashes : ℕ) → start ≤ length path → IsNext path start slash → slash ≡ length path → counter < slashes → slice_get (between (drop start path)) (slashes - counter) ≡ None
none_at path start slash counter slashes le is whole lt =
    ap (λ (l : List (List ℕ)). slice_get l (slashes - counter)) (last_at path start slash le is whole) ∙ slice_get_past (slice_range path start slash ∷ []) (slashes - counter) (omega (arith, lt))

pub more_at : (path : List ℕ) (start slash counter slashes : ℕ) → start ≤ length path → IsNext path start slash → slash < length path → counter < slashes → slice_get (between (drop start path)) (slashes - counter) ≡ slice_get (between (drop (slash + 1) path)) (slashes - (counter + 1))
more_at path start slash counter slashes le is lt less =
    let left : slashes - counter ≡ suc (slashes - (counter + 1)) = omega (arith, less) in
    ap (λ (n : ℕ). slice_get (between (drop start path)) n) left ∙ ap (λ (l : List (List ℕ)). slice_get l (suc (slashes - (counter + 1)))) (cut_at path start slash le is lt)

pub found_at : (path : List ℕ) (start end : ℕ) → start ≤ length path → IsNext path start end → end ≤ length path → slice_get (between (drop start path)) 0 ≡ Some (slice_range path start end)
found_at path start end le is within = by (nat_lt end (length path)) refl
  where
    by : (v : Bool) → nat_lt end (length path) ≡ v → slice_get (between (drop start path)) 0 ≡ Some (slice_range path start end)
    by true e = let lt : end < length path = grind (arith, nat_tests) in ap (λ (l : List (List ℕ)). slice_get l 0) (cut_at path start end le is lt)
    by false e = let whole : end ≡ length path = grind (arith, nat_tests) in ap (λ (l : List (List ℕ)). slice_get l 0) (last_at path start end le is whole)
