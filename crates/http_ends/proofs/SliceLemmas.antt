-- Parts of a list by two places.
use Rattle.std.proofs.Common.{◌≡◌, ℕ, ◌+◌, ◌-◌, ◌≤◌, List, ◌++◌, take, drop, slice_range, sym, ap, ◌∙◌, arith}
use Rattle.std.proofs.Math.Seq.{take-add}
use Rattle.std.proofs.lemmas.List.{drop-take, drop-drop, take-take}
use Rattle.std.proofs.lemmas.Slice.{between_is}

-- a part without its first elements
pub drop-slice_range : (xs : List ℕ) (a b n : ℕ) → n + a ≤ b → drop n (slice_range xs a b) ≡ slice_range xs (a + n) b
drop-slice_range xs a b n within =
    let size : b - a ≡ n + (b - (a + n)) = omega arith in
    ap (λ k. drop n (take k (drop a xs))) size ∙ drop-take n (b - (a + n)) (drop a xs) ∙ ap (take (b - (a + n))) (drop-drop n a xs)

-- a part and the one behind it
pub slice_range-join : (xs : List ℕ) (a b c : ℕ) → a ≤ b → b ≤ c → slice_range xs a c ≡ slice_range xs a b ++ slice_range xs b c
slice_range-join xs a b c first second =
    let size : c - a ≡ (b - a) + (c - b) = omega arith in
    let place : a + (b - a) ≡ b = omega arith in
    ap (λ k. take k (drop a xs)) size ∙ take-add (b - a) (c - b) (drop a xs)
    ∙ ap (λ ys. take (b - a) (drop a xs) ++ take (c - b) ys) (drop-drop (b - a) a xs ∙ ap (λ k. drop k xs) place)

-- a part of a front that two lists share
pub slice_range-front : (xs ys : List ℕ) (a b n : ℕ) → b ≤ n → take n xs ≡ take n ys → slice_range xs a b ≡ slice_range ys a b
slice_range-front xs ys a b n within same =
    between_is xs a b ∙ ap (drop a) (sym (take-take b n xs within) ∙ ap (take b) same ∙ take-take b n ys within) ∙ sym (between_is ys a b)

-- what was read behind a part comes behind it
pub slice_range-filled : (ws old : List ℕ) (a b n : ℕ) → a ≤ b → take b ws ≡ take b old → slice_range ws a (b + n) ≡ slice_range old a b ++ slice_range ws b (b + n)
slice_range-filled ws old a b n first same =
    slice_range-join ws a b (b + n) first (omega arith) ∙ ap (λ xs. xs ++ slice_range ws b (b + n)) (slice_range-front ws old a b b (omega arith) same)
