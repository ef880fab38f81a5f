-- What printing writes.
use Rattle.std.proofs.Common.{◌≡◌, ℕ, zero, suc, ◌+◌, ◌-◌, ◌<◌, ◌≤◌, List, [], ◌∷◌, ◌++◌, length, take, drop, slice_index, ap, ap₂, ◌∙◌, arith, length-append, append_assoc}
use Rattle.std.specs.List.{insert_slice}
use Rattle.std.proofs.Math.Seq.{take-append-add, drop-append-add}
use Rattle.std.proofs.lemmas.List.{get_or-append-add}
use Rattle.json_decimal.specs.Literal.{AreDigits}

-- a point put among the digits behind a text
pub pointed : (old ds : List ℕ) (places at : ℕ) → places ≤ length ds → at ≡ length (old ++ ds) - places
    → insert_slice (old ++ ds) at (46 ∷ []) ≡ old ++ (take (length ds - places) ds ++ 46 ∷ drop (length ds - places) ds)
pointed old ds places at h e =
    let k = length ds - places in
    let place : at ≡ length old + (length ds - places) = omega (arith, length-append old ds) in
    ap (λ t. insert_slice (old ++ ds) t (46 ∷ [])) place
    ∙ ap₂ (λ s t. (s ++ 46 ∷ []) ++ t) (take-append-add old ds k) (drop-append-add old ds k)
    ∙ ap (λ t. t ++ drop k ds) (append_assoc old (take k ds) (46 ∷ []))
    ∙ append_assoc old (take k ds ++ 46 ∷ []) (drop k ds)
    ∙ ap (λ t. old ++ t) (append_assoc (take k ds) (46 ∷ []) (drop k ds))

digit_below : (ds : List ℕ) (i : ℕ) → AreDigits ds → slice_index ds i < 128
digit_below [] i p = omega arith
digit_below (d ∷ ds) zero p = let high = p.0.high in omega arith
digit_below (d ∷ ds) (suc i) p = digit_below ds i p.1

-- a digit stands at the place of the point
pub digit_at_point : (old ds : List ℕ) (places at : ℕ) → AreDigits ds → places ≤ length ds → at ≡ length (old ++ ds) - places → slice_index (old ++ ds) at < 128
digit_at_point old ds places at p h e =
    let place : at ≡ length old + (length ds - places) = omega (arith, length-append old ds) in
    rw (place, get_or-append-add old ds (length ds - places) 0) (digit_below ds (length ds - places) p)
