-- The text of a number is a literal of it.
use Rattle.std.proofs.Common.{◌≡◌, ℕ, suc, ◌+◌, ◌*◌, ◌-◌, ◌%◌, ◌^◌, ◌<◌, ◌≤◌, Bool, false, inl, inr, List, [], ◌∷◌, ◌++◌, length, slice_index, replicate, decimal, take, drop, refl, ap, ap₂, sym, ◌∙◌, subst, arith, length-append, append-nil, Some, None, ℤ, pos, negsuc, neg_ℤ, ◌+ℤ◌, ◌-ℤ◌, ◌≤ℤ◌, if◌then◌else◌, nat_le, mul-one, zero-mul, zero-add, mul-le-mul, take-append-drop, length-take-le, length-drop, get_or-take}
use Rattle.std.proofs.lemmas.Bool.Decides.{leb_tells}
use Rattle.std.proofs.lemmas.Bool.{cases_eq}
use Rattle.std.proofs.lemmas.List.{get_or_append_left, length-replicate}
use Rattle.std.proofs.lemmas.Int.{ints}
use Rattle.json_decimal.specs.Number.{Number, IsNormalForm, zero_number}
use Rattle.json_decimal.specs.Literal.{Sign, no_sign, minus, IsInteger, IsPower, IsLiteralOf, minus_bytes, fraction_bytes, sign_bytes, signed_exponent, value_after}
use Rattle.json_decimal.specs.declared.decimal.Decimal.{Decimal}
use Rattle.json_decimal.specs.Decimals.{number_of}
use Rattle.json_decimal.specs.Printing.{whole_text, fraction_text, size_text, text_of}
use Rattle.json_decimal.proofs.Parts.{value-append, fraction_bytes-some}
use Rattle.json_decimal.proofs.Powers.{ten_positive}
use Rattle.json_decimal.proofs.Unique.{moved, same_fields}
use Rattle.json_decimal.proofs.Written.{IsWritten, written, zero_written, few_digits, AreDigits-append, AreDigits-zeros, AreDigits-take, AreDigits-drop, value-zeros_after, value-zeros_before}

-- what a decimal's type says of it
pub record IsDecimal (n : Number) : Type 0 where
  pub bounded : n.coefficient < 10 ^ 38
  pub trimmed : n.coefficient % 10 ≡ 0 → n.coefficient ≡ 0
  pub low : neg_ℤ (pos 900) ≤ℤ n.exponent
  pub high : n.exponent ≤ℤ pos 900
  pub zero : n.coefficient ≡ 0 → (n.negative ≡ false) × (n.exponent ≡ pos 0)

-- a decimal is the normal form of its coefficient with zeros behind it
normal_of : (n : Number) (k : ℕ) (power : ℤ) → IsDecimal n → n.exponent ≡ power +ℤ pos k → IsNormalForm n.negative (n.coefficient * 10 ^ k) power n
normal_of n k power d e = record {
  zero = λ none. let empty : n.coefficient ≡ 0 = no_coefficient none in same_fields n zero_number (d.zero empty).0 empty (d.zero empty).1;
  other = λ some. record {
    sign = refl;
    trimmed = λ last. some (ap (λ t. t * 10 ^ k) (d.trimmed last) ∙ zero-mul (10 ^ k));
    zeros = k;
    digits = refl;
    exponent = e;
  };
}
  where
    no_coefficient : n.coefficient * 10 ^ k ≡ 0 → n.coefficient ≡ 0
    no_coefficient none = elim (cases_eq n.coefficient 0) [
      | inl empty ↦ empty
      | inr some ↦ absurd (let one : 1 ≤ n.coefficient = omega arith in let more : 1 * 1 ≤ n.coefficient * 10 ^ k = mul-le-mul one (ten_positive k) in omega arith)
    ]

normal_of_itself : (n : Number) → IsDecimal n → IsNormalForm n.negative n.coefficient n.exponent n
normal_of_itself n d =
    let stays : n.exponent ≡ n.exponent +ℤ pos 0 = omega (arith, ints) in
    moved refl (mul-one n.coefficient) refl (normal_of n 0 n.exponent d stays)

same_pos : (m n : ℕ) → pos m ≡ pos n → m ≡ n
same_pos m n e = cc

less_nothing : (x : ℤ) → x ≡ x -ℤ pos 0
less_nothing x = omega (arith, ints)

-- digits that make a decimal's coefficient, and zeros behind these
digits_fit : (n : Number) → IsDecimal n → IsWritten n.coefficient (decimal n.coefficient)
digits_fit n d = let below = d.bounded in written n.coefficient (omega arith)

integer_written : (n : ℕ) → n < 10 ^ 64 → IsInteger (decimal n)
integer_written n h =
    let w = written n h in
    record {
      some = w.some;
      leading = λ front. elim (cases_eq n 0) [ inl none ↦ ap (λ t. length (decimal t)) none ∙ ap length zero_written | inr some ↦ absurd (w.first (omega arith) front) ];
      digits = w.digits;
    }

power_written : (n : ℕ) → n < 1000 → IsPower (decimal n)
power_written n h = record {
  some = (written n (omega arith)).some;
  few = few_digits n 3 (omega arith) (omega arith) (omega arith);
  digits = (written n (omega arith)).digits;
}

-- ---- with an exponent of 0 or more
whole_plain : (n : Number) (power : ℕ) → IsDecimal n → n.exponent ≡ pos power → length (decimal n.coefficient) + power ≤ 38 → IsLiteralOf (minus_bytes n.negative ++ (decimal n.coefficient ++ replicate power 48)) n
whole_plain n power d e few =
    let w = digits_fit n d in
    let some = w.some in
    let ds = decimal n.coefficient in
    let both : length (ds ++ replicate power 48) ≡ length ds + power = length-append ds (replicate power 48) ∙ ap (λ t. length ds + t) (length-replicate power 48) in
    let front : slice_index (ds ++ replicate power 48) 0 ≡ slice_index ds 0 = get_or_append_left ds (replicate power 48) 0 0 some in
    let leading : slice_index (ds ++ replicate power 48) 0 ≡ 48 → length (ds ++ replicate power 48) ≡ 1 = λ h. elim (cases_eq n.coefficient 0) [
      | inl none ↦ (let one : length ds ≡ 1 = ap (λ t. length (decimal t)) none ∙ ap length zero_written in
          let nothing : power ≡ 0 = same_pos power 0 (sym e ∙ (d.zero none).1) in omega arith)
      | inr positive ↦ absurd (w.first (omega arith) (sym front ∙ h))
    ] in
    let value : n.coefficient * 10 ^ power ≡ value_after 0 ((ds ++ replicate power 48) ++ []) =
    sym (ap (value_after 0) (append-nil (ds ++ replicate power 48)) ∙ value-append 0 ds (replicate power 48) ∙ value-zeros_after (value_after 0 ds) power ∙ ap (λ t. t * 10 ^ power) w.value) in
    record {
      literal = record { negative = n.negative; integer = ds ++ replicate power 48; fraction = []; exponent = None };
      is = record {
        integer = record { some = omega arith; leading = leading; digits = AreDigits-append ds (replicate power 48) w.digits (AreDigits-zeros power) };
        fraction = tt;
        exponent = tt;
        few = omega arith;
      };
      spelled = ap (λ t. minus_bytes n.negative ++ t) (sym (append-nil (ds ++ replicate power 48)));
      stands = moved refl value refl (normal_of n power (pos 0) d (e ∙ ap pos (sym (zero-add power))));
    }

-- the coefficient's digits with an exponent behind
marked : (n : Number) (sign : Sign) (power : ℕ) → IsDecimal n → n.exponent ≡ signed_exponent sign power → power ≤ 900 → IsLiteralOf (minus_bytes n.negative ++ (decimal n.coefficient ++ 101 ∷ (sign_bytes sign ++ decimal power))) n
marked n sign power d e low =
    let below = d.bounded in
    let ds = decimal n.coefficient in
    let w = digits_fit n d in
    let exact : value_after 0 (decimal power) ≡ power = (written power (omega arith)).value in
    let value : n.coefficient ≡ value_after 0 (ds ++ []) = sym (ap (value_after 0) (append-nil ds) ∙ w.value) in
    let place : n.exponent ≡ signed_exponent sign (value_after 0 (decimal power)) -ℤ pos 0 = e ∙ ap (signed_exponent sign) (sym exact) ∙ less_nothing (signed_exponent sign (value_after 0 (decimal power))) in
    record {
      literal = record { negative = n.negative; integer = ds; fraction = []; exponent = Some (record { mark = 101; sign = sign; digits = decimal power }) };
      is = record {
        integer = integer_written n.coefficient (omega arith);
        fraction = tt;
        exponent = record { mark = inl refl; digits = power_written power (omega arith) };
        few = let few : length ds ≤ 38 = few_digits n.coefficient 38 (omega arith) (omega arith) below in omega arith;
      };
      spelled = refl;
      stands = moved refl value place (normal_of_itself n d);
    }

pub whole_reads_back : (n : Number) (power : ℕ) → IsDecimal n → n.exponent ≡ pos power → IsLiteralOf (minus_bytes n.negative ++ whole_text (decimal n.coefficient) power) n
whole_reads_back n power d e =
    let ds = decimal n.coefficient in
    let P : List ℕ → Type 0 = λ t. IsLiteralOf (minus_bytes n.negative ++ t) n in
    let text : Bool → List ℕ = λ b. if b then ds ++ replicate power 48 else ds ++ 101 ∷ decimal power in
    elim (leb_tells (length ds + power) 38) [
      | inl p ↦ subst P (sym (ap text p.0)) (whole_plain n power d e p.1)
      | inr p ↦ subst P (sym (ap text p.0)) (marked n no_sign power d e (few_places n power d e))
    ]
  where
    few_places : (n : Number) (power : ℕ) → IsDecimal n → n.exponent ≡ pos power → power ≤ 900
    few_places n power d e = let high = d.high in omega (arith, ints)

-- ---- with an exponent below 0
below_zero : (m : ℕ) → negsuc m ≡ pos 0 -ℤ pos (suc m)
below_zero m = omega (arith, ints)

some_coefficient : (n : Number) (m : ℕ) → IsDecimal n → n.exponent ≡ negsuc m → 0 < n.coefficient
some_coefficient n m d e = elim (cases_eq n.coefficient 0) [
  | inl none ↦ absurd (other_sign m 0 (sym e ∙ (d.zero none).1))
  | inr some ↦ omega arith
]
  where
    other_sign : (m k : ℕ) → negsuc m ≡ pos k → ⊥
    other_sign m k e = cc

fraction_pointed : (n : Number) (m : ℕ) → IsDecimal n → n.exponent ≡ negsuc m → suc m < length (decimal n.coefficient)
    → IsLiteralOf (minus_bytes n.negative ++ (take (length (decimal n.coefficient) - suc m) (decimal n.coefficient) ++ 46 ∷ drop (length (decimal n.coefficient) - suc m) (decimal n.coefficient))) n
fraction_pointed n m d e h =
    let below = d.bounded in
    let ds = decimal n.coefficient in
    let k = length ds - suc m in
    let w = digits_fit n d in
    let front : length (take k ds) ≡ k = length-take-le k ds (omega arith) in
    let back : length (drop k ds) ≡ suc m = length-drop k ds ∙ same_places (length ds) m h in
    let some : 0 < length (drop k ds) = omega arith in
    let few : length ds ≤ 38 = few_digits n.coefficient 38 (omega arith) (omega arith) below in
    let first : slice_index (take k ds) 0 ≡ slice_index ds 0 = get_or-take k ds 0 0 (omega arith) in
    let value : n.coefficient ≡ value_after 0 (take k ds ++ drop k ds) = sym (ap (value_after 0) (take-append-drop k ds) ∙ w.value) in
    let place : n.exponent ≡ pos 0 -ℤ pos (length (drop k ds)) = e ∙ below_zero m ∙ ap (λ t. pos 0 -ℤ pos t) (sym back) in
    record {
      literal = record { negative = n.negative; integer = take k ds; fraction = drop k ds; exponent = None };
      is = record {
        integer = record { some = omega arith; leading = λ zero'. absurd (w.first (some_coefficient n m d e) (sym first ∙ zero')); digits = AreDigits-take k ds w.digits };
        fraction = AreDigits-drop k ds w.digits;
        exponent = tt;
        few = omega arith;
      };
      spelled = ap (λ t. minus_bytes n.negative ++ (take k ds ++ t)) (sym (append-nil (fraction_bytes (drop k ds)) ∙ fraction_bytes-some (drop k ds) some));
      stands = moved refl value place (normal_of_itself n d);
    }
  where
    same_places : (l m : ℕ) → suc m < l → l - (l - suc m) ≡ suc m
    same_places l m h = omega arith

fraction_zeros : (n : Number) (m : ℕ) → IsDecimal n → n.exponent ≡ negsuc m → length (decimal n.coefficient) ≤ suc m → suc m ≤ 37
    → IsLiteralOf (minus_bytes n.negative ++ (48 ∷ 46 ∷ (replicate (suc m - length (decimal n.coefficient)) 48 ++ decimal n.coefficient))) n
fraction_zeros n m d e long few =
    let ds = decimal n.coefficient in
    let zs : List ℕ = replicate (suc m - length ds) 48 in
    let w = digits_fit n d in
    let whole : length (zs ++ ds) ≡ suc m = length-append zs ds ∙ ap (λ t. t + length ds) (length-replicate (suc m - length ds) 48) ∙ same_places (length ds) m long in
    let some : 0 < length (zs ++ ds) = omega arith in
    let value : n.coefficient ≡ value_after 0 (zs ++ ds) = sym (value-zeros_before (suc m - length ds) ds ∙ w.value) in
    let place : n.exponent ≡ pos 0 -ℤ pos (length (zs ++ ds)) = e ∙ below_zero m ∙ ap (λ t. pos 0 -ℤ pos t) (sym whole) in
    record {
      literal = record { negative = n.negative; integer = 48 ∷ []; fraction = zs ++ ds; exponent = None };
      is = record {
        integer = record { some = omega arith; leading = λ zero'. refl; digits = (record { low = omega arith; high = omega arith }, tt) };
        fraction = AreDigits-append zs ds (AreDigits-zeros (suc m - length ds)) w.digits;
        exponent = tt;
        few = omega arith;
      };
      spelled = ap (λ t. minus_bytes n.negative ++ (48 ∷ t)) (sym (append-nil (fraction_bytes (zs ++ ds)) ∙ fraction_bytes-some (zs ++ ds) some));
      stands = moved refl value place (normal_of_itself n d);
    }
  where
    same_places : (l m : ℕ) → l ≤ suc m → (suc m - l) + l ≡ suc m
    same_places l m h = omega arith

pub fraction_reads_back : (n : Number) (m : ℕ) → IsDecimal n → n.exponent ≡ negsuc m → IsLiteralOf (minus_bytes n.negative ++ fraction_text (decimal n.coefficient) (suc m)) n
fraction_reads_back n m d e =
    let ds = decimal n.coefficient in
    let k = length ds - suc m in
    let P : List ℕ → Type 0 = λ t. IsLiteralOf (minus_bytes n.negative ++ t) n in
    let text : Bool → Bool → List ℕ = λ b c. if b then take k ds ++ 46 ∷ drop k ds else if c then 48 ∷ 46 ∷ (replicate (suc m - length ds) 48 ++ ds) else ds ++ 101 ∷ 45 ∷ decimal (suc m) in
    elim (leb_tells (suc (suc m)) (length ds)) [
      | inl p ↦ subst P (sym (ap (λ b. text b (nat_le (suc m) 37)) p.0)) (fraction_pointed n m d e p.1)
      | inr p ↦ elim (leb_tells (suc m) 37) [
        | inl q ↦ subst P (sym (ap₂ text p.0 q.0)) (fraction_zeros n m d e (omega arith) q.1)
        | inr q ↦ subst P (sym (ap₂ text p.0 q.0)) (marked n minus (suc m) d e (few_places n m d e))
      ]
    ]
  where
    few_places : (n : Number) (m : ℕ) → IsDecimal n → n.exponent ≡ negsuc m → suc m ≤ 900
    few_places n m d e = let low = d.low in omega (arith, ints)

pub reads_back : (n : Number) → IsDecimal n → IsLiteralOf (text_of n) n
reads_back n d = by_exponent n.exponent refl
  where
    by_exponent : (x : ℤ) → n.exponent ≡ x → IsLiteralOf (minus_bytes n.negative ++ size_text (decimal n.coefficient) n.exponent) n
    by_exponent (pos k) e = let P : ℤ → Type 0 = λ t. IsLiteralOf (minus_bytes n.negative ++ size_text (decimal n.coefficient) t) n in subst P (sym e) (whole_reads_back n k d e)
    by_exponent (negsuc k) e = let P : ℤ → Type 0 = λ t. IsLiteralOf (minus_bytes n.negative ++ size_text (decimal n.coefficient) t) n in subst P (sym e) (fraction_reads_back n k d e)

pub is_decimal : (d : Decimal) → IsDecimal (number_of d)
is_decimal d = record { bounded = d.bounded; trimmed = d.trimmed; low = d.least; high = d.most; zero = d.zero }

pub decimal_reads_back : (d : Decimal) → IsLiteralOf (text_of (number_of d)) (number_of d)
decimal_reads_back d = reads_back (number_of d) (is_decimal d)
