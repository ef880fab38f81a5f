-- The parts of a literal, found again in its spelling.
use Rattle.std.proofs.Common.{◌≡◌, ◌≢◌, ℕ, ◌+◌, ◌*◌, ◌-◌, ◌<◌, ◌≤◌, Bool, true, false, ◌⊎◌, inl, inr, List, [], ◌∷◌, ◌++◌, length, slice_index, refl, ap, sym, ◌∙◌, subst, arith, if◌then◌else◌, ◌==◌, Option, Some, None, IfSome, MatchOption, ℤ, pos, ◌-ℤ◌, ne_eqb, ap₂}
use Rattle.std.proofs.lemmas.Bool.Decides.{eqb_tells}
use Rattle.json_decimal.specs.Literal.{Literal, Exponent, IsLiteral, IsDigit, AreDigits, IsInteger, IsExponent, spelling, minus_bytes, fraction_bytes, exponent_bytes, exponent_value, sign_bytes, signed_exponent, value_after, scale}
use Rattle.json_decimal.specs.Machinery.Digits.{is_digit, digits_at_front, after, StartsNoDigit, fraction_at, rest_at, HasNoFraction, unsigned, starts_with_minus}
use Rattle.json_decimal.specs.Machinery.Reading.{IsSignedPower, IsExponentOf, IsTail, IsScanned}
use Rattle.json_decimal.proofs.Runs.{run-append, after-append, run_after, run-AreDigits, digit_cases, run-digit}

-- ---- the exponent
pub no_digit-mark : (mark : ℕ) → (mark ≡ 101) ⊎ (mark ≡ 69) → IsDigit mark → ⊥
no_digit-mark mark m d = let h = d.high in elim m [ inl e ↦ omega arith | inr e ↦ omega arith ]

pub no_digit-exponent : (x : Option Exponent) → IfSome x IsExponent → StartsNoDigit (exponent_bytes x)
no_digit-exponent None h = tt
no_digit-exponent (Some x) h = no_digit-mark x.mark h.mark

pub no_point-mark : (mark : ℕ) → (mark ≡ 101) ⊎ (mark ≡ 69) → (mark == 46) ≡ false
no_point-mark mark m = elim m [ inl e ↦ rw e refl | inr e ↦ rw e refl ]

power_behind_mark : (bytes rest : List ℕ) (mark : ℕ) (power : ℤ) → bytes ≡ mark ∷ rest → IsExponentOf bytes power → ((n : ℤ) → IsSignedPower rest n → ⊥) → ⊥
power_behind_mark bytes rest mark power e x wrong = power_of_parts rest mark x.exponent x.is (sym e ∙ x.spelled) wrong
  where
    power_of_parts : (rest : List ℕ) (mark : ℕ) (x : Option Exponent) → IfSome x IsExponent → mark ∷ rest ≡ exponent_bytes x → ((n : ℤ) → IsSignedPower rest n → ⊥) → ⊥
    power_of_parts rest mark None h e wrong = cc
    power_of_parts rest mark (Some x) h e wrong = wrong (signed_exponent x.sign (value_after 0 x.digits)) (record { sign = x.sign; digits = x.digits; is = h.digits; spelled = cc; value = refl })

-- what the reader of the power answers, behind the mark
pub exponent_by_power : (bytes rest : List ℕ) (mark : ℕ) (r : Option ℤ) → bytes ≡ mark ∷ rest → (mark ≡ 101) ⊎ (mark ≡ 69)
    → MatchOption r ((power : ℤ) → IsSignedPower rest power → ⊥) (λ power. IsSignedPower rest power)
    → MatchOption r ((power : ℤ) → IsExponentOf bytes power → ⊥) (λ power. IsExponentOf bytes power)
exponent_by_power bytes rest mark None e m h = λ power x. power_behind_mark bytes rest mark power e x h
exponent_by_power bytes rest mark (Some power) e m h = record {
  exponent = Some (record { mark = mark; sign = h.sign; digits = h.digits });
  is = record { mark = m; digits = h.is };
  spelled = e ∙ ap (λ t. mark ∷ t) h.spelled;
  value = h.value;
}

-- ---- the fraction
pub fraction-spelled : (f : List ℕ) (x : Option Exponent) → AreDigits f → IfSome x IsExponent → fraction_at (fraction_bytes f ++ exponent_bytes x) ≡ f
fraction-spelled [] None p h = refl
fraction-spelled [] (Some x) p h = ap (λ t. if t then digits_at_front (sign_bytes x.sign ++ x.digits) else []) (no_point-mark x.mark h.mark)
fraction-spelled (b ∷ bs) x p h = run-append (b ∷ bs) (exponent_bytes x) p (no_digit-exponent x h)

pub rest-spelled : (f : List ℕ) (x : Option Exponent) → AreDigits f → IfSome x IsExponent → rest_at (fraction_bytes f ++ exponent_bytes x) ≡ exponent_bytes x
rest-spelled [] None p h = refl
rest-spelled [] (Some x) p h = ap (λ t. if t then after (sign_bytes x.sign ++ x.digits) else exponent_bytes (Some x)) (no_point-mark x.mark h.mark)
rest-spelled (b ∷ bs) x p h = after-append (b ∷ bs) (exponent_bytes x) p (no_digit-exponent x h)

pub has_fraction : (count : ℕ) (f : List ℕ) (x : Option Exponent) → AreDigits f → IfSome x IsExponent → count + length f ≤ 38 → HasNoFraction count (fraction_bytes f ++ exponent_bytes x) → ⊥
has_fraction count [] None p h few wrong = wrong
has_fraction count [] (Some x) p h few wrong = elim h.mark [ inl e ↦ absurd (omega arith) | inr e ↦ absurd (omega arith) ]
has_fraction count (b ∷ bs) x p h few wrong =
    let whole : digits_at_front ((b ∷ bs) ++ exponent_bytes x) ≡ b ∷ bs = run-append (b ∷ bs) (exponent_bytes x) p (no_digit-exponent x h) in
    elim wrong.1 [ inl e ↦ cc | inr more ↦ omega (arith, ap length whole) ]

pub no_tail : (bytes : List ℕ) (count n value : ℕ) (power : ℤ) → HasNoFraction count bytes → IsTail bytes count n value power → ⊥
no_tail bytes count n value power wrong t = has_fraction count t.fraction t.exponent t.digits t.is t.few (rw (← t.spelled) wrong)

-- the exponent of a tail is what follows its fraction
pub tail-exponent : (bytes rest : List ℕ) (count n value : ℕ) (power : ℤ) → rest ≡ rest_at bytes → (t : IsTail bytes count n value power) → IsExponentOf rest (exponent_value t.exponent)
tail-exponent bytes rest count n value power e t = record {
  exponent = t.exponent;
  is = t.is;
  spelled = e ∙ ap rest_at t.spelled ∙ rest-spelled t.fraction t.exponent t.digits t.is;
  value = refl;
}

pub tail_found : (bytes rest : List ℕ) (count n value : ℕ) (power scale : ℤ) (number : ℕ) → rest ≡ rest_at bytes → bytes ≡ fraction_bytes (fraction_at bytes) ++ rest_at bytes
    → AreDigits (fraction_at bytes) → number ≡ count + length (fraction_at bytes) → number ≤ 38 → value ≡ value_after n (fraction_at bytes)
    → IsExponentOf rest power → scale ≡ power -ℤ pos (length (fraction_at bytes)) → IsTail bytes count n value scale
tail_found bytes rest count n value power scale number e s d c few v x p = record {
  fraction = fraction_at bytes;
  exponent = x.exponent;
  digits = d;
  is = x.is;
  few = omega arith;
  spelled = s ∙ ap (λ t. fraction_bytes (fraction_at bytes) ++ t) (sym e ∙ x.spelled);
  value_is = v;
  power_is = p ∙ ap (λ t. t -ℤ pos (length (fraction_at bytes))) x.value;
}

pub fraction_bytes-some : (ds : List ℕ) → 0 < length ds → fraction_bytes ds ≡ 46 ∷ ds
fraction_bytes-some [] h = absurd (omega arith)
fraction_bytes-some (d ∷ ds) h = refl

-- what the reader of a fraction answers, over its digits
abbrev pub FractionFound : List ℕ → List ℕ → ℕ → ℕ → ℕ → ℕ → Type 0
FractionFound bytes rest n value count number = (value ≡ value_after n (fraction_at bytes)) × (number ≡ count + length (fraction_at bytes)) × (rest ≡ rest_at bytes)
    × AreDigits (fraction_at bytes) × (bytes ≡ fraction_bytes (fraction_at bytes) ++ rest_at bytes)

pub fraction_found : (bytes behind rest : List ℕ) (first n value count number : ℕ) → bytes ≡ first ∷ behind → first ≡ 46 → value ≡ value_after n (digits_at_front behind)
    → number ≡ count + length (digits_at_front behind) → rest ≡ after behind → number ≢ count → FractionFound bytes rest n value count number
fraction_found bytes behind rest first n value count number e p v c r some =
    let whole : bytes ≡ 46 ∷ behind = e ∙ ap (λ t. t ∷ behind) p in
    let P : List ℕ → Type 0 = λ bs. FractionFound bs rest n value count number in
    let more : 0 < length (digits_at_front behind) = omega arith in
    let spelled : 46 ∷ behind ≡ fraction_bytes (digits_at_front behind) ++ after behind = ap (λ t. 46 ∷ t) (sym (run_after behind)) ∙ ap (λ t. t ++ after behind) (sym (fraction_bytes-some (digits_at_front behind) more)) in
    subst P (sym whole) (v, c, r, run-AreDigits behind, spelled)

-- ---- the integer digits
pub run-first : (bs : List ℕ) → 0 < length (digits_at_front bs) → slice_index (digits_at_front bs) 0 ≡ slice_index bs 0
run-first [] h = refl
run-first (b ∷ bs) h = elim (digit_cases b) [ inl p ↦ ap (λ t. slice_index t 0) (run-digit b bs p.1) | inr e ↦ absurd (run_is_empty b bs e h) ]
  where
    run_is_empty : (b : ℕ) (bs : List ℕ) → is_digit b ≡ false → 0 < length (digits_at_front (b ∷ bs)) → ⊥
    run_is_empty b bs e h = let none' : length (digits_at_front (b ∷ bs)) ≡ 0 = ap (λ t. length (if t then b ∷ digits_at_front bs else [])) e in omega arith

pub integer_found : (bytes : List ℕ) (count : ℕ) → count ≡ length (digits_at_front bytes) → count ≢ 0 → (slice_index bytes 0 ≡ 48 → count ≤ 1) → IsInteger (digits_at_front bytes)
integer_found bytes count c some leading = record {
  some = omega arith;
  leading = λ e. let one : count ≤ 1 = leading (sym (run-first bytes (omega arith)) ∙ e) in omega arith;
  digits = run-AreDigits bytes;
}

-- ---- the whole
pub no_digit-fraction : (f : List ℕ) (x : Option Exponent) → IfSome x IsExponent → StartsNoDigit (fraction_bytes f ++ exponent_bytes x)
no_digit-fraction [] x h = no_digit-exponent x h
no_digit-fraction (b ∷ bs) x h = λ d. let low = d.low in omega arith

pub minus_unsigned : (bs : List ℕ) → minus_bytes (starts_with_minus bs) ++ unsigned bs ≡ bs
minus_unsigned [] = refl
minus_unsigned (b ∷ bs) = elim (eqb_tells b 45) [ inl p ↦ rw p.0 (ap (λ t. t ∷ bs) (sym p.1)) | inr p ↦ rw p.0 refl ]

-- no minus stands before digits
pub no_minus : (ds bs : List ℕ) → IsInteger ds → (starts_with_minus (ds ++ bs) ≡ false) × (unsigned (ds ++ bs) ≡ ds ++ bs)
no_minus [] bs h = absurd (let some = h.some in omega arith)
no_minus (d ∷ ds) bs h =
    let low = h.digits.0.low in
    let other : (d == 45) ≡ false = ne_eqb d 45 (omega arith) in
    (other, ap (λ t. if t then ds ++ bs else d ∷ (ds ++ bs)) other)

abbrev pub tail_bytes : Literal → List ℕ
tail_bytes l = fraction_bytes l.fraction ++ exponent_bytes l.exponent

pub minus-spelled : (l : Literal) → IsLiteral l → starts_with_minus (spelling l) ≡ l.negative
minus-spelled l h = elim l.negative as (λ n. starts_with_minus (minus_bytes n ++ (l.integer ++ tail_bytes l)) ≡ n) [
  | true ↦ refl
  | false ↦ (no_minus l.integer (tail_bytes l) h.integer).0
]

pub unsigned-spelled : (l : Literal) → IsLiteral l → unsigned (spelling l) ≡ l.integer ++ tail_bytes l
unsigned-spelled l h = elim l.negative as (λ n. unsigned (minus_bytes n ++ (l.integer ++ tail_bytes l)) ≡ l.integer ++ tail_bytes l) [
  | true ↦ refl
  | false ↦ (no_minus l.integer (tail_bytes l) h.integer).1
]

pub integer-spelled : (l : Literal) → IsLiteral l → digits_at_front (unsigned (spelling l)) ≡ l.integer
integer-spelled l h = ap digits_at_front (unsigned-spelled l h) ∙ run-append l.integer (tail_bytes l) h.integer.digits (no_digit-fraction l.fraction l.exponent h.exponent)

pub tail-spelled : (l : Literal) → IsLiteral l → after (unsigned (spelling l)) ≡ tail_bytes l
tail-spelled l h = ap after (unsigned-spelled l h) ∙ after-append l.integer (tail_bytes l) h.integer.digits (no_digit-fraction l.fraction l.exponent h.exponent)

pub value-append : (n : ℕ) (xs ys : List ℕ) → value_after n (xs ++ ys) ≡ value_after (value_after n xs) ys
value-append n [] ys = refl
value-append n (x ∷ xs) ys = value-append (n * 10 + (x - 48)) xs ys

-- a literal has integer digits
pub integer_of_literal : (bytes u : List ℕ) → u ≡ unsigned bytes → (IsInteger (digits_at_front u) → length (digits_at_front u) ≤ 38 → ⊥) → (l : Literal) → IsLiteral l → bytes ≡ spelling l → ⊥
integer_of_literal bytes u e wrong l h s =
    let integer : digits_at_front u ≡ l.integer = ap digits_at_front e ∙ ap (λ t. digits_at_front (unsigned t)) s ∙ integer-spelled l h in
    let few = h.few in
    wrong (rw integer h.integer) (omega (arith, ap length integer))

-- and a tail
pub tail_of_literal : (bytes u rest : List ℕ) (count n : ℕ) → u ≡ unsigned bytes → rest ≡ after u → count ≡ length (digits_at_front u) → n ≡ value_after 0 (digits_at_front u)
    → ((value : ℕ) (power : ℤ) → IsTail rest count n value power → ⊥) → (l : Literal) → IsLiteral l → bytes ≡ spelling l → ⊥
tail_of_literal bytes u rest count n e r c v wrong l h s =
    let integer : digits_at_front u ≡ l.integer = ap digits_at_front e ∙ ap (λ t. digits_at_front (unsigned t)) s ∙ integer-spelled l h in
    let few = h.few in
    wrong (value_after n l.fraction) (scale l) (record {
      fraction = l.fraction;
      exponent = l.exponent;
      digits = h.fraction;
      is = h.exponent;
      few = omega (arith, ap length integer);
      spelled = r ∙ ap after e ∙ ap (λ t. after (unsigned t)) s ∙ tail-spelled l h;
      value_is = refl;
      power_is = refl;
    })

pub literal_found : (bytes u rest : List ℕ) (negative : Bool) (count n value : ℕ) (power : ℤ) → negative ≡ starts_with_minus bytes → u ≡ unsigned bytes → rest ≡ after u
    → count ≡ length (digits_at_front u) → n ≡ value_after 0 (digits_at_front u) → IsInteger (digits_at_front u) → IsTail rest count n value power → IsScanned bytes negative value power
literal_found bytes u rest negative count n value power m e r c v i t = record {
  literal = record { negative = negative; integer = digits_at_front u; fraction = t.fraction; exponent = t.exponent };
  is = record { integer = i; fraction = t.digits; exponent = t.is; few = let few = t.few in omega arith };
  spelled = sym (minus_unsigned bytes) ∙ ap₂ (λ n t. minus_bytes n ++ t) (sym m) (sym e ∙ sym (run_after u) ∙ ap (λ t. digits_at_front u ++ t) (sym r ∙ t.spelled));
  sign_is = refl;
  value_is = t.value_is ∙ ap (λ k. value_after k t.fraction) v ∙ sym (value-append 0 (digits_at_front u) t.fraction);
  power_is = t.power_is;
}
