-- Numbers, byte by byte.
use Rattle.std.proofs.Common.{◌≡◌, ℕ, zero, suc, ◌+◌, ◌≤◌, List, [], ◌∷◌, ◌++◌, length, Option, Some, None, IfSome, Bool, true, false, cond, ◌&&◌, nat_eq, nat_le, ◌⊎◌, inl, inr, refl, ap, sym, subst, arith, rules, append-nil, append_assoc}
use Rattle.json_decimal.specs.Literal.{Sign, no_sign, plus, minus, Exponent, IsDigit, AreDigits, IsInteger, IsPower, IsExponent, sign_bytes, minus_bytes, fraction_bytes, exponent_bytes}
use Rattle.json_tree.specs.Values.{Raw, number}
use Rattle.json_tree.specs.Grammar.{IsSpace, IsNumber}
use Rattle.json_read.specs.Machinery.Automaton.{Frame, Part, behind_minus, behind_zero, in_integer, behind_point, in_fraction, behind_mark, behind_sign, in_power, in_number, number_step, number_next, number_end, may_end, at_mark, at_digit, after_step, value_at_end, number_at_end}
use Rattle.json_read.specs.Machinery.Remains.{IsNumberRest, Remains, Follows, After}
use Rattle.json_read.specs.Machinery.Steps.{Forward, Backward, EndsForward, EndsBackward}
use Rattle.json_tree.proofs.Choices.{choose, chosen, is_byte, no_byte, is_within, not_within}
use Rattle.json_read.proofs.Structure.{after_first, fwd-after, back-after, fwd_end-after, back_end-after}

-- The rest of a number behind a step; nothing remains where the number goes no further.
abbrev Leads : Option Part → List ℕ → Type 0
Leads None bytes = ⊥
Leads (Some part) bytes = IsNumberRest part bytes

-- ---- the exponent
abbrev IsMark : ℕ → Type 0
IsMark b = (b ≡ 101) ⊎ (b ≡ 69)

exponent_first : (x : Option Exponent) (b : ℕ) (bytes : List ℕ) → IfSome x IsExponent → b ∷ bytes ≡ exponent_bytes x → IsMark b × IsNumberRest behind_mark bytes
exponent_first None b bytes h e = absurd cc
exponent_first (Some x) b bytes h e =
    let head : b ≡ x.mark = cc in
    let rest : bytes ≡ sign_bytes x.sign ++ x.digits = cc in
    (subst IsMark (sym head) h.mark, (x.sign, x.digits, h.digits, rest))

exponent_behind : (b : ℕ) (bytes : List ℕ) → IsMark b → IsNumberRest behind_mark bytes → (x : Option Exponent) × IfSome x IsExponent × (b ∷ bytes ≡ exponent_bytes x)
exponent_behind b bytes m h = (Some (record { mark = b; sign = h.0; digits = h.1 }), record { mark = m; digits = h.2 }, ap (λ (bs : List ℕ). b ∷ bs) h.3)

fwd-at_mark : (b : ℕ) (bytes : List ℕ) → IsMark b → IsNumberRest behind_mark bytes → Leads (at_mark b) bytes
fwd-at_mark b bytes (inl e) h = subst (λ c. Leads (at_mark c) bytes) (sym e) h
fwd-at_mark b bytes (inr e) h = subst (λ c. Leads (at_mark c) bytes) (sym e) h

back-at_mark : (b : ℕ) (bytes : List ℕ) → Leads (at_mark b) bytes → IsMark b × IsNumberRest behind_mark bytes
back-at_mark b bytes h =
    elim (chosen (λ o. Leads o bytes) (nat_eq b 101) (Some behind_mark) _ h) [
      | inl c1 ↦ (inl (is_byte b 101 c1.0), c1.1)
      | inr c1 ↦ elim (chosen (λ o. Leads o bytes) (nat_eq b 69) (Some behind_mark) None c1.1) [
        | inl c2 ↦ (inr (is_byte b 69 c2.0), c2.1)
        | inr c2 ↦ absurd c2.1
      ]
    ]

-- an exponent mark is no digit and no point
no_digit-mark : (b : ℕ) → IsMark b → (nat_le 48 b && nat_le b 57) ≡ false
no_digit-mark b (inl e) = subst (λ (c : ℕ). (nat_le 48 c && nat_le c 57) ≡ false) (sym e) refl
no_digit-mark b (inr e) = subst (λ (c : ℕ). (nat_le 48 c && nat_le c 57) ≡ false) (sym e) refl

-- ---- digits
fwd-at_digit : (b : ℕ) (part : Part) (other : Option Part) (bytes : List ℕ) → IsDigit b → IsNumberRest part bytes → Leads (at_digit b part other) bytes
fwd-at_digit b part other bytes d h =
    choose (λ o. Leads o bytes) (nat_le 48 b && nat_le b 57) (Some part) other (λ c. h) (λ c. absurd (not_within b 48 57 c d.low d.high))

skip-at_digit : (b : ℕ) (part : Part) (other : Option Part) (bytes : List ℕ) → (nat_le 48 b && nat_le b 57) ≡ false → Leads other bytes → Leads (at_digit b part other) bytes
skip-at_digit b part other bytes e h = rw e h

back-at_digit : (b : ℕ) (part : Part) (other : Option Part) (bytes : List ℕ) → Leads (at_digit b part other) bytes → (IsDigit b × IsNumberRest part bytes) ⊎ Leads other bytes
back-at_digit b part other bytes h =
    elim (chosen (λ o. Leads o bytes) (nat_le 48 b && nat_le b 57) (Some part) other h) [
      | inl c ↦ let r = is_within b 48 57 c.0 in inl (record { low = r.0; high = r.1 }, c.1)
      | inr c ↦ inr c.1
    ]

digit_head : (b d : ℕ) → b ≡ d → IsDigit d → IsDigit b
digit_head b d e h = subst (λ (c : ℕ). IsDigit c) (sym e) h

-- ---- the fraction and the exponent
-- so many digits at most behind the point
abbrev IsTail : ℕ → List ℕ → Type 0
IsTail n rest = (fs : List ℕ) × (x : Option Exponent) × AreDigits fs × IfSome x IsExponent × (length fs ≤ n) × (rest ≡ fraction_bytes fs ++ exponent_bytes x)

-- a point and then a digit, or a mark
abbrev GoesOnTail : ℕ → ℕ → List ℕ → Type 0
GoesOnTail n b bytes = ((m : ℕ) × (n ≡ suc m) × (b ≡ 46) × IsNumberRest (behind_point m) bytes) ⊎ (IsMark b × IsNumberRest behind_mark bytes)

fwd-tail : (n b : ℕ) (bytes fs : List ℕ) (x : Option Exponent) → AreDigits fs → IfSome x IsExponent → length fs ≤ n
    → b ∷ bytes ≡ fraction_bytes fs ++ exponent_bytes x → GoesOnTail n b bytes
fwd-tail n b bytes [] x p q few e = inr (exponent_first x b bytes q e)
fwd-tail zero b bytes (f ∷ fs) x p q few e = absurd (omega arith)
fwd-tail (suc n) b bytes (f ∷ fs) x p q few e =
    let head : b ≡ 46 = cc in
    let rest : bytes ≡ f ∷ (fs ++ exponent_bytes x) = cc in
    inl (n, refl, head, (f, fs, x, p, q, omega arith, rest))

back-tail_point : (n : ℕ) (b : ℕ) (bytes : List ℕ) → b ≡ 46 → IsNumberRest (behind_point n) bytes → IsTail (suc n) (b ∷ bytes)
back-tail_point n b bytes e h =
    let whole : b ∷ bytes ≡ 46 ∷ h.0 ∷ (h.1 ++ exponent_bytes h.2) = rw (e, h.6) refl in
    (h.0 ∷ h.1, h.2, h.3, h.4, omega (arith, h.5), whole)

back-tail_mark : (n : ℕ) (b : ℕ) (bytes : List ℕ) → IsMark b → IsNumberRest behind_mark bytes → IsTail n (b ∷ bytes)
back-tail_mark n b bytes m h =
    let x = exponent_behind b bytes m h in
    ([], x.0, tt, x.1, omega arith, x.2)

-- ---- the first digit
one_digit : (d : ℕ) (ds : List ℕ) → length (d ∷ ds) ≡ 1 → ds ≡ []
one_digit d [] e = refl
one_digit d (c ∷ ds) e = absurd (omega (arith, e))

-- the first digit of an integer is 0 and stands alone, or it is 1 to 9
abbrev StartsInteger : ℕ → List ℕ → Type 0
StartsInteger b bytes = ((b ≡ 48) × IsNumberRest behind_zero bytes) ⊎ ((49 ≤ b) × (b ≤ 57) × IsNumberRest (in_integer 37) bytes)

starts_with : (b : ℕ) (bytes ds fs : List ℕ) (x : Option Exponent) → IsInteger ds → AreDigits fs → IfSome x IsExponent
    → length ds + length fs ≤ 38 → b ∷ bytes ≡ ds ++ (fraction_bytes fs ++ exponent_bytes x) → StartsInteger b bytes
starts_with b bytes [] fs x i p q few e = absurd (let some = i.some in omega arith)
starts_with b bytes (d ∷ ds) fs x i p q few e =
    let head : b ≡ d = cc in
    let rest : bytes ≡ ds ++ (fraction_bytes fs ++ exponent_bytes x) = cc in
    by_test (nat_eq d 48) refl head rest
  where
    by_test : (t : Bool) → nat_eq d 48 ≡ t → b ≡ d → bytes ≡ ds ++ (fraction_bytes fs ++ exponent_bytes x) → StartsInteger b bytes
    by_test true t head rest =
        let same : d ≡ 48 = is_byte d 48 t in
        let none : ds ≡ [] = one_digit d ds (i.leading same) in
        let short : bytes ≡ fraction_bytes fs ++ exponent_bytes x = subst (λ (es : List ℕ). bytes ≡ es ++ (fraction_bytes fs ++ exponent_bytes x)) none rest in
        let here : b ≡ 48 = cc in
        inl (here, (fs, x, p, q, omega arith, short))
    by_test false t head rest =
        let low = i.digits.0.low in
        let high = i.digits.0.high in
        let other : d ≡ 48 → ⊥ = no_byte d 48 t in
        let from : 49 ≤ b = grind arith in
        inr (from, omega arith, (ds, fs, x, i.digits.1, p, q, omega arith, rest))

starts : (b : ℕ) (bytes : List ℕ) → IsNumberRest behind_minus (b ∷ bytes) → StartsInteger b bytes
starts b bytes h = starts_with b bytes h.0 h.1 h.2 h.3 h.4 h.5 h.6 h.7

back-zero : (bytes : List ℕ) → IsNumberRest behind_zero bytes → IsNumberRest behind_minus (48 ∷ bytes)
back-zero bytes h =
    (48 ∷ [], h.0, h.1, record { some = omega arith; leading = λ e. refl; digits = (record { low = omega arith; high = omega arith }, tt) }, h.2, h.3, omega (arith, h.4), ap (λ (bs : List ℕ). 48 ∷ bs) h.5)

back-digit : (b : ℕ) (bytes : List ℕ) → 49 ≤ b → b ≤ 57 → IsNumberRest (in_integer 37) bytes → IsNumberRest behind_minus (b ∷ bytes)
back-digit b bytes p q h =
    (b ∷ h.0, h.1, h.2, record { some = omega arith; leading = λ e. absurd (let same : b ≡ 48 = e in omega arith); digits = (record { low = omega arith; high = q }, h.3) }, h.4, h.5, omega (arith, h.6), ap (λ (bs : List ℕ). b ∷ bs) h.7)

-- A number's first byte, and what remains behind it.
no_number : (negative : Bool) (ds rest : List ℕ) → IsInteger ds → [] ≡ minus_bytes negative ++ (ds ++ rest) → ⊥
no_number true ds rest i e = cc
no_number false [] rest i e = let some = i.some in omega arith
no_number false (d ∷ ds) rest i e = cc

pub number_some : IsNumber [] → ⊥
number_some h = no_number h.0.negative h.0.integer (fraction_bytes h.0.fraction ++ exponent_bytes h.0.exponent) h.1.integer h.2

number_front : (negative : Bool) (b : ℕ) (bytes rest : List ℕ) → b ∷ bytes ≡ minus_bytes negative ++ rest → ((b ≡ 45) × (bytes ≡ rest)) ⊎ (b ∷ bytes ≡ rest)
number_front true b bytes rest e = let head : b ≡ 45 = cc in let same : bytes ≡ rest = cc in inl (head, same)
number_front false b bytes rest e = inr e

pub number_first : (b : ℕ) (bytes : List ℕ) → IsNumber (b ∷ bytes)
    → ((b ≡ 45) × IsNumberRest behind_minus bytes) ⊎ ((b ≡ 48) × IsNumberRest behind_zero bytes)
    ⊎ ((49 ≤ b) × (b ≤ 57) × IsNumberRest (in_integer 37) bytes)
number_first b bytes h =
    let l = h.0 in
    let i = h.1 in
    elim (number_front l.negative b bytes (l.integer ++ (fraction_bytes l.fraction ++ exponent_bytes l.exponent)) h.2) [
      | inl p ↦ inl (p.0, (l.integer, l.fraction, l.exponent, i.integer, i.fraction, i.exponent, i.few, p.1))
      | inr e ↦ elim (starts b bytes (l.integer, l.fraction, l.exponent, i.integer, i.fraction, i.exponent, i.few, e)) [
        | inl p ↦ inr (inl p)
        | inr p ↦ inr (inr p)
      ]
    ]

number_of : (negative : Bool) (bytes : List ℕ) → IsNumberRest behind_minus bytes → IsNumber (minus_bytes negative ++ bytes)
number_of negative bytes h =
    (record { negative = negative; integer = h.0; fraction = h.1; exponent = h.2 }, record { integer = h.3; fraction = h.4; exponent = h.5; few = h.6 }, ap (λ (bs : List ℕ). minus_bytes negative ++ bs) h.7)

pub number_minus : (bytes : List ℕ) → IsNumberRest behind_minus bytes → IsNumber (45 ∷ bytes)
number_minus bytes h = number_of true bytes h

pub number_zero : (bytes : List ℕ) → IsNumberRest behind_zero bytes → IsNumber (48 ∷ bytes)
number_zero bytes h = number_of false (48 ∷ bytes) (back-zero bytes h)

pub number_digit : (b : ℕ) (bytes : List ℕ) → 49 ≤ b → b ≤ 57 → IsNumberRest (in_integer 37) bytes → IsNumber (b ∷ bytes)
number_digit b bytes p q h = number_of false (b ∷ bytes) (back-digit b bytes p q h)

-- ---- one byte more
fwd-tail_step : (n b : ℕ) (bytes : List ℕ) → GoesOnTail (suc n) b bytes → Leads (cond (nat_eq b 46) (Some (behind_point n)) (at_mark b)) bytes
fwd-tail_step n b bytes (inl p) =
    let same : p.0 ≡ n = let e = p.1 in omega arith in
    let h : IsNumberRest (behind_point n) bytes = subst (λ (m : ℕ). IsNumberRest (behind_point m) bytes) same p.3 in
    subst (λ (c : ℕ). Leads (cond (nat_eq c 46) (Some (behind_point n)) (at_mark c)) bytes) (sym p.2) h
fwd-tail_step n b bytes (inr p) =
    choose (λ o. Leads o bytes) (nat_eq b 46) (Some (behind_point n)) (at_mark b) (λ c. absurd (no_point b p.0 (is_byte b 46 c))) (λ c. fwd-at_mark b bytes p.0 p.1)
  where
    no_point : (b : ℕ) → IsMark b → b ≡ 46 → ⊥
    no_point b (inl e) f = omega arith
    no_point b (inr e) f = omega arith

no_digit-tail : (n b : ℕ) (bytes : List ℕ) → GoesOnTail n b bytes → (nat_le 48 b && nat_le b 57) ≡ false
no_digit-tail n b bytes (inl p) = subst (λ (c : ℕ). (nat_le 48 c && nat_le c 57) ≡ false) (sym p.2) refl
no_digit-tail n b bytes (inr p) = no_digit-mark b p.0

back-tail_step : (n b : ℕ) (bytes : List ℕ) → Leads (cond (nat_eq b 46) (Some (behind_point n)) (at_mark b)) bytes → IsTail (suc n) (b ∷ bytes)
back-tail_step n b bytes h =
    elim (chosen (λ o. Leads o bytes) (nat_eq b 46) (Some (behind_point n)) (at_mark b) h) [
      | inl c ↦ back-tail_point n b bytes (is_byte b 46 c.0) c.1
      | inr c ↦ let m = back-at_mark b bytes c.1 in back-tail_mark (suc n) b bytes m.0 m.1
    ]

-- behind the integer's digits
fwd-integer : (n b : ℕ) (bytes : List ℕ) → GoesOnTail n b bytes → Leads (number_step (in_integer n) b) bytes
fwd-integer zero b bytes (inl p) = absurd (let e = p.1 in omega arith)
fwd-integer zero b bytes (inr p) = fwd-at_mark b bytes p.0 p.1
fwd-integer (suc n) b bytes h = skip-at_digit b (in_integer n) _ bytes (no_digit-tail (suc n) b bytes h) (fwd-tail_step n b bytes h)

fwd-integer_step : (n b : ℕ) (bytes ds fs : List ℕ) (x : Option Exponent) → AreDigits ds → AreDigits fs → IfSome x IsExponent → length ds + length fs ≤ n
    → b ∷ bytes ≡ ds ++ (fraction_bytes fs ++ exponent_bytes x) → Leads (number_step (in_integer n) b) bytes
fwd-integer_step n b bytes [] fs x i p q few e = fwd-integer n b bytes (fwd-tail n b bytes fs x p q (omega arith) e)
fwd-integer_step zero b bytes (d ∷ ds) fs x i p q few e = absurd (omega arith)
fwd-integer_step (suc n) b bytes (d ∷ ds) fs x i p q few e =
    let head : b ≡ d = cc in
    let rest : bytes ≡ ds ++ (fraction_bytes fs ++ exponent_bytes x) = cc in
    fwd-at_digit b (in_integer n) _ bytes (digit_head b d head i.0) (ds, fs, x, i.1, p, q, omega arith, rest)

integer_of_tail : (n : ℕ) (rest : List ℕ) → IsTail n rest → IsNumberRest (in_integer n) rest
integer_of_tail n rest t = ([], t.0, t.1, tt, t.2, t.3, omega (arith, t.4), t.5)

back-integer_step : (n b : ℕ) (bytes : List ℕ) → Leads (number_step (in_integer n) b) bytes → IsNumberRest (in_integer n) (b ∷ bytes)
back-integer_step zero b bytes h =
    let m = back-at_mark b bytes h in
    integer_of_tail zero (b ∷ bytes) (back-tail_mark zero b bytes m.0 m.1)
back-integer_step (suc n) b bytes h =
    elim (back-at_digit b (in_integer n) _ bytes h) [
      | inl p ↦ let r = p.1 in (b ∷ r.0, r.1, r.2, (p.0, r.3), r.4, r.5, omega (arith, r.6), ap (λ (bs : List ℕ). b ∷ bs) r.7)
      | inr p ↦ integer_of_tail (suc n) (b ∷ bytes) (back-tail_step n b bytes p)
    ]

-- in the fraction
fwd-fraction_step : (n b : ℕ) (bytes fs : List ℕ) (x : Option Exponent) → AreDigits fs → IfSome x IsExponent → length fs ≤ n
    → b ∷ bytes ≡ fs ++ exponent_bytes x → Leads (number_step (in_fraction n) b) bytes
fwd-fraction_step zero b bytes [] x p q few e = let m = exponent_first x b bytes q e in fwd-at_mark b bytes m.0 m.1
fwd-fraction_step (suc n) b bytes [] x p q few e =
    let m = exponent_first x b bytes q e in
    skip-at_digit b (in_fraction n) (at_mark b) bytes (no_digit-mark b m.0) (fwd-at_mark b bytes m.0 m.1)
fwd-fraction_step zero b bytes (f ∷ fs) x p q few e = absurd (omega arith)
fwd-fraction_step (suc n) b bytes (f ∷ fs) x p q few e =
    let head : b ≡ f = cc in
    let rest : bytes ≡ fs ++ exponent_bytes x = cc in
    fwd-at_digit b (in_fraction n) _ bytes (digit_head b f head p.0) (fs, x, p.1, q, omega arith, rest)

fraction_of_mark : (n b : ℕ) (bytes : List ℕ) → Leads (at_mark b) bytes → IsNumberRest (in_fraction n) (b ∷ bytes)
fraction_of_mark n b bytes h =
    let m = back-at_mark b bytes h in
    let x = exponent_behind b bytes m.0 m.1 in
    ([], x.0, tt, x.1, omega arith, x.2)

back-fraction_step : (n b : ℕ) (bytes : List ℕ) → Leads (number_step (in_fraction n) b) bytes → IsNumberRest (in_fraction n) (b ∷ bytes)
back-fraction_step zero b bytes h = fraction_of_mark zero b bytes h
back-fraction_step (suc n) b bytes h =
    elim (back-at_digit b (in_fraction n) _ bytes h) [
      | inl p ↦ let r = p.1 in (b ∷ r.0, r.1, (p.0, r.2), r.3, omega (arith, r.4), ap (λ (bs : List ℕ). b ∷ bs) r.5)
      | inr p ↦ fraction_of_mark (suc n) b bytes p
    ]

fwd-point_step : (n b : ℕ) (bytes : List ℕ) → IsNumberRest (behind_point n) (b ∷ bytes) → Leads (number_step (behind_point n) b) bytes
fwd-point_step n b bytes h =
    let e = h.6 in
    let head : b ≡ h.0 = cc in
    let rest : bytes ≡ h.1 ++ exponent_bytes h.2 = cc in
    fwd-at_digit b (in_fraction n) None bytes (digit_head b h.0 head h.3.0) (h.1, h.2, h.3.1, h.4, h.5, rest)

back-point_step : (n b : ℕ) (bytes : List ℕ) → Leads (number_step (behind_point n) b) bytes → IsNumberRest (behind_point n) (b ∷ bytes)
back-point_step n b bytes h =
    elim (back-at_digit b (in_fraction n) None bytes h) [
      | inl p ↦ let r = p.1 in (b, r.0, r.1, (p.0, r.2), r.3, r.4, ap (λ (bs : List ℕ). b ∷ bs) r.5)
      | inr p ↦ absurd p
    ]

-- in the exponent
fwd-power : (b : ℕ) (bytes : List ℕ) → IsPower (b ∷ bytes) → Leads (at_digit b (in_power 2) None) bytes
fwd-power b bytes h = fwd-at_digit b (in_power 2) None bytes h.digits.0 (h.digits.1, let few = h.few in omega arith)

back-power : (b : ℕ) (bytes : List ℕ) → Leads (at_digit b (in_power 2) None) bytes → IsPower (b ∷ bytes)
back-power b bytes h =
    elim (back-at_digit b (in_power 2) None bytes h) [
      | inl p ↦ record { some = omega arith; few = let few = p.1.1 in omega arith; digits = (p.0, p.1.0) }
      | inr p ↦ absurd p
    ]

fwd-mark_step : (s : Sign) (b : ℕ) (bytes ds : List ℕ) → IsPower ds → b ∷ bytes ≡ sign_bytes s ++ ds → Leads (number_step behind_mark b) bytes
fwd-mark_step plus b bytes ds p e =
    let head : b ≡ 43 = cc in
    let rest : ds ≡ bytes = cc in
    let h : IsPower bytes = subst (λ (bs : List ℕ). IsPower bs) rest p in
    subst (λ (c : ℕ). Leads (number_step behind_mark c) bytes) (sym head) h
fwd-mark_step minus b bytes ds p e =
    let head : b ≡ 45 = cc in
    let rest : ds ≡ bytes = cc in
    let h : IsPower bytes = subst (λ (bs : List ℕ). IsPower bs) rest p in
    subst (λ (c : ℕ). Leads (number_step behind_mark c) bytes) (sym head) h
fwd-mark_step no_sign b bytes ds p e =
    let h : IsPower (b ∷ bytes) = subst (λ (bs : List ℕ). IsPower bs) (sym e) p in
    let low : 48 ≤ b = h.digits.0.low in
    choose (λ o. Leads o bytes) (nat_eq b 43) (Some behind_sign) _ (λ c. absurd (let here = is_byte b 43 c in omega arith)) λ c.
    choose (λ o. Leads o bytes) (nat_eq b 45) (Some behind_sign) _ (λ c. absurd (let here = is_byte b 45 c in omega arith)) λ c.
    fwd-power b bytes h

back-mark_step : (b : ℕ) (bytes : List ℕ) → Leads (number_step behind_mark b) bytes → IsNumberRest behind_mark (b ∷ bytes)
back-mark_step b bytes h =
    elim (chosen (λ o. Leads o bytes) (nat_eq b 43) (Some behind_sign) _ h) [
      | inl c1 ↦ (plus, bytes, c1.1, ap (λ (c : ℕ). c ∷ bytes) (is_byte b 43 c1.0))
      | inr c1 ↦ elim (chosen (λ o. Leads o bytes) (nat_eq b 45) (Some behind_sign) _ c1.1) [
        | inl c2 ↦ (minus, bytes, c2.1, ap (λ (c : ℕ). c ∷ bytes) (is_byte b 45 c2.0))
        | inr c2 ↦ (no_sign, b ∷ bytes, back-power b bytes c2.1, refl)
      ]
    ]

-- at the first digit
fwd-minus_step : (b : ℕ) (bytes : List ℕ) → StartsInteger b bytes → Leads (number_step behind_minus b) bytes
fwd-minus_step b bytes (inl p) = subst (λ (c : ℕ). Leads (number_step behind_minus c) bytes) (sym p.0) p.1
fwd-minus_step b bytes (inr p) =
    let low = p.0 in
    choose (λ o. Leads o bytes) (nat_eq b 48) (Some behind_zero) _ (λ c. absurd (let here = is_byte b 48 c in omega arith)) λ c1.
    choose (λ o. Leads o bytes) (nat_le 49 b && nat_le b 57) (Some (in_integer 37)) None (λ c. p.2) (λ c. absurd (not_within b 49 57 c p.0 p.1))

back-minus_step : (b : ℕ) (bytes : List ℕ) → Leads (number_step behind_minus b) bytes → IsNumberRest behind_minus (b ∷ bytes)
back-minus_step b bytes h =
    elim (chosen (λ o. Leads o bytes) (nat_eq b 48) (Some behind_zero) _ h) [
      | inl c1 ↦ subst (λ (c : ℕ). IsNumberRest behind_minus (c ∷ bytes)) (sym (is_byte b 48 c1.0)) (back-zero bytes c1.1)
      | inr c1 ↦ elim (chosen (λ o. Leads o bytes) (nat_le 49 b && nat_le b 57) (Some (in_integer 37)) None c1.1) [
        | inl c2 ↦ let r = is_within b 49 57 c2.0 in back-digit b bytes r.0 r.1 c2.1
        | inr c2 ↦ absurd c2.1
      ]
    ]

fwd-zero_step : (b : ℕ) (bytes : List ℕ) → IsNumberRest behind_zero (b ∷ bytes) → Leads (number_step behind_zero b) bytes
fwd-zero_step b bytes h = fwd-tail_step 36 b bytes (fwd-tail 37 b bytes h.0 h.1 h.2 h.3 h.4 h.5)

-- One byte more.
fwd-leads : (part : Part) (b : ℕ) (bytes : List ℕ) → IsNumberRest part (b ∷ bytes) → Leads (number_step part b) bytes
fwd-leads behind_minus b bytes h = fwd-minus_step b bytes (starts b bytes h)
fwd-leads behind_zero b bytes h = fwd-zero_step b bytes h
fwd-leads (in_integer n) b bytes h = fwd-integer_step n b bytes h.0 h.1 h.2 h.3 h.4 h.5 h.6 h.7
fwd-leads (behind_point n) b bytes h = fwd-point_step n b bytes h
fwd-leads (in_fraction n) b bytes h = fwd-fraction_step n b bytes h.0 h.1 h.2 h.3 h.4 h.5
fwd-leads behind_mark b bytes h = fwd-mark_step h.0 b bytes h.1 h.2 h.3
fwd-leads behind_sign b bytes h = fwd-power b bytes h
fwd-leads (in_power zero) b bytes h = absurd (let few = h.1 in omega arith)
fwd-leads (in_power (suc n)) b bytes h = fwd-at_digit b (in_power n) None bytes h.0.0 (h.0.1, let few = h.1 in omega arith)

back-leads : (part : Part) (b : ℕ) (bytes : List ℕ) → Leads (number_step part b) bytes → IsNumberRest part (b ∷ bytes)
back-leads behind_minus b bytes h = back-minus_step b bytes h
back-leads behind_zero b bytes h = back-tail_step 36 b bytes h
back-leads (in_integer n) b bytes h = back-integer_step n b bytes h
back-leads (behind_point n) b bytes h = back-point_step n b bytes h
back-leads (in_fraction n) b bytes h = back-fraction_step n b bytes h
back-leads behind_mark b bytes h = back-mark_step b bytes h
back-leads behind_sign b bytes h = back-power b bytes h
back-leads (in_power zero) b bytes h = absurd h
back-leads (in_power (suc n)) b bytes h =
    elim (back-at_digit b (in_power n) None bytes h) [
      | inl p ↦ ((p.0, p.1.0), let few = p.1.1 in omega arith)
      | inr p ↦ absurd p
    ]

leads_to : (o : Option Part) (bytes : List ℕ) → Leads o bytes → (next : Part) × (o ≡ Some next) × IsNumberRest next bytes
leads_to None bytes h = absurd h
leads_to (Some next) bytes h = (next, refl, h)

pub fwd-number_step : (part : Part) (b : ℕ) (bytes : List ℕ) → IsNumberRest part (b ∷ bytes)
    → (next : Part) × (number_step part b ≡ Some next) × IsNumberRest next bytes
fwd-number_step part b bytes h = leads_to (number_step part b) bytes (fwd-leads part b bytes h)

pub back-number_step : (part next : Part) (b : ℕ) (bytes : List ℕ) → number_step part b ≡ Some next → IsNumberRest next bytes → IsNumberRest part (b ∷ bytes)
back-number_step part next b bytes e h = back-leads part b bytes (subst (λ o. Leads o bytes) (sym e) h)

-- No byte more.
pub fwd-may_end : (part : Part) → IsNumberRest part [] → may_end part ≡ true
fwd-may_end behind_minus h = absurd (no_number false h.0 (fraction_bytes h.1 ++ exponent_bytes h.2) h.3 h.7)
fwd-may_end behind_zero h = refl
fwd-may_end (in_integer n) h = refl
fwd-may_end (behind_point n) h = absurd (let e = h.6 in cc)
fwd-may_end (in_fraction n) h = refl
fwd-may_end behind_mark h = absurd (no_power h.0 h.1 h.2 h.3)
  where
    no_power : (s : Sign) (ds : List ℕ) → IsPower ds → [] ≡ sign_bytes s ++ ds → ⊥
    no_power plus ds p e = cc
    no_power minus ds p e = cc
    no_power no_sign [] p e = let some = p.some in omega arith
    no_power no_sign (d ∷ ds) p e = cc
fwd-may_end behind_sign h = absurd (let some = h.some in omega arith)
fwd-may_end (in_power n) h = refl

pub back-may_end : (part : Part) → may_end part ≡ true → IsNumberRest part []
back-may_end behind_minus e = absurd (search rules)
back-may_end behind_zero e = ([], None, tt, tt, omega arith, refl)
back-may_end (in_integer n) e = ([], [], None, tt, tt, tt, omega arith, refl)
back-may_end (behind_point n) e = absurd (search rules)
back-may_end (in_fraction n) e = ([], None, tt, tt, omega arith, refl)
back-may_end behind_mark e = absurd (search rules)
back-may_end behind_sign e = absurd (search rules)
back-may_end (in_power n) e = (tt, omega arith)

-- What may stand behind a value goes on no number.
-- the byte passes none of the tests
record PassesNone (b : ℕ) : Type 0 where
  zero_digit : nat_eq b 48 ≡ false
  other_digit : (nat_le 49 b && nat_le b 57) ≡ false
  digit : (nat_le 48 b && nat_le b 57) ≡ false
  point : nat_eq b 46 ≡ false
  small : nat_eq b 101 ≡ false
  capital : nat_eq b 69 ≡ false
  positive : nat_eq b 43 ≡ false
  negative : nat_eq b 45 ≡ false

passes_none : (b : ℕ) → IsSpace b ⊎ (b ≡ 44) ⊎ (b ≡ 93) ⊎ (b ≡ 125) → PassesNone b
passes_none b (inl (inl e)) = subst (λ (c : ℕ). PassesNone c) (sym e) (record { zero_digit = refl; other_digit = refl; digit = refl; point = refl; small = refl; capital = refl; positive = refl; negative = refl })
passes_none b (inl (inr (inl e))) = subst (λ (c : ℕ). PassesNone c) (sym e) (record { zero_digit = refl; other_digit = refl; digit = refl; point = refl; small = refl; capital = refl; positive = refl; negative = refl })
passes_none b (inl (inr (inr (inl e)))) = subst (λ (c : ℕ). PassesNone c) (sym e) (record { zero_digit = refl; other_digit = refl; digit = refl; point = refl; small = refl; capital = refl; positive = refl; negative = refl })
passes_none b (inl (inr (inr (inr e)))) = subst (λ (c : ℕ). PassesNone c) (sym e) (record { zero_digit = refl; other_digit = refl; digit = refl; point = refl; small = refl; capital = refl; positive = refl; negative = refl })
passes_none b (inr (inl e)) = subst (λ (c : ℕ). PassesNone c) (sym e) (record { zero_digit = refl; other_digit = refl; digit = refl; point = refl; small = refl; capital = refl; positive = refl; negative = refl })
passes_none b (inr (inr (inl e))) = subst (λ (c : ℕ). PassesNone c) (sym e) (record { zero_digit = refl; other_digit = refl; digit = refl; point = refl; small = refl; capital = refl; positive = refl; negative = refl })
passes_none b (inr (inr (inr e))) = subst (λ (c : ℕ). PassesNone c) (sym e) (record { zero_digit = refl; other_digit = refl; digit = refl; point = refl; small = refl; capital = refl; positive = refl; negative = refl })

none_follows : (part : Part) (b : ℕ) → PassesNone b → number_step part b ≡ None
none_follows behind_minus b h = simp (h.zero_digit, h.other_digit) refl
none_follows behind_zero b h = simp (h.point, h.small, h.capital) refl
none_follows (in_integer zero) b h = simp (h.small, h.capital) refl
none_follows (in_integer (suc n)) b h = simp (h.digit, h.point, h.small, h.capital) refl
none_follows (behind_point n) b h = simp h.digit refl
none_follows (in_fraction zero) b h = simp (h.small, h.capital) refl
none_follows (in_fraction (suc n)) b h = simp (h.digit, h.small, h.capital) refl
none_follows behind_mark b h = simp (h.positive, h.negative, h.digit) refl
none_follows behind_sign b h = simp h.digit refl
none_follows (in_power zero) b h = refl
none_follows (in_power (suc n)) b h = simp h.digit refl

pub number_alien : (part : Part) (b : ℕ) → IsSpace b ⊎ (b ≡ 44) ⊎ (b ≡ 93) ⊎ (b ≡ 125) → number_step part b ≡ None
number_alien part b h = none_follows part b (passes_none b h)

-- ---- the states
-- a number's next byte, where it has one more
fwd-next : (part : Part) (bytes : List ℕ) (d : ℕ) (k : List Frame) (b : ℕ) (rest more to : List ℕ) (whole : Raw) → IsNumberRest part (b ∷ more)
    → rest ≡ more ++ to → After k d (number (bytes ++ b ∷ more)) to whole → Follows (number_next (number_step part b) part bytes d k b) rest whole
fwd-next part bytes d k b rest more to whole h e a =
    let s = fwd-number_step part b more h in
    let joined : (bytes ++ b ∷ []) ++ more ≡ bytes ++ b ∷ more = append_assoc bytes (b ∷ []) more in
    let r : Remains (in_number s.0 (bytes ++ b ∷ []) d k) rest whole = (more, to, s.2, e, subst (λ (bs : List ℕ). After k d (number bs) to whole) (sym joined) a) in
    subst (λ o. Follows (number_next o part bytes d k b) rest whole) (sym s.1) r

-- or where it has none
fwd-no_next : (part : Part) (bytes : List ℕ) (d : ℕ) (k : List Frame) (b : ℕ) (rest : List ℕ) (whole : Raw) → IsNumberRest part []
    → After k d (number bytes) (b ∷ rest) whole → Follows (number_next (number_step part b) part bytes d k b) rest whole
fwd-no_next part bytes d k b rest whole h a =
    let none : number_step part b ≡ None = number_alien part b (after_first k d (number bytes) b rest whole a) in
    let f : Follows (after_step d k (number bytes) b) rest whole = fwd-after d k (number bytes) b rest whole a in
    let g : Follows (number_end (may_end part) (after_step d k (number bytes) b)) rest whole =
    subst (λ t. Follows (number_end t (after_step d k (number bytes) b)) rest whole) (sym (fwd-may_end part h)) f in
    subst (λ o. Follows (number_next o part bytes d k b) rest whole) (sym none) g

fwd-rest : (part : Part) (bytes : List ℕ) (d : ℕ) (k : List Frame) (b : ℕ) (rest more to : List ℕ) (whole : Raw) → IsNumberRest part more
    → b ∷ rest ≡ more ++ to → After k d (number (bytes ++ more)) to whole → Follows (number_next (number_step part b) part bytes d k b) rest whole
fwd-rest part bytes d k b rest [] to whole h e a =
    let here : After k d (number (bytes ++ [])) (b ∷ rest) whole = subst (λ (t : List ℕ). After k d (number (bytes ++ [])) t whole) (sym e) a in
    fwd-no_next part bytes d k b rest whole h (subst (λ (bs : List ℕ). After k d (number bs) (b ∷ rest) whole) (append-nil bytes) here)
fwd-rest part bytes d k b rest (c ∷ more) to whole h e a =
    let head : c ≡ b = cc in
    let behind : rest ≡ more ++ to = cc in
    fwd-next part bytes d k b rest more to whole
    (subst (λ (x : ℕ). IsNumberRest part (x ∷ more)) head h) behind
    (subst (λ (x : ℕ). After k d (number (bytes ++ x ∷ more)) to whole) head a)

pub fwd-in_number : (part : Part) (bytes : List ℕ) (d : ℕ) (k : List Frame) → Forward (in_number part bytes d k)
fwd-in_number part bytes d k b rest whole h = fwd-rest part bytes d k b rest h.0 h.1 whole h.2 h.3 h.4

back-end : (part : Part) (bytes : List ℕ) (d : ℕ) (k : List Frame) (b : ℕ) (rest : List ℕ) (whole : Raw) (t : Bool) → may_end part ≡ t
    → Follows (number_end t (after_step d k (number bytes) b)) rest whole → Remains (in_number part bytes d k) (b ∷ rest) whole
back-end part bytes d k b rest whole true e h =
    let a : After k d (number bytes) (b ∷ rest) whole = back-after d k (number bytes) b rest whole h in
    ([], b ∷ rest, back-may_end part e, refl, subst (λ (bs : List ℕ). After k d (number bs) (b ∷ rest) whole) (sym (append-nil bytes)) a)
back-end part bytes d k b rest whole false e h = absurd h

back-next : (part : Part) (bytes : List ℕ) (d : ℕ) (k : List Frame) (b : ℕ) (rest : List ℕ) (whole : Raw) (o : Option Part) → number_step part b ≡ o
    → Follows (number_next o part bytes d k b) rest whole → Remains (in_number part bytes d k) (b ∷ rest) whole
back-next part bytes d k b rest whole None e h = back-end part bytes d k b rest whole (may_end part) refl h
back-next part bytes d k b rest whole (Some next) e h =
    let joined : (bytes ++ b ∷ []) ++ h.0 ≡ bytes ++ b ∷ h.0 = append_assoc bytes (b ∷ []) h.0 in
    (b ∷ h.0, h.1, back-number_step part next b h.0 e h.2, ap (λ (bs : List ℕ). b ∷ bs) h.3, subst (λ (bs : List ℕ). After k d (number bs) h.1 whole) joined h.4)

pub back-in_number : (part : Part) (bytes : List ℕ) (d : ℕ) (k : List Frame) → Backward (in_number part bytes d k)
back-in_number part bytes d k b rest whole h = back-next part bytes d k b rest whole (number_step part b) refl h

fwd-at_end : (part : Part) (bytes : List ℕ) (d : ℕ) (k : List Frame) (more to : List ℕ) (whole : Raw) → IsNumberRest part more
    → [] ≡ more ++ to → After k d (number (bytes ++ more)) to whole → number_at_end (may_end part) k (number bytes) ≡ Some whole
fwd-at_end part bytes d k [] to whole h e a =
    let here : After k d (number (bytes ++ [])) [] whole = subst (λ (t : List ℕ). After k d (number (bytes ++ [])) t whole) (sym e) a in
    let f : value_at_end k (number bytes) ≡ Some whole = fwd_end-after d k (number bytes) whole (subst (λ (bs : List ℕ). After k d (number bs) [] whole) (append-nil bytes) here) in
    subst (λ (t : Bool). number_at_end t k (number bytes) ≡ Some whole) (sym (fwd-may_end part h)) f
fwd-at_end part bytes d k (c ∷ more) to whole h e a = absurd cc

pub fwd_end-in_number : (part : Part) (bytes : List ℕ) (d : ℕ) (k : List Frame) → EndsForward (in_number part bytes d k)
fwd_end-in_number part bytes d k whole h = fwd-at_end part bytes d k h.0 h.1 whole h.2 h.3 h.4

back-at_end : (part : Part) (bytes : List ℕ) (d : ℕ) (k : List Frame) (whole : Raw) (t : Bool) → may_end part ≡ t
    → number_at_end t k (number bytes) ≡ Some whole → Remains (in_number part bytes d k) [] whole
back-at_end part bytes d k whole true e h =
    let a : After k d (number bytes) [] whole = back_end-after d k (number bytes) whole h in
    ([], [], back-may_end part e, refl, subst (λ (bs : List ℕ). After k d (number bs) [] whole) (sym (append-nil bytes)) a)
back-at_end part bytes d k whole false e h = absurd cc

pub back_end-in_number : (part : Part) (bytes : List ℕ) (d : ℕ) (k : List Frame) → EndsBackward (in_number part bytes d k)
back_end-in_number part bytes d k whole h = back-at_end part bytes d k whole (may_end part) refl h

-- Some bytes remain.
pub complete-number : (part : Part) → (rest : List ℕ) × IsNumberRest part rest
complete-number behind_minus = (48 ∷ [], back-leads behind_minus 48 [] (back-may_end behind_zero refl))
complete-number behind_zero = ([], back-may_end behind_zero refl)
complete-number (in_integer n) = ([], back-may_end (in_integer n) refl)
complete-number (behind_point n) = (48 ∷ [], back-leads (behind_point n) 48 [] (back-may_end (in_fraction n) refl))
complete-number (in_fraction n) = ([], back-may_end (in_fraction n) refl)
complete-number behind_mark = (48 ∷ [], back-leads behind_mark 48 [] (back-may_end (in_power 2) refl))
complete-number behind_sign = (48 ∷ [], back-leads behind_sign 48 [] (back-may_end (in_power 2) refl))
complete-number (in_power n) = ([], back-may_end (in_power n) refl)
