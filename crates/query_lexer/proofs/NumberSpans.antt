-- The longest number in front.
use Rattle.std.proofs.Common.{◌≡◌, ℕ, ◌+◌, ◌^◌, ◌<◌, ◌≤◌, ◌⊎◌, inl, inr, List, [], ◌∷◌, ◌++◌, length, take, drop, get_or, Bool, true, false, Option, Some, None, refl, sym, ap, ◌∙◌, subst, arith, length-append}
use Rattle.std.specs.Prelude.{IsTrue, IfSome, Err}
use Rattle.std.specs.List.{AllByRecursion}
use Rattle.std.proofs.lemmas.List.{take-append-drop, get_or-take, length-take-le, take_at}
use Rattle.std.proofs.lemmas.Int.{ints}
use Rattle.std.proofs.lemmas.Bool.Decides.{nat_tests}
use Rattle.json_decimal.specs.declared.decimal.Decimal.{Decimal}
use Rattle.json_decimal.specs.declared.DecimalFault.{DecimalFault}
use Rattle.json_decimal.specs.declared.DecimalFault.TheVariants.{NotALiteral, Range}
use Rattle.json_decimal.specs.Number.{Number}
use Rattle.json_decimal.specs.Decimals.{number_of, IsReadingOf}
use Rattle.json_decimal.specs.Literal.{Literal, Exponent, Sign, no_sign, plus, minus, IsLiteral, IsLiteralOf, AreDigits, IsExponent, spelling, minus_bytes, fraction_bytes, exponent_bytes, sign_bytes}
use Rattle.query_terms.specs.declared.tokens.token.Token.{Token}
use Rattle.query_terms.specs.declared.tokens.token.Token.TheVariants as tokens
use Rattle.query_terms.specs.tokens.Spellings.{is_number_start, IsSpelling, IsLongest, BeginsNone}
use Rattle.query_lexer.specs.Machinery.Spans.{is_number_byte, NoneLonger, IsBound}
use Rattle.query_lexer.proofs.Cuts.{all_at, all_append}
use Rattle.query_lexer.proofs.FirstBytes.{kind_at, number_kind, spelled_some, same_kind}

abbrev AreNumberBytes : List ℕ → Type 0
AreNumberBytes bs = AllByRecursion (λ b. IsTrue (is_number_byte b)) bs

joined : (xs ys : List ℕ) → AreNumberBytes xs → AreNumberBytes ys → AreNumberBytes (xs ++ ys)
joined xs ys p q = all_append (λ (b : ℕ). IsTrue (is_number_byte b)) xs ys p q

digit_byte : (b : ℕ) → 48 ≤ b → b ≤ 57 → is_number_byte b ≡ true
digit_byte b low high = grind (arith, nat_tests)

digit_bytes : (ds : List ℕ) → AreDigits ds → AreNumberBytes ds
digit_bytes [] h = tt
digit_bytes (d ∷ ds) h = (digit_byte d h.0.low h.0.high, digit_bytes ds h.1)

minus_are : (n : Bool) → AreNumberBytes (minus_bytes n)
minus_are true = (refl, tt)
minus_are false = tt

sign_are : (s : Sign) → AreNumberBytes (sign_bytes s)
sign_are no_sign = tt
sign_are plus = (refl, tt)
sign_are minus = (refl, tt)

fraction_are : (ds : List ℕ) → AreDigits ds → AreNumberBytes (fraction_bytes ds)
fraction_are [] h = tt
fraction_are (d ∷ ds) h = (refl, digit_bytes (d ∷ ds) h)

mark_is : (b : ℕ) → (b ≡ 101) ⊎ (b ≡ 69) → is_number_byte b ≡ true
mark_is b (inl e) = ap is_number_byte e
mark_is b (inr e) = ap is_number_byte e

exponent_are : (o : Option Exponent) → IfSome o IsExponent → AreNumberBytes (exponent_bytes o)
exponent_are None h = tt
exponent_are (Some x) h = (mark_is x.mark h.mark, joined (sign_bytes x.sign) x.digits (sign_are x.sign) (digit_bytes x.digits h.digits.digits))

pub literal_are : (l : Literal) → IsLiteral l → AreNumberBytes (spelling l)
literal_are l is =
    joined (minus_bytes l.negative) _ (minus_are l.negative)
    (joined l.integer _ (digit_bytes l.integer is.integer.digits)
    (joined (fraction_bytes l.fraction) _ (fraction_are l.fraction is.fraction) (exponent_are l.exponent is.exponent)))

minus_few : (n : Bool) → length (minus_bytes n) ≤ 1
minus_few true = omega arith
minus_few false = omega arith

sign_few : (s : Sign) → length (sign_bytes s) ≤ 1
sign_few no_sign = omega arith
sign_few plus = omega arith
sign_few minus = omega arith

fraction_few : (ds : List ℕ) → length (fraction_bytes ds) ≤ length ds + 1
fraction_few [] = omega arith
fraction_few (d ∷ ds) = omega arith

exponent_few : (o : Option Exponent) → IfSome o IsExponent → length (exponent_bytes o) ≤ 5
exponent_few None h = omega arith
exponent_few (Some x) h =
    let a = length-append (sign_bytes x.sign) x.digits in let s = sign_few x.sign in let d = h.digits.few in
    omega (arith, a, s, d)

literal_few : (l : Literal) → IsLiteral l → length (spelling l) ≤ 45
literal_few l is =
    let a = length-append (minus_bytes l.negative) (l.integer ++ (fraction_bytes l.fraction ++ exponent_bytes l.exponent)) in
    let b = length-append l.integer (fraction_bytes l.fraction ++ exponent_bytes l.exponent) in
    let c = length-append (fraction_bytes l.fraction) (exponent_bytes l.exponent) in
    let m = minus_few l.negative in
    let f = fraction_few l.fraction in
    let x = exponent_few l.exponent is.exponent in
    let few = is.few in
    omega (arith, a, b, c, m, f, x, few)

too_many : (text : List ℕ) (k : ℕ) (d : Decimal) → k ≤ length text → 45 < k → IsLiteralOf (take k text) (number_of d) → ⊥
too_many text k d h more is =
    let few = literal_few is.literal is.is in
    let same = ap length is.spelled in
    let count = length-take-le k text h in
    omega (arith, few, same, count)

past_run : (text : List ℕ) (run k : ℕ) (d : Decimal) → is_number_byte (get_or text run 0) ≡ false → k ≤ length text → run < k
    → IsLiteralOf (take k text) (number_of d) → ⊥
past_run text run k d next h more is =
    let all = subst AreNumberBytes (sym is.spelled) (literal_are is.literal is.is) in
    let count = length-take-le k text h in
    let at = all_at (λ (b : ℕ). IsTrue (is_number_byte b)) (take k text) run (omega (arith, count)) all in
    let same = get_or-take k text run 0 more in
    let test : is_number_byte (get_or text run 0) ≡ true = subst (λ (b : ℕ). is_number_byte b ≡ true) same at in
    cc

pub at_run : (text : List ℕ) (run : ℕ) → run ≤ length text → ((k : ℕ) → k < run → is_number_byte (get_or text k 0) ≡ true)
    → is_number_byte (get_or text run 0) ≡ false → IsBound text run
at_run text run within all next = record { within = within; all = all; none = λ k lt h d is. past_run text run k d next h lt is }

pub at_most : (text : List ℕ) (run : ℕ) → run ≤ length text → ((k : ℕ) → k < run → is_number_byte (get_or text k 0) ≡ true) → 45 ≤ run → IsBound text 45
at_most text run within all most = record {
  within = omega (arith, within, most);
  all = λ k lt. all k (omega (arith, lt, most));
  none = λ k lt h d is. too_many text k d h lt is;
}

fault_refuses : (e : DecimalFault) (d : Decimal) → IsReadingOf (number_of d) (Err e) → ⊥
fault_refuses NotALiteral d h = h
fault_refuses Range d (inl low) = let least = d.least in omega (arith, ints, low, least)
fault_refuses Range d (inr high) = let most = d.most in omega (arith, ints, high, most)

pub refused : (bytes : List ℕ) (e : DecimalFault) (d : Decimal) → ((n : Number) → IsLiteralOf bytes n → IsReadingOf n (Err e)) → IsLiteralOf bytes (number_of d) → ⊥
refused bytes e d h is = fault_refuses e d (h (number_of d) is)

nat_split : (a b : ℕ) → a ≤ b → (a < b) ⊎ (a ≡ b)
nat_split a b h = grind arith

-- one byte less
pub one_less : (text : List ℕ) (end less : ℕ) → end ≡ less + 1 → IsBound text end → ((d : Decimal) → IsLiteralOf (take end text) (number_of d) → ⊥)
    → IsBound text less
one_less text end less step bound here =
    let within = bound.within in
    record {
      within = omega (arith, within, step);
      all = λ k lt. bound.all k (omega (arith, lt, step));
      none = λ k lt h d is. elim (nat_split end k (omega (arith, lt, step))) [
        | inl more ↦ bound.none k more h d is
        | inr e ↦ here d (subst (λ (i : ℕ). IsLiteralOf (take i text) (number_of d)) (sym e) is)
      ];
    }

longest_number : (text : List ℕ) (end : ℕ) → NoneLonger text end → kind_at (get_or text 0 0) ≡ 1 → (u : Token) (more rest : List ℕ)
    → IsSpelling u more → text ≡ more ++ rest → end < length more → ⊥
longest_number text end none k (tokens.Number d) more rest s e lt =
    let front : take (length more) text ≡ more = ap (λ (l : List ℕ). take (length more) l) e ∙ take_at more rest (length more) refl in
    let total = ap length e in
    let parts = length-append more rest in
    none (length more) lt (omega (arith, total, parts)) d (subst (λ (l : List ℕ). IsLiteralOf l (number_of d)) (sym front) s.0)
longest_number text end none k (tokens.Name w name) more rest s e lt = let o = same_kind (tokens.Name w name) text more rest s e in cc
longest_number text end none k (tokens.Text t m) more rest s e lt = let o = same_kind (tokens.Text t m) text more rest s e in cc
longest_number text end none k (tokens.Mark m) more rest s e lt = let o = same_kind (tokens.Mark m) text more rest s e in cc

pub number_longest : (text : List ℕ) (end : ℕ) (d : Decimal) → is_number_start (get_or text 0 0) ≡ true → end ≤ length text
    → IsLiteralOf (take end text) (number_of d) → d.low < 2 ^ 64 → NoneLonger text end → IsLongest text (tokens.Number d) (drop end text)
number_longest text end d start h is low none = record {
  bytes = take end text;
  parts = sym (take-append-drop end text);
  spelled = (is, low);
  longest = λ u more rest s e.
      let count = length-take-le end text h in
      let no = longest_number text end none (number_kind (get_or text 0 0) start) u more rest s e in
      omega (arith, count, no);
}

pub number_none : (text : List ℕ) → is_number_start (get_or text 0 0) ≡ true → NoneLonger text 0 → BeginsNone text
number_none text start none t [] rest s e = spelled_some t s
number_none text start none t (b ∷ bs) rest s e = longest_number text 0 none (number_kind (get_or text 0 0) start) t (b ∷ bs) rest s e (omega arith)
