-- Numbers in decimal digits at the front.
use Rattle.std.proofs.Common.{◌≡◌, ℕ, ◌+◌, ◌-◌, ◌*◌, ◌/◌, ◌%◌, ◌<◌, List, [], ◌∷◌, ◌++◌, Bool, true, false, cond, Option, Some, None, refl, ap, ◌∙◌, subst, arith}
use Rattle.std.specs.Option.{option_and_then}
use Rattle.std.specs.Char.{is_ascii_digit}
use Rattle.value_texts.specs.Clock.{two_digits, four_digits}
use Rattle.value_texts.specs.Machinery.Reading.{read_digit, read_two, read_four}
use Rattle.value_texts.proofs.Digits.{digit_test, digit_of}

digit_takes : (d : ℕ) (rest : List ℕ) → d < 10 → read_digit ((48 + d) ∷ rest) ≡ Some (d, rest)
digit_takes d rest low =
    let e : 48 + d - 48 ≡ d = omega arith in
    ap (λ (t : Bool). cond t (Some (48 + d - 48, rest)) None) (digit_test (48 + d) (record { low = omega arith; high = omega (arith, low) }))
    ∙ ap (λ (n : ℕ). Some (n, rest)) e

pub record ReadDigit (bs : List ℕ) (d : ℕ) (rest : List ℕ) : Type 0 where
  pub small : d < 10
  pub split : bs ≡ (48 + d) ∷ rest

digit_step : (b d : ℕ) (bs rest : List ℕ) (t : Bool) → is_ascii_digit b ≡ t → cond {A = Option (ℕ × List ℕ)} t (Some (b - 48, bs)) None ≡ Some (d, rest) → ReadDigit (b ∷ bs) d rest
digit_step b d bs rest false is e = absurd cc
digit_step b d bs rest true is e =
    let pair : (b - 48, bs) ≡ (d, rest) = cc in
    let value : b - 48 ≡ d = ap (λ (p : ℕ × List ℕ). p.0) pair in
    let tail : bs ≡ rest = ap (λ (p : ℕ × List ℕ). p.1) pair in
    let digit = digit_of b is in
    let low = digit.low in
    let high = digit.high in
    let byte : b ≡ 48 + d = omega (arith, value, low) in
    record { small = omega (arith, value, low, high); split = cc }

digit_gives : (bs : List ℕ) (d : ℕ) (rest : List ℕ) → read_digit bs ≡ Some (d, rest) → ReadDigit bs d rest
digit_gives [] d rest e = absurd cc
digit_gives (b ∷ bs) d rest e = digit_step b d bs rest (is_ascii_digit b) refl e

pub two_takes : (n : ℕ) (rest : List ℕ) → n < 100 → read_two (two_digits n ++ rest) ≡ Some (n, rest)
unfolding read_two
two_takes n rest low =
    let tens : n / 10 < 10 = omega arith in
    let ones : n % 10 < 10 = omega arith in
    let whole : n / 10 * 10 + n % 10 ≡ n = omega arith in
    ap (λ (o : Option (ℕ × List ℕ)). option_and_then (λ (p : ℕ × List ℕ). option_and_then (λ (q : ℕ × List ℕ). Some (p.0 * 10 + q.0, q.1)) (read_digit p.1)) o)
    (digit_takes (n / 10) ((48 + n % 10) ∷ rest) tens)
    ∙ ap (λ (o : Option (ℕ × List ℕ)). option_and_then (λ (q : ℕ × List ℕ). Some (n / 10 * 10 + q.0, q.1)) o) (digit_takes (n % 10) rest ones)
    ∙ ap (λ (k : ℕ). Some (k, rest)) whole

pub record ReadTwo (bs : List ℕ) (n : ℕ) (rest : List ℕ) : Type 0 where
  pub small : n < 100
  pub split : bs ≡ two_digits n ++ rest

two_of : (bs more rest : List ℕ) (a b n : ℕ) → ReadDigit bs a more → ReadDigit more b rest → a * 10 + b ≡ n → ReadTwo bs n rest
two_of bs more rest a b n first second value =
    let x = first.small in
    let y = second.small in
    let tens : a ≡ n / 10 = omega (arith, x, y, value) in
    let ones : b ≡ n % 10 = omega (arith, x, y, value) in
    record {
      small = omega (arith, x, y, value);
      split = first.split ∙ ap (λ (l : List ℕ). (48 + a) ∷ l) second.split ∙ ap (λ (k : ℕ). (48 + k) ∷ (48 + b) ∷ rest) tens ∙ ap (λ (k : ℕ). (48 + n / 10) ∷ (48 + k) ∷ rest) ones;
    }

two_second : (bs more rest : List ℕ) (a n : ℕ) (o : Option (ℕ × List ℕ)) → ReadDigit bs a more → read_digit more ≡ o
    → option_and_then {U = ℕ × List ℕ} (λ (q : ℕ × List ℕ). Some (a * 10 + q.0, q.1)) o ≡ Some (n, rest) → ReadTwo bs n rest
two_second bs more rest a n None first is e = absurd cc
two_second bs more rest a n (Some (b, last)) first is e =
    let pair : (a * 10 + b, last) ≡ (n, rest) = cc in
    let value : a * 10 + b ≡ n = ap (λ (p : ℕ × List ℕ). p.0) pair in
    let tail : last ≡ rest = ap (λ (p : ℕ × List ℕ). p.1) pair in
    two_of bs more rest a b n first (subst (λ (l : List ℕ). ReadDigit more b l) tail (digit_gives more b last is)) value

two_first : (bs rest : List ℕ) (n : ℕ) (o : Option (ℕ × List ℕ)) → read_digit bs ≡ o
    → option_and_then {U = ℕ × List ℕ} (λ (p : ℕ × List ℕ). option_and_then {U = ℕ × List ℕ} (λ (q : ℕ × List ℕ). Some (p.0 * 10 + q.0, q.1)) (read_digit p.1)) o ≡ Some (n, rest) → ReadTwo bs n rest
two_first bs rest n None is e = absurd cc
two_first bs rest n (Some (a, more)) is e = two_second bs more rest a n (read_digit more) (digit_gives bs a more is) refl e

pub two_gives : (bs : List ℕ) (n : ℕ) (rest : List ℕ) → read_two bs ≡ Some (n, rest) → ReadTwo bs n rest
unfolding read_two
two_gives bs n rest e = two_first bs rest n (read_digit bs) refl e

pub four_takes : (n : ℕ) (rest : List ℕ) → n < 10000 → read_four (four_digits n ++ rest) ≡ Some (n, rest)
unfolding read_four
four_takes n rest low =
    let high : n / 100 < 100 = omega arith in
    let less : n % 100 < 100 = omega arith in
    let whole : n / 100 * 100 + n % 100 ≡ n = omega arith in
    ap (λ (o : Option (ℕ × List ℕ)). option_and_then (λ (p : ℕ × List ℕ). option_and_then (λ (q : ℕ × List ℕ). Some (p.0 * 100 + q.0, q.1)) (read_two p.1)) o)
    (two_takes (n / 100) (two_digits (n % 100) ++ rest) high)
    ∙ ap (λ (o : Option (ℕ × List ℕ)). option_and_then (λ (q : ℕ × List ℕ). Some (n / 100 * 100 + q.0, q.1)) o) (two_takes (n % 100) rest less)
    ∙ ap (λ (k : ℕ). Some (k, rest)) whole

pub record ReadFour (bs : List ℕ) (n : ℕ) (rest : List ℕ) : Type 0 where
  pub small : n < 10000
  pub split : bs ≡ four_digits n ++ rest

four_of : (bs more rest : List ℕ) (a b n : ℕ) → ReadTwo bs a more → ReadTwo more b rest → a * 100 + b ≡ n → ReadFour bs n rest
four_of bs more rest a b n first second value =
    let x = first.small in
    let y = second.small in
    let high : a ≡ n / 100 = omega (arith, x, y, value) in
    let less : b ≡ n % 100 = omega (arith, x, y, value) in
    record {
      small = omega (arith, x, y, value);
      split = first.split ∙ ap (λ (l : List ℕ). two_digits a ++ l) second.split ∙ ap (λ (k : ℕ). two_digits k ++ (two_digits b ++ rest)) high ∙ ap (λ (k : ℕ). two_digits (n / 100) ++ (two_digits k ++ rest)) less;
    }

four_second : (bs more rest : List ℕ) (a n : ℕ) (o : Option (ℕ × List ℕ)) → ReadTwo bs a more → read_two more ≡ o
    → option_and_then {U = ℕ × List ℕ} (λ (q : ℕ × List ℕ). Some (a * 100 + q.0, q.1)) o ≡ Some (n, rest) → ReadFour bs n rest
four_second bs more rest a n None first is e = absurd cc
four_second bs more rest a n (Some (b, last)) first is e =
    let pair : (a * 100 + b, last) ≡ (n, rest) = cc in
    let value : a * 100 + b ≡ n = ap (λ (p : ℕ × List ℕ). p.0) pair in
    let tail : last ≡ rest = ap (λ (p : ℕ × List ℕ). p.1) pair in
    four_of bs more rest a b n first (subst (λ (l : List ℕ). ReadTwo more b l) tail (two_gives more b last is)) value

four_first : (bs rest : List ℕ) (n : ℕ) (o : Option (ℕ × List ℕ)) → read_two bs ≡ o
    → option_and_then {U = ℕ × List ℕ} (λ (p : ℕ × List ℕ). option_and_then {U = ℕ × List ℕ} (λ (q : ℕ × List ℕ). Some (p.0 * 100 + q.0, q.1)) (read_two p.1)) o ≡ Some (n, rest) → ReadFour bs n rest
four_first bs rest n None is e = absurd cc
four_first bs rest n (Some (a, more)) is e = four_second bs more rest a n (read_two more) (two_gives bs a more is) refl e

pub four_gives : (bs : List ℕ) (n : ℕ) (rest : List ℕ) → read_four bs ≡ Some (n, rest) → ReadFour bs n rest
unfolding read_four
four_gives bs n rest e = four_first bs rest n (read_two bs) refl e
