-- Numbers by their words.
use Rattle.std.proofs.Common.{◌≡◌, ◌≢◌, ℕ, zero, suc, ◌<◌, ◌≤◌, ◌^◌, List, Result, Ok, length, get_or, sym, ap, subst, ◌∙◌, arith}
use Rattle.std.specs.Fmt.{decimal}
use Rattle.std.specs.Str.Parse.{AllDigits, ParsesUnsigned, digits_value}
use Rattle.std.proofs.lemmas.Fmt.{decimal-digits_value, decimal_digit, decimal_injective, first_decimal, parse-decimal}
use Rattle.std.proofs.lemmas.Str.Parse.{IsNumeralModel, numerals_by_value, parse_plain, tells_digits}
use Rattle.dtdl_cmd.specs.Words.{IsNumberUpTo}

own : IsNumeralModel (AllDigits 10) (digits_value 10)
own = numerals_by_value (AllDigits 10) tells_digits

-- A number of at most a million.
module _ (most : ℕ) (modest : most ≤ 1000000) where
  -- the digits of a number that is not 0 begin with another digit than 0
  pub first_digit : (word : List ℕ) (n : ℕ) → IsNumberUpTo most word n → 48 < get_or word 0 0
  first_digit word n (is, low, high) =
      let small : n < 2 ^ 64 = omega (arith, high, modest) in
      subst (λ (w : List ℕ). 48 < get_or w 0 0) (sym is) (first_decimal n low small)

  above_zero : (n : ℕ) (word : List ℕ) → word ≡ decimal n → 48 < get_or word 0 0 → 1 ≤ n
  above_zero zero word text first =
      let zero_first : get_or word 0 0 ≡ 48 = ap (λ (w : List ℕ). get_or w 0 0) (text ∙ decimal_digit 0 (omega arith)) in
      absurd (omega (arith, first, zero_first))
  above_zero (suc n) word text first = omega arith

  -- the number of digits that begin with another one than 0, or with a byte past it, is read
  pub number_read : {E : Type 0} (word : List ℕ) (n : ℕ) (result : Result ℕ E) → 48 < get_or word 0 0 → result ≡ Ok n → n ≤ most → ParsesUnsigned 32 10 word result → IsNumberUpTo most word n
  number_read {E} word n result first is high h =
      let plain : get_or word 0 0 ≢ 43 = λ e. absurd (omega (arith, first, e)) in
      let read = parse_plain own {E = E} 32 word (Ok n) (subst (λ (r : Result ℕ E). ParsesUnsigned 32 10 word r) is h) plain in
      let fits : digits_value 10 word < 2 ^ 64 = omega (arith, read.0.2) in
      let alone : get_or word 0 0 ≡ 48 → length word ≡ 1 = λ e. absurd (omega (arith, first, e)) in
      let spelled : decimal (digits_value 10 word) ≡ word = decimal-digits_value own word read.0.0 read.0.1 alone fits in
      let text : word ≡ decimal n = sym spelled ∙ ap decimal (sym read.1) in
      (text, above_zero n word text first, high)

  -- the digits of a number are read
  pub number_found : {E : Type 0} (word : List ℕ) (n : ℕ) (result : Result ℕ E) → IsNumberUpTo most word n → ParsesUnsigned 32 10 word result → result ≡ Ok n
  number_found word n result (is, low, high) h =
      let fits : n < 2 ^ 32 = omega (arith, high, modest) in
      let small : n < 2 ^ 64 = omega (arith, high, modest) in
      parse-decimal 32 n word result fits small is h

  -- a word is at most one number
  pub same_number : (word : List ℕ) (n m : ℕ) → IsNumberUpTo most word n → IsNumberUpTo most word m → n ≡ m
  same_number word n m (is, low, high) (has, least, limit) =
      let small : n < 2 ^ 64 = omega (arith, high, modest) in
      let little : m < 2 ^ 64 = omega (arith, limit, modest) in
      decimal_injective n m small little (sym is ∙ has)
