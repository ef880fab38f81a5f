-- Heads that are written, as trees of the grammar, and that they read back.
use Rattle.std.proofs.Common.{◌≡◌, ℕ, ◌^◌, ◌<◌, Bool, true, not, ◌&&◌, List, [], ◌∷◌, ◌++◌, length, map, reverse, cond, refl, ap, ◌∙◌, arith, append_assoc, flat_map}
use Rattle.std.specs.Prelude.{All, decimal}
use Rattle.std.specs.Char.{is_ascii_digit, is_ascii_graphic}
use Rattle.std.specs.List.{list_all}
use Rattle.std.specs.Str.Parse.{digits_value, AllDigits}
use Rattle.std.specs.Char.{digit_value}
use Rattle.std.proofs.lemmas.Bool.{and_parts, and_from, not-true, ltb-true}
use Rattle.std.proofs.lemmas.Bool.Decides.{nat_tests}
use Rattle.std.proofs.lemmas.Fmt.{decimal_is_IsNumeral}
use Rattle.std.proofs.lemmas.List.Elements.{All-nil, All-cons, All-weaker, All-head}
use Rattle.std.proofs.lemmas.List.Sums.{AllPass-from_list_all, list_all-from_AllPass}
use Rattle.httparse.specs.Grammar.{is_token, is_token_byte, is_value_byte, is_ows, AllPass, IsToken, Field, IsField, skip_ows, crlf, print_field}
use Rattle.httparse.specs.Spans.{name_and_value}
use Rattle.httparse.proofs.TrimLemmas.{trim_ows_space, AllPass-reverse}
use Rattle.httparse.proofs.GrammarLemmas.{cons-append}
use Rattle.http_ends.specs.Lines.{field_line, fields_text}

-- a field as it is written: a space stands before its value
abbrev pub field_of : List ℕ × List ℕ → Field
field_of f = record { name = f.0; raw = 32 ∷ f.1; end = crlf }

-- the first byte is no white space
abbrev pub starts_visible : List ℕ → Bool
starts_visible [] = true
starts_visible (b ∷ bs) = not (is_ows b)

-- a value that is no longer and no shorter behind white space
abbrev pub is_plain_value : List ℕ → Bool
is_plain_value v = starts_visible v && (starts_visible (reverse v) && list_all is_value_byte v)

-- a field that can be written
abbrev pub is_plain_field : List ℕ × List ℕ → Bool
is_plain_field f = is_token f.0 && is_plain_value f.1

IsToken-from_test : (s : List ℕ) → is_token s ≡ true → IsToken s
IsToken-from_test s token =
    let parts = and_parts _ (list_all is_token_byte s) token in
    (ltb-true _ _ parts.0, AllPass-from_list_all is_token_byte s parts.1)

skip_ows_visible : (s : List ℕ) → starts_visible s ≡ true → skip_ows s ≡ s
skip_ows_visible [] visible = refl
skip_ows_visible (b ∷ bs) visible = ap (λ t. cond t (skip_ows bs) (b ∷ bs)) (not-true _ visible)

pub record ReadsBack (fields : List (List ℕ × List ℕ)) : Type 0 where
  pub each : All IsField (map field_of fields)
  pub same : map name_and_value (map field_of fields) ≡ fields
  pub text : (rest : List ℕ) → fields_text fields ++ rest ≡ flat_map print_field (map field_of fields) ++ rest

-- fields that are plain read back
pub plain_fields : (fields : List (List ℕ × List ℕ)) → list_all is_plain_field fields ≡ true → ReadsBack fields
plain_fields [] plain = record { each = All-nil IsField; same = refl; text = λ rest. refl }
plain_fields (f ∷ fields) plain =
    let both = and_parts (is_plain_field f) (list_all is_plain_field fields) plain in
    let parts = and_parts (is_token f.0) _ both.0 in
    let value = and_parts (starts_visible f.1) _ parts.1 in
    let tail = and_parts (starts_visible (reverse f.1)) _ value.1 in
    let later = plain_fields fields both.1 in
    let field : IsField (field_of f) = record { name = IsToken-from_test f.0 parts.0; raw = AllPass-from_list_all is_value_byte (32 ∷ f.1) tail.1 } in
    let trimmed = trim_ows_space f.1 (skip_ows_visible f.1 value.0) (skip_ows_visible (reverse f.1) tail.0) in
    record {
      each = All-cons IsField (field_of f) _ field later.each;
      same = λ i. (f.0, trimmed i) ∷ later.same i;
      text = λ rest. append_assoc (field_line f.0 f.1) (fields_text fields) rest ∙ ap (λ bs. field_line f.0 f.1 ++ bs) (later.text rest)
          ∙ simp (append_assoc, cons-append);
    }

-- ---- plain values

graphic_byte : (b : ℕ) → is_ascii_graphic b ≡ true → (not (is_ows b) ≡ true) × (is_value_byte b ≡ true)
graphic_byte b graphic = grind (arith, nat_tests)

graphic_starts : (v : List ℕ) → AllPass is_ascii_graphic v → starts_visible v ≡ true
graphic_starts [] all = refl
graphic_starts (b ∷ bs) all = (graphic_byte b (All-head (λ x. is_ascii_graphic x ≡ true) b bs all)).0

pub graphic_value : (v : List ℕ) → list_all is_ascii_graphic v ≡ true → is_plain_value v ≡ true
graphic_value v graphic =
    let all = AllPass-from_list_all is_ascii_graphic v graphic in
    let values = All-weaker (λ b. is_ascii_graphic b ≡ true) (λ b. is_value_byte b ≡ true) (λ b g. (graphic_byte b g).1) v all in
    and_from _ _ (graphic_starts v all) (and_from _ _ (graphic_starts (reverse v) (AllPass-reverse is_ascii_graphic v all)) (list_all-from_AllPass is_value_byte v values))

-- ---- numbers

decimal_digit : (c : ℕ) → digit_value c < 10 → (is_ascii_digit c ≡ true) × (is_ascii_graphic c ≡ true)
decimal_digit c small = (grind (arith, nat_tests), grind (arith, nat_tests))

all_digits : (text : List ℕ) → AllDigits 10 text → (list_all is_ascii_digit text ≡ true) × (list_all is_ascii_graphic text ≡ true)
all_digits [] all = (refl, refl)
all_digits (c ∷ cs) all =
    let here = decimal_digit c all.0 in
    let later = all_digits cs all.1 in
    (and_from _ _ here.0 later.0, and_from _ _ here.1 later.1)

pub record IsDecimal (n : ℕ) : Type 0 where
  pub some : 0 < length (decimal n)
  pub digits : list_all is_ascii_digit (decimal n) ≡ true
  pub visible : list_all is_ascii_graphic (decimal n) ≡ true
  pub value : digits_value 10 (decimal n) ≡ n

pub decimal_is : (n : ℕ) → n < 2 ^ 64 → IsDecimal n
decimal_is n fits =
    let numeral = decimal_is_IsNumeral n fits in
    let digits = all_digits (decimal n) numeral.0.1 in
    record { some = numeral.0.0; digits = digits.0; visible = digits.1; value = numeral.1 }
