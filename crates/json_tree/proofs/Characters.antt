-- The characters of a text as they are printed.
use Rattle.std.proofs.Common.{◌≡◌, ℕ, suc, ◌+◌, ◌*◌, ◌/◌, ◌%◌, ◌<◌, ◌≤◌, ◌⊎◌, inl, inr, List, [], ◌∷◌, ◌++◌, Bool, true, false, ◌&&◌, nat_lt, nat_eq, append_assoc, refl, sym, ap, ◌∙◌, subst, arith, rules, IsUtf8, le-ltb}
use Rattle.std.proofs.lemmas.Bool.Decides.{nat_tests}
use Rattle.std.proofs.lemmas.Str.{encode_ascii}
use Rattle.std.proofs.lemmas.List.{append-nil}
use Rattle.std.proofs.Math.Utf8.{scalar_cases}
use Rattle.std.specs.Char.{encode_utf8, IsScalar}
use Rattle.std.specs.Str.{all_scalars}
use Rattle.std.specs.Prelude.{encode_utf8_all}
use Rattle.std.specs.List.{AllByRecursion}
use Rattle.std.proofs.lemmas.Bool.{and_parts}
use Rattle.json_tree.specs.Grammar.{AreInRanges, tail, IsMultibyte, IsShortEscape, IsHexDigit, AreHexDigits, IsUnit, IsCharacter, IsCharacters}
use Rattle.json_tree.specs.Printing.{hex_digit, code_escape, escaped_byte, escaped}
use Rattle.json_tree.specs.Machinery.Pieces.{IsPlain}
use Rattle.json_tree.proofs.Choices.{choose, is_byte, no_byte}
use Rattle.json_tree.proofs.Escaped.{escaped_append, escaped_plain}

below : (a b : ℕ) → nat_lt a b ≡ true → a < b
below a b h = search rules

not_below : (a b : ℕ) → nat_lt a b ≡ false → b ≤ a
not_below a b h = search rules

-- ---- ASCII
hex : (d : ℕ) → d < 16 → IsHexDigit (hex_digit d) d
hex d h = choose (λ x. IsHexDigit x d) (nat_lt d 10) (48 + d) (87 + d)
    (λ l. let lt = below d 10 l in inl (omega arith, omega (arith, lt), omega arith))
    (λ l. let le = not_below d 10 l in inr (inr (omega (arith, le), omega (arith, h), omega arith)))

coded : (b : ℕ) (to : List ℕ) → b < 32 → IsCharacter (code_escape b ++ to) (b ∷ []) to
coded b to h =
    let x = hex_digit (b / 16) in let y = hex_digit (b % 16) in
    let value : b ≡ ((0 * 16 + 0) * 16 + b / 16) * 16 + b % 16 = omega arith in
    let last : AreHexDigits 1 ((0 * 16 + 0) * 16 + b / 16) (y ∷ to) b to = (y, b % 16, to, refl, hex (b % 16) (omega arith), (value, refl)) in
    let unit : IsUnit (48 ∷ 48 ∷ x ∷ y ∷ to) 0 0 b to =
    (48, 48, x ∷ y ∷ to, refl, inl (omega arith, omega arith, refl), inl (omega arith, omega arith, refl), (x, b / 16, y ∷ to, refl, hex (b / 16) (omega (arith, h)), last)) in
    inr (inr (117 ∷ 48 ∷ 48 ∷ x ∷ y ∷ to, refl, inr (48 ∷ 48 ∷ x ∷ y ∷ to, refl, inl (b, (0, 0, unit, λ e. absurd (omega (arith, e))), sym (encode_ascii b (omega (arith, h)))))))

short : (b mark : ℕ) (to : List ℕ) → IsShortEscape mark b → IsCharacter (92 ∷ mark ∷ to) (b ∷ []) to
short b mark to h = inr (inr (mark ∷ to, refl, inl (mark, b, h, refl, refl)))

pub ascii_printed : (b : ℕ) (to : List ℕ) → b < 128 → IsCharacter (escaped_byte b ++ to) (b ∷ []) to
ascii_printed b to h =
    let P : List ℕ → Type 0 = λ l. IsCharacter (l ++ to) (b ∷ []) to in
    choose P (nat_eq b 34) _ _ (λ e. short b 34 to (inl (refl, is_byte b 34 e))) (λ quote.
    choose P (nat_eq b 92) _ _ (λ e. short b 92 to (inr (inl (refl, is_byte b 92 e)))) (λ slash.
    choose P (nat_eq b 8) _ _ (λ e. short b 98 to (inr (inr (inr (inl (refl, is_byte b 8 e)))))) (λ n1.
    choose P (nat_eq b 9) _ _ (λ e. short b 116 to (inr (inr (inr (inr (inr (inr (inr (refl, is_byte b 9 e))))))))) (λ n2.
    choose P (nat_eq b 10) _ _ (λ e. short b 110 to (inr (inr (inr (inr (inr (inl (refl, is_byte b 10 e)))))))) (λ n3.
    choose P (nat_eq b 12) _ _ (λ e. short b 102 to (inr (inr (inr (inr (inl (refl, is_byte b 12 e))))))) (λ n4.
    choose P (nat_eq b 13) _ _ (λ e. short b 114 to (inr (inr (inr (inr (inr (inr (inl (refl, is_byte b 13 e))))))))) (λ n5.
    choose P (nat_lt b 32) _ _ (λ lt. coded b to (below b 32 lt)) (λ ge.
    inl (b, (not_below b 32 ge, omega (arith, h), no_byte b 34 quote, no_byte b 92 slash), refl, refl)))))))))

-- ---- characters of more bytes
abbrev IsHigh : ℕ → Type 0
IsHigh b = 128 ≤ b

high_plain : (b : ℕ) → 128 ≤ b → IsPlain b
high_plain b h = grind (arith, nat_tests)

all_plain : (bytes : List ℕ) → AllByRecursion IsHigh bytes → AllByRecursion IsPlain bytes
all_plain [] h = tt
all_plain (b ∷ bytes) h = (high_plain b h.0, all_plain bytes h.1)

within_2 : (p q : ℕ × ℕ) (a b : ℕ) → p.0 ≤ a → a ≤ p.1 → q.0 ≤ b → b ≤ q.1 → AreInRanges (p ∷ q ∷ []) (a ∷ b ∷ [])
within_2 p q a b h1 h2 h3 h4 = (a, b ∷ [], refl, h1, h2, (b, [], refl, h3, h4, refl))

within_3 : (p q r : ℕ × ℕ) (a b c : ℕ) → p.0 ≤ a → a ≤ p.1 → q.0 ≤ b → b ≤ q.1 → r.0 ≤ c → c ≤ r.1 → AreInRanges (p ∷ q ∷ r ∷ []) (a ∷ b ∷ c ∷ [])
within_3 p q r a b c h1 h2 h3 h4 h5 h6 = (a, b ∷ c ∷ [], refl, h1, h2, within_2 q r b c h3 h4 h5 h6)

within_4 : (p q r s : ℕ × ℕ) (a b c d : ℕ) → p.0 ≤ a → a ≤ p.1 → q.0 ≤ b → b ≤ q.1 → r.0 ≤ c → c ≤ r.1 → s.0 ≤ d → d ≤ s.1
    → AreInRanges (p ∷ q ∷ r ∷ s ∷ []) (a ∷ b ∷ c ∷ d ∷ [])
within_4 p q r s a b c d h1 h2 h3 h4 h5 h6 h7 h8 = (a, b ∷ c ∷ d ∷ [], refl, h1, h2, within_3 q r s b c d h3 h4 h5 h6 h7 h8)

abbrev IsHighMultibyte : List ℕ → Type 0
IsHighMultibyte bytes = IsMultibyte bytes × AllByRecursion IsHigh bytes

two : (c : ℕ) → 128 ≤ c → c < 2048 → IsHighMultibyte ((192 + c / 64) ∷ (128 + c % 64) ∷ [])
two c h l =
    (inl (within_2 (0xC2, 0xDF) tail (192 + c / 64) (128 + c % 64) (omega (arith, h)) (omega (arith, l)) (omega arith) (omega arith)), (omega arith, (omega arith, tt)))

three : (c : ℕ) → 2048 ≤ c → c < 65536 → (c < 55296) ⊎ (57344 ≤ c) → IsHighMultibyte ((224 + c / 4096) ∷ (128 + c / 64 % 64) ∷ (128 + c % 64) ∷ [])
three c h l s =
    let a = 224 + c / 4096 in let b = 128 + c / 64 % 64 in let d = 128 + c % 64 in (
      choose {A = ℕ} (λ _. IsMultibyte (a ∷ b ∷ d ∷ [])) (nat_lt (c / 4096) 1) 0 0
          (λ e. let f = below _ _ e in inr (inl (within_3 (0xE0, 0xE0) (0xA0, 0xBF) tail a b d (omega arith) (omega (arith, f)) (omega (arith, f, h)) (omega arith) (omega arith) (omega arith))))
          (λ e. let f = not_below _ _ e in choose {A = ℕ} (λ _. IsMultibyte (a ∷ b ∷ d ∷ [])) (nat_lt (c / 4096) 13) 0 0
          (λ g. let k = below _ _ g in inr (inr (inl (within_3 (0xE1, 0xEC) tail tail a b d (omega (arith, f)) (omega (arith, k)) (omega arith) (omega arith) (omega arith) (omega arith)))))
          (λ g. let k = not_below _ _ g in choose {A = ℕ} (λ _. IsMultibyte (a ∷ b ∷ d ∷ [])) (nat_lt (c / 4096) 14) 0 0
          (λ m. let n = below _ _ m in inr (inr (inr (inl (within_3 (0xED, 0xED) (0x80, 0x9F) tail a b d (omega (arith, k)) (omega (arith, n)) (omega arith) (grind (arith, s, k, n)) (omega arith) (omega arith))))))
          (λ m. let n = not_below _ _ m in inr (inr (inr (inr (inl (within_3 (0xEE, 0xEF) tail tail a b d (omega (arith, n)) (omega (arith, l)) (omega arith) (omega arith) (omega arith) (omega arith))))))))),
      (omega arith, (omega arith, (omega arith, tt))),
    )

four : (c : ℕ) → 65536 ≤ c → c < 1114112 → IsHighMultibyte ((240 + c / 262144) ∷ (128 + c / 4096 % 64) ∷ (128 + c / 64 % 64) ∷ (128 + c % 64) ∷ [])
four c h l =
    let a = 240 + c / 262144 in let b = 128 + c / 4096 % 64 in let d = 128 + c / 64 % 64 in let e = 128 + c % 64 in (
      choose {A = ℕ} (λ _. IsMultibyte (a ∷ b ∷ d ∷ e ∷ [])) (nat_lt (c / 262144) 1) 0 0
          (λ m. let f = below _ _ m in inr (inr (inr (inr (inr (inl (within_4 (0xF0, 0xF0) (0x90, 0xBF) tail tail a b d e (omega arith) (omega (arith, f)) (omega (arith, f, h)) (omega arith) (omega arith) (omega arith) (omega arith) (omega arith))))))))
          (λ m. let f = not_below _ _ m in choose {A = ℕ} (λ _. IsMultibyte (a ∷ b ∷ d ∷ e ∷ [])) (nat_lt (c / 262144) 4) 0 0
          (λ n. let k = below _ _ n in inr (inr (inr (inr (inr (inr (inl (within_4 (0xF1, 0xF3) tail tail tail a b d e (omega (arith, f)) (omega (arith, k)) (omega arith) (omega arith) (omega arith) (omega arith) (omega arith) (omega arith)))))))))
          (λ n. let k = not_below _ _ n in inr (inr (inr (inr (inr (inr (inr (within_4 (0xF4, 0xF4) (0x80, 0x8F) tail tail a b d e (omega (arith, k)) (omega (arith, l)) (omega arith) (omega (arith, k, l)) (omega arith) (omega arith) (omega arith) (omega arith)))))))))),
      (omega arith, (omega arith, (omega arith, (omega arith, tt)))),
    )

gap : (c : ℕ) → (c < 55296) ⊎ ((57344 ≤ c) × (c < 1114112)) → (c < 55296) ⊎ (57344 ≤ c)
gap c (inl h) = inl h
gap c (inr h) = inr h.0

most : (c : ℕ) → 65536 ≤ c → (c < 55296) ⊎ ((57344 ≤ c) × (c < 1114112)) → c < 1114112
most c h (inl l) = absurd (omega (arith, h, l))
most c h (inr l) = l.1

multibyte : (c : ℕ) → 128 ≤ c → (c < 55296) ⊎ ((57344 ≤ c) × (c < 1114112)) → IsHighMultibyte (encode_utf8 c)
unfolding encode_utf8
multibyte c h s =
    rw (le-ltb c 128 h)
    (choose IsHighMultibyte (nat_lt c 2048) _ _ (λ e. two c h (below c 2048 e)) (λ e.
    choose IsHighMultibyte (nat_lt c 65536) _ _ (λ g. three c (not_below c 2048 e) (below c 65536 g) (gap c s)) (λ g. four c (not_below c 65536 g) (most c (not_below c 65536 g) s))))

-- ---- texts
char_printed : (c : ℕ) → IsScalar c → (to : List ℕ) → IsCharacter (escaped (encode_utf8 c) ++ to) (encode_utf8 c) to
char_printed c h to = choose {A = ℕ} (λ _. IsCharacter (escaped (encode_utf8 c) ++ to) (encode_utf8 c) to) (nat_lt c 128) 0 0
    (λ e. let lt = below c 128 e in
    rw (encode_ascii c lt) (subst (λ l. IsCharacter (l ++ to) (c ∷ []) to) (sym (append-nil (escaped_byte c))) (ascii_printed c to lt)))
    (λ e. let m = multibyte c (not_below c 128 e) (scalar_cases c h) in
    let same = escaped_plain (encode_utf8 c) (all_plain (encode_utf8 c) m.1) in
    inr (inl (m.0, ap (λ l. l ++ to) same)))

all_printed : (cs : List ℕ) → all_scalars cs ≡ true → (to : List ℕ) → (n : ℕ) × IsCharacters n (escaped (encode_utf8_all cs) ++ 34 ∷ to) (encode_utf8_all cs) to
all_printed [] h to = (0, (refl, refl))
all_printed (c ∷ cs) h to =
    let s = and_parts _ _ h in
    let rest = all_printed cs s.1 to in
    let mid = escaped (encode_utf8_all cs) ++ 34 ∷ to in
    let split : escaped (encode_utf8 c ++ encode_utf8_all cs) ++ 34 ∷ to ≡ escaped (encode_utf8 c) ++ mid =
    ap (λ l. l ++ 34 ∷ to) (escaped_append (encode_utf8 c) (encode_utf8_all cs)) ∙ append_assoc (escaped (encode_utf8 c)) (escaped (encode_utf8_all cs)) (34 ∷ to) in (
      suc rest.0,
      (
        encode_utf8 c,
        encode_utf8_all cs,
        mid,
        subst (λ l. IsCharacter l (encode_utf8 c) mid) (sym split) (char_printed c s.0 mid),
        refl,
        rest.1,
      ),
    )

-- The characters that content prints as, up to the quotation mark.
pub text_printed : (content : List ℕ) → IsUtf8 content → (to : List ℕ) → (n : ℕ) × IsCharacters n (escaped content ++ 34 ∷ to) content to
text_printed content h to =
    subst (λ l. (n : ℕ) × IsCharacters n (escaped l ++ 34 ∷ to) l to) h.1.1 (all_printed h.0 h.1.0 to)
