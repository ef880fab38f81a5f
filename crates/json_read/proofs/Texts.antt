-- Texts, byte by byte.
use Rattle.std.proofs.Common.{◌≡◌, ℕ, zero, suc, ◌+◌, ◌*◌, ◌≤◌, List, [], ◌∷◌, ◌++◌, Option, Some, inl, inr, refl, ap, sym, ◌∙◌, subst, ◌&&◌, nat_eq, nat_le, encode_utf8, append_assoc, arith}
use Rattle.std.proofs.lemmas.List.{append-nil}
use Rattle.json_tree.specs.Values.{Raw}
use Rattle.json_tree.specs.Grammar.{IsHexDigit, AreHexDigits, IsLowSurrogate, IsUnicode, IsEscape, IsCharacter, paired}
use Rattle.json_read.specs.Machinery.Automaton.{Use, as_value, as_key, Frame, State, in_text, in_character, Point, escaped, first_digit, behind_d, digits, high_digits, low_escape, low_letter, low_first, low_second, low_digits, in_sequence, Move, dead, on, on_with, done, moved, used, lead, first_step, point_step}
use Rattle.json_read.specs.Machinery.Remains.{Follows, IsLowRest, IsCharacterRest, InText, AfterText}
use Rattle.json_read.specs.Machinery.Steps.{Forward, Backward, RestMoves}
use Rattle.json_tree.proofs.Choices.{choose, chosen, is_byte, no_byte, no_byte-in, is_within, is_within-in, not_within-in}
use Rattle.json_read.proofs.Utf8.{fwd-lead, back-lead, fwd-sequence, back-sequence, multibyte_first, multibyte_some, sequence_some, complete-sequence}
use Rattle.json_read.proofs.Escapes.{fwd-hex, back-hex, digit_here, fwd-escape, back-escape, fwd-first_digit, back-first_digit, fwd-behind_d, back-behind_d, fwd-low_first, back-low_first, fwd-low_second, back-low_second}

-- inside a character
pub fwd-point : (p : Point) (b : ℕ) (from bytes to : List ℕ) → IsCharacterRest p (b ∷ from) bytes to → RestMoves (point_step p b) from bytes to
fwd-point escaped b from bytes to h = fwd-escape b from bytes to h
fwd-point first_digit b from bytes to h = fwd-first_digit b from bytes to h
fwd-point behind_d b from bytes to h = fwd-behind_d b from bytes to h
fwd-point (digits zero before) b from bytes to (unit, ds, f) =
    let r = digit_here 0 before b from unit to ds in
    let unit-is : unit ≡ before * 16 + r.0 = r.2.0 in
    fwd-hex b r.0 (λ x. done (encode_utf8 (before * 16 + x))) from bytes to r.1 (f ∙ ap encode_utf8 unit-is, r.2.1)
fwd-point (digits (suc n) before) b from bytes to (unit, ds, f) =
    let r = digit_here (suc n) before b from unit to ds in
    fwd-hex b r.0 (λ x. on (digits n (before * 16 + x))) from bytes to r.1 (unit, r.2, f)
fwd-point (high_digits zero before) b from bytes to (high, next, ds, low) =
    let r = digit_here 0 before b from high (92 ∷ 117 ∷ next) ds in
    let high-is : high ≡ before * 16 + r.0 = r.2.0 in
    fwd-hex b r.0 (λ x. on (low_escape (before * 16 + x))) from bytes to r.1
    (next, r.2.1, subst (λ (w : ℕ). IsLowRest w next bytes to) high-is low)
fwd-point (high_digits (suc n) before) b from bytes to (high, next, ds, low) =
    let r = digit_here (suc n) before b from high (92 ∷ 117 ∷ next) ds in
    fwd-hex b r.0 (λ x. on (high_digits n (before * 16 + x))) from bytes to r.1 (high, next, r.2, low)
fwd-point (low_escape high) b from bytes to (next, e, low) =
    let front : b ≡ 92 = cc in
    let back : from ≡ 117 ∷ next = cc in
    rw front (next, back, low)
fwd-point (low_letter high) b from bytes to (next, e, low) =
    let front : b ≡ 117 = cc in
    let back : next ≡ from = cc in
    rw front (subst (λ (w : List ℕ). IsLowRest high w bytes to) back low)
fwd-point (low_first high) b from bytes to h = fwd-low_first high b from bytes to h
fwd-point (low_second high) b from bytes to h = fwd-low_second high b from bytes to h
fwd-point (low_digits zero high before) b from bytes to (low, ds, f) =
    let r = digit_here 0 before b from low to ds in
    let low-is : low ≡ before * 16 + r.0 = r.2.0 in
    fwd-hex b r.0 (λ x. done (paired high (before * 16 + x))) from bytes to r.1 (f ∙ ap (λ (w : ℕ). paired high w) low-is, r.2.1)
fwd-point (low_digits (suc n) high before) b from bytes to (low, ds, f) =
    let r = digit_here (suc n) before b from low to ds in
    fwd-hex b r.0 (λ x. on (low_digits n high (before * 16 + x))) from bytes to r.1 (low, r.2, f)
fwd-point (in_sequence s) b from bytes to h = fwd-sequence s b from bytes to h

pub back-point : (p : Point) (b : ℕ) (from bytes to : List ℕ) → RestMoves (point_step p b) from bytes to → IsCharacterRest p (b ∷ from) bytes to
back-point escaped b from bytes to h = back-escape b from bytes to h
back-point first_digit b from bytes to h = back-first_digit b from bytes to h
back-point behind_d b from bytes to h = back-behind_d b from bytes to h
back-point (digits zero before) b from bytes to h =
    let r = back-hex b (λ x. done (encode_utf8 (before * 16 + x))) from bytes to h in
    (before * 16 + r.0, (b, r.0, from, refl, r.1, (refl, r.2.1)), r.2.0)
back-point (digits (suc n) before) b from bytes to h =
    let r = back-hex b (λ x. on (digits n (before * 16 + x))) from bytes to h in
    (r.2.0, (b, r.0, from, refl, r.1, r.2.1), r.2.2)
back-point (high_digits zero before) b from bytes to h =
    let r = back-hex b (λ x. on (low_escape (before * 16 + x))) from bytes to h in
    (before * 16 + r.0, r.2.0, (b, r.0, from, refl, r.1, (refl, r.2.1)), r.2.2)
back-point (high_digits (suc n) before) b from bytes to h =
    let r = back-hex b (λ x. on (high_digits n (before * 16 + x))) from bytes to h in
    (r.2.0, r.2.1, (b, r.0, from, refl, r.1, r.2.2), r.2.3)
back-point (low_escape high) b from bytes to h =
    elim (chosen (λ (w : Move). RestMoves w from bytes to) (nat_eq b 92) (on (low_letter high)) dead h) [
      | inl g ↦ let r = g.1 in let front : b ≡ 92 = is_byte b 92 g.0 in (r.0, rw (front, r.1) refl, r.2)
      | inr g ↦ absurd g.1
    ]
back-point (low_letter high) b from bytes to h =
    elim (chosen (λ (w : Move). RestMoves w from bytes to) (nat_eq b 117) (on (low_first high)) dead h) [
      | inl g ↦ let front : b ≡ 117 = is_byte b 117 g.0 in (from, rw front refl, g.1)
      | inr g ↦ absurd g.1
    ]
back-point (low_first high) b from bytes to h = back-low_first high b from bytes to h
back-point (low_second high) b from bytes to h = back-low_second high b from bytes to h
back-point (low_digits zero high before) b from bytes to h =
    let r = back-hex b (λ x. done (paired high (before * 16 + x))) from bytes to h in
    (before * 16 + r.0, (b, r.0, from, refl, r.1, (refl, r.2.1)), r.2.0)
back-point (low_digits (suc n) high before) b from bytes to h =
    let r = back-hex b (λ x. on (low_digits n high (before * 16 + x))) from bytes to h in
    (r.2.0, (b, r.0, from, refl, r.1, r.2.1), r.2.2)
back-point (in_sequence s) b from bytes to h = back-sequence s b from bytes to h

-- something remains inside a character
some : (b : ℕ) (rest : List ℕ) → [] ≡ b ∷ rest → ⊥
some b rest e = cc

digits_some : (n before after : ℕ) (to : List ℕ) → AreHexDigits (suc n) before [] after to → ⊥
digits_some n before after to (b, x, mid, e, h, more) = some b mid e

low_some : (high : ℕ) (bytes to : List ℕ) → IsLowRest high [] bytes to → ⊥
low_some high bytes to (low, (second, (x, y, mid, e, hx, hy, more), ge), f) = some x (y ∷ mid) e

unicode_some : (bytes to : List ℕ) → IsUnicode [] bytes to → ⊥
unicode_some bytes to (inl (unit, (first, second, (x, y, mid, e, hx, hy, more), le), f)) = some x (y ∷ mid) e
unicode_some bytes to (inr (high, low, next, (second, (x, y, mid, e, hx, hy, more), ge, le), h, f)) = some x (y ∷ mid) e

pub point_some : (p : Point) (bytes to : List ℕ) → IsCharacterRest p [] bytes to → ⊥
point_some escaped bytes to (inl (mark, code, short, e, f)) = some mark to e
point_some escaped bytes to (inr (mid, e, h)) = some 117 mid e
point_some first_digit bytes to h = unicode_some bytes to h
point_some behind_d bytes to (y, second, mid, e, h, more) = some y mid e
point_some (digits n before) bytes to (unit, ds, f) = digits_some n before unit to ds
point_some (high_digits n before) bytes to (high, next, ds, low) = digits_some n before high (92 ∷ 117 ∷ next) ds
point_some (low_escape high) bytes to (next, e, low) = some 92 (117 ∷ next) e
point_some (low_letter high) bytes to (next, e, low) = some 117 next e
point_some (low_first high) bytes to h = low_some high bytes to h
point_some (low_second high) bytes to (y, second, low, mid, e, h, ge, ds, f) = some y mid e
point_some (low_digits n high before) bytes to (low, ds, f) = digits_some n before low to ds
point_some (in_sequence s) bytes to h = sequence_some s bytes to h

-- at a character's first byte
pub first_quote : (from bytes to : List ℕ) → IsCharacter (34 ∷ from) bytes to → ⊥
first_quote from bytes to (inl (b, p, e, f)) = let q : b ≡ 34 = cc in p.2 q
first_quote from bytes to (inr (inl (m, e))) = let low : 194 ≤ 34 = multibyte_first 34 from bytes to m e in omega arith
first_quote from bytes to (inr (inr (mid, e, h))) = let q : 34 ≡ 92 = cc in no_byte 34 92 refl q

pub fwd-first : (b : ℕ) (from bytes to : List ℕ) → IsCharacter (b ∷ from) bytes to → RestMoves (first_step b) from bytes to
fwd-first b from bytes to (inl (c, (ge, le, quote, slash), e, f)) =
    let front : b ≡ c = cc in
    let back : from ≡ to = cc in
    let m : RestMoves (done (c ∷ [])) from bytes to = (f, back) in
    rw (front, no_byte-in c 92 slash, is_within-in c 32 127 ge le) m
fwd-first b from bytes to (inr (inl (m, e))) =
    let low : 194 ≤ b = multibyte_first b from bytes to m e in
    rw (no_byte-in b 92 (λ t. omega arith), not_within-in b 32 127 (inr (omega arith))) (fwd-lead b from bytes to m e)
fwd-first b from bytes to (inr (inr (mid, e, h))) =
    let front : b ≡ 92 = cc in
    let back : mid ≡ from = cc in
    rw front (subst (λ (w : List ℕ). IsEscape w bytes to) back h)

pub back-first : (b : ℕ) (from bytes to : List ℕ) → (b ≡ 34 → ⊥) → RestMoves (first_step b) from bytes to → IsCharacter (b ∷ from) bytes to
back-first b from bytes to q m =
    let there = λ (w : Move). RestMoves w from bytes to in
    elim (chosen there (nat_eq b 92) (on escaped) _ m) [
      | inl h ↦ let front : b ≡ 92 = is_byte b 92 h.0 in inr (inr (from, rw front refl, h.1))
      | inr h ↦ elim (chosen there (nat_le 32 b && nat_le b 127) (done (b ∷ [])) (lead b) h.1) [
        | inl g ↦
            let r = is_within b 32 127 g.0 in
            let back : from ≡ to = g.1.1 in
            inl (b, (r.0, r.1, q, no_byte b 92 h.0), rw back refl, g.1.0)
        | inr g ↦ inr (inl (back-lead b from bytes to g.1))
      ]
    ]

pub character_some : (bytes to : List ℕ) → IsCharacter [] bytes to → ⊥
character_some bytes to (inl (b, p, e, f)) = cc
character_some bytes to (inr (inl (m, e))) = multibyte_some bytes to m e
character_some bytes to (inr (inr (mid, e, h))) = cc

-- a move inside a text
pub fwd-moved : (m : Move) (u : Use) (content : List ℕ) (d : ℕ) (k : List Frame) (from bytes to : List ℕ) (whole : Raw)
    → RestMoves m from bytes to → InText u (content ++ bytes) d k to whole → Follows (moved u content d k m) from whole
fwd-moved dead u content d k from bytes to whole h t = absurd h
fwd-moved (on p) u content d k from bytes to whole h t = (bytes, to, h, t)
fwd-moved (on_with b p) u content d k from bytes to whole (rest, e, h) t =
    let same : content ++ bytes ≡ (content ++ b ∷ []) ++ rest = rw (e, append_assoc) refl in
    (rest, to, h, subst (λ (w : List ℕ). InText u w d k to whole) same t)
fwd-moved (done these) u content d k from bytes to whole (e, f) t =
    subst (λ (w : List ℕ). InText u (content ++ these) d k w whole) (sym f)
    (subst (λ (w : List ℕ). InText u (content ++ w) d k to whole) e t)

pub back-moved : (m : Move) (u : Use) (content : List ℕ) (d : ℕ) (k : List Frame) (from : List ℕ) (whole : Raw)
    → Follows (moved u content d k m) from whole → (bytes to : List ℕ) × RestMoves m from bytes to × InText u (content ++ bytes) d k to whole
back-moved dead u content d k from whole h = absurd h
back-moved (on p) u content d k from whole (bytes, mid, h, t) = (bytes, mid, h, t)
back-moved (on_with b p) u content d k from whole (bytes, mid, h, t) =
    let same : (content ++ b ∷ []) ++ bytes ≡ content ++ b ∷ bytes = rw append_assoc refl in
    (b ∷ bytes, mid, (bytes, refl, h), subst (λ (w : List ℕ). InText u w d k mid whole) same t)
back-moved (done these) u content d k from whole h = (these, from, (refl, refl), h)

-- the end of a text
pub fwd-used : (u : Use) (content : List ℕ) (d : ℕ) (k : List Frame) (from : List ℕ) (whole : Raw)
    → AfterText u content d k from whole → Follows (Some (used u content d k)) from whole
fwd-used as_value content d k from whole h = h
fwd-used (as_key ms) content d k from whole h = h

back-used : (u : Use) (content : List ℕ) (d : ℕ) (k : List Frame) (from : List ℕ) (whole : Raw)
    → Follows (Some (used u content d k)) from whole → AfterText u content d k from whole
back-used as_value content d k from whole h = h
back-used (as_key ms) content d k from whole h = h

pub fwd-in_text : (u : Use) (content : List ℕ) (d : ℕ) (k : List Frame) → Forward (in_text u content d k)
fwd-in_text u content d k b rest whole (zero, more, to, (none, e), t) =
    let front : b ≡ 34 = cc in
    let back : to ≡ rest = cc in
    let same : content ++ more ≡ content = rw (none, append-nil) refl in
    let here : AfterText u content d k rest whole =
    subst (λ (w : List ℕ). AfterText u content d k w whole) back (subst (λ (w : List ℕ). AfterText u w d k to whole) same t) in
    rw front (fwd-used u content d k rest whole here)
fwd-in_text u content d k b rest whole (suc n, more, to, (bytes, others, mid, one, e, h), t) =
    let same : content ++ more ≡ (content ++ bytes) ++ others = rw (e, append_assoc) refl in
    let inside : InText u (content ++ bytes) d k mid whole =
    (n, others, to, h, subst (λ (w : List ℕ). AfterText u w d k to whole) same t) in
    choose (λ (w : Option State). Follows w rest whole) (nat_eq b 34) (Some (used u content d k)) (moved u content d k (first_step b))
    (λ y. absurd (first_quote rest bytes mid (subst (λ (w : ℕ). IsCharacter (w ∷ rest) bytes mid) (is_byte b 34 y) one)))
    (λ y. fwd-moved (first_step b) u content d k rest bytes mid whole (fwd-first b rest bytes mid one) inside)

pub back-in_text : (u : Use) (content : List ℕ) (d : ℕ) (k : List Frame) → Backward (in_text u content d k)
back-in_text u content d k b rest whole h =
    elim (chosen (λ (w : Option State). Follows w rest whole) (nat_eq b 34) (Some (used u content d k)) (moved u content d k (first_step b)) h) [
      | inl g ↦
          let front : b ≡ 34 = is_byte b 34 g.0 in
          let none : content ≡ content ++ [] = sym (append-nil content) in
          (0, [], rest, (refl, rw front refl), subst (λ (w : List ℕ). AfterText u w d k rest whole) none (back-used u content d k rest whole g.1))
      | inr g ↦
          let m = back-moved (first_step b) u content d k rest whole g.1 in
          let one = back-first b rest m.0 m.1 (no_byte b 34 g.0) m.2 in
          let t = m.3 in
          let same : (content ++ m.0) ++ t.1 ≡ content ++ (m.0 ++ t.1) = rw append_assoc refl in
          (suc t.0, m.0 ++ t.1, t.2, (m.0, t.1, m.1, one, refl, t.3), subst (λ (w : List ℕ). AfterText u w d k t.2 whole) same t.4)
    ]

pub fwd-in_character : (p : Point) (u : Use) (content : List ℕ) (d : ℕ) (k : List Frame) → Forward (in_character p u content d k)
fwd-in_character p u content d k b rest whole (bytes, mid, h, t) =
    fwd-moved (point_step p b) u content d k rest bytes mid whole (fwd-point p b rest bytes mid h) t

pub back-in_character : (p : Point) (u : Use) (content : List ℕ) (d : ℕ) (k : List Frame) → Backward (in_character p u content d k)
back-in_character p u content d k b rest whole h =
    let m = back-moved (point_step p b) u content d k rest whole h in
    (m.0, m.1, back-point p b rest m.0 m.1 m.2, m.3)

-- some digits, and a low surrogate
zero_digit : IsHexDigit 48 0
zero_digit = inl (omega arith, omega arith, refl)

complete-digits : (n before : ℕ) → (front : List ℕ) × (after : ℕ) × ((to : List ℕ) → AreHexDigits n before (front ++ to) after to)
complete-digits zero before = ([], before, λ to. (refl, refl))
complete-digits (suc n) before =
    let r = complete-digits n (before * 16 + 0) in
    (48 ∷ r.0, r.1, λ to. (48, 0, r.0 ++ to, refl, zero_digit, r.2 to))

-- `DC00`
complete-surrogate : (front : List ℕ) × (low : ℕ) × ((to : List ℕ) → IsLowSurrogate (front ++ to) low to)
complete-surrogate =
    let r = complete-digits 2 (13 * 16 + 12) in
    let d : IsHexDigit 68 13 = inr (inl (omega arith, omega arith, refl)) in
    let c : IsHexDigit 67 12 = inr (inl (omega arith, omega arith, refl)) in
    (68 ∷ 67 ∷ r.0, r.1, λ to. (12, (68, 67, r.0 ++ to, refl, d, c, r.2 to), omega arith))

complete-low : (high : ℕ) → (front bytes : List ℕ) × ((to : List ℕ) → IsLowRest high (front ++ to) bytes to)
complete-low high = let r = complete-surrogate in (r.0, paired high r.1, λ to. (r.1, r.2 to, refl))

-- Some bytes remain, whatever follows them.
pub complete-point : (p : Point) → (front bytes : List ℕ) × ((to : List ℕ) → IsCharacterRest p (front ++ to) bytes to)
complete-point escaped = (34 ∷ [], 34 ∷ [], λ to. inl (34, 34, inl (refl, refl), refl, refl))
complete-point first_digit =
    let r = complete-digits 2 0 in (
      48 ∷ 48 ∷ r.0,
      encode_utf8 r.1,
      λ to. inl (r.1, (0, 0, (48, 48, r.0 ++ to, refl, zero_digit, zero_digit, r.2 to), λ e. omega arith), refl),
    )
complete-point behind_d =
    let r = complete-digits 2 (13 * 16 + 0) in
    (48 ∷ r.0, encode_utf8 r.1, λ to. (48, 0, r.0 ++ to, refl, zero_digit, inl (r.1, omega arith, r.2 to, refl)))
complete-point (digits n before) =
    let r = complete-digits (suc n) before in
    (r.0, encode_utf8 r.1, λ to. (r.1, r.2 to, refl))
complete-point (high_digits n before) =
    let r = complete-surrogate in
    let s = complete-digits (suc n) before in (
      s.0 ++ 92 ∷ 117 ∷ r.0,
      paired s.1 r.1,
      λ to.
          let same : (s.0 ++ 92 ∷ 117 ∷ r.0) ++ to ≡ s.0 ++ (92 ∷ 117 ∷ (r.0 ++ to)) = rw append_assoc refl in (
            s.1,
            r.0 ++ to,
            subst (λ (w : List ℕ). AreHexDigits (suc n) before w s.1 (92 ∷ 117 ∷ (r.0 ++ to))) (sym same) (s.2 (92 ∷ 117 ∷ (r.0 ++ to))),
            (r.1, r.2 to, refl),
          ),
    )
complete-point (low_escape high) =
    let r = complete-low high in
    (92 ∷ 117 ∷ r.0, r.1, λ to. (r.0 ++ to, refl, r.2 to))
complete-point (low_letter high) =
    let r = complete-low high in
    (117 ∷ r.0, r.1, λ to. (r.0 ++ to, refl, r.2 to))
complete-point (low_first high) = complete-low high
complete-point (low_second high) =
    let r = complete-digits 2 (13 * 16 + 12) in
    let c : IsHexDigit 67 12 = inr (inl (omega arith, omega arith, refl)) in
    (67 ∷ r.0, paired high r.1, λ to. (67, 12, r.1, r.0 ++ to, refl, c, omega arith, r.2 to, refl))
complete-point (low_digits n high before) =
    let r = complete-digits (suc n) before in
    (r.0, paired high r.1, λ to. (r.1, r.2 to, refl))
complete-point (in_sequence s) =
    let r = complete-sequence s in
    (r.0, r.0, λ to. (r.1, refl))
