-- Escaped characters, byte by byte.
use Rattle.std.proofs.Common.{◌≡◌, ℕ, suc, ◌+◌, ◌-◌, ◌*◌, ◌≤◌, ◌<◌, List, [], ◌∷◌, inl, inr, refl, ap, sym, ◌∙◌, subst, true, false, ◌&&◌, nat_eq, nat_le, arith, rules}
use Rattle.json_tree.specs.Grammar.{IsShortEscape, IsHexDigit, AreHexDigits, IsUnicode, IsEscape}
use Rattle.json_read.specs.Machinery.Automaton.{first_digit, behind_d, digits, high_digits, low_second, low_digits, Move, dead, on, done, escape_step, at_hex, first_digit_move, behind_d_move, low_first_move, low_second_move}
use Rattle.json_read.specs.Machinery.Remains.{IsLowRest, IsCharacterRest}
use Rattle.json_read.specs.Machinery.Steps.{RestMoves}
use Rattle.json_tree.proofs.Choices.{choose, chosen, is_byte, no_byte, is_within, is_within-in, not_within-in}

-- hexadecimal digits
at_hex-digit : (b x : ℕ) (next : ℕ → Move) → IsHexDigit b x → at_hex b next ≡ next x
at_hex-digit b x next (inl (low, high, e)) = rw (is_within-in b 48 57 low high, e) refl
at_hex-digit b x next (inr (inl (low, high, e))) =
    rw (not_within-in b 48 57 (inr (omega arith)), is_within-in b 65 70 low high, e) refl
at_hex-digit b x next (inr (inr (low, high, e))) =
    rw (not_within-in b 48 57 (inr (omega arith)), not_within-in b 65 70 (inr (omega arith)), is_within-in b 97 102 low high, e) refl

pub fwd-hex : (b x : ℕ) (next : ℕ → Move) (from bytes to : List ℕ) → IsHexDigit b x → RestMoves (next x) from bytes to → RestMoves (at_hex b next) from bytes to
fwd-hex b x next from bytes to h m = subst (λ (w : Move). RestMoves w from bytes to) (sym (at_hex-digit b x next h)) m

pub back-hex : (b : ℕ) (next : ℕ → Move) (from bytes to : List ℕ) → RestMoves (at_hex b next) from bytes to → (x : ℕ) × IsHexDigit b x × RestMoves (next x) from bytes to
back-hex b next from bytes to m =
    let there = λ (w : Move). RestMoves w from bytes to in
    elim (chosen there (nat_le 48 b && nat_le b 57) (next (b - 48)) _ m) [
      | inl h ↦ let r = is_within b 48 57 h.0 in (b - 48, inl (r.0, r.1, refl), h.1)
      | inr h ↦ elim (chosen there (nat_le 65 b && nat_le b 70) (next (b - 55)) _ h.1) [
        | inl g ↦ let r = is_within b 65 70 g.0 in (b - 55, inr (inl (r.0, r.1, refl)), g.1)
        | inr g ↦ elim (chosen there (nat_le 97 b && nat_le b 102) (next (b - 87)) dead g.1) [
          | inl i ↦ let r = is_within b 97 102 i.0 in (b - 87, inr (inr (r.0, r.1, refl)), i.1)
          | inr i ↦ absurd i.1
        ]
      ]
    ]

pub hex_small : (b x : ℕ) → IsHexDigit b x → x ≤ 15
hex_small b x (inl (low, high, e)) = omega arith
hex_small b x (inr (inl (low, high, e))) = omega arith
hex_small b x (inr (inr (low, high, e))) = omega arith

-- the first of some digits
pub digit_here : (n before b : ℕ) (from : List ℕ) (after : ℕ) (to : List ℕ) → AreHexDigits (suc n) before (b ∷ from) after to
    → (x : ℕ) × IsHexDigit b x × AreHexDigits n (before * 16 + x) from after to
digit_here n before b from after to (c, x, mid, e, h, more) =
    let front : c ≡ b = cc in
    let back : mid ≡ from = cc in
    (x, subst (λ (w : ℕ). IsHexDigit w x) front h, subst (λ (w : List ℕ). AreHexDigits n (before * 16 + x) w after to) back more)

-- behind a backslash
escape_step-short : (mark code : ℕ) → IsShortEscape mark code → escape_step mark ≡ done (code ∷ [])
escape_step-short mark code (inl (e, f)) = rw (e, f) refl
escape_step-short mark code (inr (inl (e, f))) = rw (e, f) refl
escape_step-short mark code (inr (inr (inl (e, f)))) = rw (e, f) refl
escape_step-short mark code (inr (inr (inr (inl (e, f))))) = rw (e, f) refl
escape_step-short mark code (inr (inr (inr (inr (inl (e, f)))))) = rw (e, f) refl
escape_step-short mark code (inr (inr (inr (inr (inr (inl (e, f))))))) = rw (e, f) refl
escape_step-short mark code (inr (inr (inr (inr (inr (inr (inl (e, f)))))))) = rw (e, f) refl
escape_step-short mark code (inr (inr (inr (inr (inr (inr (inr (e, f)))))))) = rw (e, f) refl

pub fwd-escape : (b : ℕ) (from bytes to : List ℕ) → IsEscape (b ∷ from) bytes to → RestMoves (escape_step b) from bytes to
fwd-escape b from bytes to (inl (mark, code, short, e, f)) =
    let front : b ≡ mark = cc in
    let back : from ≡ to = cc in
    let m : RestMoves (done (code ∷ [])) from bytes to = (f, back) in
    subst (λ (w : Move). RestMoves w from bytes to) (sym (ap escape_step front ∙ escape_step-short mark code short)) m
fwd-escape b from bytes to (inr (mid, e, h)) =
    let front : b ≡ 117 = cc in
    let back : mid ≡ from = cc in
    rw front (subst (λ (w : List ℕ). IsUnicode w bytes to) back h)

short_here : (b mark code : ℕ) (from bytes to : List ℕ) → nat_eq b mark ≡ true → IsShortEscape mark code
    → RestMoves (done (code ∷ [])) from bytes to → IsEscape (b ∷ from) bytes to
short_here b mark code from bytes to t short m =
    let front : b ≡ mark = is_byte b mark t in
    let back : from ≡ to = m.1 in
    inl (mark, code, short, rw (front, back) refl, m.0)

pub back-escape : (b : ℕ) (from bytes to : List ℕ) → RestMoves (escape_step b) from bytes to → IsEscape (b ∷ from) bytes to
back-escape b from bytes to m =
    let there = λ (w : Move). RestMoves w from bytes to in
    elim (chosen there (nat_eq b 34) (done (34 ∷ [])) _ m) [
      | inl h ↦ short_here b 34 34 from bytes to h.0 (inl (refl, refl)) h.1
      | inr h1 ↦ elim (chosen there (nat_eq b 92) (done (92 ∷ [])) _ h1.1) [
        | inl h ↦ short_here b 92 92 from bytes to h.0 (inr (inl (refl, refl))) h.1
        | inr h2 ↦ elim (chosen there (nat_eq b 47) (done (47 ∷ [])) _ h2.1) [
          | inl h ↦ short_here b 47 47 from bytes to h.0 (inr (inr (inl (refl, refl)))) h.1
          | inr h3 ↦ elim (chosen there (nat_eq b 98) (done (8 ∷ [])) _ h3.1) [
            | inl h ↦ short_here b 98 8 from bytes to h.0 (inr (inr (inr (inl (refl, refl))))) h.1
            | inr h4 ↦ elim (chosen there (nat_eq b 102) (done (12 ∷ [])) _ h4.1) [
              | inl h ↦ short_here b 102 12 from bytes to h.0 (inr (inr (inr (inr (inl (refl, refl)))))) h.1
              | inr h5 ↦ elim (chosen there (nat_eq b 110) (done (10 ∷ [])) _ h5.1) [
                | inl h ↦ short_here b 110 10 from bytes to h.0 (inr (inr (inr (inr (inr (inl (refl, refl))))))) h.1
                | inr h6 ↦ elim (chosen there (nat_eq b 114) (done (13 ∷ [])) _ h6.1) [
                  | inl h ↦ short_here b 114 13 from bytes to h.0 (inr (inr (inr (inr (inr (inr (inl (refl, refl)))))))) h.1
                  | inr h7 ↦ elim (chosen there (nat_eq b 116) (done (9 ∷ [])) _ h7.1) [
                    | inl h ↦ short_here b 116 9 from bytes to h.0 (inr (inr (inr (inr (inr (inr (inr (refl, refl)))))))) h.1
                    | inr h8 ↦ elim (chosen there (nat_eq b 117) (on first_digit) dead h8.1) [
                      | inl h ↦ let front : b ≡ 117 = is_byte b 117 h.0 in inr (from, rw front refl, h.1)
                      | inr h ↦ absurd h.1
                    ]
                  ]
                ]
              ]
            ]
          ]
        ]
      ]
    ]

-- behind `\u`
pub fwd-first_digit : (b : ℕ) (from bytes to : List ℕ) → IsUnicode (b ∷ from) bytes to → RestMoves (at_hex b first_digit_move) from bytes to
fwd-first_digit b from bytes to (inl (unit, (first, second, (x, y, mid, e, hx, hy, ds), low), f)) =
    let front : x ≡ b = cc in
    let back : from ≡ y ∷ mid = cc in
    let hb : IsHexDigit b first = subst (λ (w : ℕ). IsHexDigit w first) front hx in
    let there = λ (w : Move). RestMoves w from bytes to in
    let m : RestMoves (first_digit_move first) from bytes to =
    choose there (nat_eq first 13) (on behind_d) (on (digits 2 first))
    (λ t. let s : first ≡ 13 = is_byte first 13 t in
    (y, second, mid, back, hy, inl (unit, low s, subst (λ (w : ℕ). AreHexDigits 2 (w * 16 + second) mid unit to) s ds, f)))
    (λ t. (unit, (y, second, mid, back, hy, ds), f)) in
    fwd-hex b first first_digit_move from bytes to hb m
fwd-first_digit b from bytes to (inr (high, low, next, (second, (x, y, mid, e, hx, hy, ds), ge, le), h, f)) =
    let front : x ≡ b = cc in
    let back : from ≡ y ∷ mid = cc in
    let hb : IsHexDigit b 13 = subst (λ (w : ℕ). IsHexDigit w 13) front hx in
    let m : RestMoves (first_digit_move 13) from bytes to = (y, second, mid, back, hy, inr (high, next, ge, le, ds, (low, h, f))) in
    fwd-hex b 13 first_digit_move from bytes to hb m

-- behind D
unicode_d : (b x : ℕ) (from bytes to : List ℕ) → x ≡ 13 → IsHexDigit b x → IsCharacterRest behind_d from bytes to → IsUnicode (b ∷ from) bytes to
unicode_d b x from bytes to s h (y, second, mid, e, hy, inl (unit, le, ds, f)) =
    let hb : IsHexDigit b 13 = subst (λ (w : ℕ). IsHexDigit b w) s h in
    inl (unit, (13, second, (b, y, mid, rw e refl, hb, hy, ds), λ t. le), f)
unicode_d b x from bytes to s h (y, second, mid, e, hy, inr (high, next, ge, le, ds, (low, g, f))) =
    let hb : IsHexDigit b 13 = subst (λ (w : ℕ). IsHexDigit b w) s h in
    inr (high, low, next, (second, (b, y, mid, rw e refl, hb, hy, ds), ge, le), g, f)

unicode_plain : (b x : ℕ) (from bytes to : List ℕ) → nat_eq x 13 ≡ false → IsHexDigit b x → IsCharacterRest (digits 2 x) from bytes to → IsUnicode (b ∷ from) bytes to
unicode_plain b x from bytes to other h (unit, (y, second, mid, e, hy, ds), f) =
    inl (unit, (x, second, (b, y, mid, rw e refl, h, hy, ds), λ t. absurd (no_byte x 13 other t)), f)

pub back-first_digit : (b : ℕ) (from bytes to : List ℕ) → RestMoves (at_hex b first_digit_move) from bytes to → IsUnicode (b ∷ from) bytes to
back-first_digit b from bytes to m =
    let h = back-hex b first_digit_move from bytes to m in
    elim (chosen (λ (w : Move). RestMoves w from bytes to) (nat_eq h.0 13) (on behind_d) (on (digits 2 h.0)) h.2) [
      | inl g ↦ unicode_d b h.0 from bytes to (is_byte h.0 13 g.0) h.1 g.1
      | inr g ↦ unicode_plain b h.0 from bytes to g.0 h.1 g.1
    ]

at_most : (x n : ℕ) → nat_le x n ≡ true → x ≤ n
at_most x n h = search rules

at_most-in : (x n : ℕ) → x ≤ n → nat_le x n ≡ true
at_most-in x n h = search rules

above : (x n : ℕ) → nat_le x n ≡ false → n < x
above x n h = search rules

above-in : (x n : ℕ) → n < x → nat_le x n ≡ false
above-in x n h = search rules

pub fwd-behind_d : (b : ℕ) (from bytes to : List ℕ) → IsCharacterRest behind_d (b ∷ from) bytes to → RestMoves (at_hex b behind_d_move) from bytes to
fwd-behind_d b from bytes to (y, second, mid, e, hy, inl (unit, le, ds, f)) =
    let front : y ≡ b = cc in
    let back : mid ≡ from = cc in
    let hb : IsHexDigit b second = subst (λ (w : ℕ). IsHexDigit w second) front hy in
    let ms : AreHexDigits 2 (13 * 16 + second) from unit to = subst (λ (w : List ℕ). AreHexDigits 2 (13 * 16 + second) w unit to) back ds in
    let m : RestMoves (behind_d_move second) from bytes to = rw (at_most-in second 7 le) (unit, ms, f) in
    fwd-hex b second behind_d_move from bytes to hb m
fwd-behind_d b from bytes to (y, second, mid, e, hy, inr (high, next, ge, le, ds, low)) =
    let front : y ≡ b = cc in
    let back : mid ≡ from = cc in
    let hb : IsHexDigit b second = subst (λ (w : ℕ). IsHexDigit w second) front hy in
    let ms : AreHexDigits 2 (13 * 16 + second) from high (92 ∷ 117 ∷ next) =
    subst (λ (w : List ℕ). AreHexDigits 2 (13 * 16 + second) w high (92 ∷ 117 ∷ next)) back ds in
    let m : RestMoves (behind_d_move second) from bytes to =
    rw (above-in second 7 (omega arith), at_most-in second 11 le) (high, next, ms, low) in
    fwd-hex b second behind_d_move from bytes to hb m

pub back-behind_d : (b : ℕ) (from bytes to : List ℕ) → RestMoves (at_hex b behind_d_move) from bytes to → IsCharacterRest behind_d (b ∷ from) bytes to
back-behind_d b from bytes to m =
    let h = back-hex b behind_d_move from bytes to m in
    let x = h.0 in
    let there = λ (w : Move). RestMoves w from bytes to in
    elim (chosen there (nat_le x 7) (on (digits 1 (13 * 16 + x))) _ h.2) [
      | inl g ↦ let r = g.1 in (b, x, from, refl, h.1, inl (r.0, at_most x 7 g.0, r.1, r.2))
      | inr g ↦ elim (chosen there (nat_le x 11) (on (high_digits 1 (13 * 16 + x))) dead g.1) [
        | inl i ↦ let r = i.1 in (b, x, from, refl, h.1, inr (r.0, r.1, above x 7 g.0, at_most x 11 i.0, r.2, r.3))
        | inr i ↦ absurd i.1
      ]
    ]

-- the low surrogate of a pair
pub fwd-low_first : (high b : ℕ) (from bytes to : List ℕ) → IsLowRest high (b ∷ from) bytes to → RestMoves (at_hex b (low_first_move high)) from bytes to
fwd-low_first high b from bytes to (low, (second, (x, y, mid, e, hx, hy, ds), ge), f) =
    let front : x ≡ b = cc in
    let back : from ≡ y ∷ mid = cc in
    let m : RestMoves (low_first_move high 13) from bytes to = (y, second, low, mid, back, hy, ge, ds, f) in
    fwd-hex b 13 (low_first_move high) from bytes to (subst (λ (w : ℕ). IsHexDigit w 13) front hx) m

low_here : (high b x : ℕ) (from bytes to : List ℕ) → x ≡ 13 → IsHexDigit b x → IsCharacterRest (low_second high) from bytes to → IsLowRest high (b ∷ from) bytes to
low_here high b x from bytes to s h (y, second, low, mid, e, hy, ge, ds, f) =
    (low, (second, (b, y, mid, rw e refl, subst (λ (w : ℕ). IsHexDigit b w) s h, hy, ds), ge), f)

pub back-low_first : (high b : ℕ) (from bytes to : List ℕ) → RestMoves (at_hex b (low_first_move high)) from bytes to → IsLowRest high (b ∷ from) bytes to
back-low_first high b from bytes to m =
    let h = back-hex b (low_first_move high) from bytes to m in
    elim (chosen (λ (w : Move). RestMoves w from bytes to) (nat_eq h.0 13) (on (low_second high)) dead h.2) [
      | inl g ↦ low_here high b h.0 from bytes to (is_byte h.0 13 g.0) h.1 g.1
      | inr g ↦ absurd g.1
    ]

pub fwd-low_second : (high b : ℕ) (from bytes to : List ℕ) → IsCharacterRest (low_second high) (b ∷ from) bytes to → RestMoves (at_hex b (low_second_move high)) from bytes to
fwd-low_second high b from bytes to (y, second, low, mid, e, hy, ge, ds, f) =
    let front : y ≡ b = cc in
    let back : mid ≡ from = cc in
    let ms : AreHexDigits 2 (13 * 16 + second) from low to = subst (λ (w : List ℕ). AreHexDigits 2 (13 * 16 + second) w low to) back ds in
    let m : RestMoves (low_second_move high second) from bytes to = rw (at_most-in 12 second ge) (low, ms, f) in
    fwd-hex b second (low_second_move high) from bytes to (subst (λ (w : ℕ). IsHexDigit w second) front hy) m

pub back-low_second : (high b : ℕ) (from bytes to : List ℕ) → RestMoves (at_hex b (low_second_move high)) from bytes to → IsCharacterRest (low_second high) (b ∷ from) bytes to
back-low_second high b from bytes to m =
    let h = back-hex b (low_second_move high) from bytes to m in
    let x = h.0 in
    elim (chosen (λ (w : Move). RestMoves w from bytes to) (nat_le 12 x) (on (low_digits 1 high (13 * 16 + x))) dead h.2) [
      | inl g ↦ let r = g.1 in (b, x, r.0, from, refl, h.1, at_most 12 x g.0, r.1, r.2)
      | inr g ↦ absurd g.1
    ]
