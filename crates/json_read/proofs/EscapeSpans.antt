-- What the functions that go over escapes rest on.
use Rattle.std.proofs.Common.{◌≡◌, ℕ, suc, ◌+◌, ◌-◌, ◌*◌, ◌<◌, ◌≤◌, ◌⊎◌, List, ◌++◌, length, get_or, Result, Ok, Err, Bool, cond, nat_le, inl, inr, refl, sym, ap, ◌∙◌, arith, encode_utf8, lit<}
use Rattle.std.proofs.lemmas.Str.{encode_ascii}
use Rattle.std.proofs.lemmas.Bool.Decides.{leb_tells}
use Rattle.json_read.specs.declared.fault.JsonFault.{JsonFault}
use Rattle.json_tree.specs.Grammar.{IsHexDigit, IsShortEscape, paired}
use Rattle.json_read.specs.Machinery.Automaton.{Frame, Use, in_text, in_character, Point, escaped, first_digit, behind_d, digits, high_digits, low_escape, low_letter, low_first, low_second, low_digits, Move, dead, on, done, at_hex, point_step, escape_step, first_digit_move, behind_d_move, low_first_move, low_second_move, moved, Outcome, reading}
use Rattle.json_read.specs.Machinery.Leads.{IsOutcome, Leads}
use Rattle.json_read.specs.Machinery.Spans.{Faults, IsHexAt, AfterMove, ReadsUnit}
use Rattle.json_read.proofs.Readings.{reading_next, outcome_from}
use Rattle.json_read.proofs.Slices.{at_byte, past_byte, past_range}

-- no digit
range_or : (b low high : ℕ) → ((low ≤ b) × (b ≤ high)) ⊎ ((b < low) ⊎ (high < b))
range_or b low high = elim (leb_tells low b) [
  | inl p ↦ elim (leb_tells b high) [
    | inl q ↦ inl (p.1, q.1)
    | inr q ↦ inr (inr q.1)
  ]
  | inr p ↦ inr (inl p.1)
]

pub hex_none : (b : ℕ) (next : ℕ → Move) → ((x : ℕ) → IsHexDigit b x → ⊥) → at_hex b next ≡ dead
hex_none b next h = elim (range_or b 48 57) [
  | inl p ↦ absurd (h (b - 48) (inl (p.0, p.1, refl)))
  | inr p ↦ elim (range_or b 65 70) [
    | inl q ↦ absurd (h (b - 55) (inr (inl (q.0, q.1, refl))))
    | inr q ↦ elim (range_or b 97 102) [
      | inl r ↦ absurd (h (b - 87) (inr (inr (r.0, r.1, refl))))
      | inr r ↦ past_range b 48 57 (next (b - 48)) _ p ∙ past_range b 65 70 (next (b - 55)) _ q ∙ past_range b 97 102 (next (b - 87)) dead r
    ]
  ]
]

-- ---- one byte of an escape
pub char_dead : (bytes : List ℕ) (at : ℕ) (fault : JsonFault) (p : Point) (u : Use) (content : List ℕ) (d : ℕ) (k : List Frame) → Faults bytes at fault
    → (at < length bytes → point_step p (get_or bytes at 0) ≡ dead) → IsOutcome bytes fault (reading bytes (in_character p u content d k) at)
char_dead bytes at fault p u content d k f e =
    f (in_character p u content d k) (λ h. ap (moved u content d k) (e h)) (λ h. refl)

pub char_on : (bytes : List ℕ) (at : ℕ) (p q : Point) (u : Use) (content : List ℕ) (d : ℕ) (k : List Frame) → at < length bytes
    → point_step p (get_or bytes at 0) ≡ on q → reading bytes (in_character p u content d k) at ≡ reading bytes (in_character q u content d k) (at + 1)
char_on bytes at p q u content d k h e =
    reading_next bytes (in_character p u content d k) (in_character q u content d k) at h (ap (moved u content d k) e)

-- a digit of which another leads on
abbrev pub AtHex : Point → (ℕ → Move) → Type 0
AtHex p next = (b : ℕ) → point_step p b ≡ at_hex b next

pub hex_fails : (bytes : List ℕ) (at : ℕ) (fault : JsonFault) (p : Point) (next : ℕ → Move) (u : Use) (content : List ℕ) (d : ℕ) (k : List Frame) → AtHex p next
    → IsHexAt bytes at (Err fault) → IsOutcome bytes fault (reading bytes (in_character p u content d k) at)
hex_fails bytes at fault p next u content d k e h =
    char_dead bytes at fault p u content d k h.0 (λ l. e (get_or bytes at 0) ∙ h.1 l next)

pub hex_rejects : (bytes : List ℕ) (at x : ℕ) (fault : JsonFault) (p : Point) (next : ℕ → Move) (u : Use) (content : List ℕ) (d : ℕ) (k : List Frame) → AtHex p next
    → IsHexAt bytes at (Ok x) → Faults bytes at fault → next x ≡ dead → IsOutcome bytes fault (reading bytes (in_character p u content d k) at)
hex_rejects bytes at x fault p next u content d k e h f g =
    char_dead bytes at fault p u content d k f (λ l. e (get_or bytes at 0) ∙ h.2 next ∙ g)

pub hex_on : (bytes : List ℕ) (at x : ℕ) (p q : Point) (next : ℕ → Move) (u : Use) (content : List ℕ) (d : ℕ) (k : List Frame) → AtHex p next
    → IsHexAt bytes at (Ok x) → next x ≡ on q → reading bytes (in_character p u content d k) at ≡ reading bytes (in_character q u content d k) (at + 1)
hex_on bytes at x p q next u content d k e h g =
    char_on bytes at p q u content d k h.0 (e (get_or bytes at 0) ∙ h.2 next ∙ g)

-- what leads from one place leads from an earlier one that has its outcome
pub leads_map : {X : Type 0} (bytes : List ℕ) (P Q : X → Outcome → Type 0) (r : Result X JsonFault) (o p : Outcome) → p ≡ o
    → ((x : X) → P x o → Q x p) → Leads bytes P r o → Leads bytes Q r p
leads_map bytes P Q (Ok x) o p e f h = f x h
leads_map bytes P Q (Err fault) o p e f h = outcome_from bytes fault p o e h

-- ---- the last two digits of a unit
pub third_fails : (bytes : List ℕ) (at before : ℕ) (fault : JsonFault) (p : Point) (point : ℕ → Point) (last : ℕ → Move) (u : Use) (content : List ℕ) (d : ℕ) (k : List Frame)
    → ReadsUnit p before point last → IsHexAt bytes at (Err fault) → IsOutcome bytes fault (reading bytes (in_character p u content d k) at)
third_fails bytes at before fault p point last u content d k n h =
    hex_fails bytes at fault p (λ x. on (point (before * 16 + x))) u content d k n.0 h

third_on : (bytes : List ℕ) (at before third : ℕ) (p : Point) (point : ℕ → Point) (last : ℕ → Move) (u : Use) (content : List ℕ) (d : ℕ) (k : List Frame)
    → ReadsUnit p before point last → IsHexAt bytes at (Ok third)
    → reading bytes (in_character p u content d k) at ≡ reading bytes (in_character (point (before * 16 + third)) u content d k) (at + 1)
third_on bytes at before third p point last u content d k n h =
    hex_on bytes at third p (point (before * 16 + third)) (λ x. on (point (before * 16 + x))) u content d k n.0 h refl

pub fourth_fails : (bytes : List ℕ) (at before third : ℕ) (fault : JsonFault) (p : Point) (point : ℕ → Point) (last : ℕ → Move) (u : Use) (content : List ℕ) (d : ℕ) (k : List Frame)
    → ReadsUnit p before point last → IsHexAt bytes at (Ok third) → IsHexAt bytes (at + 1) (Err fault) → IsOutcome bytes fault (reading bytes (in_character p u content d k) at)
fourth_fails bytes at before third fault p point last u content d k n h g =
    outcome_from bytes fault _ _ (third_on bytes at before third p point last u content d k n h)
    (hex_fails bytes (at + 1) fault (point (before * 16 + third)) (λ x. last ((before * 16 + third) * 16 + x)) u content d k (n.1 (before * 16 + third)) g)

pub unit_reads : (bytes : List ℕ) (at before third fourth : ℕ) (p : Point) (point : ℕ → Point) (last : ℕ → Move) (u : Use) (content : List ℕ) (d : ℕ) (k : List Frame)
    → ReadsUnit p before point last → IsHexAt bytes at (Ok third) → IsHexAt bytes (at + 1) (Ok fourth)
    → AfterMove bytes u content d k (last ((before * 16 + third) * 16 + fourth)) (at + 2) (reading bytes (in_character p u content d k) at)
unit_reads bytes at before third fourth p point last u content d k n h g t e =
    let place : at + 1 + 1 ≡ at + 2 = omega arith in
    third_on bytes at before third p point last u content d k n h
    ∙ reading_next bytes (in_character (point (before * 16 + third)) u content d k) t (at + 1) g.0
    (ap (moved u content d k) (n.1 (before * 16 + third) (get_or bytes (at + 1) 0) ∙ g.2 (λ x. last ((before * 16 + third) * 16 + x))) ∙ e)
    ∙ ap (λ (m : ℕ). reading bytes t m) place

pub reads_digits : (before : ℕ) → ReadsUnit (digits 1 before) before (λ m. digits 0 m) (λ m. done (encode_utf8 m))
reads_digits before = (λ b. refl, λ m b. refl)

pub reads_high : (before : ℕ) → ReadsUnit (high_digits 1 before) before (λ m. high_digits 0 m) (λ m. on (low_escape m))
reads_high before = (λ b. refl, λ m b. refl)

pub reads_low : (high before : ℕ) → ReadsUnit (low_digits 1 high before) before (λ m. low_digits 0 high m) (λ m. done (paired high m))
reads_low high before = (λ b. refl, λ m b. refl)

-- ---- the low surrogate
pub at_low_first : (high : ℕ) → AtHex (low_first high) (low_first_move high)
at_low_first high b = refl

pub at_low_second : (high : ℕ) → AtHex (low_second high) (low_second_move high)
at_low_second high b = refl

pub low_first_d : (high x : ℕ) → x ≡ 13 → low_first_move high x ≡ on (low_second high)
low_first_d high x e = at_byte x 13 _ _ e

pub low_first_other : (high x : ℕ) → (x ≡ 13 → ⊥) → low_first_move high x ≡ dead
low_first_other high x e = past_byte x 13 _ _ e

pub low_second_c : (high x : ℕ) → 12 ≤ x → low_second_move high x ≡ on (low_digits 1 high (13 * 16 + x))
low_second_c high x h = elim (leb_tells 12 x) [
  | inl p ↦ ap (λ (t : Bool). cond t (on (low_digits 1 high (13 * 16 + x))) dead) p.0
  | inr p ↦ let less = p.1 in absurd (omega arith)
]

pub low_second_other : (high x : ℕ) → x < 12 → low_second_move high x ≡ dead
low_second_other high x h = elim (leb_tells 12 x) [
  | inl p ↦ let more = p.1 in absurd (omega arith)
  | inr p ↦ ap (λ (t : Bool). cond t (on (low_digits 1 high (13 * 16 + x))) dead) p.0
]

pub low_on : (bytes : List ℕ) (at first second high : ℕ) (u : Use) (content : List ℕ) (d : ℕ) (k : List Frame) → IsHexAt bytes at (Ok first) → first ≡ 13
    → IsHexAt bytes (at + 1) (Ok second) → 12 ≤ second
    → reading bytes (in_character (low_first high) u content d k) at ≡ reading bytes (in_character (low_digits 1 high (13 * 16 + second)) u content d k) (at + 2)
low_on bytes at first second high u content d k h e g f =
    let place : at + 1 + 1 ≡ at + 2 = omega arith in
    hex_on bytes at first (low_first high) (low_second high) (low_first_move high) u content d k (at_low_first high) h (low_first_d high first e)
    ∙ hex_on bytes (at + 1) second (low_second high) (low_digits 1 high (13 * 16 + second)) (low_second_move high) u content d k (at_low_second high) g (low_second_c high second f)
    ∙ ap (λ (m : ℕ). reading bytes (in_character (low_digits 1 high (13 * 16 + second)) u content d k) m) place

pub escape_on : (bytes : List ℕ) (at high : ℕ) (u : Use) (content : List ℕ) (d : ℕ) (k : List Frame) → at < length bytes → get_or bytes at 0 ≡ 92
    → reading bytes (in_character (low_escape high) u content d k) at ≡ reading bytes (in_character (low_letter high) u content d k) (at + 1)
escape_on bytes at high u content d k h e =
    char_on bytes at (low_escape high) (low_letter high) u content d k h (at_byte (get_or bytes at 0) 92 _ _ e)

pub letter_on : (bytes : List ℕ) (at high : ℕ) (u : Use) (content : List ℕ) (d : ℕ) (k : List Frame) → at < length bytes → get_or bytes at 0 ≡ 117
    → reading bytes (in_character (low_letter high) u content d k) at ≡ reading bytes (in_character (low_first high) u content d k) (at + 1)
letter_on bytes at high u content d k h e =
    char_on bytes at (low_letter high) (low_first high) u content d k h (at_byte (get_or bytes at 0) 117 _ _ e)

-- ---- behind `\u` and `\uD`
pub at_first_digit : AtHex first_digit first_digit_move
at_first_digit b = refl

pub at_behind_d : AtHex behind_d behind_d_move
at_behind_d b = refl

pub at_digits : (n before : ℕ) → AtHex (digits (suc n) before) (λ x. on (digits n (before * 16 + x)))
at_digits n before b = refl

pub first_d : (x : ℕ) → x ≡ 13 → first_digit_move x ≡ on behind_d
first_d x e = at_byte x 13 _ _ e

pub first_other : (x : ℕ) → (x ≡ 13 → ⊥) → first_digit_move x ≡ on (digits 2 x)
first_other x e = past_byte x 13 _ _ e

pub behind_d_low : (x : ℕ) → x ≤ 7 → behind_d_move x ≡ on (digits 1 (13 * 16 + x))
behind_d_low x h = elim (leb_tells x 7) [
  | inl p ↦ ap (λ (t : Bool). cond t (on (digits 1 (13 * 16 + x))) (cond (nat_le x 11) (on (high_digits 1 (13 * 16 + x))) dead)) p.0
  | inr p ↦ let less = p.1 in absurd (omega arith)
]

behind_d_more : (x : ℕ) → 7 < x → behind_d_move x ≡ cond (nat_le x 11) (on (high_digits 1 (13 * 16 + x))) dead
behind_d_more x h = elim (leb_tells x 7) [
  | inl p ↦ let less = p.1 in absurd (omega arith)
  | inr p ↦ ap (λ (t : Bool). cond t (on (digits 1 (13 * 16 + x))) (cond (nat_le x 11) (on (high_digits 1 (13 * 16 + x))) dead)) p.0
]

pub behind_d_high : (x : ℕ) → 7 < x → x ≤ 11 → behind_d_move x ≡ on (high_digits 1 (13 * 16 + x))
behind_d_high x h g = elim (leb_tells x 11) [
  | inl p ↦ behind_d_more x h ∙ ap (λ (t : Bool). cond t (on (high_digits 1 (13 * 16 + x))) dead) p.0
  | inr p ↦ let less = p.1 in absurd (omega arith)
]

pub behind_d_other : (x : ℕ) → 11 < x → behind_d_move x ≡ dead
behind_d_other x h = elim (leb_tells x 11) [
  | inl p ↦ let less = p.1 in absurd (omega arith)
  | inr p ↦ behind_d_more x (omega arith) ∙ ap (λ (t : Bool). cond t (on (high_digits 1 (13 * 16 + x))) dead) p.0
]

-- ---- behind a backslash
pub unicode_on : (bytes : List ℕ) (at : ℕ) (u : Use) (content : List ℕ) (d : ℕ) (k : List Frame) → at < length bytes → get_or bytes at 0 ≡ 117
    → reading bytes (in_character escaped u content d k) at ≡ reading bytes (in_character first_digit u content d k) (at + 1)
unicode_on bytes at u content d k h e = char_on bytes at escaped first_digit u content d k h (ap escape_step e)

short_step : (b code : ℕ) → IsShortEscape b code → escape_step b ≡ done (encode_utf8 code)
short_step b code (inl h) = rw (h.0, h.1) (ap done (sym (encode_ascii 34 (lit< tt))))
short_step b code (inr (inl h)) = rw (h.0, h.1) (ap done (sym (encode_ascii 92 (lit< tt))))
short_step b code (inr (inr (inl h))) = rw (h.0, h.1) (ap done (sym (encode_ascii 47 (lit< tt))))
short_step b code (inr (inr (inr (inl h)))) = rw (h.0, h.1) (ap done (sym (encode_ascii 8 (lit< tt))))
short_step b code (inr (inr (inr (inr (inl h))))) = rw (h.0, h.1) (ap done (sym (encode_ascii 12 (lit< tt))))
short_step b code (inr (inr (inr (inr (inr (inl h)))))) = rw (h.0, h.1) (ap done (sym (encode_ascii 10 (lit< tt))))
short_step b code (inr (inr (inr (inr (inr (inr (inl h))))))) = rw (h.0, h.1) (ap done (sym (encode_ascii 13 (lit< tt))))
short_step b code (inr (inr (inr (inr (inr (inr (inr h))))))) = rw (h.0, h.1) (ap done (sym (encode_ascii 9 (lit< tt))))

pub short_reads : (bytes : List ℕ) (at code : ℕ) (u : Use) (content : List ℕ) (d : ℕ) (k : List Frame) → at < length bytes → IsShortEscape (get_or bytes at 0) code
    → reading bytes (in_character escaped u content d k) at ≡ reading bytes (in_text u (content ++ encode_utf8 code) d k) (at + 1)
short_reads bytes at code u content d k h e =
    reading_next bytes (in_character escaped u content d k) (in_text u (content ++ encode_utf8 code) d k) at h
    (ap (moved u content d k) (short_step (get_or bytes at 0) code e))

pub escape_none : (b : ℕ) → (b ≡ 117 → ⊥) → ((code : ℕ) → IsShortEscape b code → ⊥) → escape_step b ≡ dead
escape_none b q h =
    past_byte b 34 _ _ (λ e. h 34 (inl (e, refl)))
    ∙ past_byte b 92 _ _ (λ e. h 92 (inr (inl (e, refl))))
    ∙ past_byte b 47 _ _ (λ e. h 47 (inr (inr (inl (e, refl)))))
    ∙ past_byte b 98 _ _ (λ e. h 8 (inr (inr (inr (inl (e, refl))))))
    ∙ past_byte b 102 _ _ (λ e. h 12 (inr (inr (inr (inr (inl (e, refl)))))))
    ∙ past_byte b 110 _ _ (λ e. h 10 (inr (inr (inr (inr (inr (inl (e, refl))))))))
    ∙ past_byte b 114 _ _ (λ e. h 13 (inr (inr (inr (inr (inr (inr (inl (e, refl)))))))))
    ∙ past_byte b 116 _ _ (λ e. h 9 (inr (inr (inr (inr (inr (inr (inr (e, refl)))))))))
    ∙ past_byte b 117 _ _ q

pub short_some : (b code : ℕ) → IsShortEscape b code → 0 < b
short_some b code h = grind arith
