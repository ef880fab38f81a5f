-- Characters of two to four bytes, byte by byte, and the UTF-8 of texts.
use Rattle.std.proofs.Common.{◌≡◌, ℕ, zero, suc, ◌+◌, ◌-◌, ◌*◌, ◌≤◌, ◌<◌, List, [], ◌∷◌, ◌++◌, Bool, true, false, cond, ◌&&◌, nat_eq, nat_le, ◌⊎◌, inl, inr, refl, ap, sym, subst, arith, IsUtf8, le-ltb, lt-ltb}
use Rattle.std.proofs.lemmas.Bool.Decides.{nat_tests}
use Rattle.std.proofs.lemmas.Str.{IsUtf8-encode, IsUtf8-append, IsUtf8-nil, encode_ascii}
use Rattle.std.specs.Char.{encode_utf8, IsScalar}
use Rattle.json_tree.specs.Grammar.{AreInRanges, tail, IsMultibyte, IsShortEscape, IsHexDigit, IsUnit, IsNonSurrogate, IsHighSurrogate, IsLowSurrogate, IsUnicode, IsEscape, IsCharacter, IsCharacters, paired}
use Rattle.json_read.specs.Machinery.Automaton.{Sequence, one_tail, two_tails, three_tails, after_e0, after_ed, after_f0, after_f4, in_sequence, Move, dead, on_with, done, lead, ranges, sequence_step}
use Rattle.json_read.specs.Machinery.Remains.{IsCharacterRest}
use Rattle.json_read.specs.Machinery.Steps.{RestMoves}
use Rattle.json_tree.proofs.Choices.{is_byte, is_within, is_within-in, not_within-in, no_byte-in}

-- ---- the first of some ranges
record Split (r : ℕ × ℕ) (rs : List (ℕ × ℕ)) (b : ℕ) (from bytes to : List ℕ) : Type 0 where
  low : r.0 ≤ b
  high : b ≤ r.1
  rest : List ℕ
  is : bytes ≡ b ∷ rest
  within : AreInRanges rs rest
  same : from ≡ rest ++ to

split : (r : ℕ × ℕ) (rs : List (ℕ × ℕ)) (b : ℕ) (from bytes to : List ℕ) → AreInRanges (r ∷ rs) bytes → b ∷ from ≡ bytes ++ to → Split r rs b from bytes to
split r rs b from bytes to h e =
    let whole : b ∷ from ≡ h.0 ∷ (h.1 ++ to) = subst (λ (bs : List ℕ). b ∷ from ≡ bs ++ to) h.2 e in
    let first : h.0 ≡ b = cc in
    record {
      low = subst (λ (c : ℕ). r.0 ≤ c) first h.3;
      high = subst (λ (c : ℕ). c ≤ r.1) first h.4;
      rest = h.1;
      is = cc;
      within = h.5;
      same = cc;
    }

no_split : (r : ℕ × ℕ) (rs : List (ℕ × ℕ)) (bytes to : List ℕ) → AreInRanges (r ∷ rs) bytes → [] ≡ bytes ++ to → ⊥
no_split r rs bytes to h e =
    let whole : [] ≡ h.0 ∷ (h.1 ++ to) = subst (λ (bs : List ℕ). [] ≡ bs ++ to) h.2 e in absurd cc

-- a byte of the first range before bytes of the others
joined : (r : ℕ × ℕ) (rs : List (ℕ × ℕ)) (b : ℕ) (rest bytes : List ℕ) → r.0 ≤ b → b ≤ r.1 → bytes ≡ b ∷ rest → AreInRanges rs rest → AreInRanges (r ∷ rs) bytes
joined r rs b rest bytes low high e h = (b, rest, e, low, high, h)

joined_same : (b : ℕ) (from rest bytes to : List ℕ) → bytes ≡ b ∷ rest → from ≡ rest ++ to → b ∷ from ≡ bytes ++ to
joined_same b from rest bytes to e f = subst (λ (bs : List ℕ). b ∷ from ≡ bs ++ to) (sym e) (ap (λ (bs : List ℕ). b ∷ bs) f)

-- ---- a character's first byte
starts_high : (s : Sequence) (r : ℕ × ℕ) (b : ℕ) (from bytes to : List ℕ) → 194 ≤ r.0 → AreInRanges (r ∷ ranges s) bytes → b ∷ from ≡ bytes ++ to → 194 ≤ b
starts_high s r b from bytes to low h e =
    let p = split r (ranges s) b from bytes to h e in omega (arith, p.low)

pub multibyte_first : (b : ℕ) (from bytes to : List ℕ) → IsMultibyte bytes → b ∷ from ≡ bytes ++ to → 194 ≤ b
multibyte_first b from bytes to (inl h) e = starts_high one_tail (0xC2, 0xDF) b from bytes to (omega arith) h e
multibyte_first b from bytes to (inr (inl h)) e = starts_high after_e0 (0xE0, 0xE0) b from bytes to (omega arith) h e
multibyte_first b from bytes to (inr (inr (inl h))) e = starts_high two_tails (0xE1, 0xEC) b from bytes to (omega arith) h e
multibyte_first b from bytes to (inr (inr (inr (inl h)))) e = starts_high after_ed (0xED, 0xED) b from bytes to (omega arith) h e
multibyte_first b from bytes to (inr (inr (inr (inr (inl h))))) e = starts_high two_tails (0xEE, 0xEF) b from bytes to (omega arith) h e
multibyte_first b from bytes to (inr (inr (inr (inr (inr (inl h)))))) e = starts_high after_f0 (0xF0, 0xF0) b from bytes to (omega arith) h e
multibyte_first b from bytes to (inr (inr (inr (inr (inr (inr (inl h))))))) e = starts_high three_tails (0xF1, 0xF3) b from bytes to (omega arith) h e
multibyte_first b from bytes to (inr (inr (inr (inr (inr (inr (inr h))))))) e = starts_high after_f4 (0xF4, 0xF4) b from bytes to (omega arith) h e

pub multibyte_some : (bytes to : List ℕ) → IsMultibyte bytes → [] ≡ bytes ++ to → ⊥
multibyte_some bytes to (inl h) e = no_split (0xC2, 0xDF) (ranges one_tail) bytes to h e
multibyte_some bytes to (inr (inl h)) e = no_split (0xE0, 0xE0) (ranges after_e0) bytes to h e
multibyte_some bytes to (inr (inr (inl h))) e = no_split (0xE1, 0xEC) (ranges two_tails) bytes to h e
multibyte_some bytes to (inr (inr (inr (inl h)))) e = no_split (0xED, 0xED) (ranges after_ed) bytes to h e
multibyte_some bytes to (inr (inr (inr (inr (inl h))))) e = no_split (0xEE, 0xEF) (ranges two_tails) bytes to h e
multibyte_some bytes to (inr (inr (inr (inr (inr (inl h)))))) e = no_split (0xF0, 0xF0) (ranges after_f0) bytes to h e
multibyte_some bytes to (inr (inr (inr (inr (inr (inr (inl h))))))) e = no_split (0xF1, 0xF3) (ranges three_tails) bytes to h e
multibyte_some bytes to (inr (inr (inr (inr (inr (inr (inr h))))))) e = no_split (0xF4, 0xF4) (ranges after_f4) bytes to h e

lead_c2 : (b : ℕ) → 0xC2 ≤ b → b ≤ 0xDF → lead b ≡ on_with b (in_sequence one_tail)
lead_c2 b p q = rw (is_within-in b 0xC2 0xDF p q) refl

lead_e0 : (b : ℕ) → 0xE0 ≤ b → b ≤ 0xE0 → lead b ≡ on_with b (in_sequence after_e0)
lead_e0 b p q = let e : b ≡ 0xE0 = omega arith in subst (λ (c : ℕ). lead c ≡ on_with c (in_sequence after_e0)) (sym e) refl

lead_e1 : (b : ℕ) → 0xE1 ≤ b → b ≤ 0xEC → lead b ≡ on_with b (in_sequence two_tails)
lead_e1 b p q = rw (not_within-in b 0xC2 0xDF (inr (omega arith)), no_byte-in b 0xE0 (λ e. omega arith), is_within-in b 0xE1 0xEC p q) refl

lead_ed : (b : ℕ) → 0xED ≤ b → b ≤ 0xED → lead b ≡ on_with b (in_sequence after_ed)
lead_ed b p q = let e : b ≡ 0xED = omega arith in subst (λ (c : ℕ). lead c ≡ on_with c (in_sequence after_ed)) (sym e) refl

lead_ee : (b : ℕ) → 0xEE ≤ b → b ≤ 0xEF → lead b ≡ on_with b (in_sequence two_tails)
lead_ee b p q = rw (not_within-in b 0xC2 0xDF (inr (omega arith)), no_byte-in b 0xE0 (λ e. omega arith), not_within-in b 0xE1 0xEC (inr (omega arith)), no_byte-in b 0xED (λ e. omega arith), is_within-in b 0xEE 0xEF p q) refl

lead_f0 : (b : ℕ) → 0xF0 ≤ b → b ≤ 0xF0 → lead b ≡ on_with b (in_sequence after_f0)
lead_f0 b p q = let e : b ≡ 0xF0 = omega arith in subst (λ (c : ℕ). lead c ≡ on_with c (in_sequence after_f0)) (sym e) refl

lead_f1 : (b : ℕ) → 0xF1 ≤ b → b ≤ 0xF3 → lead b ≡ on_with b (in_sequence three_tails)
lead_f1 b p q = rw (not_within-in b 0xC2 0xDF (inr (omega arith)), no_byte-in b 0xE0 (λ e. omega arith), not_within-in b 0xE1 0xEC (inr (omega arith)), no_byte-in b 0xED (λ e. omega arith), not_within-in b 0xEE 0xEF (inr (omega arith)), no_byte-in b 0xF0 (λ e. omega arith), is_within-in b 0xF1 0xF3 p q) refl

lead_f4 : (b : ℕ) → 0xF4 ≤ b → b ≤ 0xF4 → lead b ≡ on_with b (in_sequence after_f4)
lead_f4 b p q = let e : b ≡ 0xF4 = omega arith in subst (λ (c : ℕ). lead c ≡ on_with c (in_sequence after_f4)) (sym e) refl

-- bytes of these ranges, where the first byte leads to the others
led : (s : Sequence) (r : ℕ × ℕ) (b : ℕ) (from bytes to : List ℕ) → (r.0 ≤ b → b ≤ r.1 → lead b ≡ on_with b (in_sequence s))
    → AreInRanges (r ∷ ranges s) bytes → b ∷ from ≡ bytes ++ to → RestMoves (lead b) from bytes to
led s r b from bytes to f h e =
    let p = split r (ranges s) b from bytes to h e in
    subst (λ (m : Move). RestMoves m from bytes to) (sym (f p.low p.high)) (p.rest, p.is, (p.within, p.same))

pub fwd-lead : (b : ℕ) (from bytes to : List ℕ) → IsMultibyte bytes → b ∷ from ≡ bytes ++ to → RestMoves (lead b) from bytes to
fwd-lead b from bytes to (inl h) e = led one_tail (0xC2, 0xDF) b from bytes to (lead_c2 b) h e
fwd-lead b from bytes to (inr (inl h)) e = led after_e0 (0xE0, 0xE0) b from bytes to (lead_e0 b) h e
fwd-lead b from bytes to (inr (inr (inl h))) e = led two_tails (0xE1, 0xEC) b from bytes to (lead_e1 b) h e
fwd-lead b from bytes to (inr (inr (inr (inl h)))) e = led after_ed (0xED, 0xED) b from bytes to (lead_ed b) h e
fwd-lead b from bytes to (inr (inr (inr (inr (inl h))))) e = led two_tails (0xEE, 0xEF) b from bytes to (lead_ee b) h e
fwd-lead b from bytes to (inr (inr (inr (inr (inr (inl h)))))) e = led after_f0 (0xF0, 0xF0) b from bytes to (lead_f0 b) h e
fwd-lead b from bytes to (inr (inr (inr (inr (inr (inr (inl h))))))) e = led three_tails (0xF1, 0xF3) b from bytes to (lead_f1 b) h e
fwd-lead b from bytes to (inr (inr (inr (inr (inr (inr (inr h))))))) e = led after_f4 (0xF4, 0xF4) b from bytes to (lead_f4 b) h e

-- the other way round: what a choice of moves shows, by either side
either : (c : Bool) (x y : Move) (from bytes to : List ℕ) {Q : Type 0}
    → (c ≡ true → RestMoves x from bytes to → Q) → (c ≡ false → RestMoves y from bytes to → Q) → RestMoves (cond c x y) from bytes to → Q
either true x y from bytes to p q m = p refl m
either false x y from bytes to p q m = q refl m

from_lead : (s : Sequence) (r : ℕ × ℕ) (b : ℕ) (from bytes to : List ℕ) → r.0 ≤ b → b ≤ r.1 → RestMoves (on_with b (in_sequence s)) from bytes to
    → AreInRanges (r ∷ ranges s) bytes × (b ∷ from ≡ bytes ++ to)
from_lead s r b from bytes to low high m =
    (joined r (ranges s) b m.0 bytes low high m.1 m.2.0, joined_same b from m.0 bytes to m.1 m.2.1)

from_range : (s : Sequence) (r : ℕ × ℕ) (b : ℕ) (from bytes to : List ℕ) → (nat_le r.0 b && nat_le b r.1) ≡ true → RestMoves (on_with b (in_sequence s)) from bytes to
    → AreInRanges (r ∷ ranges s) bytes × (b ∷ from ≡ bytes ++ to)
from_range s r b from bytes to t m =
    let w = is_within b r.0 r.1 t in from_lead s r b from bytes to w.0 w.1 m

from_byte : (s : Sequence) (n b : ℕ) (from bytes to : List ℕ) → nat_eq b n ≡ true → RestMoves (on_with b (in_sequence s)) from bytes to
    → AreInRanges ((n, n) ∷ ranges s) bytes × (b ∷ from ≡ bytes ++ to)
from_byte s n b from bytes to t m =
    let e : b ≡ n = is_byte b n t in from_lead s (n, n) b from bytes to (omega arith) (omega arith) m

pub back-lead : (b : ℕ) (from bytes to : List ℕ) → RestMoves (lead b) from bytes to → IsMultibyte bytes × (b ∷ from ≡ bytes ++ to)
back-lead b from bytes to h =
    either (nat_le 0xC2 b && nat_le b 0xDF) _ _ from bytes to (λ t m. let r = from_range one_tail (0xC2, 0xDF) b from bytes to t m in (inl r.0, r.1))
    (λ _. either (nat_eq b 0xE0) _ _ from bytes to (λ t m. let r = from_byte after_e0 0xE0 b from bytes to t m in (inr (inl r.0), r.1))
    (λ _. either (nat_le 0xE1 b && nat_le b 0xEC) _ _ from bytes to (λ t m. let r = from_range two_tails (0xE1, 0xEC) b from bytes to t m in (inr (inr (inl r.0)), r.1))
    (λ _. either (nat_eq b 0xED) _ _ from bytes to (λ t m. let r = from_byte after_ed 0xED b from bytes to t m in (inr (inr (inr (inl r.0))), r.1))
    (λ _. either (nat_le 0xEE b && nat_le b 0xEF) _ _ from bytes to (λ t m. let r = from_range two_tails (0xEE, 0xEF) b from bytes to t m in (inr (inr (inr (inr (inl r.0)))), r.1))
    (λ _. either (nat_eq b 0xF0) _ _ from bytes to (λ t m. let r = from_byte after_f0 0xF0 b from bytes to t m in (inr (inr (inr (inr (inr (inl r.0))))), r.1))
    (λ _. either (nat_le 0xF1 b && nat_le b 0xF3) _ _ from bytes to (λ t m. let r = from_range three_tails (0xF1, 0xF3) b from bytes to t m in (inr (inr (inr (inr (inr (inr (inl r.0)))))), r.1))
    (λ _. either (nat_eq b 0xF4) _ _ from bytes to (λ t m. let r = from_byte after_f4 0xF4 b from bytes to t m in (inr (inr (inr (inr (inr (inr (inr r.0)))))), r.1))
    (λ _ m. absurd m)))))))) h

-- ---- the bytes that remain
next_in : (s : Sequence) (r : ℕ × ℕ) (b : ℕ) (from bytes to : List ℕ) → AreInRanges (r ∷ ranges s) bytes → b ∷ from ≡ bytes ++ to
    → RestMoves (cond (nat_le r.0 b && nat_le b r.1) (on_with b (in_sequence s)) dead) from bytes to
next_in s r b from bytes to h e =
    let p = split r (ranges s) b from bytes to h e in
    rw (is_within-in b r.0 r.1 p.low p.high) (p.rest, p.is, (p.within, p.same))

pub fwd-sequence : (s : Sequence) (b : ℕ) (from bytes to : List ℕ) → IsCharacterRest (in_sequence s) (b ∷ from) bytes to → RestMoves (sequence_step s b) from bytes to
fwd-sequence one_tail b from bytes to h =
    let p = split tail [] b from bytes to h.0 h.1 in
    let none : p.rest ≡ [] = p.within in
    let all : bytes ≡ b ∷ [] = cc in
    let behind : from ≡ to = subst (λ (bs : List ℕ). from ≡ bs ++ to) none p.same in
    rw (is_within-in b 0x80 0xBF p.low p.high) (all, behind)
fwd-sequence two_tails b from bytes to h = next_in one_tail tail b from bytes to h.0 h.1
fwd-sequence three_tails b from bytes to h = next_in two_tails tail b from bytes to h.0 h.1
fwd-sequence after_e0 b from bytes to h = next_in one_tail (0xA0, 0xBF) b from bytes to h.0 h.1
fwd-sequence after_ed b from bytes to h = next_in one_tail (0x80, 0x9F) b from bytes to h.0 h.1
fwd-sequence after_f0 b from bytes to h = next_in two_tails (0x90, 0xBF) b from bytes to h.0 h.1
fwd-sequence after_f4 b from bytes to h = next_in two_tails (0x80, 0x8F) b from bytes to h.0 h.1

from_next : (s : Sequence) (r : ℕ × ℕ) (b : ℕ) (from bytes to : List ℕ) → RestMoves (cond (nat_le r.0 b && nat_le b r.1) (on_with b (in_sequence s)) dead) from bytes to
    → AreInRanges (r ∷ ranges s) bytes × (b ∷ from ≡ bytes ++ to)
from_next s r b from bytes to h =
    either (nat_le r.0 b && nat_le b r.1) (on_with b (in_sequence s)) dead from bytes to (λ t m. from_range s r b from bytes to t m) (λ _ m. absurd m) h

from_last : (b : ℕ) (from bytes to : List ℕ) → RestMoves (cond (nat_le 0x80 b && nat_le b 0xBF) (done (b ∷ [])) dead) from bytes to
    → AreInRanges (tail ∷ []) bytes × (b ∷ from ≡ bytes ++ to)
from_last b from bytes to h =
    either (nat_le 0x80 b && nat_le b 0xBF) (done (b ∷ [])) dead from bytes to
    (λ t m. let w = is_within b 0x80 0xBF t in
    (joined tail [] b [] bytes w.0 w.1 m.0 refl, joined_same b from [] bytes to m.0 m.1))
    (λ _ m. absurd m) h

pub back-sequence : (s : Sequence) (b : ℕ) (from bytes to : List ℕ) → RestMoves (sequence_step s b) from bytes to → IsCharacterRest (in_sequence s) (b ∷ from) bytes to
back-sequence one_tail b from bytes to h = from_last b from bytes to h
back-sequence two_tails b from bytes to h = from_next one_tail tail b from bytes to h
back-sequence three_tails b from bytes to h = from_next two_tails tail b from bytes to h
back-sequence after_e0 b from bytes to h = from_next one_tail (0xA0, 0xBF) b from bytes to h
back-sequence after_ed b from bytes to h = from_next one_tail (0x80, 0x9F) b from bytes to h
back-sequence after_f0 b from bytes to h = from_next two_tails (0x90, 0xBF) b from bytes to h
back-sequence after_f4 b from bytes to h = from_next two_tails (0x80, 0x8F) b from bytes to h

pub sequence_some : (s : Sequence) (bytes to : List ℕ) → IsCharacterRest (in_sequence s) [] bytes to → ⊥
sequence_some one_tail bytes to h = no_split tail [] bytes to h.0 h.1
sequence_some two_tails bytes to h = no_split tail (ranges one_tail) bytes to h.0 h.1
sequence_some three_tails bytes to h = no_split tail (ranges two_tails) bytes to h.0 h.1
sequence_some after_e0 bytes to h = no_split (0xA0, 0xBF) (ranges one_tail) bytes to h.0 h.1
sequence_some after_ed bytes to h = no_split (0x80, 0x9F) (ranges one_tail) bytes to h.0 h.1
sequence_some after_f0 bytes to h = no_split (0x90, 0xBF) (ranges two_tails) bytes to h.0 h.1
sequence_some after_f4 bytes to h = no_split (0x80, 0x8F) (ranges two_tails) bytes to h.0 h.1

-- Some bytes remain.
pub complete-sequence : (s : Sequence) → (bytes : List ℕ) × AreInRanges (ranges s) bytes
complete-sequence one_tail = (0x80 ∷ [], (0x80, [], refl, omega arith, omega arith, refl))
complete-sequence two_tails = (0x80 ∷ 0x80 ∷ [], (0x80, 0x80 ∷ [], refl, omega arith, omega arith, (0x80, [], refl, omega arith, omega arith, refl)))
complete-sequence three_tails = (0x80 ∷ 0x80 ∷ 0x80 ∷ [], (0x80, 0x80 ∷ 0x80 ∷ [], refl, omega arith, omega arith, (0x80, 0x80 ∷ [], refl, omega arith, omega arith, (0x80, [], refl, omega arith, omega arith, refl))))
complete-sequence after_e0 = (0xA0 ∷ 0x80 ∷ [], (0xA0, 0x80 ∷ [], refl, omega arith, omega arith, (0x80, [], refl, omega arith, omega arith, refl)))
complete-sequence after_ed = (0x80 ∷ 0x80 ∷ [], (0x80, 0x80 ∷ [], refl, omega arith, omega arith, (0x80, [], refl, omega arith, omega arith, refl)))
complete-sequence after_f0 = (0x90 ∷ 0x80 ∷ 0x80 ∷ [], (0x90, 0x80 ∷ 0x80 ∷ [], refl, omega arith, omega arith, (0x80, 0x80 ∷ [], refl, omega arith, omega arith, (0x80, [], refl, omega arith, omega arith, refl))))
complete-sequence after_f4 = (0x80 ∷ 0x80 ∷ 0x80 ∷ [], (0x80, 0x80 ∷ 0x80 ∷ [], refl, omega arith, omega arith, (0x80, 0x80 ∷ [], refl, omega arith, omega arith, (0x80, [], refl, omega arith, omega arith, refl))))

-- ---- A text is in UTF-8, for the functions that make one.
two_bytes : (a b : ℕ) → 0xC2 ≤ a → a ≤ 0xDF → 0x80 ≤ b → b ≤ 0xBF → IsUtf8 (a ∷ b ∷ [])
unfolding encode_utf8
two_bytes a b h1 h2 h3 h4 =
    let c = (a - 192) * 64 + (b - 128) in
    let is : encode_utf8 c ≡ a ∷ b ∷ [] = rw (le-ltb c 128 (omega arith), lt-ltb c 2048 (omega arith)) (grind arith) in
    subst IsUtf8 is (IsUtf8-encode c (grind (arith, nat_tests)))

three_bytes : (a b x : ℕ) → 0xE0 ≤ a → a ≤ 0xEF → 0x80 ≤ b → b ≤ 0xBF → (a ≡ 0xE0 → 0xA0 ≤ b) → (a ≡ 0xED → b ≤ 0x9F) → 0x80 ≤ x → x ≤ 0xBF → IsUtf8 (a ∷ b ∷ x ∷ [])
unfolding encode_utf8
three_bytes a b x h1 h2 h3 h4 h5 h6 h7 h8 =
    let c = (a - 224) * 4096 + (b - 128) * 64 + (x - 128) in
    let range : (2048 ≤ c) × IsScalar c = grind (arith, nat_tests) in
    let is : encode_utf8 c ≡ a ∷ b ∷ x ∷ [] =
    rw (le-ltb c 128 (omega arith), le-ltb c 2048 range.0, lt-ltb c 65536 (omega arith)) (grind arith) in
    subst IsUtf8 is (IsUtf8-encode c range.1)

four_bytes : (a b x y : ℕ) → 0xF0 ≤ a → a ≤ 0xF4 → 0x80 ≤ b → b ≤ 0xBF → (a ≡ 0xF0 → 0x90 ≤ b) → (a ≡ 0xF4 → b ≤ 0x8F) → 0x80 ≤ x → x ≤ 0xBF → 0x80 ≤ y → y ≤ 0xBF → IsUtf8 (a ∷ b ∷ x ∷ y ∷ [])
unfolding encode_utf8
four_bytes a b x y h1 h2 h3 h4 h5 h6 h7 h8 h9 h10 =
    let c = (a - 240) * 262144 + (b - 128) * 4096 + (x - 128) * 64 + (y - 128) in
    let range : (65536 ≤ c) × IsScalar c = grind (arith, nat_tests) in
    let is : encode_utf8 c ≡ a ∷ b ∷ x ∷ y ∷ [] =
    rw (le-ltb c 128 (omega arith), le-ltb c 2048 (omega arith), le-ltb c 65536 range.0) (grind arith) in
    subst IsUtf8 is (IsUtf8-encode c range.1)

two_within : (p q : ℕ × ℕ) (bytes : List ℕ) → AreInRanges (p ∷ q ∷ []) bytes
    → (a b : ℕ) × (bytes ≡ a ∷ b ∷ []) × (p.0 ≤ a) × (a ≤ p.1) × (q.0 ≤ b) × (b ≤ q.1)
two_within p q bytes h =
    let g = h.5 in
    let e : bytes ≡ h.0 ∷ h.1 = h.2 in
    let f : h.1 ≡ g.0 ∷ g.1 = g.2 in
    let n : g.1 ≡ [] = g.5 in
    (h.0, g.0, cc, h.3, h.4, g.3, g.4)

three_within : (p q r : ℕ × ℕ) (bytes : List ℕ) → AreInRanges (p ∷ q ∷ r ∷ []) bytes
    → (a b c : ℕ) × (bytes ≡ a ∷ b ∷ c ∷ []) × (p.0 ≤ a) × (a ≤ p.1) × (q.0 ≤ b) × (b ≤ q.1) × (r.0 ≤ c) × (c ≤ r.1)
three_within p q r bytes h =
    let g = two_within q r h.1 h.5 in
    let e : bytes ≡ h.0 ∷ h.1 = h.2 in
    let f : h.1 ≡ g.0 ∷ g.1 ∷ [] = g.2 in
    (h.0, g.0, g.1, cc, h.3, h.4, g.3, g.4, g.5, g.6)

four_within : (p q r s : ℕ × ℕ) (bytes : List ℕ) → AreInRanges (p ∷ q ∷ r ∷ s ∷ []) bytes
    → (a b c d : ℕ) × (bytes ≡ a ∷ b ∷ c ∷ d ∷ []) × (p.0 ≤ a) × (a ≤ p.1) × (q.0 ≤ b) × (b ≤ q.1) × (r.0 ≤ c) × (c ≤ r.1) × (s.0 ≤ d) × (d ≤ s.1)
four_within p q r s bytes h =
    let g = three_within q r s h.1 h.5 in
    let e : bytes ≡ h.0 ∷ h.1 = h.2 in
    let f : h.1 ≡ g.0 ∷ g.1 ∷ g.2 ∷ [] = g.3 in
    (h.0, g.0, g.1, g.2, cc, h.3, h.4, g.4, g.5, g.6, g.7, g.8, g.9)

-- three bytes, and four, where the first two lie in ranges that leave out what is too short or no character
three-utf8 : (p q : ℕ × ℕ) (bytes : List ℕ) → 0xE0 ≤ p.0 → p.1 ≤ 0xEF → 0x80 ≤ q.0 → q.1 ≤ 0xBF
    → (0xE0 < p.0) ⊎ (0xA0 ≤ q.0) → (p.1 < 0xED) ⊎ ((0xED < p.0) ⊎ (q.1 ≤ 0x9F)) → AreInRanges (p ∷ q ∷ tail ∷ []) bytes → IsUtf8 bytes
three-utf8 p q bytes low high first last short code h =
    let w = three_within p q tail bytes h in
    let h4 = w.4 in let h5 = w.5 in let h6 = w.6 in let h7 = w.7 in let h8 = w.8 in let h9 = w.9 in
    let e0 : w.0 ≡ 0xE0 → 0xA0 ≤ w.1 = λ e. elim short [ inl u ↦ omega arith | inr u ↦ omega arith ] in
    let ed : w.0 ≡ 0xED → w.1 ≤ 0x9F = λ e. elim code [ inl u ↦ omega arith | inr v ↦ elim v [ inl u ↦ omega arith | inr u ↦ omega arith ] ] in
    subst IsUtf8 (sym w.3) (three_bytes w.0 w.1 w.2 (omega arith) (omega arith) (omega arith) (omega arith) e0 ed h8 h9)

four-utf8 : (p q : ℕ × ℕ) (bytes : List ℕ) → 0xF0 ≤ p.0 → p.1 ≤ 0xF4 → 0x80 ≤ q.0 → q.1 ≤ 0xBF
    → (0xF0 < p.0) ⊎ (0x90 ≤ q.0) → (p.1 < 0xF4) ⊎ (q.1 ≤ 0x8F) → AreInRanges (p ∷ q ∷ tail ∷ tail ∷ []) bytes → IsUtf8 bytes
four-utf8 p q bytes low high first last short code h =
    let w = four_within p q tail tail bytes h in
    let h5 = w.5 in let h6 = w.6 in let h7 = w.7 in let h8 = w.8 in
    let f0 : w.0 ≡ 0xF0 → 0x90 ≤ w.1 = λ e. elim short [ inl u ↦ omega arith | inr u ↦ omega arith ] in
    let f4 : w.0 ≡ 0xF4 → w.1 ≤ 0x8F = λ e. elim code [ inl u ↦ omega arith | inr u ↦ omega arith ] in
    subst IsUtf8 (sym w.4) (four_bytes w.0 w.1 w.2 w.3 (omega arith) (omega arith) (omega arith) (omega arith) f0 f4 w.9 w.10 w.11 w.12)

pub multibyte-utf8 : (bytes : List ℕ) → IsMultibyte bytes → IsUtf8 bytes
multibyte-utf8 bytes (inl h) =
    let w = two_within (0xC2, 0xDF) tail bytes h in
    subst IsUtf8 (sym w.2) (two_bytes w.0 w.1 w.3 w.4 w.5 w.6)
multibyte-utf8 bytes (inr (inl h)) = three-utf8 (0xE0, 0xE0) (0xA0, 0xBF) bytes (omega arith) (omega arith) (omega arith) (omega arith) (inr (omega arith)) (inl (omega arith)) h
multibyte-utf8 bytes (inr (inr (inl h))) = three-utf8 (0xE1, 0xEC) tail bytes (omega arith) (omega arith) (omega arith) (omega arith) (inl (omega arith)) (inl (omega arith)) h
multibyte-utf8 bytes (inr (inr (inr (inl h)))) = three-utf8 (0xED, 0xED) (0x80, 0x9F) bytes (omega arith) (omega arith) (omega arith) (omega arith) (inl (omega arith)) (inr (inr (omega arith))) h
multibyte-utf8 bytes (inr (inr (inr (inr (inl h))))) = three-utf8 (0xEE, 0xEF) tail bytes (omega arith) (omega arith) (omega arith) (omega arith) (inl (omega arith)) (inr (inl (omega arith))) h
multibyte-utf8 bytes (inr (inr (inr (inr (inr (inl h)))))) = four-utf8 (0xF0, 0xF0) (0x90, 0xBF) bytes (omega arith) (omega arith) (omega arith) (omega arith) (inr (omega arith)) (inl (omega arith)) h
multibyte-utf8 bytes (inr (inr (inr (inr (inr (inr (inl h))))))) = four-utf8 (0xF1, 0xF3) tail bytes (omega arith) (omega arith) (omega arith) (omega arith) (inl (omega arith)) (inl (omega arith)) h
multibyte-utf8 bytes (inr (inr (inr (inr (inr (inr (inr h))))))) = four-utf8 (0xF4, 0xF4) (0x80, 0x8F) bytes (omega arith) (omega arith) (omega arith) (omega arith) (inl (omega arith)) (inr (omega arith)) h

-- one byte of ASCII
ascii-utf8 : (b : ℕ) → b < 128 → IsUtf8 (b ∷ [])
ascii-utf8 b h = subst IsUtf8 (encode_ascii b h) (IsUtf8-encode b (grind (arith, nat_tests)))

short_small : (mark code : ℕ) → IsShortEscape mark code → code < 128
short_small mark code h = grind arith

-- four digits by their values
digit_small : (b x : ℕ) → IsHexDigit b x → x ≤ 15
digit_small b x h = grind arith

unit_is : (from : List ℕ) (first second unit : ℕ) (to : List ℕ) → IsUnit from first second unit to
    → (first ≤ 15) × (second ≤ 15) × (first * 4096 + second * 256 ≤ unit) × (unit ≤ first * 4096 + second * 256 + 255)
unit_is from first second unit to h =
    let a = digit_small h.0 first h.4 in
    let b = digit_small h.1 second h.5 in
    let p = h.6 in
    let c = digit_small p.0 p.1 p.4 in
    let q = p.5 in
    let d = digit_small q.0 q.1 q.4 in
    let e : unit ≡ ((first * 16 + second) * 16 + p.1) * 16 + q.1 = q.5.0 in
    (a, b, omega arith, omega arith)

unit-utf8 : (from : List ℕ) (unit : ℕ) (to : List ℕ) → IsNonSurrogate from unit to → IsUtf8 (encode_utf8 unit)
unit-utf8 from unit to h =
    let u = unit_is from h.0 h.1 unit to h.2 in
    let first = h.0 in
    let second = h.1 in
    let u0 : first ≤ 15 = u.0 in
    let u1 : second ≤ 15 = u.1 in
    let u2 : first * 4096 + second * 256 ≤ unit = u.2 in
    let u3 : unit ≤ first * 4096 + second * 256 + 255 = u.3 in
    let narrow : first ≡ 13 → second ≤ 7 = h.3 in
    let range : (unit < 55296) ⊎ ((57344 ≤ unit) × (unit < 1114112)) = grind arith in
    IsUtf8-encode unit (grind (arith, nat_tests))

pair-utf8 : (from next : List ℕ) (high low : ℕ) (mid to : List ℕ) → IsHighSurrogate from high mid → IsLowSurrogate next low to → IsUtf8 (paired high low)
pair-utf8 from next high low mid to h l =
    let u = unit_is from 13 h.0 high mid h.1 in
    let v = unit_is next 13 l.0 low to l.1 in
    let first : (55296 ≤ high) × (high ≤ 56319) = (omega (arith, h.2), omega (arith, h.3)) in
    let last : (56320 ≤ low) × (low ≤ 57343) = (omega (arith, l.2), omega arith) in
    let c = 0x10000 + (high - 0xD800) * 0x400 + (low - 0xDC00) in
    let range : (57344 ≤ c) × (c < 1114112) = (omega arith, omega arith) in
    IsUtf8-encode c (grind (arith, nat_tests))

unicode-utf8 : (from bytes to : List ℕ) → IsUnicode from bytes to → IsUtf8 bytes
unicode-utf8 from bytes to (inl h) = subst IsUtf8 (sym h.2) (unit-utf8 from h.0 to h.1)
unicode-utf8 from bytes to (inr h) = subst IsUtf8 (sym h.5) (pair-utf8 from h.2 h.0 h.1 (92 ∷ 117 ∷ h.2) to h.3 h.4)

escape-utf8 : (from bytes to : List ℕ) → IsEscape from bytes to → IsUtf8 bytes
escape-utf8 from bytes to (inl h) = subst IsUtf8 (sym h.4) (ascii-utf8 h.1 (short_small h.0 h.1 h.2))
escape-utf8 from bytes to (inr h) = unicode-utf8 h.0 bytes to h.2

pub character-utf8 : (from bytes to : List ℕ) → IsCharacter from bytes to → IsUtf8 bytes
character-utf8 from bytes to (inl h) = subst IsUtf8 (sym h.3) (ascii-utf8 h.0 (omega (arith, h.1.1)))
character-utf8 from bytes to (inr (inl h)) = multibyte-utf8 bytes h.0
character-utf8 from bytes to (inr (inr h)) = escape-utf8 h.0 bytes to h.2

pub characters-utf8 : (n : ℕ) (from content to : List ℕ) → IsCharacters n from content to → IsUtf8 content
characters-utf8 zero from content to h = subst IsUtf8 (sym h.0) IsUtf8-nil
characters-utf8 (suc n) from content to h =
    subst IsUtf8 (sym h.4) (IsUtf8-append h.0 h.1 (character-utf8 from h.0 h.2 h.3) (characters-utf8 n h.2 h.1 to h.5))
