-- What the functions that go over texts rest on.
use Rattle.std.proofs.Common.{◌≡◌, ℕ, zero, suc, ◌+◌, ◌<◌, ◌≤◌, List, [], ◌∷◌, ◌++◌, length, drop, get_or, Option, Some, Result, Ok, Err, IfOk, cond, lit<, nat_le, ◌&&◌, inl, inr, refl, sym, ap, subst, ◌∙◌, append-nil, append_assoc, arith, IsUtf8}
use Rattle.std.specs.List.{slice_range, AllByRecursion}
use Rattle.std.specs.Str.{IsAscii}
use Rattle.std.proofs.lemmas.Str.{IsUtf8-append, IsUtf8-from_ascii}
use Rattle.std.proofs.lemmas.Bool.Decides.{leb_tells, eqb_tells}
use Rattle.std.proofs.lemmas.List.Folds.{drop_split}
use Rattle.std.proofs.lemmas.List.Edits.{length-between}
use Rattle.json_read.specs.declared.fault.JsonFault.{JsonFault}
use Rattle.json_tree.specs.Grammar.{IsPlainByte, AreInRanges, IsMultibyte, tail}
use Rattle.json_read.specs.Machinery.Automaton.{Frame, Use, State, in_text, in_character, escaped, in_sequence, Sequence, one_tail, two_tails, three_tails, after_e0, after_ed, after_f0, after_f4, Move, dead, on_with, done, lead, sequence_step, moved, used, step, followed_step, outcome, reading}
use Rattle.json_read.specs.Machinery.Spans.{Copies, CopiesTo, StopsRun, IsByteWithin, EndsSequence, Narrows}
use Rattle.json_read.proofs.Readings.{reading_next, reading_byte, outcome_from}
use Rattle.json_read.proofs.Slices.{slice_none, slice_one, slice_join, slice_cons, past_byte, at_range, past_range}
use Rattle.json_read.proofs.Utf8.{multibyte-utf8}

-- ---- bytes that stand for themselves
plain_step : (b : ℕ) (u : Use) (content : List ℕ) (d : ℕ) (k : List Frame) → IsPlainByte b
    → step (in_text u content d k) b ≡ Some (in_text u (content ++ b ∷ []) d k)
plain_step b u content d k h =
    past_byte b 34 (Some (used u content d k)) _ h.2
    ∙ ap (moved u content d k) (past_byte b 92 _ _ h.3 ∙ at_range b 32 127 (done (b ∷ [])) (lead b) h.0 h.1)

plain-outcome : (xs rest : List ℕ) (u : Use) (at : ℕ) (content : List ℕ) (d : ℕ) (k : List Frame) → AllByRecursion IsPlainByte xs
    → outcome (in_text u content d k) at (xs ++ rest) ≡ outcome (in_text u (content ++ xs) d k) (at + length xs) rest
plain-outcome [] rest u at content d k p =
    let place : at + 0 ≡ at = omega arith in
    rw (append-nil, place) refl
plain-outcome (b ∷ xs) rest u at content d k p =
    let place : (at + 1) + length xs ≡ at + suc (length xs) = omega arith in
    let text : (content ++ b ∷ []) ++ xs ≡ content ++ (b ∷ xs) = append_assoc content (b ∷ []) xs in
    ap (λ (o : Option State). followed_step o at (λ t. outcome t (at + 1) (xs ++ rest))) (plain_step b u content d k p.0)
    ∙ plain-outcome xs rest u (at + 1) (content ++ b ∷ []) d k p.1
    ∙ ap (λ (n : ℕ). outcome (in_text u ((content ++ b ∷ []) ++ xs) d k) n rest) place
    ∙ ap (λ (ys : List ℕ). outcome (in_text u ys d k) (at + suc (length xs)) rest) text

plain_ascii : (xs : List ℕ) → AllByRecursion IsPlainByte xs → IsAscii xs
plain_ascii [] p i = lit< tt
plain_ascii (b ∷ xs) p zero = let high = p.0.1 in omega arith
plain_ascii (b ∷ xs) p (suc i) = plain_ascii xs p.1 i

plain_reads : (bytes : List ℕ) (at stop : ℕ) (u : Use) (content : List ℕ) (d : ℕ) (k : List Frame) → at ≤ stop → stop ≤ length bytes
    → AllByRecursion IsPlainByte (slice_range bytes at stop)
    → reading bytes (in_text u content d k) at ≡ reading bytes (in_text u (content ++ slice_range bytes at stop) d k) stop
unfolding reading
plain_reads bytes at stop u content d k forward within p =
    let size = length-between bytes at stop within in
    let place : at + length (slice_range bytes at stop) ≡ stop = omega arith in
    ap (λ (xs : List ℕ). outcome (in_text u content d k) at xs) (drop_split bytes at stop forward)
    ∙ plain-outcome (slice_range bytes at stop) (drop stop bytes) u at content d k p
    ∙ ap (λ (n : ℕ). outcome (in_text u (content ++ slice_range bytes at stop) d k) n (drop stop bytes)) place

pub plain_copies : (bytes : List ℕ) (at stop : ℕ) → at ≤ stop → stop ≤ length bytes → AllByRecursion IsPlainByte (slice_range bytes at stop) → Copies bytes at stop
plain_copies bytes at stop forward within p = record {
  forward = forward;
  within = within;
  utf8 = IsUtf8-from_ascii (slice_range bytes at stop) (plain_ascii (slice_range bytes at stop) p);
  reads = λ u content d k. plain_reads bytes at stop u content d k forward within p;
}

all_append : (xs ys : List ℕ) → AllByRecursion IsPlainByte xs → AllByRecursion IsPlainByte ys → AllByRecursion IsPlainByte (xs ++ ys)
all_append [] ys p q = q
all_append (x ∷ xs) ys p q = (p.0, all_append xs ys p.1 q)

pub plain_more : (bytes : List ℕ) (at stop : ℕ) → at ≤ stop → stop < length bytes → IsPlainByte (get_or bytes stop 0)
    → AllByRecursion IsPlainByte (slice_range bytes at stop) → AllByRecursion IsPlainByte (slice_range bytes at (stop + 1))
plain_more bytes at stop forward within b p =
    let one = slice_one bytes stop within in
    subst (AllByRecursion IsPlainByte) (sym (slice_join bytes at stop (stop + 1) forward (omega arith)))
    (all_append (slice_range bytes at stop) (slice_range bytes stop (stop + 1)) p
    (subst (AllByRecursion IsPlainByte) (sym one) (b, tt)))

pub plain_join : (bytes : List ℕ) (from at stop : ℕ) → from ≤ at → at ≤ stop → AllByRecursion IsPlainByte (slice_range bytes from at)
    → AllByRecursion IsPlainByte (slice_range bytes at stop) → AllByRecursion IsPlainByte (slice_range bytes from stop)
plain_join bytes from at stop forward more p q =
    subst (AllByRecursion IsPlainByte) (sym (slice_join bytes from at stop forward more))
    (all_append (slice_range bytes from at) (slice_range bytes at stop) p q)

-- up to four more, where so many are left
pub plain_two : (bytes : List ℕ) (at stop : ℕ) → at ≤ stop → stop + 4 ≤ length bytes → IsPlainByte (get_or bytes stop 0)
    → IsPlainByte (get_or bytes (stop + 1) 0) → AllByRecursion IsPlainByte (slice_range bytes at stop) → AllByRecursion IsPlainByte (slice_range bytes at (stop + 2))
plain_two bytes at stop forward within b c p =
    let place : stop + 1 + 1 ≡ stop + 2 = omega arith in
    subst (λ (n : ℕ). AllByRecursion IsPlainByte (slice_range bytes at n)) place
    (plain_more bytes at (stop + 1) (omega arith) (omega arith) c (plain_more bytes at stop forward (omega arith) b p))

pub plain_three : (bytes : List ℕ) (at stop : ℕ) → at ≤ stop → stop + 4 ≤ length bytes → IsPlainByte (get_or bytes stop 0)
    → IsPlainByte (get_or bytes (stop + 1) 0) → IsPlainByte (get_or bytes (stop + 2) 0) → AllByRecursion IsPlainByte (slice_range bytes at stop)
    → AllByRecursion IsPlainByte (slice_range bytes at (stop + 3))
plain_three bytes at stop forward within b c d p =
    let place : stop + 2 + 1 ≡ stop + 3 = omega arith in
    subst (λ (n : ℕ). AllByRecursion IsPlainByte (slice_range bytes at n)) place
    (plain_more bytes at (stop + 2) (omega arith) (omega arith) d (plain_two bytes at stop forward within b c p))

pub plain_four : (bytes : List ℕ) (at stop : ℕ) → at ≤ stop → stop + 4 ≤ length bytes → IsPlainByte (get_or bytes stop 0)
    → IsPlainByte (get_or bytes (stop + 1) 0) → IsPlainByte (get_or bytes (stop + 2) 0) → IsPlainByte (get_or bytes (stop + 3) 0)
    → AllByRecursion IsPlainByte (slice_range bytes at stop) → AllByRecursion IsPlainByte (slice_range bytes at (stop + 4))
plain_four bytes at stop forward within b c d e p =
    let place : stop + 3 + 1 ≡ stop + 4 = omega arith in
    subst (λ (n : ℕ). AllByRecursion IsPlainByte (slice_range bytes at n)) place
    (plain_more bytes at (stop + 3) (omega arith) (omega arith) e (plain_three bytes at stop forward within b c d p))

pub plain_none : (bytes : List ℕ) (at : ℕ) → AllByRecursion IsPlainByte (slice_range bytes at at)
plain_none bytes at = subst (AllByRecursion IsPlainByte) (sym (slice_none bytes at)) tt

pub plain_some : (b : ℕ) → IsPlainByte b → 0 < b
plain_some b h = let low = h.0 in omega arith

-- a byte that is none, below 128
pub stops : (b : ℕ) → (IsPlainByte b → ⊥) → b < 128 → StopsRun b
stops b h low = elim (leb_tells 32 b) [
  | inr p ↦ inl p.1
  | inl p ↦ elim (eqb_tells b 34) [
    | inl q ↦ inr (inl q.1)
    | inr q ↦ elim (eqb_tells b 92) [
      | inl r ↦ inr (inr r.1)
      | inr r ↦ let most : b ≤ 127 = omega arith in absurd (h (p.1, most, q.1, r.1))
    ]
  ]
]

-- ---- one run after another
pub copies_more : (bytes : List ℕ) (a b c : ℕ) → Copies bytes a b → Copies bytes b c → Copies bytes a c
copies_more bytes a b c p q =
    let first = p.forward in
    let second = q.forward in
    let joined = slice_join bytes a b c first second in
    record {
      forward = omega arith;
      within = q.within;
      utf8 = subst IsUtf8 (sym joined) (IsUtf8-append (slice_range bytes a b) (slice_range bytes b c) p.utf8 q.utf8);
      reads = λ u content d k. p.reads u content d k
          ∙ q.reads u (content ++ slice_range bytes a b) d k
          ∙ ap (λ (xs : List ℕ). reading bytes (in_text u xs d k) c)
          (append_assoc content (slice_range bytes a b) (slice_range bytes b c) ∙ ap (λ (xs : List ℕ). content ++ xs) (sym joined));
    }

pub copies_fail : (bytes : List ℕ) (a b : ℕ) (fault : JsonFault) → Copies bytes a b → CopiesTo bytes b (Err fault) → CopiesTo bytes a (Err fault)
copies_fail bytes a b fault p f u content d k = outcome_from bytes fault _ _ (p.reads u content d k) (f u (content ++ slice_range bytes a b) d k)

-- ---- characters of several bytes
-- a move inside a text, from the step that makes it
move_reads : (bytes : List ℕ) (s : State) (t : State) (at : ℕ) (o : Option State) → at < length bytes → step s (get_or bytes at 0) ≡ o → o ≡ Some t
    → reading bytes s at ≡ reading bytes t (at + 1)
move_reads bytes s t at o h e f = reading_next bytes s t at h (e ∙ f)

-- the last byte of a character
pub last_ends : (bytes : List ℕ) (s : Sequence) (low high at : ℕ) (result : Result ℕ JsonFault) → Narrows s low high (λ b. done (b ∷ []))
    → IsByteWithin bytes at low high result → EndsSequence bytes s ((low, high) ∷ []) at result
last_ends bytes s low high at (Ok stop) n h =
    let place = h.0 in
    let b = get_or bytes at 0 in
    let one : slice_range bytes at stop ≡ b ∷ [] = ap (λ (m : ℕ). slice_range bytes at m) place ∙ slice_one bytes at h.1 in (
      omega arith,
      (b, [], one, h.2, h.3, refl),
      λ u content d k.
          reading_next bytes (in_character (in_sequence s) u content d k) (in_text u (content ++ b ∷ []) d k) at h.1
          (ap (moved u content d k) (n.0 b h.2 h.3))
          ∙ ap (λ (m : ℕ). reading bytes (in_text u (content ++ b ∷ []) d k) m) (sym place)
          ∙ ap (λ (xs : List ℕ). reading bytes (in_text u (content ++ xs) d k) stop) (sym one),
    )
last_ends bytes s low high at (Err fault) n h = λ u content d k.
    h.0 (in_character (in_sequence s) u content d k)
    (λ l. ap (moved u content d k) (n.1 (get_or bytes at 0) (h.1 l)))
    (λ l. refl)

-- a byte before others
pub first_fails : (bytes : List ℕ) (s : Sequence) (low high at : ℕ) (fault : JsonFault) (next : ℕ → Move) (rs : List (ℕ × ℕ)) → Narrows s low high next
    → IsByteWithin bytes at low high (Err fault) → EndsSequence bytes s rs at (Err fault)
first_fails bytes s low high at fault next rs n h = λ u content d k.
    h.0 (in_character (in_sequence s) u content d k)
    (λ l. ap (moved u content d k) (n.1 (get_or bytes at 0) (h.1 l)))
    (λ l. refl)

pub more_ends : (bytes : List ℕ) (s t : Sequence) (low high at place : ℕ) (rs : List (ℕ × ℕ)) (result : Result ℕ JsonFault)
    → Narrows s low high (λ b. on_with b (in_sequence t))
    → IsByteWithin bytes at low high (Ok place) → EndsSequence bytes t rs place result → EndsSequence bytes s ((low, high) ∷ rs) at result
more_ends bytes s t low high at place rs (Ok stop) n h r =
    let b = get_or bytes at 0 in
    let next = h.0 in
    let forward : at + 1 ≤ stop = let f = r.0 in omega arith in
    let cons : slice_range bytes at stop ≡ b ∷ slice_range bytes place stop =
    slice_cons bytes at stop h.1 forward ∙ ap (λ (m : ℕ). b ∷ slice_range bytes m stop) (sym next) in (
      omega arith,
      (b, slice_range bytes place stop, cons, h.2, h.3, r.1),
      λ u content d k.
          reading_next bytes (in_character (in_sequence s) u content d k) (in_character (in_sequence t) u (content ++ b ∷ []) d k) at h.1
          (ap (moved u content d k) (n.0 b h.2 h.3))
          ∙ ap (λ (m : ℕ). reading bytes (in_character (in_sequence t) u (content ++ b ∷ []) d k) m) (sym next)
          ∙ r.2 u (content ++ b ∷ []) d k
          ∙ ap (λ (xs : List ℕ). reading bytes (in_text u xs d k) stop)
          (append_assoc content (b ∷ []) (slice_range bytes place stop) ∙ ap (λ (xs : List ℕ). content ++ xs) (sym cons)),
    )
more_ends bytes s t low high at place rs (Err fault) n h r = λ u content d k.
    let b = get_or bytes at 0 in
    outcome_from bytes fault _ _
    (reading_next bytes (in_character (in_sequence s) u content d k) (in_character (in_sequence t) u (content ++ b ∷ []) d k) at h.1
    (ap (moved u content d k) (n.0 b h.2 h.3))
    ∙ ap (λ (m : ℕ). reading bytes (in_character (in_sequence t) u (content ++ b ∷ []) d k) m) (sym h.0))
    (r u (content ++ b ∷ []) d k)

-- the ranges
narrows : (s : Sequence) (low high : ℕ) (next : ℕ → Move)
    → ((b : ℕ) → sequence_step s b ≡ cond (nat_le low b && nat_le b high) (next b) dead) → Narrows s low high next
narrows s low high next e = (
  λ b p q. e b ∙ at_range b low high (next b) dead p q,
  λ b p. e b ∙ past_range b low high (next b) dead p,
)

pub narrows_one : Narrows one_tail 0x80 0xBF (λ b. done (b ∷ []))
narrows_one = narrows one_tail 0x80 0xBF (λ b. done (b ∷ [])) (λ b. refl)

pub narrows_two : Narrows two_tails 0x80 0xBF (λ b. on_with b (in_sequence one_tail))
narrows_two = narrows two_tails 0x80 0xBF (λ b. on_with b (in_sequence one_tail)) (λ b. refl)

pub narrows_three : Narrows three_tails 0x80 0xBF (λ b. on_with b (in_sequence two_tails))
narrows_three = narrows three_tails 0x80 0xBF (λ b. on_with b (in_sequence two_tails)) (λ b. refl)

pub narrows_e0 : Narrows after_e0 0xA0 0xBF (λ b. on_with b (in_sequence one_tail))
narrows_e0 = narrows after_e0 0xA0 0xBF (λ b. on_with b (in_sequence one_tail)) (λ b. refl)

pub narrows_ed : Narrows after_ed 0x80 0x9F (λ b. on_with b (in_sequence one_tail))
narrows_ed = narrows after_ed 0x80 0x9F (λ b. on_with b (in_sequence one_tail)) (λ b. refl)

pub narrows_f0 : Narrows after_f0 0x90 0xBF (λ b. on_with b (in_sequence two_tails))
narrows_f0 = narrows after_f0 0x90 0xBF (λ b. on_with b (in_sequence two_tails)) (λ b. refl)

pub narrows_f4 : Narrows after_f4 0x80 0x8F (λ b. on_with b (in_sequence two_tails))
narrows_f4 = narrows after_f4 0x80 0x8F (λ b. on_with b (in_sequence two_tails)) (λ b. refl)

-- a first byte and the others
lead_step : (b : ℕ) (u : Use) (content : List ℕ) (d : ℕ) (k : List Frame) → 128 ≤ b → step (in_text u content d k) b ≡ moved u content d k (lead b)
lead_step b u content d k h =
    let high : 127 < b = omega arith in
    past_byte b 34 (Some (used u content d k)) _ (λ e. absurd (omega arith))
    ∙ ap (moved u content d k) (past_byte b 92 _ _ (λ e. absurd (omega arith)) ∙ past_range b 32 127 (done (b ∷ [])) (lead b) (inr high))

pub lead_copies : (bytes : List ℕ) (at : ℕ) (s : Sequence) (rs : List (ℕ × ℕ)) (result : Result ℕ JsonFault) → at < length bytes → 128 ≤ get_or bytes at 0
    → lead (get_or bytes at 0) ≡ on_with (get_or bytes at 0) (in_sequence s)
    → ((xs : List ℕ) → AreInRanges rs xs → IsMultibyte (get_or bytes at 0 ∷ xs))
    → IfOk result (λ stop. stop ≤ length bytes)
    → EndsSequence bytes s rs (at + 1) result → CopiesTo bytes at result
lead_copies bytes at s rs (Ok stop) h high e multibyte within r =
    let b = get_or bytes at 0 in
    let forward = r.0 in
    let cons : slice_range bytes at stop ≡ b ∷ slice_range bytes (at + 1) stop = slice_cons bytes at stop h forward in
    record {
      forward = omega arith;
      within = within;
      utf8 = subst IsUtf8 (sym cons) (multibyte-utf8 (b ∷ slice_range bytes (at + 1) stop) (multibyte (slice_range bytes (at + 1) stop) r.1));
      reads = λ u content d k.
          reading_next bytes (in_text u content d k) (in_character (in_sequence s) u (content ++ b ∷ []) d k) at h
          (lead_step b u content d k high ∙ ap (moved u content d k) e)
          ∙ r.2 u (content ++ b ∷ []) d k
          ∙ ap (λ (xs : List ℕ). reading bytes (in_text u xs d k) stop)
          (append_assoc content (b ∷ []) (slice_range bytes (at + 1) stop) ∙ ap (λ (xs : List ℕ). content ++ xs) (sym cons));
    }
lead_copies bytes at s rs (Err fault) h high e multibyte within r = λ u content d k.
    let b = get_or bytes at 0 in
    outcome_from bytes fault _ _
    (reading_next bytes (in_text u content d k) (in_character (in_sequence s) u (content ++ b ∷ []) d k) at h
    (lead_step b u content d k high ∙ ap (moved u content d k) e))
    (r u (content ++ b ∷ []) d k)

-- by the first byte
lead_c2 : (b : ℕ) → 0xC2 ≤ b → b ≤ 0xDF → lead b ≡ on_with b (in_sequence one_tail)
lead_c2 b p q = at_range b 0xC2 0xDF _ _ p q

lead_e0 : (b : ℕ) → b ≡ 0xE0 → lead b ≡ on_with b (in_sequence after_e0)
lead_e0 b e = rw e refl

lead_e1 : (b : ℕ) → 0xE1 ≤ b → b ≤ 0xEC → lead b ≡ on_with b (in_sequence two_tails)
lead_e1 b p q = past_range b 0xC2 0xDF _ _ (inr (omega arith)) ∙ past_byte b 0xE0 _ _ (λ e. absurd (omega arith)) ∙ at_range b 0xE1 0xEC _ _ p q

lead_ed : (b : ℕ) → b ≡ 0xED → lead b ≡ on_with b (in_sequence after_ed)
lead_ed b e = rw e refl

lead_ee : (b : ℕ) → 0xEE ≤ b → b ≤ 0xEF → lead b ≡ on_with b (in_sequence two_tails)
lead_ee b p q = past_range b 0xC2 0xDF _ _ (inr (omega arith)) ∙ past_byte b 0xE0 _ _ (λ e. absurd (omega arith)) ∙ past_range b 0xE1 0xEC _ _ (inr (omega arith)) ∙ past_byte b 0xED _ _ (λ e. absurd (omega arith)) ∙ at_range b 0xEE 0xEF _ _ p q

lead_f0 : (b : ℕ) → b ≡ 0xF0 → lead b ≡ on_with b (in_sequence after_f0)
lead_f0 b e = rw e refl

lead_f1 : (b : ℕ) → 0xF1 ≤ b → b ≤ 0xF3 → lead b ≡ on_with b (in_sequence three_tails)
lead_f1 b p q = past_range b 0xC2 0xDF _ _ (inr (omega arith)) ∙ past_byte b 0xE0 _ _ (λ e. absurd (omega arith)) ∙ past_range b 0xE1 0xEC _ _ (inr (omega arith)) ∙ past_byte b 0xED _ _ (λ e. absurd (omega arith)) ∙ past_range b 0xEE 0xEF _ _ (inr (omega arith)) ∙ past_byte b 0xF0 _ _ (λ e. absurd (omega arith)) ∙ at_range b 0xF1 0xF3 _ _ p q

lead_f4 : (b : ℕ) → b ≡ 0xF4 → lead b ≡ on_with b (in_sequence after_f4)
lead_f4 b e = rw e refl

pub copies_c2 : (bytes : List ℕ) (at : ℕ) (result : Result ℕ JsonFault) → at < length bytes → 0xC2 ≤ get_or bytes at 0 → get_or bytes at 0 ≤ 0xDF
    → IfOk result (λ stop. stop ≤ length bytes) → EndsSequence bytes one_tail (tail ∷ []) (at + 1) result → CopiesTo bytes at result
copies_c2 bytes at result h low high within r =
    let b = get_or bytes at 0 in
    lead_copies bytes at one_tail (tail ∷ []) result h (omega arith) (lead_c2 b low high)
    (λ xs w. inl (b, xs, refl, low, high, w)) within r

pub copies_e0 : (bytes : List ℕ) (at : ℕ) (result : Result ℕ JsonFault) → at < length bytes → get_or bytes at 0 ≡ 0xE0
    → IfOk result (λ stop. stop ≤ length bytes) → EndsSequence bytes after_e0 ((0xA0, 0xBF) ∷ tail ∷ []) (at + 1) result → CopiesTo bytes at result
copies_e0 bytes at result h e within r =
    let b = get_or bytes at 0 in
    lead_copies bytes at after_e0 ((0xA0, 0xBF) ∷ tail ∷ []) result h (omega arith) (lead_e0 b e)
    (λ xs w. let low : 0xE0 ≤ b = omega arith in let high : b ≤ 0xE0 = omega arith in inr (inl (b, xs, refl, low, high, w))) within r

pub copies_e1 : (bytes : List ℕ) (at : ℕ) (result : Result ℕ JsonFault) → at < length bytes → 0xE1 ≤ get_or bytes at 0 → get_or bytes at 0 ≤ 0xEC
    → IfOk result (λ stop. stop ≤ length bytes) → EndsSequence bytes two_tails (tail ∷ tail ∷ []) (at + 1) result → CopiesTo bytes at result
copies_e1 bytes at result h low high within r =
    let b = get_or bytes at 0 in
    lead_copies bytes at two_tails (tail ∷ tail ∷ []) result h (omega arith) (lead_e1 b low high)
    (λ xs w. inr (inr (inl (b, xs, refl, low, high, w)))) within r

pub copies_ed : (bytes : List ℕ) (at : ℕ) (result : Result ℕ JsonFault) → at < length bytes → get_or bytes at 0 ≡ 0xED
    → IfOk result (λ stop. stop ≤ length bytes) → EndsSequence bytes after_ed ((0x80, 0x9F) ∷ tail ∷ []) (at + 1) result → CopiesTo bytes at result
copies_ed bytes at result h e within r =
    let b = get_or bytes at 0 in
    lead_copies bytes at after_ed ((0x80, 0x9F) ∷ tail ∷ []) result h (omega arith) (lead_ed b e)
    (λ xs w. let low : 0xED ≤ b = omega arith in let high : b ≤ 0xED = omega arith in inr (inr (inr (inl (b, xs, refl, low, high, w))))) within r

pub copies_ee : (bytes : List ℕ) (at : ℕ) (result : Result ℕ JsonFault) → at < length bytes → 0xEE ≤ get_or bytes at 0 → get_or bytes at 0 ≤ 0xEF
    → IfOk result (λ stop. stop ≤ length bytes) → EndsSequence bytes two_tails (tail ∷ tail ∷ []) (at + 1) result → CopiesTo bytes at result
copies_ee bytes at result h low high within r =
    let b = get_or bytes at 0 in
    lead_copies bytes at two_tails (tail ∷ tail ∷ []) result h (omega arith) (lead_ee b low high)
    (λ xs w. inr (inr (inr (inr (inl (b, xs, refl, low, high, w)))))) within r

pub copies_f0 : (bytes : List ℕ) (at : ℕ) (result : Result ℕ JsonFault) → at < length bytes → get_or bytes at 0 ≡ 0xF0
    → IfOk result (λ stop. stop ≤ length bytes) → EndsSequence bytes after_f0 ((0x90, 0xBF) ∷ tail ∷ tail ∷ []) (at + 1) result → CopiesTo bytes at result
copies_f0 bytes at result h e within r =
    let b = get_or bytes at 0 in
    lead_copies bytes at after_f0 ((0x90, 0xBF) ∷ tail ∷ tail ∷ []) result h (omega arith) (lead_f0 b e)
    (λ xs w. let low : 0xF0 ≤ b = omega arith in let high : b ≤ 0xF0 = omega arith in inr (inr (inr (inr (inr (inl (b, xs, refl, low, high, w))))))) within r

pub copies_f1 : (bytes : List ℕ) (at : ℕ) (result : Result ℕ JsonFault) → at < length bytes → 0xF1 ≤ get_or bytes at 0 → get_or bytes at 0 ≤ 0xF3
    → IfOk result (λ stop. stop ≤ length bytes) → EndsSequence bytes three_tails (tail ∷ tail ∷ tail ∷ []) (at + 1) result → CopiesTo bytes at result
copies_f1 bytes at result h low high within r =
    let b = get_or bytes at 0 in
    lead_copies bytes at three_tails (tail ∷ tail ∷ tail ∷ []) result h (omega arith) (lead_f1 b low high)
    (λ xs w. inr (inr (inr (inr (inr (inr (inl (b, xs, refl, low, high, w)))))))) within r

pub copies_f4 : (bytes : List ℕ) (at : ℕ) (result : Result ℕ JsonFault) → at < length bytes → get_or bytes at 0 ≡ 0xF4
    → IfOk result (λ stop. stop ≤ length bytes) → EndsSequence bytes after_f4 ((0x80, 0x8F) ∷ tail ∷ tail ∷ []) (at + 1) result → CopiesTo bytes at result
copies_f4 bytes at result h e within r =
    let b = get_or bytes at 0 in
    lead_copies bytes at after_f4 ((0x80, 0x8F) ∷ tail ∷ tail ∷ []) result h (omega arith) (lead_f4 b e)
    (λ xs w. let low : 0xF4 ≤ b = omega arith in let high : b ≤ 0xF4 = omega arith in inr (inr (inr (inr (inr (inr (inr (b, xs, refl, low, high, w)))))))) within r

-- ---- the ends of runs
pub text_ends : (bytes : List ℕ) (at : ℕ) (u : Use) (content : List ℕ) (d : ℕ) (k : List Frame) → at < length bytes → get_or bytes at 0 ≡ 34
    → reading bytes (in_text u content d k) at ≡ reading bytes (used u content d k) (at + 1)
text_ends bytes at u content d k h e = reading_byte bytes (in_text u content d k) (used u content d k) at 34 h e refl

pub escape_begins : (bytes : List ℕ) (at : ℕ) (u : Use) (content : List ℕ) (d : ℕ) (k : List Frame) → at < length bytes → get_or bytes at 0 ≡ 92
    → reading bytes (in_text u content d k) at ≡ reading bytes (in_character escaped u content d k) (at + 1)
escape_begins bytes at u content d k h e = reading_byte bytes (in_text u content d k) (in_character escaped u content d k) at 92 h e refl
