-- What the functions that go over numbers rest on.
use Rattle.std.proofs.Common.{◌≡◌, ℕ, zero, suc, ◌+◌, ◌-◌, ◌<◌, ◌≤◌, ◌⊎◌, List, [], ◌∷◌, ◌++◌, length, drop, get_or, Option, Some, None, Result, Ok, Err, IfOk, Bool, true, false, cond, nat_eq, nat_le, ◌&&◌, inl, inr, refl, sym, ap, subst, ◌∙◌, append-nil, append_assoc, arith}
use Rattle.std.specs.List.{slice_range}
use Rattle.std.proofs.lemmas.List.Folds.{drop_split}
use Rattle.std.proofs.lemmas.Bool.Decides.{leb_tells, eqb_tells}
use Rattle.std.proofs.lemmas.List.Edits.{length-between}
use Rattle.json_read.specs.declared.fault.JsonFault.{JsonFault}
use Rattle.json_tree.specs.Values.{number}
use Rattle.json_tree.specs.Grammar.{IsNumber}
use Rattle.json_read.specs.Machinery.Remains.{IsNumberRest}
use Rattle.json_read.specs.Machinery.Automaton.{Frame, State, after, value, in_number, Part, behind_minus, behind_zero, in_integer, behind_point, in_fraction, behind_mark, behind_sign, in_power, number_step, number_next, at_mark, at_digit, may_end, number_end, number_at_end, step, followed_step, outcome, reading, after_step}
use Rattle.json_read.specs.Machinery.Leads.{IsOutcome, Leads}
use Rattle.json_read.specs.Machinery.Spans.{Faults, Fails, NumberPasses, NumberReaches, MayEndOrGoOn, CountsDown, Continues, point_or_mark, none_follows, IsMinusEnd}
use Rattle.json_read.proofs.Readings.{reading_next, reading_same, outcome_from}
use Rattle.json_read.proofs.Slices.{slice_none, slice_one, slice_join, at_byte, past_byte, at_range, past_range}
use Rattle.json_read.proofs.Numbers.{back-number_step, back-may_end, number_minus}

passes_append : (from mid to : Part) (xs ys : List ℕ) → NumberPasses from xs mid → NumberPasses mid ys to → NumberPasses from (xs ++ ys) to
passes_append from mid to [] ys p q = subst (λ (x : Part). NumberPasses x ys to) (sym p) q
passes_append from mid to (b ∷ xs) ys p q = (p.0, p.1, passes_append p.0 mid to xs ys p.2 q)

pub reaches_here : (bytes : List ℕ) (part : Part) (at : ℕ) → at ≤ length bytes → NumberReaches bytes part at part at
reaches_here bytes part at h = record {
  forward = omega arith;
  within = h;
  passes = subst (λ (xs : List ℕ). NumberPasses part xs part) (sym (slice_none bytes at)) refl;
}

pub reaches_one : (bytes : List ℕ) (from to : Part) (at : ℕ) → at < length bytes → number_step from (get_or bytes at 0) ≡ Some to → NumberReaches bytes from at to (at + 1)
reaches_one bytes from to at h e = record {
  forward = omega arith;
  within = omega arith;
  passes = subst (λ (xs : List ℕ). NumberPasses from xs to) (sym (slice_one bytes at h)) (to, e, refl);
}

pub reaches_more : (bytes : List ℕ) (from mid to : Part) (at place stop : ℕ) → NumberReaches bytes from at mid place → NumberReaches bytes mid place to stop → NumberReaches bytes from at to stop
reaches_more bytes from mid to at place stop p q =
    let first = p.forward in
    let second = q.forward in
    record {
      forward = omega arith;
      within = q.within;
      passes = subst (λ (xs : List ℕ). NumberPasses from xs to) (sym (slice_join bytes at place stop first second))
          (passes_append from mid to (slice_range bytes at place) (slice_range bytes place stop) p.passes q.passes);
    }

step_some : (part next : Part) (b : ℕ) (content : List ℕ) (d : ℕ) (k : List Frame) → number_step part b ≡ Some next
    → step (in_number part content d k) b ≡ Some (in_number next (content ++ b ∷ []) d k)
step_some part next b content d k e = ap (λ (o : Option Part). number_next o part content d k b) e

step_none : (part : Part) (b : ℕ) (content : List ℕ) (d : ℕ) (k : List Frame) → number_step part b ≡ None → may_end part ≡ false
    → step (in_number part content d k) b ≡ None
step_none part b content d k e f = ap (λ (o : Option Part). number_next o part content d k b) e
    ∙ ap (λ (t : Bool). number_end t (after_step d k (number content) b)) f

passes-outcome : (xs rest : List ℕ) (from to : Part) (at : ℕ) (content : List ℕ) (d : ℕ) (k : List Frame) → NumberPasses from xs to
    → outcome (in_number from content d k) at (xs ++ rest) ≡ outcome (in_number to (content ++ xs) d k) (at + length xs) rest
passes-outcome [] rest from to at content d k p =
    let place : at + 0 ≡ at = omega arith in
    rw (p, append-nil, place) refl
passes-outcome (b ∷ xs) rest from to at content d k p =
    let place : (at + 1) + length xs ≡ at + suc (length xs) = omega arith in
    let text : (content ++ b ∷ []) ++ xs ≡ content ++ (b ∷ xs) = append_assoc content (b ∷ []) xs in
    ap (λ (o : Option State). followed_step o at (λ t. outcome t (at + 1) (xs ++ rest))) (step_some from p.0 b content d k p.1)
    ∙ passes-outcome xs rest p.0 to (at + 1) (content ++ b ∷ []) d k p.2
    ∙ ap (λ (n : ℕ). outcome (in_number to ((content ++ b ∷ []) ++ xs) d k) n rest) place
    ∙ ap (λ (ys : List ℕ). outcome (in_number to ys d k) (at + suc (length xs)) rest) text

pub reaches-reading : (bytes : List ℕ) (from to : Part) (at stop : ℕ) (content : List ℕ) (d : ℕ) (k : List Frame) → NumberReaches bytes from at to stop
    → reading bytes (in_number from content d k) at ≡ reading bytes (in_number to (content ++ slice_range bytes at stop) d k) stop
unfolding reading
reaches-reading bytes from to at stop content d k r =
    let forward = r.forward in
    let within = r.within in
    let size = length-between bytes at stop within in
    let place : at + length (slice_range bytes at stop) ≡ stop = omega arith in
    ap (λ (xs : List ℕ). outcome (in_number from content d k) at xs) (drop_split bytes at stop forward)
    ∙ passes-outcome (slice_range bytes at stop) (drop stop bytes) from to at content d k r.passes
    ∙ ap (λ (n : ℕ). outcome (in_number to (content ++ slice_range bytes at stop) d k) n (drop stop bytes)) place

pub fails_after : (bytes : List ℕ) (from to : Part) (at stop : ℕ) (fault : JsonFault) → NumberReaches bytes from at to stop → Fails bytes to stop fault → Fails bytes from at fault
fails_after bytes from to at stop fault r f content d k =
    outcome_from bytes fault _ _ (reaches-reading bytes from to at stop content d k r) (f (content ++ slice_range bytes at stop) d k)

-- where no byte goes on and none may be missing
pub fails_here : (bytes : List ℕ) (part : Part) (at : ℕ) (fault : JsonFault) → Faults bytes at fault
    → number_step part (get_or bytes at 0) ≡ None → may_end part ≡ false → Fails bytes part at fault
fails_here bytes part at fault f e m content d k =
    f (in_number part content d k) (λ h. step_none part (get_or bytes at 0) content d k e m)
    (λ h. ap (λ (t : Bool). number_at_end t k (number content)) m)

-- digits
pub digit_some : (b : ℕ) (part : Part) (other : Option Part) → 48 ≤ b → b ≤ 57 → at_digit b part other ≡ Some part
digit_some b part other p q = at_range b 48 57 (Some part) other p q

above : (b : ℕ) → 48 ≤ b → (b ≡ 48 → ⊥) → 49 ≤ b
above b p z = elim (leb_tells 49 b) [ inl h ↦ h.1 | inr h ↦ let less = h.1 in absurd (z (omega arith)) ]

outside : (b : ℕ) → (48 ≤ b → b ≤ 57 → ⊥) → (b < 48) ⊎ (57 < b)
outside b h = elim (leb_tells 48 b) [
  | inl p ↦ elim (leb_tells b 57) [
    | inl q ↦ absurd (h p.1 q.1)
    | inr q ↦ inr q.1
  ]
  | inr p ↦ inl p.1
]

pub digit_none : (b : ℕ) (part : Part) (other : Option Part) → (48 ≤ b → b ≤ 57 → ⊥) → at_digit b part other ≡ other
digit_none b part other h = past_range b 48 57 (Some part) other (outside b h)

pub counts_integer : CountsDown in_integer
counts_integer n b p q = digit_some b (in_integer n) _ p q

pub counts_fraction : CountsDown in_fraction
counts_fraction n b p q = digit_some b (in_fraction n) _ p q

pub counts_power : CountsDown in_power
counts_power n b p q = digit_some b (in_power n) _ p q

pub digit_more : (bytes : List ℕ) (part : ℕ → Part) (from : Part) (at stop left : ℕ) → CountsDown part → NumberReaches bytes from at (part left) stop
    → 0 < left → stop < length bytes → 48 ≤ get_or bytes stop 0 → get_or bytes stop 0 ≤ 57 → NumberReaches bytes from at (part (left - 1)) (stop + 1)
digit_more bytes part from at stop zero counts r some h p q = absurd (omega arith)
digit_more bytes part from at stop (suc n) counts r some h p q =
    let less : suc n - 1 ≡ n = omega arith in
    subst (λ (m : ℕ). NumberReaches bytes from at (part m) (stop + 1)) (sym less)
    (reaches_more bytes from (part (suc n)) (part n) at stop (stop + 1) r (reaches_one bytes (part (suc n)) (part n) stop h (counts n (get_or bytes stop 0) p q)))

-- the integer
pub minus_digit : (b : ℕ) → 48 ≤ b → b ≤ 57 → (b ≡ 48 → ⊥) → number_step behind_minus b ≡ Some (in_integer 37)
minus_digit b p q z =
    past_byte b 48 (Some behind_zero) _ z ∙ at_range b 49 57 (Some (in_integer 37)) None (above b p z) q

integer_ends : (left b : ℕ) → (0 < left → 48 ≤ b → b ≤ 57 → ⊥) → number_step (in_integer left) b ≡ point_or_mark left b
integer_ends zero b h = refl
integer_ends (suc n) b h = digit_none b (in_integer n) _ (h (omega arith))

pub integer_found : (bytes : List ℕ) (at left stop : ℕ) → at < length bytes → 48 ≤ get_or bytes at 0 → get_or bytes at 0 ≤ 57 → (get_or bytes at 0 ≡ 48 → ⊥)
    → NumberReaches bytes (in_integer 37) (at + 1) (in_integer left) stop
    → (0 < left → 48 ≤ get_or bytes stop 0 → get_or bytes stop 0 ≤ 57 → ⊥)
    → (to : Part) × NumberReaches bytes behind_minus at to stop × MayEndOrGoOn to (point_or_mark left) (get_or bytes stop 0)
integer_found bytes at left stop h p q z r all = (
  in_integer left,
  reaches_more bytes behind_minus (in_integer 37) (in_integer left) at (at + 1) stop
      (reaches_one bytes behind_minus (in_integer 37) at h (minus_digit (get_or bytes at 0) p q z)) r,
  (refl, integer_ends left (get_or bytes stop 0) all),
)

pub zero_found : (bytes : List ℕ) (at : ℕ) → at < length bytes → get_or bytes at 0 ≡ 48
    → (to : Part) × NumberReaches bytes behind_minus at to (at + 1) × MayEndOrGoOn to (point_or_mark 37) (get_or bytes (at + 1) 0)
zero_found bytes at h e = (behind_zero, reaches_one bytes behind_minus behind_zero at h (ap (number_step behind_minus) e), (refl, refl))

-- the fraction
point_found : (from : Part) (b left : ℕ) → MayEndOrGoOn from (point_or_mark left) b → 0 < left → b ≡ 46 → number_step from b ≡ Some (behind_point (left - 1))
point_found from b zero h some e = absurd (omega arith)
point_found from b (suc n) h some e =
    let less : suc n - 1 ≡ n = omega arith in
    rw less (h.1 ∙ at_byte b 46 (Some (behind_point n)) (at_mark b) e)

pub point_reached : (bytes : List ℕ) (from : Part) (at left : ℕ) → at < length bytes → MayEndOrGoOn from (point_or_mark left) (get_or bytes at 0) → 0 < left → get_or bytes at 0 ≡ 46
    → NumberReaches bytes from at (behind_point (left - 1)) (at + 1)
point_reached bytes from at left h e some mark = reaches_one bytes from (behind_point (left - 1)) at h (point_found from (get_or bytes at 0) left e some mark)

fraction_ends : (left b : ℕ) → (0 < left → 48 ≤ b → b ≤ 57 → ⊥) → number_step (in_fraction left) b ≡ at_mark b
fraction_ends zero b h = refl
fraction_ends (suc n) b h = digit_none b (in_fraction n) (at_mark b) (h (omega arith))

pub fraction_found : (bytes : List ℕ) (from : Part) (at n left stop : ℕ) → NumberReaches bytes from at (behind_point n) (at + 1)
    → at + 1 < length bytes → 48 ≤ get_or bytes (at + 1) 0 → get_or bytes (at + 1) 0 ≤ 57
    → NumberReaches bytes (in_fraction n) (at + 2) (in_fraction left) stop
    → (0 < left → 48 ≤ get_or bytes stop 0 → get_or bytes stop 0 ≤ 57 → ⊥)
    → (to : Part) × NumberReaches bytes from at to stop × MayEndOrGoOn to at_mark (get_or bytes stop 0)
fraction_found bytes from at n left stop point h p q r all =
    let place : at + 2 ≡ at + 1 + 1 = omega arith in
    let digits = subst (λ (m : ℕ). NumberReaches bytes (in_fraction n) m (in_fraction left) stop) place r in
    let first = reaches_one bytes (behind_point n) (in_fraction n) (at + 1) h (digit_some (get_or bytes (at + 1) 0) (in_fraction n) None p q) in (
      in_fraction left,
      reaches_more bytes from (behind_point n) (in_fraction left) at (at + 1) stop point
          (reaches_more bytes (behind_point n) (in_fraction n) (in_fraction left) (at + 1) (at + 1 + 1) stop first digits),
      (refl, fraction_ends left (get_or bytes stop 0) all),
    )

-- the exponent
mark_found : (b : ℕ) → (b ≡ 101) ⊎ (b ≡ 69) → at_mark b ≡ Some behind_mark
mark_found b (inl e) = rw e refl
mark_found b (inr e) = rw e refl

pub mark_reached : (bytes : List ℕ) (from : Part) (at : ℕ) → at < length bytes → MayEndOrGoOn from at_mark (get_or bytes at 0)
    → (get_or bytes at 0 ≡ 101) ⊎ (get_or bytes at 0 ≡ 69) → NumberReaches bytes from at behind_mark (at + 1)
mark_reached bytes from at h e mark = reaches_one bytes from behind_mark at h (e.1 ∙ mark_found (get_or bytes at 0) mark)

sign_found : (b : ℕ) → (b ≡ 43) ⊎ (b ≡ 45) → number_step behind_mark b ≡ Some behind_sign
sign_found b (inl e) = rw e refl
sign_found b (inr e) = rw e refl

pub sign_reached : (bytes : List ℕ) (at : ℕ) → at < length bytes → (get_or bytes at 0 ≡ 43) ⊎ (get_or bytes at 0 ≡ 45) → NumberReaches bytes behind_mark at behind_sign (at + 1)
sign_reached bytes at h e = reaches_one bytes behind_mark behind_sign at h (sign_found (get_or bytes at 0) e)

pub no_sign_found : (b : ℕ) → (b ≡ 43 → ⊥) → (b ≡ 45 → ⊥) → number_step behind_mark b ≡ at_digit b (in_power 2) None
no_sign_found b p q = past_byte b 43 (Some behind_sign) _ p ∙ past_byte b 45 (Some behind_sign) _ q

power_ends : (left b : ℕ) → (0 < left → 48 ≤ b → b ≤ 57 → ⊥) → number_step (in_power left) b ≡ None
power_ends zero b h = refl
power_ends (suc n) b h = digit_none b (in_power n) None (h (omega arith))

pub power_found : (bytes : List ℕ) (from sign : Part) (at start left stop : ℕ) → NumberReaches bytes from at behind_mark (at + 1)
    → NumberReaches bytes behind_mark (at + 1) sign start → number_step sign (get_or bytes start 0) ≡ at_digit (get_or bytes start 0) (in_power 2) None
    → start < length bytes → 48 ≤ get_or bytes start 0 → get_or bytes start 0 ≤ 57
    → NumberReaches bytes (in_power 2) (start + 1) (in_power left) stop
    → (0 < left → 48 ≤ get_or bytes stop 0 → get_or bytes stop 0 ≤ 57 → ⊥)
    → (to : Part) × NumberReaches bytes from at to stop × MayEndOrGoOn to none_follows (get_or bytes stop 0)
power_found bytes from sign at start left stop mark signed e h p q r all =
    let first = reaches_one bytes sign (in_power 2) start h (e ∙ digit_some (get_or bytes start 0) (in_power 2) None p q) in
    let digits = reaches_more bytes sign (in_power 2) (in_power left) start (start + 1) stop first r in (
      in_power left,
      reaches_more bytes from behind_mark (in_power left) at (at + 1) stop mark
          (reaches_more bytes behind_mark sign (in_power left) (at + 1) start stop signed digits),
      (refl, power_ends left (get_or bytes stop 0) all),
    )

-- the whole number
passes-rest : (from to : Part) (xs : List ℕ) → NumberPasses from xs to → may_end to ≡ true → IsNumberRest from xs
passes-rest from to [] p e = back-may_end from (ap may_end p ∙ e)
passes-rest from to (b ∷ xs) p e = back-number_step from p.0 b xs p.1 (passes-rest p.0 to xs p.2 e)

pub number_is : (bytes : List ℕ) (to : Part) (at start stop : ℕ) → IsMinusEnd bytes at start → NumberReaches bytes behind_minus start to stop → may_end to ≡ true
    → IsNumber (slice_range bytes at stop)
number_is bytes to at start stop minus r e =
    subst IsNumber (sym (slice_join bytes at start stop minus.forward r.forward))
    (minus.number (slice_range bytes start stop) (passes-rest behind_minus to (slice_range bytes start stop) r.passes e))

number_over : (bytes : List ℕ) (to : Part) (stop : ℕ) (content : List ℕ) (d : ℕ) (k : List Frame) → MayEndOrGoOn to none_follows (get_or bytes stop 0)
    → reading bytes (in_number to content d k) stop ≡ reading bytes (after d k (number content)) stop
number_over bytes to stop content d k h =
    reading_same bytes (in_number to content d k) (after d k (number content)) stop
    (λ _. ap (λ (o : Option Part). number_next o to content d k (get_or bytes stop 0)) h.1
    ∙ ap (λ (t : Bool). number_end t (after_step d k (number content) (get_or bytes stop 0))) h.0)
    (λ _. ap (λ (t : Bool). number_at_end t k (number content)) h.0)

pub number_reads : (bytes : List ℕ) (to : Part) (at start stop : ℕ) (d : ℕ) (k : List Frame) → IsMinusEnd bytes at start → NumberReaches bytes behind_minus start to stop
    → MayEndOrGoOn to none_follows (get_or bytes stop 0)
    → reading bytes (value d k) at ≡ reading bytes (after d k (number (slice_range bytes at stop))) stop
number_reads bytes to at start stop d k minus r e =
    minus.reads d k
    ∙ reaches-reading bytes behind_minus to start stop (slice_range bytes at start) d k r
    ∙ number_over bytes to stop (slice_range bytes at start ++ slice_range bytes start stop) d k e
    ∙ ap (λ (xs : List ℕ). reading bytes (after d k (number xs)) stop) (sym (slice_join bytes at start stop minus.forward r.forward))

pub number_fails : (bytes : List ℕ) (at start : ℕ) (fault : JsonFault) (d : ℕ) (k : List Frame) → IsMinusEnd bytes at start → Fails bytes behind_minus start fault
    → IsOutcome bytes fault (reading bytes (value d k) at)
number_fails bytes at start fault d k minus f = outcome_from bytes fault _ _ (minus.reads d k) (f (slice_range bytes at start) d k)

-- its first byte
pub minus_found : (bytes : List ℕ) (at : ℕ) → at < length bytes → get_or bytes at 0 ≡ 45 → IsMinusEnd bytes at (at + 1)
minus_found bytes at h e =
    let one = slice_one bytes at h in
    let is : slice_range bytes at (at + 1) ≡ 45 ∷ [] = one ∙ ap (λ (b : ℕ). b ∷ []) e in
    record {
      forward = omega arith;
      within = omega arith;
      number = λ rest r. subst (λ (xs : List ℕ). IsNumber (xs ++ rest)) (sym is) (number_minus rest r);
      reads = λ d k. subst (λ (xs : List ℕ). reading bytes (value d k) at ≡ reading bytes (in_number behind_minus xs d k) (at + 1)) (sym is)
          (reading_next bytes (value d k) (in_number behind_minus (45 ∷ []) d k) at h (ap (step (value d k)) e));
    }

value_other : (b d : ℕ) (k : List Frame) → 48 ≤ b → b ≤ 57 → step (value d k) b
    ≡ cond (nat_eq b 48) (Some (in_number behind_zero (b ∷ []) d k)) (cond (nat_le 49 b && nat_le b 57) (Some (in_number (in_integer 37) (b ∷ []) d k)) None)
value_other b d k p q =
    past_byte b 32 _ _ (λ e. absurd (omega arith))
    ∙ past_byte b 9 _ _ (λ e. absurd (omega arith))
    ∙ past_byte b 10 _ _ (λ e. absurd (omega arith))
    ∙ past_byte b 13 _ _ (λ e. absurd (omega arith))
    ∙ past_byte b 34 _ _ (λ e. absurd (omega arith))
    ∙ past_byte b 91 _ _ (λ e. absurd (omega arith))
    ∙ past_byte b 123 _ _ (λ e. absurd (omega arith))
    ∙ past_byte b 110 _ _ (λ e. absurd (omega arith))
    ∙ past_byte b 116 _ _ (λ e. absurd (omega arith))
    ∙ past_byte b 102 _ _ (λ e. absurd (omega arith))
    ∙ past_byte b 45 _ _ (λ e. absurd (omega arith))

value_digit : (b d : ℕ) (k : List Frame) → 48 ≤ b → b ≤ 57 → step (value d k) b ≡ step (in_number behind_minus [] d k) b
value_digit b d k p q = elim (eqb_tells b 48) [
  | inl z ↦ rw z.1 refl
  | inr z ↦
      let a = above b p z.1 in
      value_other b d k p q
      ∙ past_byte b 48 (Some (in_number behind_zero (b ∷ []) d k)) _ z.1
      ∙ at_range b 49 57 (Some (in_number (in_integer 37) (b ∷ []) d k)) None a q
      ∙ sym (step_some behind_minus (in_integer 37) b [] d k (minus_digit b p q z.1))
]

number_plain : (rest : List ℕ) → IsNumberRest behind_minus rest → IsNumber rest
number_plain rest (ds, fs, x, integer, fraction, exponent, few, is) = (
  record { negative = false; integer = ds; fraction = fs; exponent = x },
  record { integer = integer; fraction = fraction; exponent = exponent; few = few },
  is,
)

pub digit_found : (bytes : List ℕ) (at : ℕ) → at < length bytes → 48 ≤ get_or bytes at 0 → get_or bytes at 0 ≤ 57 → IsMinusEnd bytes at at
digit_found bytes at h p q =
    let none = slice_none bytes at in
    record {
      forward = omega arith;
      within = omega arith;
      number = λ rest r. subst (λ (xs : List ℕ). IsNumber (xs ++ rest)) (sym none) (number_plain rest r);
      reads = λ d k. subst (λ (xs : List ℕ). reading bytes (value d k) at ≡ reading bytes (in_number behind_minus xs d k) at) (sym none)
          (reading_same bytes (value d k) (in_number behind_minus [] d k) at (λ _. value_digit (get_or bytes at 0) d k p q) (λ l. absurd (omega arith)));
    }

-- what the exponent's answer says of the whole
pub number_is_of : (bytes : List ℕ) (to : Part) (at start place : ℕ) (result : Result ℕ JsonFault) → IsMinusEnd bytes at start → NumberReaches bytes behind_minus start to place
    → Continues bytes to place (λ t b. MayEndOrGoOn t none_follows b) result → IfOk result (λ stop. IsNumber (slice_range bytes at stop))
number_is_of bytes to at start place (Ok stop) minus r h =
    number_is bytes h.0 at start stop minus (reaches_more bytes behind_minus to h.0 start place stop r h.1) h.2.0
number_is_of bytes to at start place (Err fault) minus r h = tt

pub number_reads_of : (bytes : List ℕ) (to : Part) (at start place : ℕ) (result : Result ℕ JsonFault) (d : ℕ) (k : List Frame) → IsMinusEnd bytes at start → NumberReaches bytes behind_minus start to place
    → Continues bytes to place (λ t b. MayEndOrGoOn t none_follows b) result
    → Leads bytes (λ stop o. o ≡ reading bytes (after d k (number (slice_range bytes at stop))) stop) result (reading bytes (value d k) at)
number_reads_of bytes to at start place (Ok stop) d k minus r h =
    number_reads bytes h.0 at start stop d k minus (reaches_more bytes behind_minus to h.0 start place stop r h.1) h.2
number_reads_of bytes to at start place (Err fault) d k minus r h =
    number_fails bytes at start fault d k minus (fails_after bytes behind_minus to start place fault r h)
