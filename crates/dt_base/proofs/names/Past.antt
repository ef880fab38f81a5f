-- Whether a walk over a DTMI is behind the `;`, and which fault a wrong byte is.
use Rattle.std.proofs.Common.{◌≡◌, ℕ, ◌+◌, ◌-◌, ◌*◌, ◌<◌, ◌≤◌, Bool, true, false, ◌||◌, ◌&&◌, ◌==◌, nat_le, nat_lt, Option, Some, None, List, [], ◌∷◌, length, get_or, take, refl, sym, ap, ◌∙◌, subst, arith, suc, zero, cond, inl, inr}
use Rattle.std.specs.Prelude.{MatchOption, ⊤, Contains}
use Rattle.std.specs.Char.{is_ascii_alphabetic, is_ascii_digit}
use Rattle.std.specs.Option.{option_and_then}
use Rattle.std.proofs.Math.Bool.{or_assoc}
use Rattle.std.proofs.lemmas.Bool.{eqb-true, eq-eqb, ne_eqb, or_right, or_cases, false≢true}
use Rattle.dt_base.specs.declared.names.walk.State.{State}
use Rattle.dt_base.specs.declared.names.walk.State.TheVariants.{NameStart, NameWord, NameUnderscore, WantD, WantT, WantM, WantI, WantColon, SegmentStart, SegmentWord, SegmentUnderscore, VersionStart, Version}
use Rattle.dt_base.specs.declared.names.walk.Outcome.TheVariants as outcome
use Rattle.dt_base.specs.declared.names.fault.NameFault.TheVariants.{BadByte, BadVersion}
use Rattle.dt_base.specs.names.Grammar.{IsDtmi}
use Rattle.dt_base.specs.names.Faults.{RefusesDtmi}
use Rattle.dt_base.specs.names.Machinery.Walking.{step, run, WalkTells, is_past_path, wrong_at}
use Rattle.dt_base.proofs.names.Segments.{is_name_byte-ne59}
use Rattle.dt_base.proofs.names.Reading.{when_every, inside_every, word_every, first_wrong, reads_dtmis}

seen : List ℕ → Bool
seen [] = false
seen (c ∷ cs) = (c == 59) || seen cs

alphabetic-ne59 : (c : ℕ) → is_ascii_alphabetic c ≡ true → (c == 59) ≡ false
alphabetic-ne59 c h = ne_eqb c 59 (λ e. false≢true (subst (λ (k : ℕ). is_ascii_alphabetic k ≡ true) e h))

other-ne59 : (c k : ℕ) → (c == k) ≡ true → (k == 59) ≡ false → (c == 59) ≡ false
other-ne59 c k h f = ap (λ n. n == 59) (eqb-true c k h) ∙ f

past-step : (p : State) (c : ℕ) → MatchOption (step p c) ⊤ (λ q. is_past_path q ≡ (is_past_path p || (c == 59)))
past-step NameStart c = when_every (is_ascii_alphabetic c) NameWord (λ q. is_past_path q ≡ (c == 59)) (λ h. sym (alphabetic-ne59 c h))
past-step NameWord c = inside_every c NameWord NameUnderscore (λ q. is_past_path q ≡ (c == 59)) (λ h. (sym (is_name_byte-ne59 c h), sym (is_name_byte-ne59 c h)))
past-step NameUnderscore c = inside_every c NameWord NameUnderscore (λ q. is_past_path q ≡ (c == 59)) (λ h. (sym (is_name_byte-ne59 c h), sym (is_name_byte-ne59 c h)))
past-step WantD c = when_every (c == 100) WantT (λ q. is_past_path q ≡ (c == 59)) (λ h. sym (other-ne59 c 100 h refl))
past-step WantT c = when_every (c == 116) WantM (λ q. is_past_path q ≡ (c == 59)) (λ h. sym (other-ne59 c 116 h refl))
past-step WantM c = when_every (c == 109) WantI (λ q. is_past_path q ≡ (c == 59)) (λ h. sym (other-ne59 c 109 h refl))
past-step WantI c = when_every (c == 105) WantColon (λ q. is_past_path q ≡ (c == 59)) (λ h. sym (other-ne59 c 105 h refl))
past-step WantColon c = when_every (c == 58) SegmentStart (λ q. is_past_path q ≡ (c == 59)) (λ h. sym (other-ne59 c 58 h refl))
past-step SegmentStart c = when_every (is_ascii_alphabetic c) SegmentWord (λ q. is_past_path q ≡ (c == 59)) (λ h. sym (alphabetic-ne59 c h))
past-step SegmentWord c =
    word_every c (λ q. is_past_path q ≡ (c == 59)) (λ e. sym (ap (λ n. n == 59) e)) (λ e. sym (eq-eqb c 59 e))
    (λ h. (sym (is_name_byte-ne59 c h), sym (is_name_byte-ne59 c h)))
past-step SegmentUnderscore c = inside_every c SegmentWord SegmentUnderscore (λ q. is_past_path q ≡ (c == 59)) (λ h. (sym (is_name_byte-ne59 c h), sym (is_name_byte-ne59 c h)))
past-step VersionStart c = when_every (nat_le 49 c && nat_le c 57) (Version (c - 48)) (λ q. is_past_path q ≡ true) (λ _. refl)
past-step (Version n) c = when_every (is_ascii_digit c && nat_lt n 100000000) (Version (n * 10 + (c - 48))) (λ q. is_past_path q ≡ true) (λ _. refl)

or_false : (b : Bool) → b ≡ (b || false)
or_false true = refl
or_false false = refl

past_then : (p q : State) (c : ℕ) (cs : List ℕ) (o : Option State) → MatchOption o ⊤ (λ t. is_past_path t ≡ (is_past_path p || (c == 59)))
    → ((t : State) → run t cs ≡ Some q → is_past_path q ≡ (is_past_path t || seen cs))
    → option_and_then (λ t. run t cs) o ≡ Some q → is_past_path q ≡ (is_past_path p || ((c == 59) || seen cs))
past_then p q c cs None m f e = cc
past_then p q c cs (Some t) m f e = f t e ∙ ap (λ b. b || seen cs) m ∙ or_assoc (is_past_path p) (c == 59) (seen cs)

past-run : (p q : State) (bytes : List ℕ) → run p bytes ≡ Some q → is_past_path q ≡ (is_past_path p || seen bytes)
unfolding seen
past-run p q [] e = let same : p ≡ q = cc in ap is_past_path (sym same) ∙ or_false (is_past_path p)
past-run p q (c ∷ cs) e = past_then p q c cs (step p c) (past-step p c) (λ t. past-run t q cs) e

contains_more : (c x : ℕ) (cs : List ℕ) → Contains cs x → Contains (c ∷ cs) x
contains_more c x cs h = (suc h.0, omega (arith, h.1), h.2)

contains-from_seen : (bytes : List ℕ) → seen bytes ≡ true → Contains bytes 59
unfolding seen
contains-from_seen [] e = cc
contains-from_seen (c ∷ cs) e =
    elim (or_cases (c == 59) (seen cs) e)
    [ inl y ↦ (0, omega arith, eqb-true c 59 y) | inr n ↦ contains_more c 59 cs (contains-from_seen cs n) ]

seen_at : (bytes : List ℕ) (k : ℕ) → k < length bytes → get_or bytes k 59 ≡ 59 → seen bytes ≡ true
unfolding seen
seen_at [] k h e = absurd (omega arith)
seen_at (c ∷ cs) zero h e = ap (λ b. b || seen cs) (eq-eqb c 59 e)
seen_at (c ∷ cs) (suc k) h e = or_right (c == 59) (seen cs) (seen_at cs k (omega arith) e)

fault_at : (bytes : List ℕ) (at : ℕ) (p : State) (b : Bool) → b ≡ is_past_path p → length bytes ≤ 2048 → WalkTells WantD 2048 bytes (outcome.Wrong at p)
    → RefusesDtmi bytes (cond b BadVersion (BadByte at))
fault_at bytes at p true e short t = (
  short,
  (
    at,
    first_wrong IsDtmi WantD 2048 reads_dtmis bytes at p t,
    contains-from_seen (take at bytes) (sym (past-run WantD p (take at bytes) t.1) ∙ sym e),
  ),
)
fault_at bytes at p false e short t = (
  short,
  first_wrong IsDtmi WantD 2048 reads_dtmis bytes at p t,
  λ h. false≢true (e ∙ past-run WantD p (take at bytes) t.1 ∙ seen_at (take at bytes) h.0 h.1 h.2),
)

pub refused : (bytes : List ℕ) (at : ℕ) (p : State) → length bytes ≤ 2048 → WalkTells WantD 2048 bytes (outcome.Wrong at p) → RefusesDtmi bytes (wrong_at at p)
refused bytes at p short t = fault_at bytes at p (is_past_path p) refl short t
