-- A segment as the machine sees it: a letter and a tail that may end where its last byte is a letter or digit.
use Rattle.std.proofs.Common.{◌≡◌, ℕ, ◌-◌, Bool, true, false, cond, ◌||◌, ◌==◌, Some, List, [], ◌∷◌, ◌++◌, length, slice_index, refl, sym, ap, ◌∙◌, subst, arith, suc}
use Rattle.std.specs.List.{AllPass}
use Rattle.std.specs.Char.{is_ascii_alphabetic, is_ascii_alphanumeric}
use Rattle.std.specs.Int.{is_in_range}
use Rattle.std.specs.Option.{option_and_then}
use Rattle.std.proofs.lemmas.List.Elements.{All-nil, All-cons, All-head, All-tail}
use Rattle.std.proofs.lemmas.Bool.{or_left, ne_eqb, false≢true, cond-false}
use Rattle.dt_base.specs.declared.names.walk.State.{State}
use Rattle.dt_base.specs.declared.names.walk.State.TheVariants.{NameStart, NameWord, NameUnderscore, SegmentStart, SegmentWord, SegmentUnderscore}
use Rattle.dt_base.specs.names.Grammar.{is_name_byte, IsSegment}
use Rattle.dt_base.specs.names.Machinery.Walking.{when, inside_name, step, run}

or_more : (d a z : Bool) → (a || z) ≡ true → ((d || a) || z) ≡ true
or_more true a z h = refl
or_more false a z h = h

alphanumeric-from_alphabetic : (c : ℕ) → is_ascii_alphabetic c ≡ true → is_ascii_alphanumeric c ≡ true
alphanumeric-from_alphabetic c h = or_more (is_in_range 48 57 c) (is_in_range 65 90 c) (is_in_range 97 122 c) h

pub is_name_byte-ne58 : (c : ℕ) → is_name_byte c ≡ true → (c == 58) ≡ false
is_name_byte-ne58 c h = ne_eqb c 58 (λ e. false≢true (subst (λ (k : ℕ). is_name_byte k ≡ true) e h))

pub is_name_byte-ne59 : (c : ℕ) → is_name_byte c ≡ true → (c == 59) ≡ false
is_name_byte-ne59 c h = ne_eqb c 59 (λ e. false≢true (subst (λ (k : ℕ). is_name_byte k ≡ true) e h))

-- what may follow inside a segment; the test tells whether it may be nothing
abbrev pub Tail : Bool → List ℕ → Type 0
Tail may [] = may ≡ true
Tail may (c ∷ cs) = (is_name_byte c ≡ true) × Tail (is_ascii_alphanumeric c) cs

abbrev last_ok : Bool → List ℕ → Bool
last_ok may [] = may
last_ok may (c ∷ cs) = last_ok (is_ascii_alphanumeric c) cs

last_ok_is : (may : Bool) (c : ℕ) (cs : List ℕ) → last_ok may (c ∷ cs) ≡ is_ascii_alphanumeric (slice_index (c ∷ cs) (length (c ∷ cs) - 1))
last_ok_is may c [] = refl
last_ok_is may c (d ∷ ds) =
    let e : suc (length (d ∷ ds) - 1) ≡ length (c ∷ d ∷ ds) - 1 = omega arith in
    last_ok_is (is_ascii_alphanumeric c) d ds ∙ ap (λ k. is_ascii_alphanumeric (slice_index (c ∷ d ∷ ds) k)) e

Tail-from : (may : Bool) (cs : List ℕ) → AllPass is_name_byte cs → last_ok may cs ≡ true → Tail may cs
Tail-from may [] all e = e
Tail-from may (c ∷ cs) all e = (All-head (λ x. is_name_byte x ≡ true) c cs all, Tail-from (is_ascii_alphanumeric c) cs (All-tail (λ x. is_name_byte x ≡ true) c cs all) e)

Tail-each : (may : Bool) (cs : List ℕ) → Tail may cs → AllPass is_name_byte cs
Tail-each may [] t = All-nil (λ x. is_name_byte x ≡ true)
Tail-each may (c ∷ cs) t = All-cons (λ x. is_name_byte x ≡ true) c cs t.0 (Tail-each (is_ascii_alphanumeric c) cs t.1)

Tail-last : (may : Bool) (cs : List ℕ) → Tail may cs → last_ok may cs ≡ true
Tail-last may [] t = t
Tail-last may (c ∷ cs) t = Tail-last (is_ascii_alphanumeric c) cs t.1

pub tail-from_segment : (c : ℕ) (cs : List ℕ) → IsSegment (c ∷ cs) → (is_ascii_alphabetic c ≡ true) × Tail true cs
tail-from_segment c cs s = (
  s.first,
  Tail-from true cs (All-tail (λ x. is_name_byte x ≡ true) c cs s.each)
      (subst (λ (b : Bool). last_ok b cs ≡ true) (alphanumeric-from_alphabetic c s.first) (last_ok_is true c cs ∙ s.last)),
)

pub segment-from_tail : (c : ℕ) (cs : List ℕ) → is_ascii_alphabetic c ≡ true → Tail true cs → IsSegment (c ∷ cs)
segment-from_tail c cs a t =
    let n = alphanumeric-from_alphabetic c a in
    record {
      first = a;
      each = All-cons (λ x. is_name_byte x ≡ true) c cs (or_left (is_ascii_alphanumeric c) (c == 95) n) (Tail-each true cs t);
      last = sym (last_ok_is true c cs) ∙ subst (λ (b : Bool). last_ok b cs ≡ true) (sym n) (Tail-last true cs t);
    }

IsSegment-nil : IsSegment [] → ⊥
IsSegment-nil s = false≢true s.first

pub when-true : (b : Bool) (p : State) → b ≡ true → when b p ≡ Some p
when-true true p e = refl
when-true false p e = cc

inside-some : (a b : Bool) (word underscore : State) → (a || b) ≡ true → cond a (Some word) (when b underscore) ≡ Some (cond a word underscore)
inside-some true b w u e = refl
inside-some false true w u e = refl
inside-some false false w u e = cc

-- ---- a name
abbrev name_at : Bool → State
name_at may = cond may NameWord NameUnderscore

step-name_at : (may : Bool) (c : ℕ) → step (name_at may) c ≡ inside_name c NameWord NameUnderscore
step-name_at true c = refl
step-name_at false c = refl

run-name_at : (may : Bool) (cs : List ℕ) → Tail may cs → run (name_at may) cs ≡ Some NameWord
run-name_at may [] t = ap (λ b. Some (name_at b)) t
run-name_at may (c ∷ cs) t =
    ap (option_and_then (λ p. run p cs)) (step-name_at may c ∙ inside-some (is_ascii_alphanumeric c) (c == 95) NameWord NameUnderscore t.0)
    ∙ run-name_at (is_ascii_alphanumeric c) cs t.1

at_word : (may : Bool) → Some (name_at may) ≡ Some NameWord → may ≡ true
at_word true e = refl
at_word false e = cc

name_goes : (a b : Bool) (cs : List ℕ) → option_and_then (λ p. run p cs) (cond a (Some NameWord) (when b NameUnderscore)) ≡ Some NameWord
    → ((a || b) ≡ true) × (run (name_at a) cs ≡ Some NameWord)
name_goes true b cs e = (refl, e)
name_goes false true cs e = (refl, e)
name_goes false false cs e = cc

tail-from_run : (may : Bool) (cs : List ℕ) → run (name_at may) cs ≡ Some NameWord → Tail may cs
tail-from_run may [] e = at_word may e
tail-from_run may (c ∷ cs) e =
    let g = name_goes (is_ascii_alphanumeric c) (c == 95) cs (ap (option_and_then (λ p. run p cs)) (sym (step-name_at may c)) ∙ e) in
    (g.0, tail-from_run (is_ascii_alphanumeric c) cs g.1)

pub run-name : (bytes : List ℕ) → IsSegment bytes → run NameStart bytes ≡ Some NameWord
run-name [] s = absurd (IsSegment-nil s)
run-name (c ∷ cs) s =
    let t = tail-from_segment c cs s in
    ap (option_and_then (λ p. run p cs)) (when-true (is_ascii_alphabetic c) NameWord t.0) ∙ run-name_at true cs t.1

start_goes : (b : Bool) (cs : List ℕ) → option_and_then (λ p. run p cs) (when b NameWord) ≡ Some NameWord → (b ≡ true) × (run NameWord cs ≡ Some NameWord)
start_goes true cs e = (refl, e)
start_goes false cs e = cc

pub segment-from_run : (bytes : List ℕ) → run NameStart bytes ≡ Some NameWord → IsSegment bytes
segment-from_run [] e = cc
segment-from_run (c ∷ cs) e =
    let g = start_goes (is_ascii_alphabetic c) cs e in segment-from_tail c cs g.0 (tail-from_run true cs g.1)

-- ---- a segment of a DTMI
abbrev pub segment_at : Bool → State
segment_at may = cond may SegmentWord SegmentUnderscore

step-segment_at : (may : Bool) (c : ℕ) → is_name_byte c ≡ true → step (segment_at may) c ≡ Some (segment_at (is_ascii_alphanumeric c))
step-segment_at true c h =
    cond-false _ _ _ (is_name_byte-ne58 c h) ∙ cond-false _ _ _ (is_name_byte-ne59 c h)
    ∙ inside-some (is_ascii_alphanumeric c) (c == 95) SegmentWord SegmentUnderscore h
step-segment_at false c h = inside-some (is_ascii_alphanumeric c) (c == 95) SegmentWord SegmentUnderscore h

run-segment_at : (may : Bool) (cs rest : List ℕ) → Tail may cs → run (segment_at may) (cs ++ rest) ≡ run SegmentWord rest
run-segment_at may [] rest t = ap (λ b. run (segment_at b) rest) t
run-segment_at may (c ∷ cs) rest t =
    ap (option_and_then (λ p. run p (cs ++ rest))) (step-segment_at may c t.0)
    ∙ run-segment_at (is_ascii_alphanumeric c) cs rest t.1

pub run-segment : (bytes rest : List ℕ) → IsSegment bytes → run SegmentStart (bytes ++ rest) ≡ run SegmentWord rest
run-segment [] rest s = absurd (IsSegment-nil s)
run-segment (c ∷ cs) rest s =
    let t = tail-from_segment c cs s in
    ap (option_and_then (λ p. run p (cs ++ rest))) (when-true (is_ascii_alphabetic c) SegmentWord t.0)
    ∙ run-segment_at true cs rest t.1
