-- Steps of reading as the functions take them, by a position in the bytes.
use Rattle.std.proofs.Common.{◌≡◌, ℕ, ◌+◌, ◌<◌, ◌≤◌, List, length, drop, get_or, Some, None, refl, sym, ap, subst, inl, inr, Bool, cond, ◌∙◌, arith}
use Rattle.std.proofs.lemmas.Bool.Decides.{leb_tells}
use Rattle.std.proofs.lemmas.List.{at_drop_more, at_drop_all, drop_more}
use Rattle.json_read.specs.declared.fault.JsonFault.{JsonFault}
use Rattle.json_read.specs.declared.fault.JsonFault.TheVariants as faults
use Rattle.json_read.specs.Machinery.Leads.{IsOutcome}
use Rattle.json_read.specs.Machinery.Automaton.{State, start, step, end, Outcome, wrong, outcome_at_end, followed_step, outcome, reading, Frame, in_word, word_next}
use Rattle.json_tree.specs.Values.{Raw}
use Rattle.json_tree.specs.Grammar.{IsSpace}
use Rattle.json_tree.proofs.Choices.{is_byte-in, no_byte-in}
use Rattle.json_read.specs.Machinery.Spans.{Faults}

-- the outcome here, by the step over this byte
pub reading_step : (bytes : List ℕ) (s : State) (at : ℕ) → at < length bytes
    → reading bytes s at ≡ followed_step (step s (get_or bytes at 0)) at (λ t. reading bytes t (at + 1))
unfolding reading
reading_step bytes s at h = at_drop_more (outcome s at) bytes at 0 h

pub reading_end : (bytes : List ℕ) (s : State) (at : ℕ) → length bytes ≤ at → reading bytes s at ≡ outcome_at_end (end s)
unfolding reading
reading_end bytes s at h = at_drop_all (outcome s at) bytes at h

pub reading_next : (bytes : List ℕ) (s t : State) (at : ℕ) → at < length bytes → step s (get_or bytes at 0) ≡ Some t → reading bytes s at ≡ reading bytes t (at + 1)
reading_next bytes s t at h f = reading_step bytes s at h ∙ ap (λ o. followed_step o at (λ t. reading bytes t (at + 1))) f

pub reading_byte : (bytes : List ℕ) (s t : State) (at b : ℕ) → at < length bytes → get_or bytes at 0 ≡ b → step s b ≡ Some t → reading bytes s at ≡ reading bytes t (at + 1)
reading_byte bytes s t at b h e f = reading_next bytes s t at h (ap (step s) e ∙ f)

pub reading_wrong : (bytes : List ℕ) (s : State) (at b : ℕ) → at < length bytes → get_or bytes at 0 ≡ b → step s b ≡ None → reading bytes s at ≡ wrong at
reading_wrong bytes s at b h e f = reading_step bytes s at h ∙ ap (λ o. followed_step o at (λ t. reading bytes t (at + 1))) (ap (step s) e ∙ f)

pub reading_all : (bytes : List ℕ) → reading bytes start 0 ≡ outcome start 0 bytes
unfolding reading
reading_all bytes = refl

-- states that take the next byte alike, and the end, have one outcome
pub reading_same : (bytes : List ℕ) (s t : State) (at : ℕ) → (at < length bytes → step s (get_or bytes at 0) ≡ step t (get_or bytes at 0))
    → (length bytes ≤ at → end s ≡ end t) → reading bytes s at ≡ reading bytes t at
reading_same bytes s t at p q = elim (leb_tells (length bytes) at) [
  | inl h ↦ reading_end bytes s at h.1 ∙ ap outcome_at_end (q h.1) ∙ sym (reading_end bytes t at h.1)
  | inr h ↦ reading_step bytes s at h.1 ∙ ap (λ o. followed_step o at (λ t. reading bytes t (at + 1))) (p h.1) ∙ sym (reading_step bytes t at h.1)
]

-- what the outcome is from a later place on, it is from here on
pub outcome_from : (bytes : List ℕ) (fault : JsonFault) (o p : Outcome) → o ≡ p → IsOutcome bytes fault p → IsOutcome bytes fault o
outcome_from bytes fault o p e h = subst (λ (x : Outcome). IsOutcome bytes fault x) (sym e) h

pub faults_byte : (bytes : List ℕ) (at : ℕ) → at < length bytes → Faults bytes at (faults.Byte at)
faults_byte bytes at h s p q = reading_wrong bytes s at (get_or bytes at 0) h refl (p h)

pub faults_end : (bytes : List ℕ) (at n : ℕ) → length bytes ≤ at → n ≡ length bytes → Faults bytes at (faults.Ends n)
faults_end bytes at n h e s p q = (reading_end bytes s at h ∙ ap outcome_at_end (q h), e)

-- white space
pub space_some : (b : ℕ) → IsSpace b → 0 < b
space_some b (inl e) = omega arith
space_some b (inr (inl e)) = omega arith
space_some b (inr (inr (inl e))) = omega arith
space_some b (inr (inr (inr e))) = omega arith

pub space_read : (bytes : List ℕ) (s : State) (at : ℕ) → at < length bytes → IsSpace (get_or bytes at 0)
    → step s 32 ≡ Some s → step s 9 ≡ Some s → step s 10 ≡ Some s → step s 13 ≡ Some s → reading bytes s at ≡ reading bytes s (at + 1)
space_read bytes s at h (inl e) p q r t = reading_byte bytes s s at 32 h e p
space_read bytes s at h (inr (inl e)) p q r t = reading_byte bytes s s at 9 h e q
space_read bytes s at h (inr (inr (inl e))) p q r t = reading_byte bytes s s at 10 h e r
space_read bytes s at h (inr (inr (inr e))) p q r t = reading_byte bytes s s at 13 h e t

-- words
pub word_read : (bytes word : List ℕ) (v : Raw) (d : ℕ) (k : List Frame) (at i : ℕ) → at < length bytes → i < length word
    → get_or bytes at 0 ≡ get_or word i 0
    → reading bytes (word_next (drop i word) v d k) at ≡ reading bytes (word_next (drop (i + 1) word) v d k) (at + 1)
word_read bytes word v d k at i h p e =
    let b = get_or word i 0 in
    let rest = drop (i + 1) word in
    ap (λ (left : List ℕ). reading bytes (word_next left v d k) at) (drop_more word i 0 p)
    ∙ reading_byte bytes (in_word b rest v d k) (word_next rest v d k) at b h e
    (ap (λ (t : Bool). cond t (Some (word_next rest v d k)) None) (is_byte-in b b refl))

pub word_fails : (bytes word : List ℕ) (fault : JsonFault) (v : Raw) (d : ℕ) (k : List Frame) (at i : ℕ) → Faults bytes at fault → i < length word
    → (at < length bytes → get_or bytes at 0 ≡ get_or word i 0 → ⊥) → IsOutcome bytes fault (reading bytes (word_next (drop i word) v d k) at)
word_fails bytes word fault v d k at i f p e =
    let b = get_or word i 0 in
    let rest = drop (i + 1) word in
    outcome_from bytes fault _ _ (ap (λ (left : List ℕ). reading bytes (word_next left v d k) at) (drop_more word i 0 p))
    (f (in_word b rest v d k)
    (λ h. ap (λ (t : Bool). cond t (Some (word_next rest v d k)) None) (no_byte-in (get_or bytes at 0) b (e h)))
    (λ h. refl))
