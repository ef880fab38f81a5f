-- Bytes spell one value.
use Rattle.std.proofs.Common.{◌≡◌, ℕ, ◌+◌, List, drop, refl, sym, ◌∙◌, subst}
use Rattle.std.proofs.lemmas.List.{take-append-drop}
use Rattle.json_read.specs.declared.fault.JsonFault.{JsonFault}
use Rattle.json_read.specs.declared.fault.JsonFault.TheVariants as faults
use Rattle.json_tree.specs.Values.{Raw, Json, IsReadAs}
use Rattle.json_tree.specs.Grammar.{IsText, Spells}
use Rattle.json_read.specs.Faults.{IsFirstWrongByte}
use Rattle.json_read.specs.Machinery.Automaton.{Outcome, wrong, cut, gives, outcome, reading, start}
use Rattle.json_read.specs.Machinery.Leads.{IsOutcome}
use Rattle.json_read.proofs.Readings.{reading_all}
use Rattle.json_read.proofs.Says.{says_wrong, says_cut, says_gives}
use Rattle.json_read.proofs.OneValue.{OneNumber, one_value}

-- no byte of a text is wrong
pub not_wrong : (bytes : List ℕ) (raw : Raw) (at : ℕ) → IsText bytes raw → IsFirstWrongByte bytes at → ⊥
not_wrong bytes raw at text first =
    first.dead (drop (at + 1) bytes, raw, subst (λ (b : List ℕ). IsText b raw) (sym (take-append-drop (at + 1) bytes)) text)

by_outcome : (bytes : List ℕ) (a b : Raw) (o : Outcome) → outcome start 0 bytes ≡ o → IsText bytes a → IsText bytes b → a ≡ b
by_outcome bytes a b (wrong at) e one other = absurd (not_wrong bytes a at one (says_wrong bytes at e))
by_outcome bytes a b cut e one other = absurd ((says_cut bytes e).none a one)
by_outcome bytes a b (gives raw) e one other = sym ((says_gives bytes raw e a).0 one) ∙ (says_gives bytes raw e b).0 other

pub one_raw : (bytes : List ℕ) (a b : Raw) → IsText bytes a → IsText bytes b → a ≡ b
one_raw bytes a b = by_outcome bytes a b (outcome start 0 bytes) refl

pub one_spelled : OneNumber → (bytes : List ℕ) (v w : Json) → Spells bytes v → Spells bytes w → v ≡ w
one_spelled one bytes v w p q =
    one_value one p.0 v w p.3 (subst (λ (raw : Raw). IsReadAs raw w) (sym (one_raw bytes p.0 q.0 p.1 q.1)) q.3)

-- a text is refused for want of memory alone
pub text_refused : (bytes : List ℕ) (raw : Raw) (fault : JsonFault) → IsText bytes raw → IsOutcome bytes fault (reading bytes start 0) → fault ≡ faults.OutOfMemory
text_refused bytes raw (faults.Byte at) text h = absurd (not_wrong bytes raw at text (says_wrong bytes at (sym (reading_all bytes) ∙ h)))
text_refused bytes raw (faults.Ends at) text h = absurd ((says_cut bytes (sym (reading_all bytes) ∙ h.0)).none raw text)
text_refused bytes raw (faults.Duplicate place) text h = absurd h
text_refused bytes raw (faults.Range place) text h = absurd h
text_refused bytes raw faults.OutOfMemory text h = refl
