-- What is answered of the bytes, from what was read.
use Rattle.std.proofs.Common.{◌≡◌, ℕ, ◌↔◌, inl, inr, List, reverse, Option, Some, None, refl, sym, ◌∙◌, subst}
use Rattle.std.specs.Option.{option_map}
use Rattle.json_read.specs.declared.fault.JsonFault.{JsonFault}
use Rattle.json_read.specs.declared.fault.JsonFault.TheVariants as faults
use Rattle.json_tree.specs.Values.{Raw, Json, IsReadAs}
use Rattle.json_tree.specs.Grammar.{IsText, Spells}
use Rattle.json_tree.specs.Places.{IsBefore}
use Rattle.json_read.specs.Faults.{IsDuplicateAt, IsRangeAt, IsFirstFaulty, IsFault}
use Rattle.json_read.specs.Machinery.Automaton.{start, gives, reading}
use Rattle.json_read.specs.Machinery.Leads.{IsOutcome, IsHeldAs}
use Rattle.json_read.specs.Machinery.Ways.{IsFirstAt, IsFirstUp}
use Rattle.json_read.proofs.Readings.{reading_all}
use Rattle.json_read.proofs.Says.{says_wrong, says_cut, says_gives}
use Rattle.json_read.proofs.OneValue.{OneNumber, one_value}
use Rattle.json_read.proofs.Held.{held_read, distinct, duplicate_held, duplicate_spelled}
use Rattle.json_tree.proofs.Preorder.{not_before_itself, before_through, before_cases}

-- the place to which a way up leads
pub no_place : (At : List ℕ → Type 0) (way : Option (List ℕ)) → IsFirstUp At way → option_map (λ (up : List ℕ). reverse up) way ≡ None → (place : List ℕ) → At place → ⊥
no_place At None h e = h
no_place At (Some up) h e = absurd cc

pub a_place : (At : List ℕ → Type 0) (way : Option (List ℕ)) (place : List ℕ) → IsFirstUp At way → option_map (λ (up : List ℕ). reverse up) way ≡ Some place → IsFirstAt At place
a_place At None place h e = absurd cc
a_place At (Some up) place h e = let same : reverse up ≡ place = cc in subst (IsFirstAt At) same h

-- what a fault of reading says
pub read_fault : (bytes : List ℕ) (fault : JsonFault) → IsOutcome bytes fault (reading bytes start 0) → IsFault bytes fault
read_fault bytes (faults.Byte at) h = says_wrong bytes at (sym (reading_all bytes) ∙ h)
read_fault bytes (faults.Ends at) h = (says_cut bytes (sym (reading_all bytes) ∙ h.0), h.1)
read_fault bytes (faults.Duplicate place) h = absurd h
read_fault bytes (faults.Range place) h = absurd h
read_fault bytes faults.OutOfMemory h = tt

-- what a whole value says
pub text_of : (bytes : List ℕ) (raw : Raw) → reading bytes start 0 ≡ gives raw → (other : Raw) → IsText bytes other ↔ (raw ≡ other)
text_of bytes raw e = says_gives bytes raw (sym (reading_all bytes) ∙ e)

pub spells : OneNumber → (bytes : List ℕ) (raw : Raw) (w : Json) → reading bytes start 0 ≡ gives raw → IsHeldAs raw w
    → ((place : List ℕ) → IsRangeAt raw place → ⊥) → ((place : List ℕ) → IsDuplicateAt w place → ⊥) → (value : Json) → Spells bytes value ↔ (w ≡ value)
spells one bytes raw w e held in_range new value =
    let read = held_read raw w in_range held in (
      (λ s. one_value one raw w value read (subst (λ (r : Raw). IsReadAs r value) (sym ((text_of bytes raw e s.0).0 s.1)) s.3)),
      (λ same. (raw, (text_of bytes raw e raw).1 refl, distinct raw (λ place d. new place (duplicate_held place raw w held d)), subst (λ (v : Json). IsReadAs raw v) same read)),
    )

first_of_duplicates : (raw : Raw) (w : Json) (place : List ℕ) → IsHeldAs raw w → IsFirstAt (IsDuplicateAt w) place
    → ((other : List ℕ) → IsRangeAt raw other → IsBefore other place → ⊥) → IsFirstFaulty raw place
first_of_duplicates raw w place held first later before lt (inl d) = first.1 before lt (duplicate_held before raw w held d)
first_of_duplicates raw w place held first later before lt (inr r) = later before r lt

pub duplicate_fault : (bytes : List ℕ) (raw : Raw) (w : Json) (place : List ℕ) → reading bytes start 0 ≡ gives raw → IsHeldAs raw w → IsFirstAt (IsDuplicateAt w) place
    → ((other : List ℕ) → IsRangeAt raw other → IsBefore other place → ⊥)
    → (r : Raw) × IsText bytes r × IsDuplicateAt r place × IsFirstFaulty r place
duplicate_fault bytes raw w place e held first later =
    (raw, (text_of bytes raw e raw).1 refl, duplicate_spelled place raw w held first.0, first_of_duplicates raw w place held first later)

first_of_ranges : (raw : Raw) (w : Json) (place : List ℕ) → IsHeldAs raw w → IsFirstAt (IsRangeAt raw) place
    → ((other : List ℕ) → IsDuplicateAt w other → IsBefore place other) → IsFirstFaulty raw place
first_of_ranges raw w place held first later before lt (inl d) =
    not_before_itself place (before_through place before place (later before (duplicate_held before raw w held d)) lt)
first_of_ranges raw w place held first later before lt (inr r) = first.1 before lt r

pub range_fault : (bytes : List ℕ) (raw : Raw) (w : Json) (place : List ℕ) → reading bytes start 0 ≡ gives raw → IsHeldAs raw w → IsFirstAt (IsRangeAt raw) place
    → ((other : List ℕ) → IsDuplicateAt w other → IsBefore place other)
    → (r : Raw) × IsText bytes r × IsRangeAt r place × (IsDuplicateAt r place → ⊥) × IsFirstFaulty r place
range_fault bytes raw w place e held first later =
    (raw, (text_of bytes raw e raw).1 refl, first.0, (λ d. not_before_itself place (later place (duplicate_held place raw w held d))), first_of_ranges raw w place held first later)

-- the lesser of two places
pub range_later : (raw : Raw) (place range : List ℕ) → IsFirstAt (IsRangeAt raw) range → (IsBefore range place → ⊥)
    → (other : List ℕ) → IsRangeAt raw other → IsBefore other place → ⊥
range_later raw place range first not_less other r lt = elim (before_cases other range) [
  | inl e ↦ not_less (subst (λ (p : List ℕ). IsBefore p place) e lt)
  | inr (inl h) ↦ first.1 other h r
  | inr (inr h) ↦ not_less (before_through range other place h lt)
]

pub duplicate_later : (w : Json) (place range : List ℕ) → IsFirstAt (IsDuplicateAt w) place → IsBefore range place
    → (other : List ℕ) → IsDuplicateAt w other → IsBefore range other
duplicate_later w place range first less other d = elim (before_cases other place) [
  | inl e ↦ subst (λ (p : List ℕ). IsBefore range p) (sym e) less
  | inr (inl h) ↦ absurd (first.1 other h d)
  | inr (inr h) ↦ before_through range place other less h
]
