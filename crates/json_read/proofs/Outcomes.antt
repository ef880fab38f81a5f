-- Bytes spell a value or have a fault.
use Rattle.std.proofs.Common.{◌≡◌, ◌≢◌, ℕ, suc, ◌⊎◌, inl, inr, List, [], ◌∷◌, length, Some, pos, neg_ℤ, refl, sym, subst}
use Rattle.std.proofs.lemmas.Int.{by_lt_z}
use Rattle.dt_base.specs.Existence.{IsThere}
use Rattle.dt_base.proofs.Existence.{is_there, holds_or_not, from_there, map_there}
use Rattle.json_decimal.specs.Number.{Number, IsOutOfRange}
use Rattle.json_decimal.specs.Literal.{IsLiteralOf}
use Rattle.json_decimal.proofs.Normal.{literal_number}
use Rattle.json_tree.specs.declared.places.Place.{Place}
use Rattle.json_tree.specs.Values.{Raw, Json, null, truth, number, text, array, object, Elements, no_elements, element, Members, no_members, member, IsInRange, IsReadAs, ElementsAreReadAs, MembersAreReadAs}
use Rattle.json_tree.specs.Places.{element_at, member_at, IsSomewhere}
use Rattle.json_tree.specs.Grammar.{IsText, IsNumber, IsValue, IsElements, IsMoreElements, IsMembers, IsMoreMembers, Spells}
use Rattle.json_tree.proofs.FirstPlaces.{FirstOrNone, IsFirstPlace, first_place}
use Rattle.json_read.specs.declared.fault.JsonFault.{JsonFault}
use Rattle.json_read.specs.declared.fault.JsonFault.TheVariants as faults
use Rattle.json_read.specs.Faults.{IsDuplicateAt, IsRangeAt, IsFault}
use Rattle.json_read.specs.Machinery.Automaton.{start, Outcome, wrong, cut, gives, outcome}
use Rattle.json_read.proofs.Says.{says_wrong, says_cut, says_gives}
use Rattle.json_read.proofs.Held.{distinct}
use Rattle.json_read.proofs.Pointed.{duplicate_stands}
use Rattle.json_read.proofs.Ranges.{range_up}

-- ---- what a text spells is read where no number of it is out of range
within_range : (n : Number) → (IsOutOfRange n → ⊥) → IsInRange n
within_range n not = record {
  low = by_lt_z n.exponent (neg_ℤ (pos 900)) (λ l. absurd (not (inl l))) (λ h. h);
  high = by_lt_z (pos 900) n.exponent (λ l. absurd (not (inr l))) (λ h. h);
}

number_read : (literal : List ℕ) → IsNumber literal → ((place : List ℕ) → IsRangeAt (number literal) place → ⊥)
    → IsThere ((w : Json) × IsReadAs (number literal) w)
number_read literal (l, is, e) none =
    let n = literal_number l is in
    let of : IsLiteralOf literal n.0 = subst (λ (bytes : List ℕ). IsLiteralOf bytes n.0) (sym e) n.1 in
    map_there (λ (out : IsOutOfRange n.0 ⊎ (IsOutOfRange n.0 → ⊥)). elim out [
      | inl far ↦ absurd (none [] (literal, n.0, refl, of, far))
      | inr not ↦ (number n.0, (n.0, of, within_range n.0 not, refl))
    ]) (holds_or_not (IsOutOfRange n.0))

abbrev ElementsInRange : Elements (List ℕ) → Type 0
ElementsInRange vs = (i : ℕ) (part : Raw) → element_at vs i ≡ Some part → (place : List ℕ) → IsRangeAt part place → ⊥

abbrev MembersInRange : Members (List ℕ) → Type 0
MembersInRange ms = (i : ℕ) (key : List ℕ) (part : Raw) → member_at ms i ≡ Some (key, part) → (place : List ℕ) → IsRangeAt part place → ⊥

abbrev ElementsRead : Elements (List ℕ) → Type 0
ElementsRead vs = (ws : Elements Number) × ElementsAreReadAs vs ws

abbrev MembersRead : Members (List ℕ) → Type 0
MembersRead ms = (ns : Members Number) × MembersAreReadAs ms ns

abbrev ValueRead : Raw → Type 0
ValueRead raw = (w : Json) × IsReadAs raw w

one_more_element : (v : Raw) (vs : Elements (List ℕ)) → IsThere (ValueRead v) → IsThere (ElementsRead vs) → IsThere (ElementsRead (element v vs))
one_more_element v vs here later =
    from_there here (λ (x : ValueRead v). map_there (λ (xs : ElementsRead vs). (element x.0 xs.0, (x.0, xs.0, x.1, xs.1, refl))) later)

one_more_member : (key : List ℕ) (v : Raw) (ms : Members (List ℕ)) → IsThere (ValueRead v) → IsThere (MembersRead ms) → IsThere (MembersRead (member key v ms))
one_more_member key v ms here later =
    from_there here (λ (x : ValueRead v). map_there (λ (xs : MembersRead ms). (member key x.0 xs.0, (x.0, xs.0, x.1, xs.1, refl))) later)

mutual
  value_read : (raw : Raw) (depth : ℕ) (from to : List ℕ) → IsValue raw depth from to → ((place : List ℕ) → IsRangeAt raw place → ⊥) → IsThere (ValueRead raw)
  value_read null depth from to h none = is_there (null, refl)
  value_read (truth b) depth from to h none = is_there (truth b, refl)
  value_read (number literal) depth from to h none = number_read literal h.0 none
  value_read (text content) depth from to h none = is_there (text content, refl)
  value_read (array vs) depth from to h none =
      map_there (λ (r : ElementsRead vs). (array r.0, (r.0, r.1, refl)))
      (elements_read vs h.0 h.1 to h.4 (λ i part e place r. none (i ∷ place) (range_up (array vs) i part place e r)))
  value_read (object ms) depth from to h none =
      map_there (λ (r : MembersRead ms). (object r.0, (r.0, r.1, refl)))
      (members_read ms h.0 h.1 to h.4 (λ i key part e place r. none (i ∷ place) (range_up (object ms) i part place (key, e) r)))

  elements_read : (vs : Elements (List ℕ)) (depth : ℕ) (from to : List ℕ) → IsElements vs depth from to → ElementsInRange vs → IsThere (ElementsRead vs)
  elements_read no_elements depth from to h none = is_there (no_elements, refl)
  elements_read (element v vs) depth from to h none =
      one_more_element v vs (value_read v depth h.0 h.1 h.3 (none 0 v refl)) (more_elements_read vs depth h.1 to h.4 (λ i. none (suc i)))

  more_elements_read : (vs : Elements (List ℕ)) (depth : ℕ) (from to : List ℕ) → IsMoreElements vs depth from to → ElementsInRange vs → IsThere (ElementsRead vs)
  more_elements_read no_elements depth from to h none = is_there (no_elements, refl)
  more_elements_read (element v vs) depth from to h none =
      one_more_element v vs (value_read v depth h.1 h.2 h.5 (none 0 v refl)) (more_elements_read vs depth h.2 to h.6 (λ i. none (suc i)))

  members_read : (ms : Members (List ℕ)) (depth : ℕ) (from to : List ℕ) → IsMembers ms depth from to → MembersInRange ms → IsThere (MembersRead ms)
  members_read no_members depth from to h none = is_there (no_members, refl)
  members_read (member key v ms) depth from to h none =
      one_more_member key v ms (value_read v depth h.3 h.4 h.9 (none 0 key v refl)) (more_members_read ms depth h.4 to h.10 (λ i. none (suc i)))

  more_members_read : (ms : Members (List ℕ)) (depth : ℕ) (from to : List ℕ) → IsMoreMembers ms depth from to → MembersInRange ms → IsThere (MembersRead ms)
  more_members_read no_members depth from to h none = is_there (no_members, refl)
  more_members_read (member key v ms) depth from to h none =
      one_more_member key v ms (value_read v depth h.4 h.5 h.11 (none 0 key v refl)) (more_members_read ms depth h.5 to h.12 (λ i. none (suc i)))

-- ---- a first place with a fault, or none
abbrev IsFaultyAt : Raw → List ℕ → Type 0
IsFaultyAt raw place = IsDuplicateAt raw place ⊎ IsRangeAt raw place

faulty_stands : (raw : Raw) (place : List ℕ) → IsFaultyAt raw place → IsSomewhere raw place
faulty_stands raw place (inl d) = duplicate_stands raw place d
faulty_stands raw place (inr r) = (number r.0, r.2)

abbrev ValueOrFault : List ℕ → Type 0
ValueOrFault bytes = ((v : Json) × Spells bytes v) ⊎ ((fault : JsonFault) × (fault ≢ faults.OutOfMemory) × IsFault bytes fault)

placed : (bytes : List ℕ) (raw : Raw) (place : List ℕ) → IsText bytes raw → IsFirstPlace (IsFaultyAt raw) place
    → IsDuplicateAt raw place ⊎ (IsDuplicateAt raw place → ⊥) → ValueOrFault bytes
placed bytes raw place is (faulty, first) (inl d) =
    let p : Place = record { steps = place } in
    inr (faults.Duplicate p, (λ (e : faults.Duplicate p ≡ faults.OutOfMemory). cc), (raw, is, d, first))
placed bytes raw place is (inl d, first) (inr new) = absurd (new d)
placed bytes raw place is (inr r, first) (inr new) =
    let p : Place = record { steps = place } in
    inr (faults.Range p, (λ (e : faults.Range p ≡ faults.OutOfMemory). cc), (raw, is, r, new, first))

of_text : (bytes : List ℕ) (raw : Raw) → IsText bytes raw → IsThere (ValueOrFault bytes)
of_text bytes raw is = from_there (first_place raw (IsFaultyAt raw) (faulty_stands raw)) (λ (found : FirstOrNone (IsFaultyAt raw)). elim found [
  | inl at ↦ map_there (λ (d : IsDuplicateAt raw at.0 ⊎ (IsDuplicateAt raw at.0 → ⊥)). placed bytes raw at.0 is at.1 d) (holds_or_not (IsDuplicateAt raw at.0))
  | inr none ↦ map_there (λ (r : ValueRead raw). inl (r.0, (raw, is, distinct raw (λ place d. none place (inl d)), r.1)))
      (value_read raw 64 is.0 is.1 is.3 (λ place r. none place (inr r)))
])

of_outcome : (bytes : List ℕ) (o : Outcome) → outcome start 0 bytes ≡ o → IsThere (ValueOrFault bytes)
of_outcome bytes (wrong at) e = is_there (inr (faults.Byte at, (λ (f : faults.Byte at ≡ faults.OutOfMemory). cc), says_wrong bytes at e))
of_outcome bytes cut e =
    is_there (inr (faults.Ends (length bytes), (λ (f : faults.Ends (length bytes) ≡ faults.OutOfMemory). cc), (says_cut bytes e, refl)))
of_outcome bytes (gives raw) e = of_text bytes raw ((says_gives bytes raw e raw).1 refl)

pub value_or_fault : (bytes : List ℕ) → IsThere (ValueOrFault bytes)
value_or_fault bytes = of_outcome bytes (outcome start 0 bytes) refl
