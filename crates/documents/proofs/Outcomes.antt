-- Documents declare interfaces together, or have the line of a first fault.
use Rattle.std.proofs.Common.{◌≡◌, ◌≢◌, ℕ, ◌+◌, ◌⊎◌, inl, inr, List, [], ◌∷◌, ◌++◌, refl}
use Rattle.std.specs.Prelude.{codes, decimal}
use Rattle.std.specs.List.{AllByRecursion, AllZip}
use Rattle.dt_base.specs.Existence.{IsThere}
use Rattle.dt_base.proofs.Existence.{is_there, from_there, map_there}
use Rattle.json_tree.specs.Values.{Value, Json, null, truth, number, text, array, object}
use Rattle.json_tree.specs.Places.{IsPart, IsSomewhere}
use Rattle.json_tree.specs.Grammar.{Spells}
use Rattle.json_tree.specs.Pointers.{HasToken, IsPointerOf, pointer_text}
use Rattle.json_read.specs.declared.fault.JsonFault.{JsonFault}
use Rattle.json_read.specs.declared.fault.JsonFault.TheVariants as faults
use Rattle.json_read.specs.Faults.{IsFault}
use Rattle.json_read.proofs.Pointed.{duplicate_stands}
use Rattle.local_rules.specs.Breaches.{BreaksNoLocalRule, IsFirstBreach}
use Rattle.local_rules.specs.Codes.{rule_code}
use Rattle.local_rules.specs.declared.rule.LocalRule.{LocalRule}
use Rattle.local_faults.proofs.LeastBreaches.{breach_stands}
use Rattle.dtdl_terms.specs.Spots.{spot_text}
use Rattle.dtdl_terms.specs.declared.interface.Interface.{Interface}
use Rattle.dtdl_terms.specs.declared.uploaded.Uploaded.{Uploaded}
use Rattle.model_read.specs.Uploads.{AreUploaded}
use Rattle.extend_resolve.specs.Breaches.{Breach, IsFirstSetBreach, IsSound, set_rule_code}
use Rattle.documents.specs.Lines.{IsBreachLine, IsFaultLine, IsJsonFaultLine, IsSetBreachLine, byte_line, pointer_line}
use Rattle.documents.specs.FirstFaults.{AllUploaded, Declare, FirstOf, HasFirstFault, HasJsonFault, HasLocalFault, IsJson}

-- ---- a place where something stands has a pointer
part_token : {N : Type 0} (v : Value N) (i : ℕ) (part : Value N) → IsPart v i part → (token : List ℕ) × HasToken v i token part
part_token null i part h = absurd h
part_token (truth b) i part h = absurd h
part_token (number n) i part h = absurd h
part_token (text t) i part h = absurd h
part_token (array vs) i part h = (decimal i, (h, refl))
part_token (object ms) i part h = (h.0, h.1)

pointed : {N : Type 0} (v : Value N) (place : List ℕ) → IsSomewhere v place → (pointer : List ℕ) × IsPointerOf v place pointer
pointed v [] s = (pointer_text [], ([], refl, refl))
pointed v (i ∷ place) (w, (part, is, stands)) =
    let t = part_token v i part is in
    let rest = pointed part place (w, stands) in
    (pointer_text (t.0 ∷ rest.1.0), (t.0 ∷ rest.1.0, (t.0, part, rest.1.0, t.1, rest.1.1, refl), refl))

-- ---- lines
fault_line : (n : ℕ) (bytes : List ℕ) (fault : JsonFault) → (fault ≡ faults.OutOfMemory → ⊥) → IsFault bytes fault → (line : List ℕ) × IsFaultLine n bytes fault line
fault_line n bytes (faults.Byte at) some is = (byte_line n at (codes "Byte"), refl)
fault_line n bytes (faults.Ends at) some is = (byte_line n at (codes "Ends"), refl)
fault_line n bytes (faults.Duplicate place) some (raw, is, at, first) =
    let p = pointed raw place.steps (duplicate_stands raw place.steps at) in
    (pointer_line n p.0 (codes "Duplicate"), (raw, p.0, is, p.1, refl))
fault_line n bytes (faults.Range place) some (raw, is, at, new, first) =
    let p = pointed raw place.steps (number at.0, at.2) in
    (pointer_line n p.0 (codes "Range"), (raw, p.0, is, p.1, refl))
fault_line n bytes faults.OutOfMemory some is = absurd (some refl)

breach_line : (n : ℕ) (v : Json) (place : List ℕ) (broken : LocalRule) → IsFirstBreach v place broken → (line : List ℕ) × IsBreachLine n v line
breach_line n v place broken first =
    let p = pointed v place (breach_stands v place broken first.breach) in
    (pointer_line n p.0 (rule_code broken), (place, broken, p.0, first, p.1, refl))

set_line : (us : List Uploaded) (b : Breach) → IsFirstSetBreach [] us b → (line : List ℕ) × IsSetBreachLine us line
set_line us b first =
    let u : Uploaded = first.breach.0 in
    (pointer_line u.document (u.base ++ spot_text u.parents_as_text b.spot) (set_rule_code b.rule), (b, u, first, first.breach.1, refl))

-- ---- what is known of texts, of their values, of sets, and of values without breach
abbrev pub ValueOrFault : Type 0
ValueOrFault = (bytes : List ℕ) → IsThere (((v : Json) × Spells bytes v) ⊎ ((fault : JsonFault) × (fault ≢ faults.OutOfMemory) × IsFault bytes fault))

abbrev pub BreachOrNone : Type 0
BreachOrNone = (v : Json) → IsThere (BreaksNoLocalRule v ⊎ ((place : List ℕ) × (broken : LocalRule) × IsFirstBreach v place broken))

abbrev pub SetBreachOrNone : Type 0
SetBreachOrNone = (set : List Interface) (new : List Uploaded) → IsThere (IsSound set new ⊎ ((b : Breach) × IsFirstSetBreach set new b))

abbrev pub UnbrokenDeclares : Type 0
UnbrokenDeclares = (v : Json) (nth : ℕ) → BreaksNoLocalRule v → IsThere ((us : List Uploaded) × AreUploaded v nth us)

module _ (texts : ValueOrFault) where
  values_or_fault : (documents : List (List ℕ)) (n : ℕ)
      → IsThere (((values : List Json) × AllZip Spells documents values) ⊎ ((line : List ℕ) × FirstOf IsJson IsJsonFaultLine n documents line))
  values_or_fault [] n = is_there (inl ([], tt))
  values_or_fault (d ∷ ds) n =
      from_there (texts d) (λ (first : ((v : Json) × Spells d v) ⊎ ((fault : JsonFault) × (fault ≢ faults.OutOfMemory) × IsFault d fault)). elim first [
        | inl v ↦ map_there
            (λ (rest : ((values : List Json) × AllZip Spells ds values) ⊎ ((line : List ℕ) × FirstOf IsJson IsJsonFaultLine (n + 1) ds line)). elim rest [
              | inl vs ↦ inl (v.0 ∷ vs.0, (v.1, vs.1))
              | inr l ↦ inr (l.0, inr (v, l.1))
            ]) (values_or_fault ds (n + 1))
        | inr f ↦ (let l = fault_line n d f.0 f.1 f.2 in is_there (inr (l.0, inl (f.0, f.2, l.1))))
      ])

module _ (breaches : BreachOrNone) where
  unbroken_or_fault : (values : List Json) (n : ℕ)
      → IsThere (AllByRecursion BreaksNoLocalRule values ⊎ ((line : List ℕ) × FirstOf BreaksNoLocalRule IsBreachLine n values line))
  unbroken_or_fault [] n = is_there (inl tt)
  unbroken_or_fault (v ∷ vs) n =
      from_there (breaches v) (λ (first : BreaksNoLocalRule v ⊎ ((place : List ℕ) × (broken : LocalRule) × IsFirstBreach v place broken)). elim first [
        | inl none ↦ map_there
            (λ (rest : AllByRecursion BreaksNoLocalRule vs ⊎ ((line : List ℕ) × FirstOf BreaksNoLocalRule IsBreachLine (n + 1) vs line)). elim rest [
              | inl all ↦ inl (none, all)
              | inr l ↦ inr (l.0, inr (none, l.1))
            ]) (unbroken_or_fault vs (n + 1))
        | inr b ↦ (let l = breach_line n v b.0 b.1 b.2 in is_there (inr (l.0, inl l.1)))
      ])

module _ (declares : UnbrokenDeclares) where
  all_uploaded : (values : List Json) (n : ℕ) → AllByRecursion BreaksNoLocalRule values → IsThere ((us : List Uploaded) × AllUploaded n values us)
  all_uploaded [] n unbroken = is_there ([], refl)
  all_uploaded (v ∷ vs) n unbroken =
      from_there (declares v n unbroken.0) (λ (first : (us : List Uploaded) × AreUploaded v n us).
      map_there (λ (rest : (us : List Uploaded) × AllUploaded (n + 1) vs us). (first.0 ++ rest.0, (first.0, rest.0, first.1, rest.1, refl)))
      (all_uploaded vs (n + 1) unbroken.1))

abbrev DeclaresOrFault : List (List ℕ) → Type 0
DeclaresOrFault documents = ((us : List Uploaded) × Declare documents us) ⊎ ((line : List ℕ) × HasFirstFault documents line)

module _ (texts : ValueOrFault) (breaches : BreachOrNone) (sets : SetBreachOrNone) (declares : UnbrokenDeclares) (documents : List (List ℕ)) where
  judged : (values : List Json) (spelled : AllZip Spells documents values) (unbroken : AllByRecursion BreaksNoLocalRule values) (us : List Uploaded) → AllUploaded 1 values us
      → IsSound [] us ⊎ ((b : Breach) × IsFirstSetBreach [] us b) → DeclaresOrFault documents
  judged values spelled unbroken us are (inl sound) =
      inl (us, record { values = values; spelled = spelled; unbroken = unbroken; uploaded = are; sound = sound })
  judged values spelled unbroken us are (inr (b, first)) =
      let l = set_line us b first in inr (l.0, inr (values, spelled, inr (us, unbroken, are, l.1)))

  of_unbroken : (values : List Json) → AllZip Spells documents values → AllByRecursion BreaksNoLocalRule values → IsThere (DeclaresOrFault documents)
  of_unbroken values spelled unbroken =
      from_there (all_uploaded declares values 1 unbroken) (λ (up : (us : List Uploaded) × AllUploaded 1 values us).
      map_there (judged values spelled unbroken up.0 up.1) (sets [] up.0))

  of_values : (values : List Json) → AllZip Spells documents values → IsThere (DeclaresOrFault documents)
  of_values values spelled =
      from_there (unbroken_or_fault breaches values 1) (λ (local : AllByRecursion BreaksNoLocalRule values ⊎ ((line : List ℕ) × HasLocalFault values line)). elim local [
        | inl unbroken ↦ of_unbroken values spelled unbroken
        | inr l ↦ is_there (inr (l.0, inr (values, spelled, inl l.1)))
      ])

  pub declares_or_fault : IsThere (DeclaresOrFault documents)
  declares_or_fault =
      from_there (values_or_fault texts documents 1) (λ (read : ((values : List Json) × AllZip Spells documents values) ⊎ ((line : List ℕ) × HasJsonFault documents line)). elim read [
        | inl vs ↦ of_values vs.0 vs.1
        | inr l ↦ is_there (inr (l.0, inl l.1))
      ])
