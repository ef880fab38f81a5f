-- Of one thing in a request some outcome comes.
use Rattle.std.proofs.Common.{◌≡◌, ◌≢◌, ℕ, ◌⊎◌, inl, inr, List, Option, Some, None, codes, refl}
use Rattle.dt_base.specs.Existence.{IsThere}
use Rattle.dt_base.proofs.Existence.{is_there, holds_or_not, from_there, map_there}
use Rattle.json_tree.specs.Values.{Json, number}
use Rattle.json_tree.specs.Grammar.{Spells}
use Rattle.json_tree.specs.Members.{members_in}
use Rattle.json_tree.specs.Places.{IsSomewhere}
use Rattle.json_tree.specs.Machinery.Pieces.{IsOfTree}
use Rattle.json_read.specs.Faults.{IsFault}
use Rattle.json_read.specs.declared.fault.JsonFault.{JsonFault}
use Rattle.json_read.specs.declared.fault.JsonFault.TheVariants as faults
use Rattle.json_read.proofs.Pointed.{duplicate_stands}
use Rattle.local_rules.specs.Breaches.{BreaksNoLocalRule, IsFirstBreach}
use Rattle.local_rules.specs.declared.rule.LocalRule.{LocalRule}
use Rattle.dtdl_terms.specs.declared.uploaded.Uploaded.{Uploaded}
use Rattle.model_read.specs.Uploads.{AreUploaded}
use Rattle.twin_patch.specs.Codes.{code_text}
use Rattle.twin_patch.specs.Operations.{Operation}
use Rattle.twin_patch.specs.Reading.{IsPatch, IsPatchFault}
use Rattle.twin_patch.specs.declared.code.PatchCode.{PatchCode}
use Rattle.twin_patch.specs.declared.entry.PatchOf.{PatchOf}
use Rattle.twin_patch.specs.declared.patch.Patch.{Patch}
use Rattle.twin_value.specs.Breaches.{HasNoBreach}
use Rattle.twin_value.specs.declared.code.BodyCode.{BodyCode}
use Rattle.graph_asks.specs.declared.ask.Ask as ask_type
use Rattle.graph_asks.specs.declared.refusal.At.TheVariants as at
use Rattle.graph_asks.specs.declared.refusal.Refusal.{Refusal}
use Rattle.graph_asks.specs.declared.refusal.Refusal.TheVariants as refusals
use Rattle.graph_steps.specs.TwinAsks.{BodyFault}
use Rattle.query_bodies.specs.Outcomes.{AskOrRefusal, IsMadeOfBody}
use Rattle.graph_routes.specs.Bodies.{RefusesFor}
use Rattle.graph_routes.specs.Identifiers.{first_difference}
use Rattle.graph_routes.specs.Outcomes.{Named, WithBody, WithPatch, WithValue}
use Rattle.graph_routes.specs.declared.prepared.Prepared.{Prepared}
use Rattle.graph_routes.specs.declared.prepared.Prepared.TheVariants.{Ask, Own}
use Rattle.graph_routes.proofs.SomeBreaches.{pointed, fault_or_none}
use Rattle.graph_routes.proofs.SomePatches.{patch_there}

-- What the crates below say of their own definitions.
abbrev pub ValueOrFault : List ℕ → Type 0
ValueOrFault bytes = ((v : Json) × Spells bytes v) ⊎ ((fault : JsonFault) × (fault ≢ faults.OutOfMemory) × IsFault bytes fault)

abbrev pub PatchOrFault : PatchOf → Json → Type 0
PatchOrFault of v = ((os : List Operation) × IsPatch of v os) ⊎ ((index : ℕ) × (code : PatchCode) × IsPatchFault of v index code)

abbrev pub RulesOrBreach : Json → Type 0
RulesOrBreach v = BreaksNoLocalRule v ⊎ ((place : List ℕ) × (broken : LocalRule) × IsFirstBreach v place broken)

pub record Laws : Type 0 where
  pub json : (bytes : List ℕ) → IsThere (ValueOrFault bytes)
  pub patch : (of : PatchOf) (v : Json) → IsThere (PatchOrFault of v)
  pub local : (v : Json) → IsThere (RulesOrBreach v)
  pub declared : (v : Json) (nth : ℕ) → BreaksNoLocalRule v → IsThere ((us : List Uploaded) × AreUploaded v nth us)
  pub query : (v : Json) → IsThere ((outcome : AskOrRefusal) × IsMadeOfBody v outcome)

-- ---- what is made
abbrev pub Made : (Prepared → Type 0) → Type 0
Made Gives = (p : Prepared) × Gives p

-- Something is made.
abbrev pub IsSome : (Prepared → Type 0) → Type 0
IsSome Gives = IsThere (Made Gives)

pub some_is : (p : Prepared) → IsSome (λ (q : Prepared). q ≡ p)
some_is p = is_there (p, refl)

pub some_named : {A : Type 0} (Names : A → Type 0) (refusal : Refusal) (Gives : A → Prepared → Type 0) → ((x : A) → Names x → IsSome (Gives x))
    → IsSome (Named Names refusal Gives)
some_named {A} Names refusal Gives some = from_there (holds_or_not ((x : A) × Names x)) decided
  where
    decided : ((x : A) × Names x) ⊎ ((x : A) × Names x → ⊥) → IsSome (Named Names refusal Gives)
    decided (inl (x, names)) = map_there (λ (made : Made (Gives x)). (made.0, inr (x, names, made.1))) (some x names)
    decided (inr none) = is_there (Own refusal, inl ((λ x names. none (x, names)), refl))

-- ---- JSON
refused : (body : List ℕ) (fault : JsonFault) → fault ≢ faults.OutOfMemory → IsFault body fault → (refusal : Refusal) × RefusesFor body fault refusal
refused body (faults.Byte n) other is = (refusals.JsonFault (at.Number n) (codes "Byte"), refl)
refused body (faults.Ends n) other is = (refusals.JsonFault (at.Number n) (codes "Ends"), refl)
refused body (faults.Duplicate place) other (raw, is, twice, first) =
    let p = pointed raw place.steps (duplicate_stands raw place.steps twice) in
    (refusals.JsonFault (at.Pointer p.0) (codes "Duplicate"), (raw, p.0, is, p.1, refl))
refused body (faults.Range place) other (raw, is, far, new, first) =
    let p = pointed raw place.steps (number far.0, far.2) in
    (refusals.JsonFault (at.Pointer p.0) (codes "Range"), (raw, p.0, is, p.1, refl))
refused body faults.OutOfMemory other is = absurd (other refl)

pub some_with_body : Laws → (body : List ℕ) (Gives : Json → Prepared → Type 0) → ((v : Json) → Spells body v → IsSome (Gives v)) → IsSome (WithBody body Gives)
some_with_body laws body Gives some = from_there (laws.json body) decided
  where
    decided : ValueOrFault body → IsSome (WithBody body Gives)
    decided (inl (v, spelled)) = map_there (λ (made : Made (Gives v)). (made.0, inr (v, spelled, made.1))) (some v spelled)
    decided (inr (fault, other, is)) = let r = refused body fault other is in is_there (Own r.0, inl (r.0, (fault, is, r.1), refl))

-- ---- patches
pub some_with_patch : Laws → (of : PatchOf) (ask : Patch → ask_type.Ask) (v : Json) → IsOfTree v → IsSome (WithPatch of ask v)
some_with_patch laws of ask v tree = map_there decided (laws.patch of v)
  where
    decided : PatchOrFault of v → Made (WithPatch of ask v)
    decided (inl (os, is)) = let p = patch_there of v os tree is in (Ask (ask p.0), inr (p.0, p.1, refl))
    decided (inr (index, code, is)) =
        let refusal = refusals.PatchFault (code_text code) index in
        (Own refusal, inl (refusal, (index, code, is, refl), refl))

-- ---- values
module _ (Broken : List ℕ → BodyCode → Type 0) (v : Json) (ids : List ℕ → Option (List ℕ)) (Gives : Prepared → Type 0) where
  by_difference : HasNoBreach Broken → (HasNoBreach Broken → IsSome Gives) → (d : Option (List ℕ × List ℕ)) → first_difference ids (members_in v) ≡ d
      → IsSome (WithValue Broken ids v Gives)
  by_difference none some None e = map_there (λ (made : Made Gives). (made.0, inr (inr (none, e, made.1)))) (some none)
  by_difference none some (Some (given, path)) e = is_there (Own (refusals.IdDiffers given path), inr (inl (none, (given, path, e, refl))))

  pub some_with_value : ((place : List ℕ) (broken : BodyCode) → Broken place broken → IsSomewhere v place) → (HasNoBreach Broken → IsSome Gives)
      → IsSome (WithValue Broken ids v Gives)
  some_with_value within some = from_there (fault_or_none Broken v within) decided
    where
      decided : HasNoBreach Broken ⊎ ((refusal : Refusal) × BodyFault Broken v refusal) → IsSome (WithValue Broken ids v Gives)
      decided (inl none) = by_difference none some (first_difference ids (members_in v)) refl
      decided (inr (refusal, is)) = is_there (Own refusal, inl (refusal, is, refl))
