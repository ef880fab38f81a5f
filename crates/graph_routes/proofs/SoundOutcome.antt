-- What comes of one thing in a request is right.
use Rattle.std.proofs.Common.{◌≡◌, ℕ, List, Option, None, sym, subst, inl, inr}
use Rattle.json_tree.specs.Values.{Json}
use Rattle.json_tree.specs.Grammar.{Spells}
use Rattle.json_read.specs.declared.fault.JsonFault.{JsonFault}
use Rattle.json_read.specs.declared.fault.JsonFault.TheVariants as faults
use Rattle.json_tree.specs.Members.{members_in}
use Rattle.twin_patch.specs.declared.entry.PatchOf.{PatchOf}
use Rattle.twin_patch.specs.declared.patch.Patch.{Patch}
use Rattle.twin_value.specs.Breaches.{HasNoBreach}
use Rattle.twin_value.specs.declared.code.BodyCode.{BodyCode}
use Rattle.graph_asks.specs.declared.ask.Ask as ask_type
use Rattle.graph_asks.specs.declared.refusal.Refusal.{Refusal}
use Rattle.graph_asks.specs.declared.refusal.Refusal.TheVariants as refusals
use Rattle.graph_steps.specs.Soundness.{IsReadPatch, IsReadValue, IsSoundAsk}
use Rattle.graph_routes.specs.Bodies.{RefusesFor}
use Rattle.graph_routes.specs.Identifiers.{first_difference}
use Rattle.graph_routes.specs.Outcomes.{Named, WithBody, WithPatch, WithValue}
use Rattle.graph_routes.specs.declared.prepared.Prepared.{Prepared}
use Rattle.graph_routes.specs.declared.prepared.Prepared.TheVariants.{Ask, Own}
use Rattle.json_tree.proofs.DistinctKeys.{spelled_distinct}
use Rattle.graph_routes.proofs.Nested.{spelled_nests}

-- What is right of a refusal that comes of an ask: it is not that of a method, which the path alone decides.
abbrev pub IsDecided : Refusal → Type 0
IsDecided (refusals.BadMethod allow) = ⊥
IsDecided other = Unit {0}

-- What is right of an answer: its ask is sound, or its refusal is right.
abbrev pub IsRight : Prepared → Type 0
IsRight (Ask ask) = IsSoundAsk ask
IsRight (Own refusal) = IsDecided refusal

pub right_by : (p q : Prepared) → p ≡ q → IsRight q → IsRight p
right_by p q e h = subst IsRight (sym e) h

pub read_value : (body : List ℕ) (v : Json) → Spells body v → IsReadValue v
read_value body v spelled = record { distinct = spelled_distinct body v spelled; shallow = spelled_nests body v spelled }

pub right_named : {A : Type 0} (Names : A → Type 0) (refusal : Refusal) (Gives : A → Prepared → Type 0) (p : Prepared) → IsDecided refusal → ((x : A) → Names x → Gives x p → IsRight p)
    → Named Names refusal Gives p → IsRight p
right_named Names refusal Gives p lists right (inl (none, e)) = right_by p (Own refusal) e lists
right_named Names refusal Gives p lists right (inr (x, is, g)) = right x is g

for_fault : (body : List ℕ) (fault : JsonFault) (r : Refusal) → RefusesFor body fault r → IsDecided r
for_fault body (faults.Byte n) r e = subst IsDecided (sym e) tt
for_fault body (faults.Ends n) r e = subst IsDecided (sym e) tt
for_fault body (faults.Duplicate place) r h = subst IsDecided (sym h.4) tt
for_fault body (faults.Range place) r h = subst IsDecided (sym h.4) tt
for_fault body faults.OutOfMemory r h = absurd h

pub right_body : (body : List ℕ) (Gives : Json → Prepared → Type 0) (p : Prepared) → ((v : Json) → Spells body v → Gives v p → IsRight p) → WithBody body Gives p → IsRight p
right_body body Gives p right (inl (r, (fault, is, x), e)) = right_by p (Own r) e (for_fault body fault r x)
right_body body Gives p right (inr (v, spelled, h)) = right v spelled h

pub right_patch : (of : PatchOf) (ask : Patch → ask_type.Ask) (v : Json) (p : Prepared) → IsReadValue v → ((patch : Patch) → IsReadPatch of patch → IsSoundAsk (ask patch)) → WithPatch of ask v p → IsRight p
right_patch of ask v p read sound (inl (r, (index, code, h, x), e)) = right_by p (Own r) e (subst IsDecided (sym x) tt)
right_patch of ask v p read sound (inr (patch, is, e)) = right_by p (Ask (ask patch)) e (sound patch (v, read, is))

pub right_value : (Broken : List ℕ → BodyCode → Type 0) (ids : List ℕ → Option (List ℕ)) (v : Json) (Gives : Prepared → Type 0) (p : Prepared)
    → (HasNoBreach Broken → first_difference ids (members_in v) ≡ None → Gives p → IsRight p) → WithValue Broken ids v Gives p → IsRight p
right_value Broken ids v Gives p right (inl (r, (place, pointer, code, first, leads, x), e)) = right_by p (Own r) e (subst IsDecided (sym x) tt)
right_value Broken ids v Gives p right (inr (inl (none, (given, path, d, e)))) = right_by p (Own (refusals.IdDiffers given path)) e tt
right_value Broken ids v Gives p right (inr (inr (none, same, g))) = right none same g
