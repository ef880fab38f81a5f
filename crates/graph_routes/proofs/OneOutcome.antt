-- Of one thing in a request one outcome comes.
use Rattle.std.proofs.Common.{◌≡◌, ℕ, List, Option, Some, None, refl, sym, ap, ap₂, subst, ◌∙◌, inl, inr}
use Rattle.std.specs.Prelude.{codes}
use Rattle.json_tree.specs.Values.{Json, Raw}
use Rattle.json_tree.specs.Grammar.{Spells}
use Rattle.json_tree.specs.Pointers.{IsPointerOf}
use Rattle.json_tree.proofs.OnePointer.{one_pointer}
use Rattle.json_tree.specs.declared.places.Place.{Place}
use Rattle.json_read.specs.declared.fault.JsonFault.{JsonFault}
use Rattle.json_read.specs.declared.fault.JsonFault.TheVariants as faults
use Rattle.json_read.proofs.OneValue.{OneNumber}
use Rattle.json_read.proofs.Spelled.{one_raw, one_spelled}
use Rattle.json_read.proofs.OneFault.{fault_or_value, one_fault}
use Rattle.json_tree.specs.Members.{members_in}
use Rattle.twin_patch.specs.Codes.{code_text}
use Rattle.twin_patch.specs.Operations.{Operation, operations_of}
use Rattle.twin_patch.specs.declared.code.PatchCode.{PatchCode}
use Rattle.twin_patch.specs.declared.entry.PatchOf.{PatchOf}
use Rattle.twin_patch.specs.declared.patch.Patch.{Patch}
use Rattle.twin_patch.specs.Reading.{IsPatch, IsPatchFault}
use Rattle.twin_value.specs.declared.code.BodyCode.{BodyCode}
use Rattle.graph_asks.specs.Asks.{AreOneAsk}
use Rattle.graph_asks.specs.declared.ask.Ask as ask_type
use Rattle.graph_asks.specs.declared.refusal.At.TheVariants as at
use Rattle.graph_asks.specs.declared.refusal.Refusal.{Refusal}
use Rattle.graph_asks.specs.declared.refusal.Refusal.TheVariants as refusals
use Rattle.query_bodies.proofs.OneOutcome.{fault_breaks, one_body_fault}
use Rattle.graph_routes.specs.Bodies.{RefusesFor, RefusesJson, RefusesPatch, RefusesPlace}
use Rattle.graph_routes.specs.Identifiers.{first_difference}
use Rattle.graph_routes.specs.Outcomes.{Named, WithBody, WithPatch, WithValue}
use Rattle.graph_routes.specs.Prepared.{ArePreparedAlike}
use Rattle.graph_routes.specs.declared.prepared.Prepared.{Prepared}
use Rattle.graph_routes.specs.declared.prepared.Prepared.TheVariants.{Ask, Own}

-- What the crates below say of their own definitions.
pub record Laws : Type 0 where
  pub number : OneNumber
  pub patch : (of : PatchOf) (v : Json) (os ps : List Operation) → IsPatch of v os → IsPatch of v ps → os ≡ ps
  pub fault : (of : PatchOf) (v : Json) (i j : ℕ) (c d : PatchCode) → IsPatchFault of v i c → IsPatchFault of v j d → (i ≡ j) × (c ≡ d)
  pub either : (of : PatchOf) (v : Json) (os : List Operation) (i : ℕ) (c : PatchCode) → IsPatch of v os → IsPatchFault of v i c → ⊥

-- ---- what is made
pub alike : (p q a b : Prepared) → p ≡ a → q ≡ b → ArePreparedAlike a b → ArePreparedAlike p q
alike p q a b x y h = subst (λ (z : Prepared). ArePreparedAlike z q) (sym x) (subst (ArePreparedAlike a) (sym y) h)

pub refused : (r s : Refusal) (p q : Prepared) → p ≡ Own r → q ≡ Own s → r ≡ s → ArePreparedAlike p q
refused r s p q x y e = alike p q (Own r) (Own s) x y (ap Own e)

-- Outcomes of which two are alike.
abbrev pub IsOne : (Prepared → Type 0) → Type 0
IsOne Gives = (p q : Prepared) → Gives p → Gives q → ArePreparedAlike p q

pub one_named : {A : Type 0} (Names : A → Type 0) (refusal : Refusal) (Gives : A → Prepared → Type 0) → ((x y : A) → Names x → Names y → x ≡ y) → ((x : A) → IsOne (Gives x)) → IsOne (Named Names refusal Gives)
one_named Names refusal Gives names one p q (inl (none, x)) (inl (also, y)) = refused refusal refusal p q x y refl
one_named Names refusal Gives names one p q (inl (none, x)) (inr (b, has, y)) = absurd (none b has)
one_named Names refusal Gives names one p q (inr (a, is, x)) (inl (none, y)) = absurd (none a is)
one_named {A} Names refusal Gives names one p q (inr (a, is, x)) (inr (b, has, y)) = one b p q (subst (λ (z : A). Gives z p) (names a b is has) x) y

-- ---- JSON
one_place : (body : List ℕ) (place : Place) (code : List ℕ) (r s : Refusal) → RefusesPlace body place code r → RefusesPlace body place code s → r ≡ s
one_place body place code r s (raw, pointer, is, leads, x) (other, points, spelled, goes, y) =
    let same : raw ≡ other = one_raw body raw other is spelled in
    let e : pointer ≡ points = one_pointer raw place.steps pointer points leads (subst (λ (w : Raw). IsPointerOf w place.steps points) (sym same) goes) in
    x ∙ ap (λ (p : List ℕ). refusals.JsonFault (at.Pointer p) code) e ∙ sym y

one_for : (body : List ℕ) (fault : JsonFault) (r s : Refusal) → RefusesFor body fault r → RefusesFor body fault s → r ≡ s
one_for body (faults.Byte n) r s x y = x ∙ sym y
one_for body (faults.Ends n) r s x y = x ∙ sym y
one_for body (faults.Duplicate place) r s x y = one_place body place (codes "Duplicate") r s x y
one_for body (faults.Range place) r s x y = one_place body place (codes "Range") r s x y
one_for body faults.OutOfMemory r s x y = absurd x

told : (body : List ℕ) (fault : JsonFault) (r : Refusal) → RefusesFor body fault r → fault ≡ faults.OutOfMemory → ⊥
told body fault r x e = subst (λ (f : JsonFault). RefusesFor body f r) e x

one_json : (body : List ℕ) (r s : Refusal) → RefusesJson body r → RefusesJson body s → r ≡ s
one_json body r s (fault, is, x) (other, has, y) =
    let e : fault ≡ other = one_fault body fault other is has (told body fault r x) (told body other s y) in
    one_for body other r s (subst (λ (f : JsonFault). RefusesFor body f r) e x) y

json_or_value : OneNumber → (body : List ℕ) (r : Refusal) (v : Json) → RefusesJson body r → Spells body v → ⊥
json_or_value number body r v (fault, is, x) spelled = fault_or_value number body fault v is (told body fault r x) spelled

pub one_with_body : OneNumber → (body : List ℕ) (Gives : Json → Prepared → Type 0) → ((v : Json) → IsOne (Gives v)) → IsOne (WithBody body Gives)
one_with_body number body Gives one p q (inl (r, h, x)) (inl (s, g, y)) = refused r s p q x y (one_json body r s h g)
one_with_body number body Gives one p q (inl (r, h, x)) (inr (v, g, y)) = absurd (json_or_value number body r v h g)
one_with_body number body Gives one p q (inr (v, h, x)) (inl (s, g, y)) = absurd (json_or_value number body s v g h)
one_with_body number body Gives one p q (inr (v, h, x)) (inr (w, g, y)) =
    let same : v ≡ w = one_spelled number body v w h g in
    one w p q (subst (λ (z : Json). Gives z p) same x) y

-- ---- patches
pub one_patch_fault : Laws → (of : PatchOf) (v : Json) (r s : Refusal) → RefusesPatch of v r → RefusesPatch of v s → r ≡ s
one_patch_fault laws of v r s (i, c, h, x) (j, d, g, y) =
    let same = laws.fault of v i j c d h g in
    x ∙ ap₂ (λ (n : ℕ) (code : PatchCode). refusals.PatchFault (code_text code) n) same.0 same.1 ∙ sym y

pub one_with_patch : Laws → (of : PatchOf) (ask : Patch → ask_type.Ask) → ((a b : Patch) → operations_of a.ops ≡ operations_of b.ops → AreOneAsk (ask a) (ask b)) → (v : Json) → IsOne (WithPatch of ask v)
one_with_patch laws of ask one v p q (inl (r, h, x)) (inl (s, g, y)) = refused r s p q x y (one_patch_fault laws of v r s h g)
one_with_patch laws of ask one v p q (inl (r, h, x)) (inr (b, has, y)) = absurd (laws.either of v (operations_of b.ops) h.0 h.1 has h.2)
one_with_patch laws of ask one v p q (inr (a, is, x)) (inl (s, g, y)) = absurd (laws.either of v (operations_of a.ops) g.0 g.1 is g.2)
one_with_patch laws of ask one v p q (inr (a, is, x)) (inr (b, has, y)) =
    alike p q (Ask (ask a)) (Ask (ask b)) x y (one a b (laws.patch of v (operations_of a.ops) (operations_of b.ops) is has))

-- ---- values
module _ (Broken : List ℕ → BodyCode → Type 0) (v : Json) (ids : List ℕ → Option (List ℕ)) where
  one_difference : (a b : List ℕ × List ℕ) → first_difference ids (members_in v) ≡ Some a → first_difference ids (members_in v) ≡ Some b → refusals.IdDiffers a.0 a.1 ≡ refusals.IdDiffers b.0 b.1
  one_difference a b h g =
      let both : Some a ≡ Some b = sym h ∙ g in
      let same : a ≡ b = cc in
      ap (λ (d : List ℕ × List ℕ). refusals.IdDiffers d.0 d.1) same

  differs : (a : List ℕ × List ℕ) → first_difference ids (members_in v) ≡ Some a → first_difference ids (members_in v) ≡ None → ⊥
  differs a h g = let both : Some a ≡ None = sym h ∙ g in absurd cc

  pub one_with_value : (Gives : Prepared → Type 0) → IsOne Gives → IsOne (WithValue Broken ids v Gives)
  one_with_value Gives one p q (inl (r, h, x)) (inl (s, g, y)) = refused r s p q x y (one_body_fault Broken v r s h g)
  one_with_value Gives one p q (inl (r, h, x)) (inr (inl (none, g))) = absurd (fault_breaks Broken v r h none)
  one_with_value Gives one p q (inl (r, h, x)) (inr (inr (none, g, y))) = absurd (fault_breaks Broken v r h none)
  one_with_value Gives one p q (inr (inl (none, h))) (inl (s, g, y)) = absurd (fault_breaks Broken v s g none)
  one_with_value Gives one p q (inr (inr (none, h, x))) (inl (s, g, y)) = absurd (fault_breaks Broken v s g none)
  one_with_value Gives one p q (inr (inl (none, (given, path, h, x)))) (inr (inl (also, (other, its, g, y)))) =
      refused (refusals.IdDiffers given path) (refusals.IdDiffers other its) p q x y (one_difference (given, path) (other, its) h g)
  one_with_value Gives one p q (inr (inl (none, (given, path, h, x)))) (inr (inr (also, g, y))) = absurd (differs (given, path) h g)
  one_with_value Gives one p q (inr (inr (none, h, x))) (inr (inl (also, (other, its, g, y)))) = absurd (differs (other, its) g h)
  one_with_value Gives one p q (inr (inr (none, h, x))) (inr (inr (also, g, y))) = one p q x y
