-- Of the paths of twins and components one thing is asked.
use Rattle.std.proofs.Common.{◌≡◌, ℕ, List, Some, refl, sym, ◌∙◌}
use Rattle.dt_base.specs.names.Grammar.{Identifier, dtmi_text}
use Rattle.dt_base.proofs.names.Cuts.{HasDtmiForm-unique}
use Rattle.json_tree.specs.Values.{Json}
use Rattle.twin_patch.specs.declared.entry.PatchOf.TheVariants as patches
use Rattle.twin_patch.specs.declared.patch.Patch.{Patch}
use Rattle.twin_value.specs.Breaches.{IsOuterBreach}
use Rattle.page_tokens.specs.Tokens.{NamesId}
use Rattle.graph_asks.specs.declared.ask.Ask.TheVariants as asks
use Rattle.graph_asks.specs.declared.refusal.Refusal.TheVariants as refusals
use Rattle.graph_steps.specs.Soundness.{IsModelOf}
use Rattle.graph_routes.specs.Parts.{NamesComponentPart}
use Rattle.graph_routes.specs.Identifiers.{twin_ids}
use Rattle.graph_routes.specs.Outcomes.{WithBody}
use Rattle.graph_routes.specs.TwinRequests.{AsksPart, AsksTwin, PatchesPart, PatchesTwin, PutsTwin, TakesTwin, WithComponent, WithId}
use Rattle.graph_routes.specs.declared.method.Method.{Method}
use Rattle.graph_routes.specs.declared.method.Method.TheVariants as method
use Rattle.graph_routes.specs.declared.prepared.Prepared.{Prepared}
use Rattle.graph_routes.specs.declared.prepared.Prepared.TheVariants.{Ask}
use Rattle.graph_routes.proofs.OneOutcome.{IsOne, Laws, alike, one_named, one_with_body, one_with_patch, one_with_value}
use Rattle.graph_routes.specs.declared.route.Route.TheVariants as route
use Rattle.graph_routes.proofs.OneModels.{one_not_allowed}

one_id_named : (part x y : List ℕ) → NamesId part x → NamesId part y → x ≡ y
one_id_named part x y h g = sym h.decoded ∙ g.decoded

one_component_named : (part x y : List ℕ) → NamesComponentPart part x → NamesComponentPart part y → x ≡ y
one_component_named part x y h g = sym h.decoded ∙ g.decoded

one_identifier : (i j : Identifier) → IsModelOf i → IsModelOf j → Some (dtmi_text i) ≡ Some (dtmi_text j) → i ≡ j
one_identifier i j h g e =
    let same : dtmi_text i ≡ dtmi_text j = cc in
    HasDtmiForm-unique (dtmi_text j) i j (record {
      spelled = sym same;
      some = h.0.text.form.some;
      each = h.0.text.form.each;
      positive = h.0.text.form.positive;
      small = h.0.text.form.small;
    })
    g.0.text.form

one_taken : (id : List ℕ) (v : Json) → IsOne (TakesTwin id v)
one_taken id v p q (model, body, is, named, seen, x) (other, tree, has, called, shown, y) =
    alike p q (Ask (asks.PutTwin id model body)) (Ask (asks.PutTwin id other tree)) x y
    (refl, one_identifier model other is has (sym named ∙ called), seen ∙ sym shown)

one_put : (id : List ℕ) (v : Json) → IsOne (PutsTwin id v)
one_put id v = one_with_value (IsOuterBreach v) v (twin_ids id) (TakesTwin id v) (one_taken id v)

one_patched : Laws → (id : List ℕ) (v : Json) → IsOne (PatchesTwin id v)
one_patched laws id v = one_with_patch laws patches.Twin (λ (patch : Patch). asks.PatchTwin id patch) (λ a b e. (refl, e)) v

one_part_patched : Laws → (id name : List ℕ) (v : Json) → IsOne (PatchesPart id name v)
one_part_patched laws id name v = one_with_patch laws patches.Part (λ (patch : Patch). asks.PatchPart id name patch) (λ a b e. (refl, refl, e)) v

pub one_with_id : (at : ℕ) (part : List ℕ) (Gives : List ℕ → Prepared → Type 0) → ((id : List ℕ) → IsOne (Gives id)) → IsOne (WithId at part Gives)
one_with_id at part Gives one = one_named (NamesId part) (refusals.BadId at) Gives (one_id_named part) one

one_with_component : (part : List ℕ) (Gives : List ℕ → Prepared → Type 0) → ((name : List ℕ) → IsOne (Gives name)) → IsOne (WithComponent part Gives)
one_with_component part Gives one = one_named (NamesComponentPart part) (refusals.BadId 1) Gives (one_component_named part) one

pub one_of_twin : Laws → (m : Method) (part body : List ℕ) → IsOne (AsksTwin m part body)
one_of_twin laws method.Get part body =
    one_with_id 0 part (λ id given. given ≡ Ask (asks.GetTwin id)) (λ id p q x y. alike p q (Ask (asks.GetTwin id)) (Ask (asks.GetTwin id)) x y refl)
one_of_twin laws method.Put part body = one_with_id 0 part (λ id. WithBody body (PutsTwin id)) (λ id. one_with_body laws.number body (PutsTwin id) (one_put id))
one_of_twin laws method.Patch part body = one_with_id 0 part (λ id. WithBody body (PatchesTwin id)) (λ id. one_with_body laws.number body (PatchesTwin id) (one_patched laws id))
one_of_twin laws method.Delete part body =
    one_with_id 0 part (λ id given. given ≡ Ask (asks.DropTwin id)) (λ id p q x y. alike p q (Ask (asks.DropTwin id)) (Ask (asks.DropTwin id)) x y refl)
one_of_twin laws method.Post part body = one_not_allowed route.Twin

pub one_of_part : Laws → (m : Method) (part second body : List ℕ) → IsOne (AsksPart m part second body)
one_of_part laws method.Get part second body =
    one_with_id 0 part (λ id. WithComponent second (λ name given. given ≡ Ask (asks.GetPart id name)))
    (λ id. one_with_component second (λ name given. given ≡ Ask (asks.GetPart id name)) (λ name p q x y. alike p q (Ask (asks.GetPart id name)) (Ask (asks.GetPart id name)) x y refl))
one_of_part laws method.Patch part second body =
    one_with_id 0 part (λ id. WithComponent second (λ name. WithBody body (PatchesPart id name)))
    (λ id. one_with_component second (λ name. WithBody body (PatchesPart id name)) (λ name. one_with_body laws.number body (PatchesPart id name) (one_part_patched laws id name)))
one_of_part laws method.Delete part second body = one_not_allowed route.Component
one_of_part laws method.Post part second body = one_not_allowed route.Component
one_of_part laws method.Put part second body = one_not_allowed route.Component
