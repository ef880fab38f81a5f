use Rattle.std.proofs.Common.{◌∙◌, ℕ, List, [], ◌∷◌, ◌++◌, Option, Some, None, ap, refl, sym}
use Rattle.std.specs.Prelude.{codes}
use Rattle.json_tree.specs.Values.{Json, text, object, members_of}
use Rattle.dtdl_terms.specs.TermViews.{schema_term, payloads_term}
use Rattle.canon_text.specs.Objects.{list_in_order}
use Rattle.canon_text.specs.Canonical.{element_parts, schema_value, payload_pairs}
use Rattle.std.proofs.Common.{◌≡◌, IfOk, subst}
use Rattle.json_tree.specs.View.{view}
use Rattle.dtdl_terms.specs.Terms.{SchemaTerm, object_of}
use Rattle.dtdl_terms.specs.declared.schema.Schema.{Schema}
use Rattle.dtdl_terms.specs.declared.schema.Payload.{Payload}
use Rattle.dtdl_terms.proofs.TermViews.{term-Map, term-Object}
use Rattle.canon_text.specs.Canonical.{schema_object}
use Rattle.canon_text.proofs.Pairs.{named_payloads}
use Rattle.canon_text.proofs.schemas.+schemas.Goals as goal

pub array-returns : goal.array-returns
array-returns t c =
    let p0 : List (List ℕ × Option Json) = element_parts (Some (text (codes "Array"))) c.args.common.now in
    let e0 = c.in_ok-members.ensures in
    let e1 = c.in_ok-put.ensures p0 (Some (schema_value (schema_term c.args.part.now))) (ap Some c.in_ok-part.ensures) e0 in
    c.object.ensures ∙ ap (λ (ms : List (List ℕ × Json)). object (members_of ms)) e1

pub object_schema-returns : goal.object_schema-returns
object_schema-returns t c =
    let p0 : List (List ℕ × Option Json) = element_parts (Some (text (codes "Object"))) c.args.common.now in
    let e0 = c.in_ok-members.ensures in
    let e1 = c.in_ok-put.ensures p0 (Some (list_in_order (payload_pairs (payloads_term c.args.fields.now)))) (ap Some (c.in_ok-fields-2.ensures ∙ ap list_in_order (c.in_ok-fields.ensures ∙ sym (named_payloads c.args.fields.now)))) e0 in
    c.object.ensures ∙ ap (λ (ms : List (List ℕ × Json)). object (members_of ms)) e1

pub payload-returns : goal.payload-returns
payload-returns t c =
    let p0 : List (List ℕ × Option Json) = element_parts None c.args.item.now.common in
    let e0 = c.in_ok-members.ensures None refl in
    let e1 = rw c.as_str.ensures.same at c.in_ok-put_text.ensures p0 e0 in
    let p1 : List (List ℕ × Option Json) = p0 ++ (codes "name", Some (text c.args.item.now.name)) ∷ [] in
    let e2 = c.in_ok-put.ensures p1 (Some (schema_value (schema_term c.args.item.now.schema))) (ap Some c.in_ok-kind.ensures) e1 in
    c.object.ensures ∙ ap (λ (ms : List (List ℕ × Json)). object (members_of ms)) e2

pub schema-returns-in-Object : goal.schema-returns-in-Object
schema-returns-in-Object t c =
    let same = ap (λ (fs : List Payload). object_of c.get-in-Object.result.now (payloads_term fs)) c.as_slice-in-Object.ensures
    ∙ ap (λ common. object_of common (payloads_term c.in-Object.fields)) c.get-in-Object.ensures
    ∙ sym (ap schema_term c.in-Object.is ∙ term-Object c.in-Object.common c.in-Object.fields) in
    subst (λ (u : SchemaTerm). IfOk c.object_schema.result (λ tree. view tree ≡ schema_value u)) same c.object_schema.ensures

pub schema-returns-in_ok-value-in-Map : goal.schema-returns-in_ok-value-in-Map
schema-returns-in_ok-value-in-Map t c =
    let key = c.in_ok-key-in-Map.ensures in
    let value = c.in_ok-value-in-Map.ensures in
    let common = c.get-in-Map.ensures in
    let same = sym (ap (λ (s : Schema). schema_value (schema_term s)) c.in-Map.is ∙ ap schema_value (term-Map c.in-Map.common c.in-Map.key c.in-Map.value)) in
    subst (λ (v : Json). IfOk c.map_schema.result (λ tree. view tree ≡ v)) ((λ i. schema_object (codes "Map") (common i) ((codes "mapKey", Some (key i)) ∷ (codes "mapValue", Some (value i)) ∷ [])) ∙ same) c.map_schema.ensures
