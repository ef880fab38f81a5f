use Rattle.std.proofs.Common.{◌≡◌, ℕ, List, [], ◌∷◌, ◌++◌, Option, Some, false, string_bytes, refl, sym, ap, ◌∙◌}
use Rattle.std.proofs.Common.{◌≤◌, arith}
use Rattle.std.specs.Prelude.{codes}
use denote.Param.Weighed.{most}
use Rattle.json_tree.specs.Values.{Json, text}
use Rattle.json_tree.specs.Printing.{printed}
use Rattle.dtdl_terms.specs.declared.schema.Payload.{Payload}
use Rattle.dtdl_terms.proofs.schema.Payload.TheLaws.{the_size}
use Rattle.dtdl_terms.specs.TermViews.{schema_term, payload_term, payloads_term}
use Rattle.canon_text.specs.Canonical.{schema_value, payload_value, payload_pairs}
use Rattle.canon_text.specs.Objects.{list_in_order}
use Rattle.canon_text.specs.Machinery.Pairs.{payload_named}
use Rattle.canon_text.proofs.Pairs.{named_payloads}
use Rattle.canon_print.specs.Machinery.Lent.{values_now}
use Rattle.canon_print.proofs.Parts.{part_printed}
use Rattle.canon_print.proofs.Lists.{element_printed, list_printed}
use Rattle.canon_print.proofs.Sizes.{most_sorted, element_within}
use Rattle.canon_print.proofs.schemas.+schemas.Goals as goal

pub push_array-returns : goal.push_array-returns
push_array-returns t c =
    let part = schema_value (schema_term c.args.part.now) in
    c.in_ok-push_str.ensures.bytes ∙ sym (
    c.in_ok-first.ensures (text (codes "Array")) refl ((codes "elementSchema", Some part) ∷ [])
    ∙ part_printed _ _ _ c.in_ok-first.first _ (codes "elementSchema") part c.in_ok-push_head.ensures refl c.in_ok-push_schema.ensures [])

pub push_map-returns : goal.push_map-returns
push_map-returns t c =
    let key = payload_value (payload_term c.args.key.now) in
    let value = payload_value (payload_term c.args.value.now) in
    let last : List ℕ × Option Json = (codes "mapValue", Some value) in
    c.in_ok-push_str.ensures.bytes ∙ sym (
    c.in_ok-first.ensures (text (codes "Map")) refl ((codes "mapKey", Some key) ∷ last ∷ [])
    ∙ part_printed _ _ _ c.in_ok-first.first _ (codes "mapKey") key c.in_ok-push_head.ensures refl c.in_ok-push_payload.ensures (last ∷ [])
    ∙ part_printed _ _ _ false _ (codes "mapValue") value c.in_ok-push_head-2.ensures refl c.in_ok-push_payload-2.ensures [])

pub push_object-returns : goal.push_object-returns
push_object-returns t c =
    let fields = list_in_order (payload_pairs (payloads_term c.args.fields.now)) in
    let given = c.in_ok-push_fields.ensures ∙ ap (λ ps. string_bytes c.push_head.new.out ++ printed (list_in_order ps)) (sym (named_payloads c.args.fields.now)) in
    c.in_ok-push_str.ensures.bytes ∙ sym (
    c.in_ok-first.ensures (text (codes "Object")) refl ((codes "fields", Some fields) ∷ [])
    ∙ part_printed _ _ _ c.in_ok-first.first _ (codes "fields") fields c.in_ok-push_head.ensures refl given [])

pub push_payload-returns : goal.push_payload-returns
push_payload-returns t c =
    let kind = schema_value (schema_term c.args.item.now.schema) in
    let last : List ℕ × Option Json = (codes "schema", Some kind) in
    c.in_ok-push_str.ensures.bytes ∙ sym (
    c.in_ok-first.ensures ((codes "name", Some (text c.args.item.now.name)) ∷ last ∷ [])
    ∙ c.in_ok-push_name.ensures (codes "name") refl (last ∷ [])
    ∙ part_printed _ _ _ false _ (codes "schema") kind c.in_ok-push_head.ensures refl c.in_ok-push_schema.ensures [])

pub push_lent_fields-loop-position-preserved : goal.push_lent_fields-loop-position-preserved
push_lent_fields-loop-position-preserved t c = rw (c.in_ok-push_payload.ensures, c.in_ok-push_separator.ensures)
    (element_printed (λ f. payload_value (payload_term f)) _ _ c.args.fields.now c.loop-position.position c.index-fields-position.result c.loop-position-test.true c.index-fields-position.is c.loop-position.invariant)

pub push_fields-returns : goal.push_fields-returns
push_fields-returns t c = list_printed payload_named _ _ _ c.as_slice.result.now c.args.fields.now c.in_ok-push_str.ensures.bytes (ap values_now c.as_slice.ensures.value ∙ c.in_ok-list.ensures) c.in_ok-push_lent_fields.ensures

pub push_fields-push_lent_fields-requires : goal.push_fields-push_lent_fields-requires
push_fields-push_lent_fields-requires t c =
    let same : most (λ f. the_size f) (values_now c.as_slice.result.now) ≡ most (λ f. the_size f) c.args.fields.now =
    ap (λ (fs : List Payload). most (λ f. the_size f) fs) (ap values_now c.as_slice.ensures.value ∙ c.in_ok-list.ensures) ∙ most_sorted (λ f. the_size f) (λ (f : Payload). f.name) c.args.fields.now in
    (omega (arith, c.decreases, same), tt)

pub push_lent_fields-push_payload-requires : goal.push_lent_fields-push_payload-requires
push_lent_fields-push_payload-requires t c =
    let within : the_size c.index-fields-position.result.now ≤ most (λ f. the_size f) (values_now c.args.fields.now) =
    element_within (λ f. the_size f) c.args.fields.now c.loop-position.position c.index-fields-position.result c.loop-position-test.true c.index-fields-position.is in
    (omega (arith, c.decreases, within), tt)
