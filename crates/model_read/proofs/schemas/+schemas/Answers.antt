use Rattle.std.proofs.Common.{List, Some, refl, sym, ap, ◌∙◌, subst, arith}
use Rattle.std.specs.Prelude.{codes}
use Rattle.json_tree.specs.Values.{Json, object}
use Rattle.json_tree.specs.View.{view, elements_view, members_view}
use Rattle.json_tree.specs.declared.tree.Tree.{Tree}
use Rattle.dtdl_terms.specs.Terms.{SchemaTerm}
use Rattle.dtdl_terms.specs.TermViews.{schema_term, payloads_term}
use Rattle.dtdl_terms.proofs.TermViews.{term-Object}
use Rattle.dtdl_terms.specs.declared.schema.Payload.{Payload}
use Rattle.dtdl_terms.specs.declared.schema.Schema.{Schema}
use Rattle.local_faults.proofs.Sizes.{size, part_smaller, item_smaller}
use Rattle.local_rules.specs.Declarations.{IsSchema, ArePayloads}
use Rattle.model_read.proofs.Grown.{step, payloads_more}
use Rattle.model_read.proofs.Seen.{of_members, seen_members, seen_text}
use Rattle.model_read.specs.Machinery.Shapes.{HasMember, IsValidPayload, IsValidSchema}
use Rattle.model_read.proofs.Readings.{each, entries}
use Rattle.model_read.proofs.Shaped.{no_schema, payload_object, payload_shape, schema_shape, schema_text}
use Rattle.model_read.proofs.schemas.+schemas.Goals as goal

pub object_in-payloads_of-requires : goal.object_in-payloads_of-requires
object_in-payloads_of-requires t c =
    let less = part_smaller (Some (view c.wanted-fields.result.now)) (codes "fields") (object (members_view c.args.members.now)) (sym c.wanted-fields.ensures) in
    let same = ap size c.entries_of.ensures in
    let listed = c.requires.shaped.fields.1 (view c.wanted-fields.result.now) c.wanted-fields.ensures in
    (omega (arith, c.decreases, less, same), entries IsValidPayload (view c.wanted-fields.result.now) (elements_view c.entries_of.result.now) c.entries_of.ensures listed)

pub object_in-returns : goal.object_in-returns
object_in-returns t c =
    subst (λ (s : SchemaTerm). IsSchema s (object (members_view c.args.members.now))) (sym (term-Object c.in_ok-common.common c.in-Ok.fields)) (
      members_view c.args.members.now,
      elements_view c.entries_of.result.now,
      (refl, c.requires.typed),
      c.in_ok-common.ensures,
      c.wanted-fields.ensures ∙ ap Some c.entries_of.ensures,
      c.in-Ok.ensures,
    )

pub payload_at-payload_of-requires : goal.payload_at-payload_of-requires
payload_at-payload_of-requires t c =
    let less = part_smaller (Some (view c.wanted-value.result.now)) c.args.key.now (object (members_view c.args.members.now)) (sym c.wanted-value.ensures) in
    let asked : HasMember IsValidPayload c.args.key.now (members_view c.args.members.now) = c.requires.1.1 in
    (omega (arith, less), asked.1 (view c.wanted-value.result.now) c.wanted-value.ensures)

pub payload_of-schema_at-requires : goal.payload_of-schema_at-requires
payload_of-schema_at-requires t c =
    let same = ap size c.members_of-members.ensures in
    (omega (arith, c.decreases, same), (payload_shape (members_view c.members_of-members.result.now) (subst IsValidPayload c.members_of-members.ensures c.requires)).schema)

pub schema_at-schema_of-requires : goal.schema_at-schema_of-requires
schema_at-schema_of-requires t c =
    let less = part_smaller (Some (view c.wanted-value.result.now)) c.args.key.now (object (members_view c.args.members.now)) (sym c.wanted-value.ensures) in
    let asked : HasMember IsValidSchema c.args.key.now (members_view c.args.members.now) = c.requires.1.1 in
    (omega (arith, less), asked.1 (view c.wanted-value.result.now) c.wanted-value.ensures)

pub payloads_of-payload_of-requires : goal.payloads_of-payload_of-requires
payloads_of-payload_of-requires t c =
    let within = item_smaller c.args.trees.now c.loop-tree.tree-index c.tree-item.result c.loop-tree-test.true c.tree-item.is in (
      omega (arith, c.decreases, within),
      each IsValidPayload c.args.trees.now c.loop-tree.tree-index c.tree-item.result c.requires c.loop-tree-test.true c.tree-item.is,
    )

pub payloads_of-loop-tree-preserved : goal.payloads_of-loop-tree-preserved
payloads_of-loop-tree-preserved t c = rw c.in_ok-push.ensures.items
    (step (λ (ys : List Tree) (xs : List Payload). ArePayloads (payloads_term xs) (elements_view ys)) payloads_more c.args.trees.now c.loop-tree.tree-index
    c.tree-item.result c.loop-tree.payloads.items c.in_ok-payload_of.field-0 c.loop-tree-test.true c.tree-item.is c.loop-tree.invariant (c.in_ok-payload_of.ensures, tt))

pub schema_of-returns-in-Members : goal.schema_of-returns-in-Members
schema_of-returns-in-Members t c = of_members (λ (v : Json) (s : Schema). IsSchema (schema_term s) v) c.schema_in.result c.args.tree.now c.in-Members.members
    c.as_slice.result.now c.in-Members.is c.as_slice.ensures c.schema_in.ensures

pub payload_of-members_of-members-requires : goal.payload_of-members_of-members-requires
payload_of-members_of-members-requires t c = payload_object (view c.args.tree.now) c.requires

pub payload_of-name_at-requires : goal.payload_of-name_at-requires
payload_of-name_at-requires t c =
    (payload_shape (members_view c.members_of-members.result.now) (subst IsValidPayload c.members_of-members.ensures c.requires)).name

pub payload_of-common_of-requires : goal.payload_of-common_of-requires
payload_of-common_of-requires t c =
    (payload_shape (members_view c.members_of-members.result.now) (subst IsValidPayload c.members_of-members.ensures c.requires)).common

pub schema_of-schema_named-requires : goal.schema_of-schema_named-requires
schema_of-schema_named-requires t c =
    let seen = seen_text c.args.tree.now c.in-Text.name c.as_str.result.now c.in-Text.is c.as_str.ensures in
    schema_text c.as_str.result.now (subst IsValidSchema seen c.requires)

pub schema_of-schema_in-requires : goal.schema_of-schema_in-requires
schema_of-schema_in-requires t c =
    let seen = seen_members c.args.tree.now c.in-Members.members c.as_slice.result.now c.in-Members.is c.as_slice.ensures in
    let same = ap size seen in
    (omega (arith, c.decreases, same), schema_shape (members_view c.as_slice.result.now) (subst IsValidSchema seen c.requires))

pub schema_of-unreachable-requires : goal.schema_of-unreachable-requires
schema_of-unreachable-requires t c = no_schema c.args.tree.now c.in-Null.is c.requires
