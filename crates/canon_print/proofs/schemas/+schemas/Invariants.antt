use Rattle.std.proofs.Common.{◌≡◌, ◌++◌, ◌+◌, ◌*◌, max, map, drop, string_bytes}
use denote.Param.Weighed.{most}
use Rattle.json_tree.specs.Values.{elements_of}
use Rattle.json_tree.specs.Printing.{printed_elements}
use Rattle.dtdl_terms.specs.TermViews.{payload_term}
use Rattle.dtdl_terms.proofs.schema.Payload.TheLaws.{the_size}
use Rattle.canon_text.specs.Canonical.{payload_value}
use Rattle.canon_print.specs.Machinery.Bodies.{elements_left}
use Rattle.canon_print.specs.Machinery.Lent.{values_now}
use Rattle.canon_print.proofs.schemas.+schemas.Given as goal

abbrev pub decreases-push_schema : goal.decreases-push_schema
decreases-push_schema l = 5 * goal.size-push_schema l

abbrev pub decreases-push_array : goal.decreases-push_array
decreases-push_array l = 5 * goal.size-push_array l + 1

abbrev pub decreases-push_payload : goal.decreases-push_payload
decreases-push_payload l = 5 * goal.size-push_payload l + 1

abbrev pub decreases-push_map : goal.decreases-push_map
decreases-push_map l = 5 * max (the_size l.key.now) (the_size l.value.now) + 2

abbrev pub decreases-push_lent_fields : goal.decreases-push_lent_fields
decreases-push_lent_fields l = 5 * most (λ f. the_size f) (values_now l.fields.now) + 2

abbrev pub decreases-push_fields : goal.decreases-push_fields
decreases-push_fields l = 5 * goal.size-push_fields l + 3

abbrev pub decreases-push_object : goal.decreases-push_object
decreases-push_object l = 5 * goal.size-push_object l + 4

-- the text so far and that of the fields that are left are the whole
abbrev pub invariant-push_lent_fields-loop-position : goal.invariant-push_lent_fields-loop-position
invariant-push_lent_fields-loop-position l = string_bytes l.out ++ elements_left l.position (elements_of (map (λ f. payload_value (payload_term f.now)) (drop l.position l.fields)))
    ≡ string_bytes l.fn.out ++ printed_elements (elements_of (map (λ f. payload_value (payload_term f.now)) l.fields))
