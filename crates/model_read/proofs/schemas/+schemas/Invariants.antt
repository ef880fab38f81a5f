use Rattle.std.proofs.Common.{◌+◌, ◌*◌, take}
use Rattle.json_tree.specs.Values.{array, object}
use Rattle.json_tree.specs.View.{view, elements_view, members_view}
use Rattle.dtdl_terms.specs.TermViews.{payloads_term}
use Rattle.local_faults.proofs.Sizes.{size}
use Rattle.local_rules.specs.Declarations.{ArePayloads}
use Rattle.model_read.proofs.schemas.+schemas.Given as goal

abbrev pub decreases-schema_of : goal.decreases-schema_of
decreases-schema_of l = 4 * size (view l.tree.now) + 3

abbrev pub decreases-schema_in : goal.decreases-schema_in
decreases-schema_in l = 4 * size (object (members_view l.members.now)) + 2

abbrev pub decreases-array_in : goal.decreases-array_in
decreases-array_in l = 4 * size (object (members_view l.members.now)) + 1

abbrev pub decreases-map_in : goal.decreases-map_in
decreases-map_in l = 4 * size (object (members_view l.members.now)) + 1

abbrev pub decreases-object_in : goal.decreases-object_in
decreases-object_in l = 4 * size (object (members_view l.members.now)) + 1

abbrev pub decreases-schema_at : goal.decreases-schema_at
decreases-schema_at l = 4 * size (object (members_view l.members.now))

abbrev pub decreases-payload_at : goal.decreases-payload_at
decreases-payload_at l = 4 * size (object (members_view l.members.now))

abbrev pub decreases-payload_of : goal.decreases-payload_of
decreases-payload_of l = 4 * size (view l.tree.now) + 3

abbrev pub decreases-payloads_of : goal.decreases-payloads_of
decreases-payloads_of l = 4 * size (array (elements_view l.trees.now))

-- the payloads so far are those of the values so far
abbrev pub invariant-payloads_of-loop-tree : goal.invariant-payloads_of-loop-tree
invariant-payloads_of-loop-tree l = ArePayloads (payloads_term l.payloads.items) (elements_view (take l.tree-index l.trees))
