use Rattle.json_tree.specs.View.{members_view}
use Rattle.model_read.proofs.Shaped.{interface_shape}
use Rattle.model_read.proofs.Whole.{one_interface, each_interface, no_document}
use Rattle.model_read.proofs.read.uploads_in.Goals as goal

pub one_upload-requires-clause-shaped : goal.one_upload-requires-clause-shaped
one_upload-requires-clause-shaped c = interface_shape (members_view c.as_slice.result.now)
    (one_interface c.args.tree.now c.in-Members.members c.as_slice.result.now c.in-Members.is c.as_slice.ensures c.requires)

pub uploads_of-requires-clause-valid : goal.uploads_of-requires-clause-valid
uploads_of-requires-clause-valid c =
    each_interface c.args.tree.now c.in-List.entries c.as_slice-in-List.result.now c.in-List.is c.as_slice-in-List.ensures c.requires

pub unreachable-requires : goal.unreachable-requires
unreachable-requires c = no_document c.args.tree.now c.in-Null.is c.requires
