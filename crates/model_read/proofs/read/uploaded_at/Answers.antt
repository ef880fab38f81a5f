use Rattle.std.proofs.Common.{subst}
use Rattle.json_tree.specs.View.{view, members_view}
use Rattle.model_read.specs.Machinery.Shapes.{IsValidInterface}
use Rattle.model_read.proofs.Shaped.{interface_object, interface_shape}
use Rattle.model_read.proofs.read.uploaded_at.Goals as goal

pub members_of-members-requires : goal.members_of-members-requires
members_of-members-requires c = interface_object (view c.args.entry.now) c.requires.valid

pub uploaded_in-upload-requires-clause-shaped : goal.uploaded_in-upload-requires-clause-shaped
uploaded_in-upload-requires-clause-shaped c = interface_shape (members_view c.members_of-members.result.now) (subst IsValidInterface c.members_of-members.ensures c.requires.valid)
