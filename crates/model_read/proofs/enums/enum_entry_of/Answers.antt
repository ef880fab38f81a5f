use Rattle.std.proofs.Common.{subst}
use Rattle.json_tree.specs.View.{view, members_view}
use Rattle.model_read.specs.Machinery.Shapes.{IsValidEnumEntry}
use Rattle.model_read.proofs.Shaped.{enum_entry_object, enum_entry_shape}
use Rattle.model_read.proofs.enums.enum_entry_of.Goals as goal

pub members_of-requires : goal.members_of-requires
members_of-requires c = enum_entry_object (view c.args.tree.now) c.requires

pub enum_entry_in-requires : goal.enum_entry_in-requires
enum_entry_in-requires c = enum_entry_shape (members_view c.members_of.result.now) (subst IsValidEnumEntry c.members_of.ensures c.requires)
