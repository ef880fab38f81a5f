-- The operations of JSON Patch that are used here (RFC 6902, section 4), with JSON values and paths of unescaped tokens.
use Rattle.std.specs.Prelude.{ℕ, List, map, All}
use Rattle.json_tree.specs.Values.{Json, HasDistinctKeys}
use Rattle.json_tree.specs.View.{view}
use Rattle.twin_patch.specs.declared.patch.Op.{Op}
use Rattle.twin_patch.specs.declared.patch.OpKind.{OpKind}
use Rattle.twin_patch.specs.declared.patch.OpKind.TheVariants as kind

-- What is done to the member at which a path ends (sections 4.1 to 4.3).
pub data Change : Type 0 where
  add : Json → Change
  replace : Json → Change
  remove : Change

pub record Operation : Type 0 where
  pub change : Change
  pub path : List (List ℕ)

-- The operations that an `Op` and a list of them stand for.
abbrev pub change_of : OpKind → Change
change_of (kind.Add tree) = add (view tree)
change_of (kind.Replace tree) = replace (view tree)
change_of kind.Remove = remove

abbrev pub operation_of : Op → Operation
operation_of op = record { change = change_of op.kind; path = op.path }

abbrev pub operations_of : List Op → List Operation
operations_of ops = map operation_of ops

-- No object in the value that an operation brings has two members of one key.
abbrev pub BringsDistinctKeys : Change → Type 0
BringsDistinctKeys (add v) = HasDistinctKeys v
BringsDistinctKeys (replace v) = HasDistinctKeys v
BringsDistinctKeys remove = Unit {0}
