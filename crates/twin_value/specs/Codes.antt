-- The codes of bodies: how each is printed, and their order at one place.
use Rattle.std.specs.Prelude.{ℕ, List, codes}
use Rattle.twin_value.specs.declared.code.BodyCode.{BodyCode}
use Rattle.twin_value.specs.declared.code.BodyCode.TheVariants as code

abbrev pub code_name : BodyCode → List ℕ
code_name code.WrongKind = codes "WrongKind"
code_name code.MissingKey = codes "MissingKey"
code_name code.BadId = codes "BadId"
code_name code.UnknownMember = codes "UnknownMember"
code_name code.BadValue = codes "BadValue"
code_name code.UnknownRelationship = codes "UnknownRelationship"

abbrev pub code_number : BodyCode → ℕ
code_number code.WrongKind = 1
code_number code.MissingKey = 2
code_number code.BadId = 3
code_number code.UnknownMember = 4
code_number code.BadValue = 5
code_number code.UnknownRelationship = 6
