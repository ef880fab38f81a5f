-- The codes of patches, as they are printed.
use Rattle.std.specs.Prelude.{ℕ, List, codes}
use Rattle.twin_patch.specs.declared.code.PatchCode.{PatchCode}
use Rattle.twin_patch.specs.declared.code.PatchCode.TheVariants as code

abbrev pub code_text : PatchCode → List ℕ
code_text code.NotAList = codes "NotAList"
code_text code.NotAnObject = codes "NotAnObject"
code_text code.BadOp = codes "BadOp"
code_text code.BadPath = codes "BadPath"
code_text code.MissingValue = codes "MissingValue"
code_text code.Protected = codes "Protected"
code_text code.NotAMark = codes "NotAMark"
code_text code.NoTarget = codes "NoTarget"
