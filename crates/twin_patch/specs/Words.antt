-- The words of operations, as they are written.
use Rattle.std.specs.Prelude.{ℕ, List, codes}
use Rattle.twin_patch.specs.declared.word.Word.{Word}
use Rattle.twin_patch.specs.declared.word.Word.TheVariants as word

abbrev pub word_text : Word → List ℕ
word_text word.Add = codes "add"
word_text word.Replace = codes "replace"
word_text word.Remove = codes "remove"
