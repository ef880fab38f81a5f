use Rattle.std.proofs.Common.{sym, subst}
use Rattle.dtdl_cmd.specs.Words.{IsDocumentName}
use Rattle.dtdl_cmd.proofs.Names.{name_at, not_true}
use Rattle.dtdl_cmd.proofs.command.are_names.Goals as goal

pub returns-then-not-is_name : goal.returns-then-not-is_name
returns-then-not-is_name c = (
  (λ e. absurd (not_true e)),
  λ names. c.if-not-is_name.ensures.1 (subst IsDocumentName (sym c.as_str.ensures.value) (name_at c.args.words.now c.words.word-index c.word-item.result c.words-test.true c.word-item.is names.0)),
)
