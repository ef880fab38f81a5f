use Rattle.json_tree.specs.View.{view}
use Rattle.dt_base.specs.names.Grammar.{NameText}
use Rattle.model_read.proofs.Readings.{word_of}
use Rattle.model_read.proofs.texts.name_of.Goals as goal

pub bytes_of-bytes-requires : goal.bytes_of-bytes-requires
bytes_of-bytes-requires c = word_of NameText (view c.args.tree.now) c.requires
