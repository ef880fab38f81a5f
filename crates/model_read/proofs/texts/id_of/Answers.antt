use Rattle.json_tree.specs.View.{view}
use Rattle.model_read.proofs.Readings.{id_word}
use Rattle.model_read.proofs.texts.id_of.Goals as goal

pub bytes_of-bytes-requires : goal.bytes_of-bytes-requires
bytes_of-bytes-requires c = id_word (view c.args.tree.now) c.requires
