use Rattle.model_read.proofs.Readings.{type_entries}
use Rattle.model_read.proofs.semantics.semantic_of.Goals as goal

pub semantic_among-requires : goal.semantic_among-requires
semantic_among-requires c = type_entries c.args.position c.args.tree.now c.in-List.entries c.as_slice.result.now c.in-List.is c.as_slice.ensures c.requires
