use Rattle.documents.proofs.Judged.{few_trees}
use Rattle.documents.proofs.judgement.uploads_by_values.Goals as goal

pub uploads_of-requires : goal.uploads_of-requires
uploads_of-requires c =
    let few = few_trees c.args.documents.now c.in_ok-trees.trees c.in_ok-trees.ensures c.requires.few in
    record { few = rw c.as_slice.ensures few }
