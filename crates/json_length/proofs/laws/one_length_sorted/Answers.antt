use Rattle.json_length.proofs.Lengths.{sorted_length}
use Rattle.json_length.proofs.laws.one_length_sorted.Goals as goal

pub returns : goal.returns
returns c = sorted_length
