use Rattle.json_tree.specs.View.{view}
use Rattle.json_tree.proofs.Printable.{print_spells_before}
use Rattle.json_tree.proofs.laws.reads_back_before_spaces.Goals as goal

pub returns : goal.returns
returns c = λ spaces blank nests keys. print_spells_before (view c.args.tree.now) spaces c.of_tree.ensures blank nests keys
