use Rattle.std.proofs.Common.{◌∙◌, sym, ap, map}
use Rattle.json_tree.specs.Values.{array, elements_of}
use Rattle.json_tree.specs.View.{view}
use Rattle.json_tree.proofs.Views.{view-List}
use Rattle.graph_machine.proofs.Listed.{value_in_order}
use Rattle.graph_machine.proofs.canon.set_tree.Goals as goal

pub returns : goal.returns
returns c = view-List c.from_vec.result ∙ ap (λ vs. array (elements_of vs)) (ap (map view) c.from_vec.ensures ∙ c.in_ok-trees.ensures) ∙ sym (value_in_order c.args.set.now c.requires)
