use Rattle.std.proofs.Common.{◌∙◌, ap, map}
use Rattle.std.specs.Map.{keys_of}
use Rattle.json_tree.specs.Values.{array, elements_of}
use Rattle.json_tree.specs.View.{view}
use Rattle.json_tree.proofs.Views.{view-List}
use Rattle.graph_machine.proofs.Uploads.{marks_of_uploads}
use Rattle.graph_machine.proofs.put_models.created.Goals as goal

pub returns : goal.returns
returns c = view-List c.from_vec.result ∙ ap (λ vs. array (elements_of vs)) (ap (map view) c.from_vec.ensures ∙ c.in_ok-trees.ensures ∙ marks_of_uploads c.args.new.now (keys_of c.in_ok-ids.ids.entries) c.in_ok-ids.ensures)
