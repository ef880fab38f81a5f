use Rattle.std.proofs.Common.{◌≡◌, [], map, take}
use Rattle.std.specs.Map.{keys_of}
use Rattle.dt_base.specs.names.Grammar.{dtmi_text}
use Rattle.model_life.specs.Models.{with_new_models}
use Rattle.graph_machine.specs.Machinery.Marks.{id_text_of}
use Rattle.graph_machine.proofs.put_models.ids_in_order.Given as goal

abbrev pub invariant-new : goal.invariant-new
invariant-new l = map dtmi_text (keys_of l.ids.entries) ≡ map id_text_of (with_new_models (take l.upload-index l.new) [])
