use Rattle.std.proofs.Common.{◌<◌, [], ◌∷◌, ◌++◌, ◌∙◌, sym, ap, map, take, length, arith}
use Rattle.std.specs.Map.{keys_of}
use Rattle.std.specs.BTreeMap.{insert_entry}
use Rattle.std.proofs.lemmas.List.{take_more}
use Rattle.dt_base.specs.names.Grammar.{dtmi_text, id_cmp}
use Rattle.model_life.specs.Models.{with_new_models}
use Rattle.graph_machine.specs.Machinery.Marks.{id_text_of}
use Rattle.graph_machine.proofs.Uploads.{next_id, with_one_more}
use Rattle.graph_machine.proofs.put_models.ids_in_order.Goals as goal

pub new-preserved : goal.new-preserved
new-preserved c =
    let low : c.new.upload-index < length c.args.new.now = omega arith in
    ap (λ es. map dtmi_text (keys_of es)) c.in_ok-insert.ensures.entries
    ∙ ap (λ k. map dtmi_text (keys_of (insert_entry id_cmp c.new.ids.entries k tt))) c.in_ok-copy.ensures
    ∙ next_id c.new.ids.entries (with_new_models (take c.new.upload-index c.args.new.now) []) c.upload-item.result.interface c.new.invariant
    ∙ ap (map id_text_of) (sym (with_one_more (take c.new.upload-index c.args.new.now) c.upload-item.result []))
    ∙ ap (λ us. map id_text_of (with_new_models us []))
    (sym (take_more c.args.new.now c.new.upload-index c.upload-item.result low ∙ ap (λ u. take c.new.upload-index c.args.new.now ++ u ∷ []) (sym c.upload-item.is)))
