-- Models as lists name them: by identifier and mark.
use Rattle.std.specs.Prelude.{ℕ, List, Bool, false, Option, codes}
use Rattle.std.specs.Option.{option_map, unwrap_or}
use Rattle.dt_base.specs.names.Grammar.{Identifier, dtmi_text}
use Rattle.json_tree.specs.Values.{Json, text, truth, object, no_members, member}
use Rattle.dtdl_terms.specs.declared.interface.Interface.{Interface}
use Rattle.model_life.specs.Models.{Model, model_at}

abbrev pub mark_json : List ℕ → Bool → Json
mark_json id on = object (member (codes "decommissioned") (truth on) (member (codes "id") (text id) no_members))

abbrev pub unmarked : Identifier → Json
unmarked id = mark_json (dtmi_text id) false

-- The mark of the model with an identifier, and none where there is no such model.
abbrev pub mark_of : Option Model → Bool
mark_of m = unwrap_or (option_map (λ (n : Model). n.decommissioned) m) false

abbrev pub is_model_marked : List Model → Identifier → Bool
is_model_marked ms id = mark_of (model_at id ms)

-- An entry of the set, with the mark of its model.
abbrev pub entry_json : List Model → Identifier × Interface → Json
entry_json ms e = mark_json (dtmi_text e.0) (is_model_marked ms e.0)

abbrev pub id_text_of : Model → List ℕ
id_text_of m = dtmi_text m.interface.id
