-- Models: interfaces with a mark each, as the list of them in the order of the printed bytes of their identifiers.
use Rattle.std.specs.Prelude.{List, [], ◌∷◌, Bool, false, not, cond, ◌||◌, ◌&&◌, Option, map, slice_get}
use Rattle.std.specs.Option.{option_map}
use Rattle.std.specs.List.{filter, list_any}
use Rattle.std.specs.Map.{lookup, values_of}
use Rattle.std.specs.BTreeMap.{is_at, insert_entry}
use Rattle.dt_base.specs.names.Grammar.{Identifier, id_cmp, id_eq}
use Rattle.dtdl_terms.specs.Sets.{is_past}
use Rattle.dtdl_terms.specs.Terms.{KindTerm, telemetry, property, command, relationship, component}
use Rattle.dtdl_terms.specs.TermViews.{kind_term}
use Rattle.dtdl_terms.specs.declared.interface.Interface.{Interface}
use Rattle.dtdl_terms.specs.declared.uploaded.Uploaded.{Uploaded}
use Rattle.model_life.specs.sets.Changing.{is_one_of}

-- an interface, and whether it is decommissioned
pub record Model : Type 0 where
  pub interface : Interface
  pub decommissioned : Bool

abbrev pub model_of : Interface → Bool → Model
model_of i on = record { interface = i; decommissioned = on }

-- the set of their interfaces, without the marks
abbrev pub interfaces_of : List Model → List Interface
interfaces_of ms = map (λ m. m.interface) ms

-- each model under its identifier
abbrev pub by_id : List Model → List (Identifier × Model)
by_id ms = map (λ m. (m.interface.id, m)) ms

-- the model with this identifier
abbrev pub model_at : Identifier → List Model → Option Model
model_at id ms = lookup (is_at (id_cmp id)) (by_id ms)

-- the first model past an identifier, or the first of all
abbrev pub next_model : Option Identifier → List Model → Option Model
next_model id ms = slice_get (filter (λ m. is_past id m.interface) ms) 0

-- with this mark where the model has this identifier
abbrev pub mark_one : Identifier → Bool → Model → Model
mark_one id on m = cond (id_eq id m.interface.id) (model_of m.interface on) m

abbrev pub with_mark : Identifier → Bool → List Model → List Model
with_mark id on ms = map (mark_one id on) ms

-- with a model at its place that is not decommissioned
abbrev pub with_model : Interface → List Model → List Model
with_model i ms = values_of (insert_entry id_cmp (by_id ms) i.id (model_of i false))

abbrev pub with_new_models : List Uploaded → List Model → List Model
with_new_models [] ms = ms
with_new_models (u ∷ us) ms = with_new_models us (with_model u.interface ms)

-- without the models of these identifiers
abbrev pub without_models : List Identifier → List Model → List Model
without_models ids ms = filter (λ m. not (is_one_of ids m.interface.id)) ms

-- ---- which models use one
-- the content is a component of this interface
abbrev pub is_component : Identifier → KindTerm → Bool
is_component id (telemetry schema semantic unit) = false
is_component id (property schema semantic unit writable) = false
is_component id (command request response) = false
is_component id (relationship target properties most writable) = false
is_component id (component of) = id_eq id of

-- the interface extends this one directly, or has a component of it
abbrev pub uses : Identifier → Interface → Bool
uses id i = list_any (id_eq id) i.parents || list_any (λ c. is_component id (kind_term c.kind)) i.contents

-- the least other model that does
abbrev pub is_user : Identifier → Model → Bool
is_user id m = uses id m.interface && not (id_eq id m.interface.id)

abbrev pub first_user : Identifier → List Model → Option Identifier
first_user id ms = option_map (λ m. m.interface.id) (slice_get (filter (is_user id) ms) 0)
