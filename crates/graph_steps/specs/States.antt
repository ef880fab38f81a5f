-- The states of a typed graph: its models with their marks, its twins, and its relationships (after the graph of Azure
-- Digital Twins; that a twin stays when its model goes is this project's own).
use Rattle.std.specs.Prelude.{ℕ, ◌+◌, ◌||◌, List, [], map, sum, length, Bool, Option, bytes_eq, codes}
use Rattle.std.specs.List.{find}
use Rattle.std.specs.Option.{is_some}
use Rattle.std.specs.Ordering.{nat_cmp}
use Rattle.std.specs.Cmp.Lexicographic.{slice_cmp}
use Rattle.std.specs.Map.{values_of, remove_entry}
use Rattle.std.specs.BTreeMap.{is_at, insert_entry}
use Rattle.dt_base.specs.names.Grammar.{Identifier, dtmi_text}
use Rattle.json_tree.specs.Values.{Json, text, object, no_members, member}
use Rattle.json_tree.specs.Printing.{printed}
use Rattle.json_tree.specs.Members.{members_in}
use Rattle.dtdl_terms.specs.Sets.{interface_at}
use Rattle.dtdl_terms.specs.declared.interface.Interface.{Interface}
use Rattle.rel_graph.specs.declared.edge.Edge.{Edge}
use Rattle.twin_patch.specs.Objects.{sorted_value}
use Rattle.twin_value.specs.Twins.{picked, joined_members, any_key, with_metadata}
use Rattle.model_life.specs.Models.{Model, interfaces_of}

-- A twin: its identifier, its model, the values of its properties, and its components by name with theirs. Both are objects
-- whose members stand in the order of their keys, at every depth.
pub record Twin : Type 0 where
  pub id : List ℕ
  pub model : Identifier
  pub values : Json
  pub parts : Json

-- A relationship: an edge that carries the values of its properties.
abbrev pub Link : Type 0
Link = Edge Json

-- Models stand in the order of their identifiers, twins in that of their ids, relationships in that of source and id.
pub record State : Type 0 where
  pub models : List Model
  pub twins : List Twin
  pub links : List Link

abbrev pub empty : State
empty = record { models = []; twins = []; links = [] }

-- ---- look-ups
-- the interfaces of the models
abbrev pub set_of : State → List Interface
set_of s = interfaces_of s.models

-- the interface of a model that is there
abbrev pub interface_of : State → Identifier → Option Interface
interface_of s id = interface_at id (set_of s)

abbrev pub twin_at : List ℕ → State → Option Twin
twin_at id s = find (λ t. bytes_eq t.id id) s.twins

-- A twin is live where its model is there, else frozen.
abbrev pub is_live : State → Twin → Bool
is_live s t = is_some (interface_of s t.model)

-- the twin is an end of the relationship
abbrev pub is_end : List ℕ → Link → Bool
is_end id l = bytes_eq l.source id || bytes_eq l.target id

-- ---- changes
abbrev pub with_models : List Model → State → State
with_models ms s = record { models = ms; twins = s.twins; links = s.links }

abbrev pub keyed_twins : List Twin → List (List ℕ × Twin)
keyed_twins ts = map (λ t. (t.id, t)) ts

-- with a twin at its place, or in the place of the one with its id
abbrev pub with_twin : Twin → State → State
with_twin t s = record { models = s.models; twins = values_of (insert_entry (slice_cmp nat_cmp) (keyed_twins s.twins) t.id t); links = s.links }

abbrev pub without_twin : List ℕ → State → State
without_twin id s =
    record { models = s.models; twins = values_of (remove_entry (is_at (slice_cmp nat_cmp id)) (keyed_twins s.twins)); links = s.links }

abbrev pub with_links : List Link → State → State
with_links ls s = record { models = s.models; twins = s.twins; links = ls }

-- ---- what is printed
-- a component, with an empty `$metadata`
abbrev pub part_value : Json → Json
part_value v = sorted_value (with_metadata v)

-- a twin and a relationship, but for the order of members
abbrev pub twin_object : Twin → Json
twin_object t = object
    (member (codes "$dtId") (text t.id)
    (member (codes "$metadata") (object (member (codes "$model") (text (dtmi_text t.model)) no_members))
    (joined_members (members_in t.values) (picked any_key with_metadata (members_in t.parts)))))

abbrev pub link_object : Link → Json
link_object l = object
    (member (codes "$relationshipId") (text l.id)
    (member (codes "$relationshipName") (text l.name)
    (member (codes "$sourceId") (text l.source)
    (member (codes "$targetId") (text l.target)
    (members_in l.payload)))))

abbrev pub twin_value : Twin → Json
twin_value t = sorted_value (twin_object t)

abbrev pub link_value : Link → Json
link_value l = sorted_value (link_object l)

-- The canonical text of a twin and of a relationship.
abbrev pub twin_text : Twin → List ℕ
twin_text t = printed (twin_value t)

abbrev pub link_text : Link → List ℕ
link_text l = printed (link_value l)

-- How many bytes the texts of all twins and relationships have together.
abbrev pub graph_bytes : State → ℕ
graph_bytes s = sum (map (λ t. length (twin_text t)) s.twins) + sum (map (λ l. length (link_text l)) s.links)
