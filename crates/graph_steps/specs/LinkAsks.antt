-- The asks on relationships.
use Rattle.std.specs.Prelude.{◌≡◌, ℕ, ◌<◌, ◌≤◌, List, Bool, Option, Some, None, Result, Ok, Err, IsTrue, length, codes, not, bytes_eq, ◌&&◌}
use Rattle.std.specs.List.{filter}
use Rattle.dt_base.specs.names.Grammar.{Identifier, dtmi_text, id_eq}
use Rattle.json_tree.specs.Values.{Json, object}
use Rattle.dtdl_terms.specs.TermViews.{kind_term}
use Rattle.dtdl_terms.specs.declared.interface.Interface.{Interface}
use Rattle.dtdl_terms.specs.declared.limit.Limit.TheVariants as limits
use Rattle.dtdl_terms.specs.declared.resolved.ResolvedContent.{ResolvedContent}
use Rattle.rel_graph.specs.Edges.{edge_at, with_edge, without_edge}
use Rattle.twin_patch.specs.Objects.{sorted_value}
use Rattle.twin_patch.specs.Operations.{Operation}
use Rattle.twin_patch.specs.Patched.{patched_from}
use Rattle.twin_value.specs.Breaches.{IsLinkBreach, link_called, link_role_of}
use Rattle.twin_value.specs.Twins.{property_members}
use Rattle.graph_asks.specs.Answers.{Answer, body}
use Rattle.graph_asks.specs.declared.refusal.Refusal.{Refusal}
use Rattle.graph_asks.specs.declared.refusal.Refusal.TheVariants as refusals
use Rattle.graph_steps.specs.Inherited.{contents, inherited, is_a}
use Rattle.graph_steps.specs.Refusals.{or_refuse, refuse_when}
use Rattle.graph_steps.specs.States.{State, Twin, Link, set_of, interface_of, twin_at, link_value, link_text, graph_bytes, with_links}
use Rattle.graph_steps.specs.Typed.{target_of, most_of}
use Rattle.graph_steps.specs.TwinAsks.{TwinNotFound, Frozen, BodyFault}

abbrev pub link_at : List ℕ → List ℕ → State → Option Link
link_at source id s = edge_at source id s.links

abbrev pub RelationshipNotFound : State → List ℕ → List ℕ → Refusal → Type 0
RelationshipNotFound s source id = refuse_when (link_at source id s ≡ None) (refusals.RelationshipNotFound id)

-- ---- what a relationship leads to
-- The model of a target twin neither is nor extends the declared one; of a frozen twin, it is not the declared one.
abbrev pub misses : State → Identifier → Twin → Option Interface → Bool
misses s declared t None = not (id_eq t.model declared)
misses s declared t (Some i) = not (is_a (set_of s) i declared)

abbrev pub WrongTarget : State → Option ResolvedContent → List ℕ → Refusal → Type 0
WrongTarget s None target r = ⊥
WrongTarget s (Some c) target r = (declared : Identifier) × (t : Twin) × (target_of (kind_term c.content.kind) ≡ Some declared)
    × (twin_at target s ≡ Some t) × IsTrue (misses s declared t (interface_of s t.model)) × (r ≡ refusals.WrongTarget (dtmi_text t.model))

-- The relationships of this source and name, but for the one with this id.
abbrev pub others_named : State → List ℕ → List ℕ → List ℕ → List Link
others_named s source id name = filter (λ l. bytes_eq l.source source && (bytes_eq l.name name && not (bytes_eq l.id id))) s.links

abbrev pub Multiplicity : State → Option ResolvedContent → List ℕ → List ℕ → List ℕ → Refusal → Type 0
Multiplicity s None source id name r = ⊥
Multiplicity s (Some c) source id name r = (most : ℕ) × (most_of (kind_term c.content.kind) ≡ Some most)
    × (most ≤ length (others_named s source id name)) × (r ≡ refusals.Multiplicity most)

abbrev pub LinkFull : State → Link → Refusal → Type 0
LinkFull new l = or_refuse (refuse_when (4096 < length (link_text l)) (refusals.Full limits.RelationshipBytes))
    (or_refuse (refuse_when (400000 < length new.links) (refusals.Full limits.Relationships))
    (refuse_when (268435456 < graph_bytes new) (refusals.Full limits.GraphBytes)))

-- ---- a relationship comes, or takes the place of one with its source and id
-- The relationship for which a body out of a twin of the interface stands.
abbrev pub link_for : State → Interface → List ℕ → List ℕ → List ℕ → List ℕ → Json → Link
link_for s i source id name target v = record {
  source = source;
  id = id;
  name = name;
  target = target;
  payload = sorted_value (object (property_members (link_role_of (inherited (set_of s) i) v) v));
}

abbrev pub with_link : Link → State → State
with_link l s = with_links (with_edge l s.links) s

abbrev pub RefusesLink : State → Interface → List ℕ → List ℕ → List ℕ → List ℕ → Json → Refusal → Type 0
RefusesLink s i source id name target v = or_refuse (BodyFault (IsLinkBreach (inherited (set_of s) i) v) v)
    (or_refuse (TwinNotFound s target)
    (or_refuse (WrongTarget s (link_called name (contents (set_of s) i)) target)
    (or_refuse (Multiplicity s (link_called name (contents (set_of s) i)) source id name)
    (LinkFull (with_link (link_for s i source id name target v) s) (link_for s i source id name target v)))))

-- the interface of the source's model, where it is there
abbrev pub interface_from : State → List ℕ → Option Interface
interface_from s source = of (twin_at source s)
  where
    of : Option Twin → Option Interface
    of None = None
    of (Some t) = interface_of s t.model

abbrev pub RefusesPutRel : State → List ℕ → List ℕ → List ℕ → List ℕ → Json → Refusal → Type 0
RefusesPutRel s source id name target v = or_refuse (TwinNotFound s source) (or_refuse (Frozen s source)
    (λ r. (i : Interface) × (interface_from s source ≡ Some i) × RefusesLink s i source id name target v r))

abbrev pub after_put_rel : State → List ℕ → List ℕ → List ℕ → List ℕ → Json → State
after_put_rel s source id name target v = after (interface_from s source)
  where
    after : Option Interface → State
    after None = s
    after (Some i) = with_link (link_for s i source id name target v) s

-- the relationship of a source and an id, as it is printed
abbrev pub GivesLink : State → List ℕ → List ℕ → Answer → Type 0
GivesLink s source id answer = (l : Link) × (link_at source id s ≡ Some l) × (answer ≡ body (link_value l))

abbrev pub LinkNotFound : State → List ℕ → List ℕ → Refusal → Type 0
LinkNotFound s source id = or_refuse (TwinNotFound s source) (RelationshipNotFound s source id)

-- ---- a relationship is patched
-- Its source, id, name and target stay.
abbrev pub with_payload : State → Interface → Json → Link → Link
with_payload s i v l = link_for s i l.source l.id l.name l.target v

abbrev pub RefusesNewLink : State → Interface → Link → Result Json ℕ → Refusal → Type 0
RefusesNewLink s i l (Err index) r = r ≡ refusals.PatchFault (codes "NoTarget") index
RefusesNewLink s i l (Ok v) r = or_refuse (BodyFault (IsLinkBreach (inherited (set_of s) i) v) v)
    (LinkFull (with_link (with_payload s i v l) s) (with_payload s i v l)) r

pub record RefusesLinkOf (s : State) (source id : List ℕ) (os : List Operation) (r : Refusal) : Type 0 where
  pub interface : Interface
  pub link : Link
  pub live : interface_from s source ≡ Some interface
  pub at : link_at source id s ≡ Some link
  pub refuses : RefusesNewLink s interface link (patched_from 0 os (link_value link)) r

abbrev pub RefusesPatchRel : State → List ℕ → List ℕ → List Operation → Refusal → Type 0
RefusesPatchRel s source id os = or_refuse (LinkNotFound s source id) (or_refuse (Frozen s source) (RefusesLinkOf s source id os))

abbrev pub after_patch_rel : State → List ℕ → List ℕ → List Operation → State
after_patch_rel s source id os = after (interface_from s source) (link_at source id s)
  where
    patch : Interface → Link → Result Json ℕ → State
    patch i l (Err index) = s
    patch i l (Ok v) = with_link (with_payload s i v l) s

    after : Option Interface → Option Link → State
    after None l = s
    after (Some i) None = s
    after (Some i) (Some l) = patch i l (patched_from 0 os (link_value l))

abbrev pub after_drop_rel : State → List ℕ → List ℕ → State
after_drop_rel s source id = with_links (without_edge source id s.links) s
