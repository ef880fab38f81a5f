-- When a state is well typed.
use Rattle.std.specs.Prelude.{◌≡◌, ℕ, ◌≤◌, List, map, length, Option, Some, None, IsSome, IsTrue}
use Rattle.std.specs.List.{AllByRecursion}
use Rattle.std.specs.List.Sorted.{IsStrictlySortedBy}
use Rattle.std.specs.Ordering.{nat_cmp}
use Rattle.std.specs.Cmp.Lexicographic.{slice_cmp}
use Rattle.dt_base.specs.names.Grammar.{Identifier}
use Rattle.json_decimal.specs.Number.{Number}
use Rattle.json_tree.specs.Values.{Members, no_members, member}
use Rattle.json_tree.specs.Members.{members_in}
use Rattle.dtdl_terms.specs.Terms.{KindTerm, relationship}
use Rattle.dtdl_terms.specs.TermViews.{kind_term}
use Rattle.dtdl_terms.specs.declared.interface.Interface.{Interface}
use Rattle.dtdl_terms.specs.declared.resolved.ResolvedContent.{ResolvedContent}
use Rattle.rel_graph.specs.Edges.{EdgesInOrder, named}
use Rattle.twin_value.specs.Breaches.{HasNoBreach, IsTwinBreach, IsLinkBreach, link_called, twin_role_of}
use Rattle.twin_value.specs.Roles.{body_member_role}
use Rattle.twin_value.specs.Twins.{is_value_role, is_part_role}
use Rattle.dtdl_terms.specs.Sets.{InOrder as InterfacesInOrder}
use Rattle.extend_resolve.specs.Breaches.{BreaksNoRule}
use Rattle.local_rules.specs.Soundness.{IsSoundInterface}
use Rattle.model_life.specs.Models.{Model, interfaces_of}
use Rattle.model_life.specs.Sums.{AreWithinLimits}
use Rattle.graph_steps.specs.Inherited.{contents, inherited, is_a}
use Rattle.graph_steps.specs.States.{State, Twin, Link, set_of, interface_of, twin_at, twin_value, twin_text, link_value, link_text, graph_bytes}

-- ---- models
-- Together they break no rule on sets, so that each parent and each interface of a component is there, and each of them breaks no
-- local rule.
pub record AreSound (ms : List Model) : Type 0 where
  pub rules : BreaksNoRule (interfaces_of ms)
  pub each : AllByRecursion IsSoundInterface (interfaces_of ms)
  pub ordered : InterfacesInOrder (interfaces_of ms)

-- ---- twins
abbrev pub AllKeys : (List ℕ → Type 0) → Members Number → Type 0
AllKeys P no_members = Unit {0}
AllKeys P (member key v ms) = P key × AllKeys P ms

-- The printed tree has no breach; each value is of a property, and each component of a component of the model.
pub record FitsModel (set : List Interface) (i : Interface) (t : Twin) : Type 0 where
  pub unbroken : HasNoBreach (IsTwinBreach (inherited set i) (twin_value t))
  pub values : AllKeys (λ key. IsTrue (is_value_role (body_member_role (twin_role_of (inherited set i)) key))) (members_in t.values)
  pub parts : AllKeys (λ key. IsTrue (is_part_role (body_member_role (twin_role_of (inherited set i)) key))) (members_in t.parts)

-- Nothing is asked of a frozen twin.
abbrev pub TwinIsTyped : State → Twin → Type 0
TwinIsTyped s t = (i : Interface) → interface_of s t.model ≡ Some i → FitsModel (set_of s) i t

-- ---- relationships
-- The target that a relationship declares, and the most that there may be of its name.
abbrev pub target_of : KindTerm → Option Identifier
target_of (relationship target properties most writable) = target
target_of other = None

abbrev pub most_of : KindTerm → Option ℕ
most_of (relationship target properties most writable) = most
most_of other = None

-- The twin is frozen, or its model is or extends the declared target; or no target is declared.
abbrev pub SuitsTarget : State → Option Identifier → Twin → Type 0
SuitsTarget s None t = Unit {0}
SuitsTarget s (Some id) t = (i : Interface) → interface_of s t.model ≡ Some i → IsTrue (is_a (set_of s) i id)

abbrev pub IsAtMost : Option ℕ → ℕ → Type 0
IsAtMost None n = Unit {0}
IsAtMost (Some most) n = n ≤ most

-- The source's model declares the relationship; its values fit, its target suits, and there are not too many of its name.
pub record FitsSource (s : State) (i : Interface) (l : Link) : Type 0 where
  pub content : ResolvedContent
  pub declared : link_called l.name (contents (set_of s) i) ≡ Some content
  pub unbroken : HasNoBreach (IsLinkBreach (inherited (set_of s) i) (link_value l))
  pub target : (t : Twin) → twin_at l.target s ≡ Some t → SuitsTarget s (target_of (kind_term content.content.kind)) t
  pub few : IsAtMost (most_of (kind_term content.content.kind)) (named l.source l.name s.links)

-- Nothing is asked of a relationship out of a frozen twin.
abbrev pub LinkIsTyped : State → Link → Type 0
LinkIsTyped s l = (t : Twin) (i : Interface) → twin_at l.source s ≡ Some t → interface_of s t.model ≡ Some i → FitsSource s i l

abbrev pub HasEnds : State → Link → Type 0
HasEnds s l = IsSome (twin_at l.source s) × IsSome (twin_at l.target s)

-- ---- limits
-- A twin's text has at most 32,768 bytes and a relationship's 4,096; there are at most 100,000 twins and 400,000
-- relationships, and their texts have together at most 268,435,456 bytes.
pub record StateIsWithinLimits (s : State) : Type 0 where
  pub models : AreWithinLimits s.models
  pub twin_bytes : AllByRecursion (λ t. length (twin_text t) ≤ 32768) s.twins
  pub link_bytes : AllByRecursion (λ l. length (link_text l) ≤ 4096) s.links
  pub twins : length s.twins ≤ 100000
  pub links : length s.links ≤ 400000
  pub graph_bytes : graph_bytes s ≤ 268435456

pub record WellTyped (s : State) : Type 0 where
  pub models : AreSound s.models
  pub twins : IsStrictlySortedBy (slice_cmp nat_cmp) (map (λ t. t.id) s.twins)
  pub links : EdgesInOrder s.links
  pub ends : AllByRecursion (HasEnds s) s.links
  pub fit : AllByRecursion (TwinIsTyped s) s.twins
  pub links_fit : AllByRecursion (LinkIsTyped s) s.links
  pub limits : StateIsWithinLimits s
