-- What an interface has with all that it inherits and with what its components consist of (DTDL v2, "Interface", the
-- property `extends`), as a function of the set. In a set that breaks no rule, extension is at most ten steps deep.
-- Contents that come along two ways stand twice here; look-ups by name see the first, and both are one.
use Rattle.std.specs.Prelude.{ℕ, zero, suc, List, [], ◌∷◌, ◌++◌, map, Bool, Option, Some, None}
use Rattle.std.specs.List.{list_any, flat_map}
use Rattle.dt_base.specs.names.Grammar.{Identifier, id_eq}
use Rattle.dtdl_terms.specs.Sets.{interface_at}
use Rattle.dtdl_terms.specs.Terms.{KindTerm, component}
use Rattle.dtdl_terms.specs.TermViews.{kind_term}
use Rattle.dtdl_terms.specs.declared.content.Content.{Content}
use Rattle.dtdl_terms.specs.declared.interface.Interface.{Interface}
use Rattle.dtdl_terms.specs.declared.resolved.NamedIn.{NamedIn}
use Rattle.dtdl_terms.specs.declared.resolved.Resolved.{Resolved}
use Rattle.dtdl_terms.specs.declared.resolved.ResolvedContent.{ResolvedContent}

abbrev pub those : {A : Type 0} → Option A → (A → List Interface) → List Interface
those None f = []
those (Some a) f = f a

-- The interface and all that it reaches by at most n steps of extension.
abbrev pub reached : ℕ → List Interface → Interface → List Interface
reached zero set i = i ∷ []
reached (suc n) set i = i ∷ flat_map (λ p. those (interface_at p set) (reached n set)) i.parents

abbrev pub ancestors : List Interface → Interface → List Interface
ancestors set i = reached 10 set i

-- The interface is, or extends, the one with this identifier.
abbrev pub is_a : List Interface → Interface → Identifier → Bool
is_a set i id = list_any (λ a. id_eq a.id id) (ancestors set i)

abbrev pub declared_in : Interface → List ResolvedContent
declared_in i = map (λ c. record { from = i.id; content = c }) i.contents

abbrev pub contents : List Interface → Interface → List ResolvedContent
contents set i = flat_map declared_in (ancestors set i)

-- What a content is a component of.
abbrev pub components_in : KindTerm → List Identifier
components_in (component of) = of ∷ []
components_in other = []

abbrev pub component_of : Content → List Identifier
component_of c = components_in (kind_term c.kind)

-- The interfaces of its components.
abbrev pub parts : List Interface → Interface → List Interface
parts set i = flat_map (λ r. flat_map (λ p. those (interface_at p set) (λ q. q ∷ [])) (component_of r.content)) (contents set i)

abbrev pub named_in : Interface → NamedIn
named_in i = record { of = i.id; schemas = i.schemas }

abbrev pub inherited : List Interface → Interface → Resolved
inherited set i = record {
  contents = contents set i;
  ancestors = map (λ a. a.id) (ancestors set i);
  named = map named_in (ancestors set i ++ flat_map (ancestors set) (parts set i));
  parts = map (λ q. record { of = q.id; contents = contents set q }) (parts set i);
}
