-- Records whose types are told by what their canonical trees say in `@type`, as those of every interface that a document
-- declares are.
use Rattle.std.specs.Prelude.{◌≡◌, ℕ, List, None, IfSome}
use Rattle.std.specs.List.{AllByRecursion}
use Rattle.dtdl_terms.specs.Terms.{ContentTerm, content, KindTerm, telemetry, property, command, relationship, component, ContentTerms, no_contents, more_contents}
use Rattle.dtdl_terms.specs.TermViews.{content_term}
use Rattle.dtdl_terms.specs.declared.interface.Interface.{Interface}
use Rattle.local_rules.specs.Roles.{element_named}
use Rattle.local_rules.specs.declared.role.Position.{Position}
use Rattle.local_rules.specs.declared.role.Position.TheVariants as position
use Rattle.local_rules.specs.declared.role.Element.{Element}
use Rattle.local_rules.specs.declared.role.Element.TheVariants as element_kind

-- The kind of a content by its term. An entry of a relationship's `properties` is a property whatever its `@type`
-- names.
abbrev pub type_of_kind : KindTerm → Element
type_of_kind (telemetry s semantic unit) = element_kind.Telemetry
type_of_kind (property s semantic unit writable) = element_kind.Property
type_of_kind (command request response) = element_kind.Command
type_of_kind (relationship target properties most writable) = element_kind.Relationship
type_of_kind (component id) = element_kind.Component

abbrev pub IsPropertyTerm : ContentTerm → Type 0
IsPropertyTerm (content n c k) = type_of_kind k ≡ element_kind.Property

-- The text is none of the types of the position.
abbrev pub NamesNoType : Position → List ℕ → Type 0
NamesNoType p name = element_named p name ≡ None

-- A semantic type is no type of its position, and each entry of a relationship's `properties` is a property.
abbrev mutual
  pub KindIsTyped : Position → KindTerm → Type 0
  KindIsTyped p (telemetry s semantic unit) = IfSome semantic (NamesNoType p)
  KindIsTyped p (property s semantic unit writable) = IfSome semantic (NamesNoType p)
  KindIsTyped p (command request response) = Unit {0}
  KindIsTyped p (relationship target properties most writable) = PropertiesAreTyped properties
  KindIsTyped p (component of) = Unit {0}

  pub ContentIsTyped : Position → ContentTerm → Type 0
  ContentIsTyped p (content name c k) = KindIsTyped p k

  pub PropertiesAreTyped : ContentTerms → Type 0
  PropertiesAreTyped no_contents = Unit {0}
  PropertiesAreTyped (more_contents c cs) = (IsPropertyTerm c × ContentIsTyped position.Property c) × PropertiesAreTyped cs

abbrev pub IsTyped : Interface → Type 0
IsTyped i = AllByRecursion (λ c. ContentIsTyped position.Content (content_term c)) i.contents
