-- What the walk over a body tells of a value without breach.
use Rattle.std.specs.Prelude.{ℕ, List, Option}
use Rattle.json_decimal.specs.Number.{Number}
use Rattle.json_tree.specs.Values.{Json, array, object, Elements, no_elements, element, Members, no_members, member}
use Rattle.dtdl_terms.specs.Terms.{SchemaTerm}
use Rattle.twin_value.specs.Fits.{IsOf, element_schema, member_schema, ElementsFit, MembersFit}
use Rattle.twin_value.specs.Roles.{Role, undeclared, value}

-- A value fits the schema that stands for its own.
abbrev pub StandingFits : List SchemaTerm → Option SchemaTerm → Json → Type 0
StandingFits ns o (array vs) = IsOf o (array vs) × ElementsFit ns (element_schema o) vs
StandingFits ns o (object ms) = IsOf o (object ms) × MembersFit ns (member_schema o) ms
StandingFits ns o other = IsOf o other

-- What is to be a value of a schema fits it, and what nothing declares does not occur.
abbrev pub Sound : Role → Json → Type 0
Sound (value ns o) v = StandingFits ns o v
Sound undeclared v = ⊥
Sound other v = Unit {0}

-- The same as far as it shows without its parts.
abbrev pub SoundAlone : Role → Json → Type 0
SoundAlone (value ns o) v = IsOf o v
SoundAlone undeclared v = ⊥
SoundAlone other v = Unit {0}

abbrev pub ElementsSound : Role → Elements Number → Type 0
ElementsSound r no_elements = Unit {0}
ElementsSound r (element v vs) = Sound r v × ElementsSound r vs

abbrev pub MembersSound : (List ℕ → Role) → Members Number → Type 0
MembersSound roles no_members = Unit {0}
MembersSound roles (member key v ms) = Sound (roles key) v × MembersSound roles ms
