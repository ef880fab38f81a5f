-- The breaches of the local rules in a document, and the first of them.
use Rattle.std.specs.Prelude.{◌≡◌, ℕ, ◌<◌, ◌⊎◌, List, [], ◌∷◌, Some, Option, MatchOption}
use Rattle.json_decimal.specs.Number.{Number}
use Rattle.json_tree.specs.Values.{Json, null, truth, number, text, array, object, Members}
use Rattle.json_tree.specs.Places.{IsBefore, element_at}
use Rattle.json_tree.specs.Members.{members_in}
use Rattle.local_rules.specs.Codes.{rule_number}
use Rattle.local_rules.specs.Roles.{HasRole}
use Rattle.local_rules.specs.Kinds.{WrongKind, UnknownKey, MissingKey}
use Rattle.local_rules.specs.Types.{BadContext, BadType, BadSemanticType}
use Rattle.local_rules.specs.Identifiers.{BadId, ReservedId, LongInterfaceId, LongElementId, BadName, IsIdRole, RepeatedId}
use Rattle.local_rules.specs.Texts.{LongDisplayName, LongDescription, LongComment, BadCommandType, BadUnit}
use Rattle.local_rules.specs.Lists.{TooManyContents, TooManyParents, TooManyFields, TooManyEnumValues}
use Rattle.local_rules.specs.Repeats.{RepeatedParent, DuplicateName, DuplicateField, DuplicateEnumName, DuplicateEnumValue}
use Rattle.local_rules.specs.Languages.{BadLanguage}
use Rattle.local_rules.specs.Quantities.{BadValueSchema, BadEnumValue, BadMapKey, BadMultiplicity}
use Rattle.local_rules.specs.Levels.{UnknownSchema, TooDeep, ArrayInProperty}
use Rattle.local_rules.specs.declared.rule.LocalRule.{LocalRule}
use Rattle.local_rules.specs.declared.rule.LocalRule.TheVariants as rule
use Rattle.local_rules.specs.declared.role.Role.{Role}
use Rattle.local_rules.specs.declared.role.Role.TheVariants as role

-- ---- the first rule of several
-- The rule is the first of those that are broken; None where none is.
abbrev pub IsFirstOf : (LocalRule → Type 0) → Option LocalRule → Type 0
IsFirstOf Broken found = MatchOption found ((broken : LocalRule) → Broken broken → ⊥)
    (λ broken. Broken broken × ((other : LocalRule) → rule_number other < rule_number broken → Broken other → ⊥))

-- ---- what breaks each rule, in four tables: each rule stands in one of them
-- The role and the value alone.
abbrev pub BreaksAlone : LocalRule → Role → Json → Type 0
BreaksAlone rule.WrongKind r v = WrongKind r v
BreaksAlone rule.UnknownKey r v = UnknownKey r
BreaksAlone rule.MissingKey r v = MissingKey r v
BreaksAlone rule.BadContext r v = BadContext r v
BreaksAlone rule.BadType r v = BadType r v
BreaksAlone rule.BadSemanticType r v = BadSemanticType r v
BreaksAlone rule.BadId r v = BadId r v
BreaksAlone rule.ReservedId r v = ReservedId r v
BreaksAlone rule.LongInterfaceId r v = LongInterfaceId r v
BreaksAlone rule.LongElementId r v = LongElementId r v
BreaksAlone rule.BadName r v = BadName r v
BreaksAlone rule.LongDisplayName r v = LongDisplayName r v
BreaksAlone rule.LongDescription r v = LongDescription r v
BreaksAlone rule.LongComment r v = LongComment r v
BreaksAlone rule.TooManyContents r v = TooManyContents r v
BreaksAlone rule.TooManyParents r v = TooManyParents r v
BreaksAlone rule.TooManyFields r v = TooManyFields r v
BreaksAlone rule.TooManyEnumValues r v = TooManyEnumValues r v
BreaksAlone rule.BadValueSchema r v = BadValueSchema r v
BreaksAlone rule.BadEnumValue r v = BadEnumValue r v
BreaksAlone rule.BadMapKey r v = BadMapKey r v
BreaksAlone rule.BadMultiplicity r v = BadMultiplicity r v
BreaksAlone rule.BadCommandType r v = BadCommandType r v
BreaksAlone rule.BadUnit r v = BadUnit r v
BreaksAlone other r v = ⊥

-- The list or the object in which the place stands, and its position there.
abbrev pub BreaksByPlace : Json → List ℕ → LocalRule → Role → Type 0
BreaksByPlace interface place rule.BadLanguage r = BadLanguage interface place
BreaksByPlace interface place rule.RepeatedParent r = RepeatedParent interface place
BreaksByPlace interface place rule.DuplicateName r = DuplicateName interface place r
BreaksByPlace interface place rule.DuplicateField r = DuplicateField interface place r
BreaksByPlace interface place rule.DuplicateEnumName r = DuplicateEnumName interface place r
BreaksByPlace interface place rule.DuplicateEnumValue r = DuplicateEnumValue interface place r
BreaksByPlace interface place other r = ⊥

-- The schemas that an interface with these members names.
abbrev pub BreaksBySchemas : Members Number → LocalRule → Role → Json → Type 0
BreaksBySchemas ms rule.UnknownSchema r v = UnknownSchema ms r v
BreaksBySchemas ms rule.TooDeep r v = TooDeep ms r v
BreaksBySchemas ms rule.ArrayInProperty r v = ArrayInProperty ms r v
BreaksBySchemas ms other r v = ⊥

-- The `@id`s at earlier places of the interface.
abbrev pub BreaksById : (List ℕ → Type 0) → LocalRule → Role → Json → Type 0
BreaksById IsEarlier rule.RepeatedId r v = RepeatedId IsEarlier r v
BreaksById IsEarlier other r v = ⊥

-- ---- breaches
-- At an earlier place of an interface stands this text as an `@id`.
abbrev pub IsEarlierId : Json → List ℕ → List ℕ → Type 0
IsEarlierId interface place bytes = (earlier : List ℕ) × (r : Role) × IsBefore earlier place
    × HasRole role.Interface interface earlier r (text bytes) × IsIdRole r

-- A value in a role breaks a rule at this place of an interface.
abbrev pub Breaks : Json → List ℕ → LocalRule → Role → Json → Type 0
Breaks interface place broken r v = BreaksAlone broken r v ⊎ BreaksByPlace interface place broken r
    ⊎ BreaksBySchemas (members_in interface) broken r v ⊎ BreaksById (IsEarlierId interface place) broken r v

-- A rule is broken at a place of an interface.
abbrev pub IsBroken : Json → List ℕ → LocalRule → Type 0
IsBroken interface place broken = (r : Role) × (v : Json) × HasRole role.Interface interface place r v × Breaks interface place broken r v

-- A rule is broken at a place of a document, which is an interface or a list of interfaces.
abbrev pub IsBreach : Json → List ℕ → LocalRule → Type 0
IsBreach null place broken = (place ≡ []) × (broken ≡ rule.WrongKind)
IsBreach (truth b) place broken = (place ≡ []) × (broken ≡ rule.WrongKind)
IsBreach (number n) place broken = (place ≡ []) × (broken ≡ rule.WrongKind)
IsBreach (text bytes) place broken = (place ≡ []) × (broken ≡ rule.WrongKind)
IsBreach (array vs) [] broken = ⊥
IsBreach (array vs) (i ∷ place) broken = (interface : Json) × (element_at vs i ≡ Some interface) × IsBroken interface place broken
IsBreach (object ms) place broken = IsBroken (object ms) place broken

-- No local rule is broken at any place of the document.
abbrev pub BreaksNoLocalRule : Json → Type 0
BreaksNoLocalRule v = (place : List ℕ) (broken : LocalRule) → IsBreach v place broken → ⊥

-- The first in the order of places, and at one place in the order of rules.
abbrev pub ComesBefore : List ℕ → LocalRule → List ℕ → LocalRule → Type 0
ComesBefore place broken other another = IsBefore place other ⊎ ((place ≡ other) × (rule_number broken < rule_number another))

pub record IsFirstBreach (document : Json) (place : List ℕ) (broken : LocalRule) : Type 0 where
  pub breach : IsBreach document place broken
  pub least : (other : List ℕ) (another : LocalRule) → ComesBefore other another place broken → IsBreach document other another → ⊥
