-- The rules that a place can break by its role, and the first broken one of a list.
use Rattle.std.specs.Prelude.{◌≡◌, ℕ, ◌<◌, ◌⊎◌, Bool, true, false, List, [], ◌∷◌, ◌++◌, length, nat_eq, Option, Some, None, nat_lt, if◌then◌else◌, codes}
use Rattle.std.specs.List.{starts_with}
use Rattle.local_rules.specs.Codes.{rule_number}
use Rattle.local_rules.specs.Identifiers.{IdUse, IsBadId, IsReservedId, OfText, no_id, of_element, of_interface}
use Rattle.json_tree.specs.Values.{Json}
use Rattle.local_rules.specs.declared.role.Element.{Element}
use Rattle.local_rules.specs.declared.role.Element.TheVariants as element
use Rattle.local_rules.specs.declared.rule.LocalRule.{LocalRule}
use Rattle.local_rules.specs.declared.rule.LocalRule.TheVariants as rule
use Rattle.local_rules.specs.declared.role.Role.{Role}
use Rattle.local_rules.specs.declared.role.Role.TheVariants as role

-- The first rule of a list that is broken; None where none is.
abbrev pub IsFirstAmong : (LocalRule → Type 0) → List LocalRule → Option LocalRule → Type 0
IsFirstAmong Broken [] found = found ≡ None
IsFirstAmong Broken (one ∷ more) found = (Broken one × (found ≡ Some one)) ⊎ ((Broken one → ⊥) × IsFirstAmong Broken more found)

abbrev pub id_rules : List LocalRule
id_rules = rule.BadId ∷ rule.ReservedId ∷ rule.LongInterfaceId ∷ rule.LongElementId ∷ []

-- The rules that a value of its role's kind can break by itself.
abbrev pub further_rules : Role → List LocalRule
further_rules role.Interface = rule.MissingKey ∷ []
further_rules role.Content = rule.MissingKey ∷ []
further_rules role.RelationshipProperty = rule.MissingKey ∷ []
further_rules (role.Payload part) = rule.MissingKey ∷ []
further_rules role.Field = rule.MissingKey ∷ []
further_rules (role.EnumEntry k) = rule.MissingKey ∷ []
further_rules role.NamedSchema = rule.MissingKey ∷ []
further_rules (role.Schema part) = rule.MissingKey ∷ id_rules ++ rule.BadMapKey ∷ []
further_rules role.Contents = rule.TooManyContents ∷ []
further_rules role.Schemas = []
further_rules role.Properties = []
further_rules role.Fields = rule.TooManyFields ∷ []
further_rules (role.EnumValues k) = rule.TooManyEnumValues ∷ []
further_rules role.Context = rule.BadContext ∷ []
further_rules (role.Type position) = rule.BadType ∷ rule.BadSemanticType ∷ []
further_rules role.Extends = id_rules ++ rule.TooManyParents ∷ []
further_rules (role.Localized which) = rule.LongDisplayName ∷ rule.LongDescription ∷ []
further_rules (role.LocalizedText which) = rule.LongDisplayName ∷ rule.LongDescription ∷ []
further_rules role.ListedText = []
further_rules role.Parent = id_rules
further_rules role.InterfaceId = id_rules
further_rules role.ElementId = id_rules
further_rules role.InterfaceReference = id_rules
further_rules role.Comment = rule.LongComment ∷ []
further_rules role.Name = rule.BadName ∷ []
further_rules role.CommandType = rule.BadCommandType ∷ []
further_rules role.Unit = rule.BadUnit ∷ []
further_rules role.ValueSchema = rule.BadValueSchema ∷ []
further_rules role.Writable = []
further_rules role.MinMultiplicity = rule.BadMultiplicity ∷ []
further_rules role.MaxMultiplicity = rule.BadMultiplicity ∷ []
further_rules (role.EnumValue k) = rule.BadEnumValue ∷ []
further_rules role.Unknown = rule.UnknownKey ∷ []

-- An element of this kind may have a semantic type.
abbrev pub has_semantic_type : Element → Bool
has_semantic_type element.Telemetry = true
has_semantic_type element.Property = true
has_semantic_type other = false

-- The rules on identifiers, by how one is used.
abbrev pub IdBreaks : IdUse → List ℕ → LocalRule → Type 0
IdBreaks use_of bytes rule.BadId = IsBadId use_of bytes
IdBreaks use_of bytes rule.ReservedId = IsReservedId use_of bytes
IdBreaks use_of bytes rule.LongInterfaceId = (use_of ≡ of_interface) × (128 < length bytes)
IdBreaks use_of bytes rule.LongElementId = (use_of ≡ of_element) × (2048 < length bytes)
IdBreaks use_of bytes other = ⊥

-- The same of a value that is a text.
abbrev pub IdBreaksAt : (List ℕ → IdUse) → Json → LocalRule → Type 0
IdBreaksAt use_of v one = OfText (λ bytes. IdBreaks (use_of bytes) bytes one) v

-- How a text in the role of a schema is used as an identifier.
abbrev pub schema_id_use : List ℕ → IdUse
schema_id_use bytes = if starts_with nat_eq bytes (codes "dtmi:") then of_element else no_id

-- The one of two rules that is named first.
abbrev pub earlier : Option LocalRule → Option LocalRule → Option LocalRule
earlier None other = other
earlier (Some one) None = Some one
earlier (Some one) (Some other) = if nat_lt (rule_number other) (rule_number one) then Some other else Some one
