-- The local rules: how each is printed, and their order at one place.
use Rattle.std.specs.Prelude.{ℕ, List, codes}
use Rattle.local_rules.specs.declared.rule.LocalRule.{LocalRule}
use Rattle.local_rules.specs.declared.rule.LocalRule.TheVariants as rule

abbrev pub rule_code : LocalRule → List ℕ
rule_code rule.WrongKind = codes "WrongKind"
rule_code rule.UnknownKey = codes "UnknownKey"
rule_code rule.MissingKey = codes "MissingKey"
rule_code rule.BadContext = codes "BadContext"
rule_code rule.BadType = codes "BadType"
rule_code rule.BadSemanticType = codes "BadSemanticType"
rule_code rule.BadId = codes "BadId"
rule_code rule.ReservedId = codes "ReservedId"
rule_code rule.LongInterfaceId = codes "LongInterfaceId"
rule_code rule.LongElementId = codes "LongElementId"
rule_code rule.BadName = codes "BadName"
rule_code rule.LongDisplayName = codes "LongDisplayName"
rule_code rule.LongDescription = codes "LongDescription"
rule_code rule.LongComment = codes "LongComment"
rule_code rule.BadLanguage = codes "BadLanguage"
rule_code rule.TooManyContents = codes "TooManyContents"
rule_code rule.TooManyParents = codes "TooManyParents"
rule_code rule.RepeatedParent = codes "RepeatedParent"
rule_code rule.DuplicateName = codes "DuplicateName"
rule_code rule.TooManyFields = codes "TooManyFields"
rule_code rule.TooManyEnumValues = codes "TooManyEnumValues"
rule_code rule.DuplicateField = codes "DuplicateField"
rule_code rule.DuplicateEnumName = codes "DuplicateEnumName"
rule_code rule.DuplicateEnumValue = codes "DuplicateEnumValue"
rule_code rule.BadValueSchema = codes "BadValueSchema"
rule_code rule.BadEnumValue = codes "BadEnumValue"
rule_code rule.BadMapKey = codes "BadMapKey"
rule_code rule.BadMultiplicity = codes "BadMultiplicity"
rule_code rule.BadCommandType = codes "BadCommandType"
rule_code rule.BadUnit = codes "BadUnit"
rule_code rule.UnknownSchema = codes "UnknownSchema"
rule_code rule.RepeatedId = codes "RepeatedId"
rule_code rule.TooDeep = codes "TooDeep"
rule_code rule.ArrayInProperty = codes "ArrayInProperty"

abbrev pub rule_number : LocalRule → ℕ
rule_number rule.WrongKind = 1
rule_number rule.UnknownKey = 2
rule_number rule.MissingKey = 3
rule_number rule.BadContext = 4
rule_number rule.BadType = 5
rule_number rule.BadSemanticType = 6
rule_number rule.BadId = 7
rule_number rule.ReservedId = 8
rule_number rule.LongInterfaceId = 9
rule_number rule.LongElementId = 10
rule_number rule.BadName = 11
rule_number rule.LongDisplayName = 12
rule_number rule.LongDescription = 13
rule_number rule.LongComment = 14
rule_number rule.BadLanguage = 15
rule_number rule.TooManyContents = 16
rule_number rule.TooManyParents = 17
rule_number rule.RepeatedParent = 18
rule_number rule.DuplicateName = 19
rule_number rule.TooManyFields = 20
rule_number rule.TooManyEnumValues = 21
rule_number rule.DuplicateField = 22
rule_number rule.DuplicateEnumName = 23
rule_number rule.DuplicateEnumValue = 24
rule_number rule.BadValueSchema = 25
rule_number rule.BadEnumValue = 26
rule_number rule.BadMapKey = 27
rule_number rule.BadMultiplicity = 28
rule_number rule.BadCommandType = 29
rule_number rule.BadUnit = 30
rule_number rule.UnknownSchema = 31
rule_number rule.RepeatedId = 32
rule_number rule.TooDeep = 33
rule_number rule.ArrayInProperty = 34
