-- Rules on the lengths of lists.
use Rattle.std.specs.Prelude.{◌≡◌, ◌<◌, length}
use Rattle.json_tree.specs.Values.{Json}
use Rattle.json_tree.specs.Members.{entries_in}
use Rattle.local_rules.specs.declared.role.ValueSchema.{ValueSchema}
use Rattle.local_rules.specs.declared.role.Role.{Role}
use Rattle.local_rules.specs.declared.role.Role.TheVariants as role

-- `contents` has more than 300 entries (DTDL v2, "Interface").
abbrev pub TooManyContents : Role → Json → Type 0
TooManyContents r v = (r ≡ role.Contents) × (300 < length (entries_in v))

-- `extends` has more than 2 entries (DTDL v2, "Interface").
abbrev pub TooManyParents : Role → Json → Type 0
TooManyParents r v = (r ≡ role.Extends) × (2 < length (entries_in v))

-- `fields` has more than 30 entries (DTDL v2, "Object").
abbrev pub TooManyFields : Role → Json → Type 0
TooManyFields r v = (r ≡ role.Fields) × (30 < length (entries_in v))

-- `enumValues` has more than 100 entries (DTDL v2, "Enum").
abbrev pub TooManyEnumValues : Role → Json → Type 0
TooManyEnumValues r v = (k : ValueSchema) × (r ≡ role.EnumValues k) × (100 < length (entries_in v))
