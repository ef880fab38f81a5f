-- Rules on the values of enums, on the keys of maps and on multiplicities.
use Rattle.std.specs.Prelude.{◌≡◌, ◌≢◌, ℕ, ◌⊎◌, ℤ, pos, ◌≤ℤ◌, FitsSigned, codes, List}
use Rattle.std.specs.Int.{w32}
use Rattle.json_decimal.specs.Number.{Number, zero_number}
use Rattle.json_decimal.specs.Comparing.{IsWhole}
use Rattle.json_tree.specs.Values.{Json, number, text}
use Rattle.local_rules.specs.declared.role.SchemaUse.TheVariants as schema_use
use Rattle.local_rules.specs.declared.role.ValueSchema.{ValueSchema}
use Rattle.local_rules.specs.declared.role.ValueSchema.TheVariants as value_schemas
use Rattle.local_rules.specs.declared.role.Role.{Role}
use Rattle.local_rules.specs.declared.role.Role.TheVariants as role

-- `valueSchema` is neither `integer` nor `string` (DTDL v2, "Enum").
abbrev pub BadValueSchema : Role → Json → Type 0
BadValueSchema r v = (r ≡ role.ValueSchema) × (v ≢ text (codes "integer")) × (v ≢ text (codes "string"))

-- A whole number of 32 bits.
abbrev pub IsInteger32 : Json → Type 0
IsInteger32 v = (n : Number) × (z : ℤ) × (v ≡ number n) × FitsSigned w32 z × IsWhole n z

abbrev pub IsStringValue : Json → Type 0
IsStringValue v = (bytes : List ℕ) × (v ≡ text bytes)

-- The value is none of the kind that its `valueSchema` asks for.
abbrev pub IsNoneOf : ValueSchema → Json → Type 0
IsNoneOf value_schemas.Integer v = IsInteger32 v → ⊥
IsNoneOf value_schemas.String v = IsStringValue v → ⊥
IsNoneOf value_schemas.Neither v = ⊥

abbrev pub BadEnumValue : Role → Json → Type 0
BadEnumValue r v = (k : ValueSchema) × (r ≡ role.EnumValue k) × IsNoneOf k v

-- The schema of a map's key is not `string` (DTDL v2, "Map").
abbrev pub BadMapKey : Role → Json → Type 0
BadMapKey r v = (r ≡ role.Schema schema_use.MapKey) × (v ≢ text (codes "string"))

-- A whole number from 1 to 2,147,483,647. The range is this project's own.
abbrev pub IsMultiplicity : Json → Type 0
IsMultiplicity v = (n : Number) × (z : ℤ) × (v ≡ number n) × (pos 1 ≤ℤ z) × (z ≤ℤ pos 2147483647) × IsWhole n z

-- `minMultiplicity` is not 0, or `maxMultiplicity` is no such number.
abbrev pub BadMultiplicity : Role → Json → Type 0
BadMultiplicity r v = ((r ≡ role.MinMultiplicity) × (v ≢ number zero_number)) ⊎ ((r ≡ role.MaxMultiplicity) × (IsMultiplicity v → ⊥))
