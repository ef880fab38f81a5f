-- The keys by the lengths of their texts.
use Rattle.std.specs.Prelude.{List, [], ◌∷◌, ◌++◌}
use Rattle.local_rules.specs.declared.key.Key.{Key}
use Rattle.local_rules.specs.declared.key.Key.TheVariants as key

abbrev pub short_keys : List Key
short_keys = key.Type ∷ key.Name ∷ key.Schema ∷ key.Id ∷ key.Unit ∷ key.Target ∷ key.Fields ∷ key.MapKey ∷ key.Comment ∷ key.Extends ∷ key.Request ∷ key.Schemas ∷ []

abbrev pub middle_keys : List Key
middle_keys = key.Contents ∷ key.Writable ∷ key.Context ∷ key.MapValue ∷ key.Response ∷ key.EnumValue ∷ key.EnumValues ∷ key.Properties ∷ []

abbrev pub long_keys : List Key
long_keys = key.Description ∷ key.DisplayName ∷ key.CommandType ∷ key.ValueSchema ∷ key.ElementSchema ∷ key.MaxMultiplicity ∷ key.MinMultiplicity ∷ []

abbrev pub all_keys : List Key
all_keys = short_keys ++ middle_keys ++ long_keys
