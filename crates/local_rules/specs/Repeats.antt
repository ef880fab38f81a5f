-- Rules on entries that repeat an earlier one, by the list and the position of the entry.
use Rattle.std.specs.Prelude.{◌≡◌, ℕ, ◌⊎◌, List, [], ◌∷◌, ◌++◌, take, map, Bool, true, false, ◌&&◌, nat_eq, Option, Some, None, bytes_eq, codes, slice_get, option_and_then}
use Rattle.std.specs.List.{list_any}
use Rattle.std.specs.Ordering.{int_eq}
use Rattle.std.proofs.Math.Bool.{beq}
use Rattle.json_decimal.specs.Number.{Number}
use Rattle.json_tree.specs.Values.{Json, number, text, array, Elements}
use Rattle.json_tree.specs.Members.{list_of, value_in, text_in}
use Rattle.local_rules.specs.Roles.{HasRole}
use Rattle.local_rules.specs.declared.role.ValueSchema.{ValueSchema}
use Rattle.local_rules.specs.declared.role.Role.{Role}
use Rattle.local_rules.specs.declared.role.Role.TheVariants as role

-- ---- entries that repeat an earlier one
abbrev pub holds_some : {X : Type 0} → (X → Bool) → Option X → Bool
holds_some test None = false
holds_some test (Some x) = test x

-- Of what the entries are compared by, which some lack: whether that at a position is the same as an earlier one.
abbrev pub is_among : {X : Type 0} → (X → X → Bool) → List (Option X) → Option X → Bool
is_among same earlier None = false
is_among same earlier (Some x) = list_any (holds_some (λ y. same y x)) earlier

abbrev pub repeats : {X : Type 0} → (X → X → Bool) → List (Option X) → ℕ → Bool
repeats same xs i = is_among same (take i xs) (option_and_then (λ x. x) (slice_get xs i))

-- The entry is the same text as an earlier one.
abbrev pub repeats_text : List Json → ℕ → Bool
repeats_text vs i = repeats bytes_eq (map text_in vs) i

-- Its `name` is the same text as that of an earlier one.
abbrev pub name_in : Json → Option (List ℕ)
name_in v = option_and_then text_in (value_in (codes "name") v)

abbrev pub repeats_name : List Json → ℕ → Bool
repeats_name vs i = repeats bytes_eq (map name_in vs) i

-- Its `enumValue` is that of an earlier one, as a number or as a text.
abbrev pub number_eq : Number → Number → Bool
number_eq a b = beq a.negative b.negative && nat_eq a.coefficient b.coefficient && int_eq a.exponent b.exponent

abbrev pub same_value : Json → Json → Bool
same_value (number a) (number b) = number_eq a b
same_value (text a) (text b) = bytes_eq a b
same_value other another = false

abbrev pub repeats_value : List Json → ℕ → Bool
repeats_value vs i = repeats same_value (map (value_in (codes "enumValue")) vs) i

-- ---- their places
-- At a place of an interface stands a list in this role, of which this holds at a position.
pub record HasEntry (interface : Json) (r : Role) (P : List Json → ℕ → Bool) (list : List ℕ) (i : ℕ) : Type 0 where
  pub entries : Elements Number
  pub stands : HasRole role.Interface interface list r (array entries)
  pub holds : P (list_of entries) i ≡ true

-- The place is that of such an entry.
abbrev pub IsEntry : Json → Role → (List Json → ℕ → Bool) → List ℕ → Type 0
IsEntry interface r P place = (list : List ℕ) × (i : ℕ) × (place ≡ list ++ i ∷ []) × HasEntry interface r P list i

-- The place is that of a member of such an entry.
abbrev pub IsInEntry : Json → Role → (List Json → ℕ → Bool) → List ℕ → Type 0
IsInEntry interface r P place = (entry : List ℕ) × (j : ℕ) × (place ≡ entry ++ j ∷ []) × IsEntry interface r P entry

-- ---- the rules
-- An entry of `extends` equals an earlier one.
abbrev pub RepeatedParent : Json → List ℕ → Type 0
RepeatedParent interface place = IsEntry interface role.Extends repeats_text place

-- The name of an entry of `contents` or `properties` equals that of an earlier entry.
abbrev pub DuplicateName : Json → List ℕ → Role → Type 0
DuplicateName interface place r = (r ≡ role.Name) × (IsInEntry interface role.Contents repeats_name place ⊎ IsInEntry interface role.Properties repeats_name place)

-- The name of a field equals an earlier one's.
abbrev pub DuplicateField : Json → List ℕ → Role → Type 0
DuplicateField interface place r = (r ≡ role.Name) × IsInEntry interface role.Fields repeats_name place

-- The name of an enum entry equals an earlier one's.
abbrev pub DuplicateEnumName : Json → List ℕ → Role → Type 0
DuplicateEnumName interface place r = (r ≡ role.Name) × ((k : ValueSchema) × IsInEntry interface (role.EnumValues k) repeats_name place)

-- The value of an enum entry equals an earlier one's, as a number or as a text.
abbrev pub DuplicateEnumValue : Json → List ℕ → Role → Type 0
DuplicateEnumValue interface place r = ((j : ValueSchema) × (r ≡ role.EnumValue j)) × ((k : ValueSchema) × IsInEntry interface (role.EnumValues k) repeats_value place)
