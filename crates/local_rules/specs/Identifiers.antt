-- Rules on identifiers and names.
use Rattle.std.specs.Prelude.{◌≡◌, ℕ, ◌<◌, ◌⊎◌, List, nat_eq, length, if◌then◌else◌, IsTrue, codes}
use Rattle.std.specs.List.{starts_with}
use Rattle.dt_base.specs.names.Grammar.{NameText, Identifier, HasDtmiForm, is_reserved}
use Rattle.json_tree.specs.Values.{Json, null, truth, number, text, array, object}
use Rattle.local_rules.specs.declared.role.Role.{Role}
use Rattle.local_rules.specs.declared.role.Role.TheVariants as role

-- How an identifier is used: as an interface's or as another element's.
pub data IdUse : Type 0 where
  of_interface : IdUse
  of_element : IdUse
  no_id : IdUse

-- A text in the role of a schema is an identifier where it begins with `dtmi:`.
abbrev pub id_use : Role → List ℕ → IdUse
id_use role.InterfaceId bytes = of_interface
id_use role.InterfaceReference bytes = of_interface
id_use role.Extends bytes = of_interface
id_use role.Parent bytes = of_interface
id_use role.ElementId bytes = of_element
id_use (role.Schema part) bytes = if starts_with nat_eq bytes (codes "dtmi:") then of_element else no_id
id_use other bytes = no_id

-- The text is of the DTMI grammar, its length aside.
abbrev pub HasForm : List ℕ → Type 0
HasForm bytes = (i : Identifier) × HasDtmiForm bytes i

abbrev pub IsBadId : IdUse → List ℕ → Type 0
IsBadId of_interface bytes = HasForm bytes → ⊥
IsBadId of_element bytes = HasForm bytes → ⊥
IsBadId no_id bytes = ⊥

abbrev pub IsReservedId : IdUse → List ℕ → Type 0
IsReservedId of_interface bytes = HasForm bytes × IsTrue (is_reserved bytes)
IsReservedId of_element bytes = HasForm bytes × IsTrue (is_reserved bytes)
IsReservedId no_id bytes = ⊥

-- The value is a text of which this holds.
abbrev pub OfText : (List ℕ → Type 0) → Json → Type 0
OfText P null = ⊥
OfText P (truth b) = ⊥
OfText P (number n) = ⊥
OfText P (text bytes) = P bytes
OfText P (array vs) = ⊥
OfText P (object ms) = ⊥

-- An identifier is not of the DTMI grammar, its length aside.
abbrev pub BadId : Role → Json → Type 0
BadId r v = OfText (λ bytes. IsBadId (id_use r bytes) bytes) v

-- An identifier is of the grammar and begins `dtmi:dtdl:` or `dtmi:standard:`. This project's own.
abbrev pub ReservedId : Role → Json → Type 0
ReservedId r v = OfText (λ bytes. IsReservedId (id_use r bytes) bytes) v

-- The identifier of an interface has more than 128 bytes (DTDL v2, "Interface").
abbrev pub LongInterfaceId : Role → Json → Type 0
LongInterfaceId r v = OfText (λ bytes. (id_use r bytes ≡ of_interface) × (128 < length bytes)) v

-- Another identifier has more than 2,048 bytes (DTDL v2, "Digital Twin Model Identifier").
abbrev pub LongElementId : Role → Json → Type 0
LongElementId r v = OfText (λ bytes. (id_use r bytes ≡ of_element) × (2048 < length bytes)) v

-- `name` is not of the name grammar with 1 to 64 bytes.
abbrev pub BadName : Role → Json → Type 0
BadName r v = (r ≡ role.Name) × OfText (λ bytes. NameText bytes → ⊥) v

-- An `@id`.
abbrev pub IsIdRole : Role → Type 0
IsIdRole r = (r ≡ role.InterfaceId) ⊎ (r ≡ role.ElementId)

-- An `@id` equals an earlier one in the same interface.
abbrev pub RepeatedId : (List ℕ → Type 0) → Role → Json → Type 0
RepeatedId IsEarlier r v = IsIdRole r × OfText IsEarlier v
