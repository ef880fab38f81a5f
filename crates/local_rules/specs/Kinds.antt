-- Rules on the kinds of values and on the keys of objects.
use Rattle.std.specs.Prelude.{◌≡◌, List, [], ◌∷◌, Bool, true, false, Option, Some, None, Contains}
use Rattle.json_decimal.specs.Number.{Number}
use Rattle.json_tree.specs.Values.{Json, null, truth, number, text, array, object, Members}
use Rattle.json_tree.specs.Members.{value_at}
use Rattle.local_rules.specs.Tables.{key_text, required}
use Rattle.local_rules.specs.Roles.{element_of}
use Rattle.local_rules.specs.declared.key.Key.{Key}
use Rattle.local_rules.specs.declared.key.Key.TheVariants as key
use Rattle.local_rules.specs.declared.role.Element.{Element}
use Rattle.local_rules.specs.declared.role.Kind.{Kind}
use Rattle.local_rules.specs.declared.role.Kind.TheVariants as kind
use Rattle.local_rules.specs.declared.role.Role.{Role}
use Rattle.local_rules.specs.declared.role.Role.TheVariants as role

abbrev pub kind_of : Role → Kind
kind_of role.Interface = kind.Object
kind_of role.Content = kind.Object
kind_of role.RelationshipProperty = kind.Object
kind_of (role.Payload part) = kind.Object
kind_of role.Field = kind.Object
kind_of (role.EnumEntry k) = kind.Object
kind_of role.NamedSchema = kind.Object
kind_of (role.Schema part) = kind.TextOrObject
kind_of role.Contents = kind.List
kind_of role.Schemas = kind.List
kind_of role.Properties = kind.List
kind_of role.Fields = kind.List
kind_of (role.EnumValues k) = kind.List
kind_of role.Context = kind.TextOrList
kind_of (role.Type position) = kind.TextOrList
kind_of role.Extends = kind.TextOrList
kind_of (role.Localized which) = kind.TextOrObject
kind_of (role.LocalizedText which) = kind.Text
kind_of role.ListedText = kind.Text
kind_of role.Parent = kind.Text
kind_of role.InterfaceId = kind.Text
kind_of role.ElementId = kind.Text
kind_of role.InterfaceReference = kind.Text
kind_of role.Comment = kind.Text
kind_of role.Name = kind.Text
kind_of role.CommandType = kind.Text
kind_of role.Unit = kind.Text
kind_of role.ValueSchema = kind.Text
kind_of role.Writable = kind.Truth
kind_of role.MinMultiplicity = kind.Number
kind_of role.MaxMultiplicity = kind.Number
kind_of (role.EnumValue k) = kind.NumberOrText
kind_of role.Unknown = kind.Any

abbrev pub is_of_kind : Kind → Json → Bool
is_of_kind kind.Object (object ms) = true
is_of_kind kind.List (array vs) = true
is_of_kind kind.Text (text bytes) = true
is_of_kind kind.TextOrList (text bytes) = true
is_of_kind kind.TextOrList (array vs) = true
is_of_kind kind.TextOrObject (text bytes) = true
is_of_kind kind.TextOrObject (object ms) = true
is_of_kind kind.Truth (truth b) = true
is_of_kind kind.Number (number n) = true
is_of_kind kind.NumberOrText (number n) = true
is_of_kind kind.NumberOrText (text bytes) = true
is_of_kind kind.Any v = true
is_of_kind k v = false

-- The value is not of its role's kind.
abbrev pub WrongKind : Role → Json → Type 0
WrongKind r v = is_of_kind (kind_of r) v ≡ false

-- The member's key is not a key of its object's role.
abbrev pub UnknownKey : Role → Type 0
UnknownKey r = r ≡ role.Unknown

-- The keys that an object in this role must have: those of the element that it is, and `@id` in an entry of
-- `schemas`; where its `@type` decides what it is and does not, `@type` alone.
abbrev pub needed_keys : Role → Option Element → List Key
needed_keys role.NamedSchema (Some e) = key.Id ∷ required e
needed_keys r (Some e) = required e
needed_keys role.Content None = key.Type ∷ []
needed_keys role.NamedSchema None = key.Type ∷ []
needed_keys (role.Schema part) None = key.Type ∷ []
needed_keys r None = []

abbrev pub LacksKeyOf : List Key → Members Number → Type 0
LacksKeyOf keys ms = (k : Key) × Contains keys k × (value_at (key_text k) ms ≡ None)

-- The object lacks a required key.
abbrev pub MissingKey : Role → Json → Type 0
MissingKey r null = ⊥
MissingKey r (truth b) = ⊥
MissingKey r (number n) = ⊥
MissingKey r (text bytes) = ⊥
MissingKey r (array vs) = ⊥
MissingKey r (object ms) = LacksKeyOf (needed_keys r (element_of r ms)) ms
