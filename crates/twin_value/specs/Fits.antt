-- Which values are of a schema (DTDL v2, "Schemas").
use Rattle.std.specs.Prelude.{◌≡◌, ℕ, ℤ, FitsSigned, ◌⊎◌, List, [], ◌∷◌, Option, Some, None, Bool, true, false, IsTrue, IsSome}
use Rattle.std.specs.Option.{IsSomeAnd}
use Rattle.json_tree.specs.Members.{text_in}
use Rattle.std.specs.Int.{Width, w32, w64}
use Rattle.json_decimal.specs.Number.{Number}
use Rattle.json_decimal.specs.Comparing.{IsWhole}
use Rattle.json_tree.specs.Values.{Json, null, truth, number, text, array, object, Elements, no_elements, element, Members, no_members, member}
use Rattle.dt_base.specs.names.Grammar.{dtmi_text}
use Rattle.dtdl_terms.specs.Terms.{SchemaTerm, primitive, named, array_of, enumeration, map_of, object_of, PayloadTerm, payload}
use Rattle.dtdl_terms.specs.declared.primitive.Primitive.{Primitive}
use Rattle.dtdl_terms.specs.declared.primitive.Primitive.TheVariants as primitives
use Rattle.dtdl_terms.specs.declared.enumeration.EnumEntry.{EnumEntry}
use Rattle.dtdl_terms.specs.declared.enumeration.EnumValue.{EnumValue}
use Rattle.dtdl_terms.specs.declared.enumeration.EnumValue.TheVariants as values
use Rattle.value_texts.specs.Clock.{IsDate, IsTime, IsDateTime}
use Rattle.value_texts.specs.Durations.{IsDuration}
use Rattle.twin_value.specs.Named.{schema_called, field_called}

-- ---- schemas
-- A reference stands for the schema that has its identifier, and what is no reference for itself.
abbrev pub standing : List SchemaTerm → SchemaTerm → Option SchemaTerm
standing ns (primitive p) = Some (primitive p)
standing ns (named id) = schema_called (dtmi_text id) ns
standing ns (array_of c s) = Some (array_of c s)
standing ns (enumeration c of_text es) = Some (enumeration c of_text es)
standing ns (map_of c key value) = Some (map_of c key value)
standing ns (object_of c fields) = Some (object_of c fields)

abbrev pub schema_of : PayloadTerm → SchemaTerm
schema_of (payload name c s) = s

abbrev pub field_schema : Option PayloadTerm → Option SchemaTerm
field_schema None = None
field_schema (Some p) = Some (schema_of p)

-- The schema of the elements of an array.
abbrev pub element_schema : Option SchemaTerm → Option SchemaTerm
element_schema (Some (array_of c s)) = Some s
element_schema other = None

-- The schema of a member: in a map that of its values, in an object that of the field with its key.
abbrev pub member_schema : Option SchemaTerm → List ℕ → Option SchemaTerm
member_schema (Some (map_of c key value)) k = Some (schema_of value)
member_schema (Some (object_of c fields)) k = field_schema (field_called k fields)
member_schema other k = None

-- ---- values without their parts
abbrev pub is_truth : Json → Bool
is_truth (truth b) = true
is_truth other = false

abbrev pub is_array : Json → Bool
is_array (array vs) = true
is_array other = false

abbrev pub is_object : Json → Bool
is_object (object ms) = true
is_object other = false

abbrev pub number_in : Json → Option Number
number_in (number n) = Some n
number_in other = None

-- A text of this form.
abbrev pub IsTextThat : (List ℕ → Type 0) → Json → Type 0
IsTextThat Is v = IsSomeAnd (text_in v) Is

-- A whole number of so many bits.
abbrev pub IsWholeWithin : Width → Json → Type 0
IsWholeWithin width v = IsSomeAnd (number_in v) (λ n. (z : ℤ) × IsWhole n z × FitsSigned width z)

abbrev pub IsOfPrimitive : Primitive → Json → Type 0
IsOfPrimitive primitives.Boolean v = IsTrue (is_truth v)
IsOfPrimitive primitives.Date v = IsTextThat IsDate v
IsOfPrimitive primitives.DateTime v = IsTextThat IsDateTime v
IsOfPrimitive primitives.Double v = IsSome (number_in v)
IsOfPrimitive primitives.Duration v = IsTextThat IsDuration v
IsOfPrimitive primitives.Float v = IsSome (number_in v)
IsOfPrimitive primitives.Integer v = IsWholeWithin w32 v
IsOfPrimitive primitives.Long v = IsWholeWithin w64 v
IsOfPrimitive primitives.Str v = IsSome (text_in v)
IsOfPrimitive primitives.Time v = IsTextThat IsTime v

-- The value of an entry of an enumeration, and of one of several.
abbrev pub EqualsEnumValue : EnumValue → Json → Type 0
EqualsEnumValue (values.Number z) v = IsSomeAnd (number_in v) (λ n. IsWhole n z)
EqualsEnumValue (values.Word bytes) v = text_in v ≡ Some bytes

abbrev pub IsAnyOf : List EnumEntry → Json → Type 0
IsAnyOf [] v = ⊥
IsAnyOf (e ∷ es) v = EqualsEnumValue e.value v ⊎ IsAnyOf es v

-- The value is of the schema, as far as it shows without its elements and members. Null is of none.
abbrev pub IsOf : Option SchemaTerm → Json → Type 0
IsOf None v = ⊥
IsOf (Some (primitive p)) v = IsOfPrimitive p v
IsOf (Some (named id)) v = ⊥
IsOf (Some (array_of c s)) v = IsTrue (is_array v)
IsOf (Some (enumeration c of_text es)) v = IsAnyOf es v
IsOf (Some (map_of c key value)) v = IsTrue (is_object v)
IsOf (Some (object_of c fields)) v = IsTrue (is_object v)

-- ---- whole values
-- The value fits the schema, if it has one: it is of the schema that stands for it, the elements of an array fit the
-- array's, the members of a map fit the map's, and those of an object fit the fields that they name.
abbrev mutual
  pub FitsAny : List SchemaTerm → Option SchemaTerm → Json → Type 0
  FitsAny ns None v = ⊥
  FitsAny ns (Some s) null = IsOf (standing ns s) null
  FitsAny ns (Some s) (truth b) = IsOf (standing ns s) (truth b)
  FitsAny ns (Some s) (number n) = IsOf (standing ns s) (number n)
  FitsAny ns (Some s) (text bytes) = IsOf (standing ns s) (text bytes)
  FitsAny ns (Some s) (array vs) = IsOf (standing ns s) (array vs) × ElementsFit ns (element_schema (standing ns s)) vs
  FitsAny ns (Some s) (object ms) = IsOf (standing ns s) (object ms) × MembersFit ns (member_schema (standing ns s)) ms

  pub ElementsFit : List SchemaTerm → Option SchemaTerm → Elements Number → Type 0
  ElementsFit ns s no_elements = Unit {0}
  ElementsFit ns s (element v vs) = FitsAny ns s v × ElementsFit ns s vs

  pub MembersFit : List SchemaTerm → (List ℕ → Option SchemaTerm) → Members Number → Type 0
  MembersFit ns schemas no_members = Unit {0}
  MembersFit ns schemas (member key v ms) = FitsAny ns (schemas key) v × MembersFit ns schemas ms

-- The value fits the schema, whose references name schemas of the list.
abbrev pub Fits : Json → SchemaTerm → List SchemaTerm → Type 0
Fits v s ns = FitsAny ns (Some s) v
