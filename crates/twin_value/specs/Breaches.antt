-- The breaches of a body, and the first of them.
use Rattle.std.specs.Prelude.{◌≡◌, ℕ, suc, ◌<◌, ◌≤◌, ◌⊎◌, ◌||◌, ◌==◌, Bool, false, List, [], ◌∷◌, length, Some, None, Option, map, codes, IsTrue, bytes_eq, if◌then◌else◌}
use Rattle.std.specs.List.{AllPass}
use Rattle.std.specs.Option.{IsSomeAnd, option_map, option_and_then}
use Rattle.std.specs.Char.{is_ascii_alphanumeric}
use Rattle.json_decimal.specs.Number.{Number}
use Rattle.json_tree.specs.Values.{Json, null, truth, number, text, array, object, Members, no_members, member}
use Rattle.json_tree.specs.Places.{IsBefore, element_at, member_at}
use Rattle.json_tree.specs.Members.{text_in, value_in, members_in}
use Rattle.dt_base.specs.names.Grammar.{Identifier, NameText, HasDtmiForm, is_reserved}
use Rattle.dtdl_terms.specs.Terms.{ContentTerms, no_contents}
use Rattle.dtdl_terms.specs.TermViews.{schema_term, kind_term}
use Rattle.dtdl_terms.specs.declared.schema.Schema.{Schema}
use Rattle.dtdl_terms.specs.declared.resolved.Resolved.{Resolved}
use Rattle.dtdl_terms.specs.declared.resolved.ResolvedContent.{ResolvedContent}
use Rattle.twin_value.specs.Codes.{code_number}
use Rattle.twin_value.specs.Named.{content_called, is_link, properties_of}
use Rattle.twin_value.specs.Fits.{is_object, IsOf}
use Rattle.twin_value.specs.Roles.{Library, Role, undeclared, any_text, any_object, model_id, target_id, link_name, twin_metadata, twin_body, part_body, link_body, value, body_member_role, element_role, value_of}
use Rattle.twin_value.specs.declared.code.BodyCode.{BodyCode}
use Rattle.twin_value.specs.declared.code.BodyCode.TheVariants as code
use Rattle.twin_value.specs.declared.end.BodyEnd.{BodyEnd}
use Rattle.twin_value.specs.declared.end.BodyEnd.TheVariants as ends

-- ---- identifiers
-- An identifier of an interface: a DTMI that is not reserved, of at most 128 bytes.
abbrev pub IsModelId : List ℕ → Type 0
IsModelId bytes = ((id : Identifier) × HasDtmiForm bytes id) × (is_reserved bytes ≡ false) × (length bytes ≤ 128)

-- A letter, a digit or one of `-._~:@`.
abbrev pub is_id_byte : ℕ → Bool
is_id_byte b = is_ascii_alphanumeric b || ((b == 45) || ((b == 46) || ((b == 95) || ((b == 126) || ((b == 58) || (b == 64))))))

-- An identifier of a twin or a relationship: 1 to 128 such bytes.
pub record IsTwinId (bytes : List ℕ) : Type 0 where
  pub some : 1 ≤ length bytes
  pub few : length bytes ≤ 128
  pub each : AllPass is_id_byte bytes

-- ---- what a value in a role breaks
-- It is no object, or no text.
abbrev pub WrongBodyKind : Role → Json → Type 0
WrongBodyKind any_text v = text_in v ≡ None
WrongBodyKind any_object v = is_object v ≡ false
WrongBodyKind model_id v = text_in v ≡ None
WrongBodyKind target_id v = text_in v ≡ None
WrongBodyKind link_name v = text_in v ≡ None
WrongBodyKind twin_metadata v = is_object v ≡ false
WrongBodyKind (twin_body l cs) v = is_object v ≡ false
WrongBodyKind (part_body l cs) v = is_object v ≡ false
WrongBodyKind (link_body l from ps) v = is_object v ≡ false
WrongBodyKind other v = ⊥

-- It is an object that lacks a key.
abbrev pub Lacks : List ℕ → Json → Type 0
Lacks key v = IsTrue (is_object v) × (value_in key v ≡ None)

abbrev pub MissingBodyKey : Role → Json → Type 0
MissingBodyKey twin_metadata v = Lacks (codes "$model") v
MissingBodyKey (twin_body l cs) v = Lacks (codes "$metadata") v
MissingBodyKey (link_body l from ps) v = Lacks (codes "$targetId") v ⊎ Lacks (codes "$relationshipName") v
MissingBodyKey other v = ⊥

-- It is a text of another form.
abbrev pub BadBodyId : Role → Json → Type 0
BadBodyId model_id v = IsSomeAnd (text_in v) (λ bytes. IsModelId bytes → ⊥)
BadBodyId target_id v = IsSomeAnd (text_in v) (λ bytes. IsTwinId bytes → ⊥)
BadBodyId link_name v = IsSomeAnd (text_in v) (λ bytes. NameText bytes → ⊥)
BadBodyId other v = ⊥

-- Nothing declares it.
abbrev pub UnknownMember : Role → Json → Type 0
UnknownMember undeclared v = Unit {0}
UnknownMember other v = ⊥

-- It is not of its schema, as far as it shows without its parts.
abbrev pub BadValue : Role → Json → Type 0
BadValue (value ns s) v = IsOf s v → ⊥
BadValue other v = ⊥

abbrev pub BreaksBody : BodyCode → Role → Json → Type 0
BreaksBody code.WrongKind r v = WrongBodyKind r v
BreaksBody code.MissingKey r v = MissingBodyKey r v
BreaksBody code.BadId r v = BadBodyId r v
BreaksBody code.UnknownMember r v = UnknownMember r v
BreaksBody code.BadValue r v = BadValue r v
BreaksBody code.UnknownRelationship r v = ⊥

-- ---- breaches
-- The value in a role has this part, which has a role of its own.
abbrev pub HasBodyPart : Role → Json → ℕ → Role → Json → Type 0
HasBodyPart r null i s part = ⊥
HasBodyPart r (truth b) i s part = ⊥
HasBodyPart r (number n) i s part = ⊥
HasBodyPart r (text bytes) i s part = ⊥
HasBodyPart r (array vs) i s part = (element_at vs i ≡ Some part) × (element_role r ≡ s)
HasBodyPart r (object ms) i s part = (key : List ℕ) × (member_at ms i ≡ Some (key, part)) × (body_member_role r key ≡ s)

-- A code stands at a place of the value in a role.
abbrev pub IsBodyBreach : Role → Json → List ℕ → BodyCode → Type 0
IsBodyBreach r v [] broken = BreaksBody broken r v
IsBodyBreach r v (i ∷ place) broken = (s : Role) × (part : Json) × HasBodyPart r v i s part × IsBodyBreach s part place broken

-- The first in the order of places, and at one place in the order of codes.
abbrev pub BodyBreachComesBefore : List ℕ → BodyCode → List ℕ → BodyCode → Type 0
BodyBreachComesBefore place broken other another = IsBefore place other ⊎ ((place ≡ other) × (code_number broken < code_number another))

pub record IsFirstBodyBreach (Broken : List ℕ → BodyCode → Type 0) (place : List ℕ) (broken : BodyCode) : Type 0 where
  pub breach : Broken place broken
  pub least : (other : List ℕ) (another : BodyCode) → BodyBreachComesBefore other another place broken → Broken other another → ⊥

-- ---- values
-- A breach of a value of a schema, whose references name schemas of the list.
abbrev pub IsValueBreach : List Schema → Schema → Json → List ℕ → BodyCode → Type 0
IsValueBreach named schema v = IsBodyBreach (value_of (map schema_term named) (schema_term schema)) v

-- ---- twins and relationships
abbrev pub library_of : Resolved → Library
library_of r = record { named = r.named; parts = r.parts }

-- The role of the body of a twin of the model.
abbrev pub twin_role_of : Resolved → Role
twin_role_of r = twin_body (library_of r) r.contents

-- A breach of the body of a twin of the model.
abbrev pub IsTwinBreach : Resolved → Json → List ℕ → BodyCode → Type 0
IsTwinBreach r v = IsBodyBreach (twin_role_of r) v

-- The text that an object has under a key.
abbrev pub text_under : List ℕ → Json → Option (List ℕ)
text_under key v = option_and_then text_in (value_in key v)

-- The relationship of this name, which is a content that is a relationship.
abbrev pub as_link : Option ResolvedContent → Option ResolvedContent
as_link None = None
as_link (Some c) = if is_link (kind_term c.content.kind) then Some c else None

abbrev pub link_called : List ℕ → List ResolvedContent → Option ResolvedContent
link_called name cs = as_link (content_called name cs)

-- The relationship that a body names.
abbrev pub named_link : List ResolvedContent → Json → Option ResolvedContent
named_link cs v = option_and_then (λ name. link_called name cs) (text_under (codes "$relationshipName") v)

-- The interface that declares a relationship, and its properties.
abbrev pub link_source : Option ResolvedContent → Option Identifier
link_source c = option_map (λ (r : ResolvedContent). r.from) c

abbrev pub link_properties : Option ResolvedContent → ContentTerms
link_properties None = no_contents
link_properties (Some c) = properties_of (kind_term c.content.kind)

-- The role of the body of a relationship out of a twin of the model.
abbrev pub body_role : Library → Option ResolvedContent → Role
body_role l link = link_body l (link_source link) (link_properties link)

abbrev pub link_role_of : Resolved → Json → Role
link_role_of r v = body_role (library_of r) (named_link r.contents v)

-- The body names a relationship that the model does not declare.
abbrev pub NamesNone : Resolved → Json → Type 0
NamesNone r v = IsSomeAnd (text_under (codes "$relationshipName") v) (λ name. NameText name × (link_called name r.contents ≡ None))

-- The position of the first member with this key.
abbrev pub key_position : List ℕ → Members Number → ℕ
key_position key no_members = 0
key_position key (member k v ms) = if bytes_eq k key then 0 else suc (key_position key ms)

-- A breach of the body of a relationship out of a twin of the model. Where the model does not declare the relationship,
-- that is the only one.
abbrev pub IsLinkBreach : Resolved → Json → List ℕ → BodyCode → Type 0
IsLinkBreach r v place broken =
    (NamesNone r v × (place ≡ key_position (codes "$relationshipName") (members_in v) ∷ []) × (broken ≡ code.UnknownRelationship))
    ⊎ ((NamesNone r v → ⊥) × IsBodyBreach (link_role_of r v) v place broken)

-- ---- bodies without their models
-- What the bodies of twins and of relationships refer to where nothing is declared.
abbrev pub no_library : Library
no_library = record { named = []; parts = [] }

-- A breach of what the body of a twin of any model has: `$metadata` with an identifier as `$model`.
abbrev pub IsOuterBreach : Json → List ℕ → BodyCode → Type 0
IsOuterBreach v place broken = IsBodyBreach (twin_body no_library []) v place broken × (code_number broken ≤ 3)

-- A breach of what the body of any relationship has: the id of its target, and a name.
abbrev pub IsOuterLinkBreach : Json → List ℕ → BodyCode → Type 0
IsOuterLinkBreach v place broken = IsBodyBreach (link_body no_library None no_contents) v place broken × (code_number broken ≤ 3)

-- ---- answers
-- Nothing is broken.
abbrev pub HasNoBreach : (List ℕ → BodyCode → Type 0) → Type 0
HasNoBreach Broken = (place : List ℕ) (broken : BodyCode) → Broken place broken → ⊥

-- Why a body was not read: its first breach, or want of memory.
abbrev pub EndsBy : (List ℕ → BodyCode → Type 0) → BodyEnd → Type 0
EndsBy Broken (ends.Fault place broken) = IsFirstBodyBreach Broken place.steps broken
EndsBy Broken ends.OutOfMemory = Unit {0}
