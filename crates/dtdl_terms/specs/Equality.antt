-- When two interfaces declare the same. A declaration forgets order: localized texts are maps from language to text,
-- fields, enum entries and contents are maps by name, named schemas are a map by identifier, and parents are a set. So
-- the lists of two records with declarations declare the same where each element of either has its equal in the other.
use Rattle.std.specs.Prelude.{◌≡◌, ◌⊎◌, List, [], ◌∷◌, map, Option, Some, None}
use Rattle.std.specs.List.{AllByRecursion}
use Rattle.dtdl_terms.specs.Terms.{SchemaTerm, primitive, named, array_of, enumeration, map_of, object_of, PayloadTerm, payload, PayloadTerms, no_payloads, more_payloads, ContentTerm, content, KindTerm, telemetry, property, command, relationship, component, ContentTerms, no_contents, more_contents}
use Rattle.dtdl_terms.specs.TermViews.{schema_term, content_term}
use Rattle.dtdl_terms.specs.declared.common.Common.{Common}
use Rattle.dtdl_terms.specs.declared.common.Localized.{Localized}
use Rattle.dtdl_terms.specs.declared.enumeration.EnumEntry.{EnumEntry}
use Rattle.dtdl_terms.specs.declared.interface.Interface.{Interface}

-- It holds of some element.
abbrev pub AnyByRecursion : {A : Type 0} → (A → Type 0) → List A → Type 0
AnyByRecursion P [] = ⊥
AnyByRecursion P (x ∷ xs) = P x ⊎ AnyByRecursion P xs

-- Each element of either list has its equal in the other.
pub record SameElements {A : Type 0} (Same : A → A → Type 0) (xs ys : List A) : Type 0 where
  pub each : AllByRecursion (λ x. AnyByRecursion (λ y. Same x y) ys) xs
  pub other : AllByRecursion (λ y. AnyByRecursion (λ x. Same x y) xs) ys

abbrev pub SameLocalized : Localized → Localized → Type 0
SameLocalized l m = SameElements (λ e f. e ≡ f) l.entries m.entries

pub record SameCommon (c d : Common) : Type 0 where
  pub id : c.id ≡ d.id
  pub comment : c.comment ≡ d.comment
  pub description : SameLocalized c.description d.description
  pub display_name : SameLocalized c.display_name d.display_name

pub record SameEnumEntry (e f : EnumEntry) : Type 0 where
  pub name : e.name ≡ f.name
  pub common : SameCommon e.common f.common
  pub value : e.value ≡ f.value

-- ---- schemas
abbrev pub payload_list : PayloadTerms → List PayloadTerm
payload_list no_payloads = []
payload_list (more_payloads p ps) = p ∷ payload_list ps

abbrev mutual
  pub SameSchema : SchemaTerm → SchemaTerm → Type 0
  SameSchema (primitive p) (primitive q) = p ≡ q
  SameSchema (primitive p) other = ⊥
  SameSchema (named id) (named another) = id ≡ another
  SameSchema (named id) other = ⊥
  SameSchema (array_of c s) (array_of d t) = SameCommon c d × SameSchema s t
  SameSchema (array_of c s) other = ⊥
  SameSchema (enumeration c of_text es) (enumeration d of_texts fs) = SameCommon c d × (of_text ≡ of_texts) × SameElements SameEnumEntry es fs
  SameSchema (enumeration c of_text es) other = ⊥
  SameSchema (map_of c key value) (map_of d keys values) = SameCommon c d × SamePayload key keys × SamePayload value values
  SameSchema (map_of c key value) other = ⊥
  SameSchema (object_of c ps) (object_of d qs) = SameCommon c d × EachPayloadIn ps (payload_list qs) × AllByRecursion (IsPayloadOf ps) (payload_list qs)
  SameSchema (object_of c ps) other = ⊥

  pub SamePayload : PayloadTerm → PayloadTerm → Type 0
  SamePayload (payload n c s) (payload m d t) = (n ≡ m) × SameCommon c d × SameSchema s t

  -- each payload has its equal in the list
  pub EachPayloadIn : PayloadTerms → List PayloadTerm → Type 0
  EachPayloadIn no_payloads qs = Unit {0}
  EachPayloadIn (more_payloads p ps) qs = AnyByRecursion (SamePayload p) qs × EachPayloadIn ps qs

  -- one of the payloads is the equal of this one
  pub IsPayloadOf : PayloadTerms → PayloadTerm → Type 0
  IsPayloadOf no_payloads q = ⊥
  IsPayloadOf (more_payloads p ps) q = SamePayload p q ⊎ IsPayloadOf ps q

abbrev pub SameOptionalPayload : Option PayloadTerm → Option PayloadTerm → Type 0
SameOptionalPayload None None = Unit {0}
SameOptionalPayload None (Some q) = ⊥
SameOptionalPayload (Some p) None = ⊥
SameOptionalPayload (Some p) (Some q) = SamePayload p q

-- ---- contents
abbrev pub content_list : ContentTerms → List ContentTerm
content_list no_contents = []
content_list (more_contents c cs) = c ∷ content_list cs

abbrev mutual
  pub SameKind : KindTerm → KindTerm → Type 0
  SameKind (telemetry s semantic unit) (telemetry t semantics units) = SameSchema s t × (semantic ≡ semantics) × (unit ≡ units)
  SameKind (telemetry s semantic unit) other = ⊥
  SameKind (property s semantic unit writable) (property t semantics units writables) =
      SameSchema s t × (semantic ≡ semantics) × (unit ≡ units) × (writable ≡ writables)
  SameKind (property s semantic unit writable) other = ⊥
  SameKind (command request response) (command requests responses) = SameOptionalPayload request requests × SameOptionalPayload response responses
  SameKind (command request response) other = ⊥
  SameKind (relationship target cs most writable) (relationship targets ds mosts writables) = (target ≡ targets)
      × EachContentIn cs (content_list ds) × AllByRecursion (IsContentOf cs) (content_list ds) × (most ≡ mosts) × (writable ≡ writables)
  SameKind (relationship target cs most writable) other = ⊥
  SameKind (component of) (component another) = of ≡ another
  SameKind (component of) other = ⊥

  pub SameContent : ContentTerm → ContentTerm → Type 0
  SameContent (content n c k) (content m d l) = (n ≡ m) × SameCommon c d × SameKind k l

  -- each content has its equal in the list
  pub EachContentIn : ContentTerms → List ContentTerm → Type 0
  EachContentIn no_contents ds = Unit {0}
  EachContentIn (more_contents c cs) ds = AnyByRecursion (SameContent c) ds × EachContentIn cs ds

  -- one of the contents is the equal of this one
  pub IsContentOf : ContentTerms → ContentTerm → Type 0
  IsContentOf no_contents d = ⊥
  IsContentOf (more_contents c cs) d = SameContent c d ⊎ IsContentOf cs d

-- ---- interfaces
pub record DeclareTheSame (i j : Interface) : Type 0 where
  pub id : i.id ≡ j.id
  pub comment : i.comment ≡ j.comment
  pub description : SameLocalized i.description j.description
  pub display_name : SameLocalized i.display_name j.display_name
  pub parents : SameElements (λ id another. id ≡ another) i.parents j.parents
  pub contents : SameElements SameContent (map content_term i.contents) (map content_term j.contents)
  pub schemas : SameElements SameSchema (map schema_term i.schemas) (map schema_term j.schemas)
