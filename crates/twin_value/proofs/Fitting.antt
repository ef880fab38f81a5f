-- Values without breach fit their schemas, and values that fit have no breach.
use Rattle.std.proofs.Common.{◌≡◌, ℕ, zero, suc, ◌⊎◌, inl, inr, List, [], ◌∷◌, ◌++◌, true, false, Option, Some, None, refl, sym, subst, ◌∙◌}
use Rattle.json_decimal.specs.Number.{Number}
use Rattle.json_tree.specs.Values.{Json, null, truth, number, text, array, object, Elements, no_elements, element, Members, no_members, member}
use Rattle.json_tree.specs.View.{view, elements_view, members_view}
use Rattle.json_tree.specs.Places.{element_at, member_at}
use Rattle.json_tree.specs.declared.tree.Tree.{Tree}
use Rattle.json_tree.specs.declared.tree.Member.{Member}
use Rattle.dtdl_terms.specs.Terms.{SchemaTerm, primitive, named, array_of, enumeration, map_of, object_of, PayloadTerm, PayloadTerms}
use Rattle.dtdl_terms.specs.declared.primitive.Primitive.{Primitive}
use Rattle.dtdl_terms.specs.declared.primitive.Primitive.TheVariants as primitives
use Rattle.dtdl_terms.specs.declared.enumeration.EnumEntry.{EnumEntry}
use Rattle.dtdl_terms.specs.declared.enumeration.EnumValue.{EnumValue}
use Rattle.dtdl_terms.specs.declared.enumeration.EnumValue.TheVariants as values
use Rattle.twin_value.specs.Named.{field_called}
use Rattle.twin_value.specs.Fits.{standing, IsOf, IsOfPrimitive, EqualsEnumValue, IsAnyOf, element_schema, member_schema, field_schema, schema_of, FitsAny, ElementsFit, MembersFit}
use Rattle.twin_value.specs.Roles.{Role, anything, undeclared, value, value_of, field_role, element_role, body_member_role, value_element_role, value_member_role}
use Rattle.twin_value.specs.Breaches.{BreaksBody, HasBodyPart, IsBodyBreach}
use Rattle.twin_value.specs.Machinery.Sound.{StandingFits, Sound, SoundAlone, ElementsSound, MembersSound}
use Rattle.twin_value.specs.declared.code.BodyCode.{BodyCode}
use Rattle.twin_value.specs.declared.code.BodyCode.TheVariants as code

-- ---- without breach
pub any_fits : (ns : List SchemaTerm) (s : SchemaTerm) (v : Json) → StandingFits ns (standing ns s) v → FitsAny ns (Some s) v
any_fits ns s null h = h
any_fits ns s (truth b) h = h
any_fits ns s (number n) h = h
any_fits ns s (text bytes) h = h
any_fits ns s (array vs) h = h
any_fits ns s (object ms) h = h

primitive_array : (p : Primitive) (vs : Elements Number) → IsOfPrimitive p (array vs) → ⊥
primitive_array primitives.Boolean vs h = let e : false ≡ true = h in cc
primitive_array primitives.Date vs h = h
primitive_array primitives.DateTime vs h = h
primitive_array primitives.Double vs h = let e : false ≡ true = h in cc
primitive_array primitives.Duration vs h = h
primitive_array primitives.Float vs h = let e : false ≡ true = h in cc
primitive_array primitives.Integer vs h = h
primitive_array primitives.Long vs h = h
primitive_array primitives.Str vs h = let e : false ≡ true = h in cc
primitive_array primitives.Time vs h = h

primitive_object : (p : Primitive) (ms : Members Number) → IsOfPrimitive p (object ms) → ⊥
primitive_object primitives.Boolean ms h = let e : false ≡ true = h in cc
primitive_object primitives.Date ms h = h
primitive_object primitives.DateTime ms h = h
primitive_object primitives.Double ms h = let e : false ≡ true = h in cc
primitive_object primitives.Duration ms h = h
primitive_object primitives.Float ms h = let e : false ≡ true = h in cc
primitive_object primitives.Integer ms h = h
primitive_object primitives.Long ms h = h
primitive_object primitives.Str ms h = let e : false ≡ true = h in cc
primitive_object primitives.Time ms h = h

enum_array : (e : EnumValue) (vs : Elements Number) → EqualsEnumValue e (array vs) → ⊥
enum_array (values.Number z) vs h = h
enum_array (values.Word bytes) vs h = let e : None ≡ Some bytes = h in cc

any_array : (es : List EnumEntry) (vs : Elements Number) → IsAnyOf es (array vs) → ⊥
any_array [] vs h = h
any_array (e ∷ es) vs (inl h) = enum_array e.value vs h
any_array (e ∷ es) vs (inr h) = any_array es vs h

enum_object : (e : EnumValue) (ms : Members Number) → EqualsEnumValue e (object ms) → ⊥
enum_object (values.Number z) ms h = h
enum_object (values.Word bytes) ms h = let e : None ≡ Some bytes = h in cc

any_object : (es : List EnumEntry) (ms : Members Number) → IsAnyOf es (object ms) → ⊥
any_object [] ms h = h
any_object (e ∷ es) ms (inl h) = enum_object e.value ms h
any_object (e ∷ es) ms (inr h) = any_object es ms h

elements_fit : (ns : List SchemaTerm) (s : SchemaTerm) (vs : Elements Number) → ElementsSound (value_of ns s) vs → ElementsFit ns (Some s) vs
elements_fit ns s no_elements h = tt
elements_fit ns s (element v vs) h = (any_fits ns s v h.0, elements_fit ns s vs h.1)

array_fits : (ns : List SchemaTerm) (o : Option SchemaTerm) (vs : Elements Number) → IsOf o (array vs) → ElementsSound (value_element_role ns o) vs → ElementsFit ns (element_schema o) vs
array_fits ns None vs is h = absurd is
array_fits ns (Some (primitive p)) vs is h = absurd (primitive_array p vs is)
array_fits ns (Some (named id)) vs is h = absurd is
array_fits ns (Some (array_of c s)) vs is h = elements_fit ns s vs h
array_fits ns (Some (enumeration c of_text es)) vs is h = absurd (any_array es vs is)
array_fits ns (Some (map_of c k v)) vs is h = absurd (let e : false ≡ true = is in cc)
array_fits ns (Some (object_of c fields)) vs is h = absurd (let e : false ≡ true = is in cc)

pub array_sound : (r : Role) (vs : Elements Number) → SoundAlone r (array vs) → ElementsSound (element_role r) vs → Sound r (array vs)
array_sound (value ns o) vs is h = (is, array_fits ns o vs is h)
array_sound undeclared vs is h = is
array_sound other vs is h = tt

map_fits : (ns : List SchemaTerm) (s : SchemaTerm) (ms : Members Number) → MembersSound (λ key. value_of ns s) ms → MembersFit ns (λ key. Some s) ms
map_fits ns s no_members h = tt
map_fits ns s (member key v ms) h = (any_fits ns s v h.0, map_fits ns s ms h.1)

field_fits : (ns : List SchemaTerm) (f : Option PayloadTerm) (v : Json) → Sound (field_role ns f) v → FitsAny ns (field_schema f) v
field_fits ns None v h = absurd h
field_fits ns (Some p) v h = any_fits ns (schema_of p) v h

fields_fit : (ns : List SchemaTerm) (fields : PayloadTerms) (ms : Members Number) → MembersSound (λ key. field_role ns (field_called key fields)) ms
    → MembersFit ns (λ key. field_schema (field_called key fields)) ms
fields_fit ns fields no_members h = tt
fields_fit ns fields (member key v ms) h = (field_fits ns (field_called key fields) v h.0, fields_fit ns fields ms h.1)

object_fits : (ns : List SchemaTerm) (o : Option SchemaTerm) (ms : Members Number) → IsOf o (object ms) → MembersSound (value_member_role ns o) ms → MembersFit ns (member_schema o) ms
object_fits ns None ms is h = absurd is
object_fits ns (Some (primitive p)) ms is h = absurd (primitive_object p ms is)
object_fits ns (Some (named id)) ms is h = absurd is
object_fits ns (Some (array_of c s)) ms is h = absurd (let e : false ≡ true = is in cc)
object_fits ns (Some (enumeration c of_text es)) ms is h = absurd (any_object es ms is)
object_fits ns (Some (map_of c k v)) ms is h = map_fits ns (schema_of v) ms h
object_fits ns (Some (object_of c fields)) ms is h = fields_fit ns fields ms h

pub object_sound : (r : Role) (ms : Members Number) → SoundAlone r (object ms) → MembersSound (body_member_role r) ms → Sound r (object ms)
object_sound (value ns o) ms is h = (is, object_fits ns o ms is h)
object_sound undeclared ms is h = is
object_sound other ms is h = tt

-- one part more
pub elements_more : (r : Role) (ts : List Tree) (t : Tree) → ElementsSound r (elements_view ts) → Sound r (view t) → ElementsSound r (elements_view (ts ++ t ∷ []))
elements_more r [] t h k = (k, tt)
elements_more r (u ∷ ts) t h k = (h.0, elements_more r ts t h.1 k)

pub members_more : (roles : List ℕ → Role) (ms : List Member) (m : Member) → MembersSound roles (members_view ms) → Sound (roles m.key) (view m.value) → MembersSound roles (members_view (ms ++ m ∷ []))
members_more roles [] m h k = (k, tt)
members_more roles (n ∷ ms) m h k = (h.0, members_more roles ms m h.1 k)

-- ---- values that fit
free_part : (v : Json) (i : ℕ) (s : Role) (part : Json) → HasBodyPart anything v i s part → s ≡ anything
free_part null i s part p = absurd p
free_part (truth b) i s part p = absurd p
free_part (number n) i s part p = absurd p
free_part (text bytes) i s part p = absurd p
free_part (array vs) i s part p = sym p.1
free_part (object ms) i s part p = sym p.2

free_clear : (v : Json) (place : List ℕ) (broken : BodyCode) → IsBodyBreach anything v place broken → ⊥
free_clear v [] code.WrongKind b = b
free_clear v [] code.MissingKey b = b
free_clear v [] code.BadId b = b
free_clear v [] code.UnknownMember b = b
free_clear v [] code.BadValue b = b
free_clear v [] code.UnknownRelationship b = b
free_clear v (i ∷ place) broken b =
    free_clear b.1 place broken (subst (λ (r : Role). IsBodyBreach r b.1 place broken) (free_part v i b.0 b.1 b.2) b.3)

alone_fits : (ns : List SchemaTerm) (s : SchemaTerm) (v : Json) → FitsAny ns (Some s) v → IsOf (standing ns s) v
alone_fits ns s null h = h
alone_fits ns s (truth b) h = h
alone_fits ns s (number n) h = h
alone_fits ns s (text bytes) h = h
alone_fits ns s (array vs) h = h.0
alone_fits ns s (object ms) h = h.0

here_clear : (ns : List SchemaTerm) (o : Option SchemaTerm) (v : Json) (broken : BodyCode) → IsOf o v → BreaksBody broken (value ns o) v → ⊥
here_clear ns o v code.WrongKind is b = b
here_clear ns o v code.MissingKey is b = b
here_clear ns o v code.BadId is b = b
here_clear ns o v code.UnknownMember is b = b
here_clear ns o v code.BadValue is b = b is
here_clear ns o v code.UnknownRelationship is b = b

-- the part at a position
element_fits : (ns : List SchemaTerm) (o : Option SchemaTerm) (vs : Elements Number) (i : ℕ) (part : Json) → ElementsFit ns o vs → element_at vs i ≡ Some part → FitsAny ns o part
element_fits ns o no_elements i part h e = absurd cc
element_fits ns o (element v vs) zero part h e = let f : Some v ≡ Some part = e in let g : v ≡ part = cc in subst (λ (w : Json). FitsAny ns o w) g h.0
element_fits ns o (element v vs) (suc i) part h e = element_fits ns o vs i part h.1 e

member_fits : (ns : List SchemaTerm) (schemas : List ℕ → Option SchemaTerm) (ms : Members Number) (i : ℕ) (key : List ℕ) (part : Json) → MembersFit ns schemas ms → member_at ms i ≡ Some (key, part)
    → FitsAny ns (schemas key) part
member_fits ns schemas no_members i key part h e = absurd cc
member_fits ns schemas (member k v ms) zero key part h e =
    let pair : (k, v) ≡ (key, part) = cc in
    subst (λ (m : List ℕ × Json). FitsAny ns (schemas m.0) m.1) pair h.0
member_fits ns schemas (member k v ms) (suc i) key part h e = member_fits ns schemas ms i key part h.1 e

-- a part that fits has its schema's role, or one that is judged no further
array_part : (ns : List SchemaTerm) (o : Option SchemaTerm) → ((s : SchemaTerm) × (element_schema o ≡ Some s) × (value_element_role ns o ≡ value_of ns s)) ⊎ (value_element_role ns o ≡ anything)
array_part ns None = inr refl
array_part ns (Some (primitive p)) = inr refl
array_part ns (Some (named id)) = inr refl
array_part ns (Some (array_of c s)) = inl (s, refl, refl)
array_part ns (Some (enumeration c of_text es)) = inr refl
array_part ns (Some (map_of c k v)) = inr refl
array_part ns (Some (object_of c fields)) = inr refl

field_part : (ns : List SchemaTerm) (f : Option PayloadTerm) (v : Json) → FitsAny ns (field_schema f) v → (s : SchemaTerm) × (field_schema f ≡ Some s) × (field_role ns f ≡ value_of ns s)
field_part ns None v h = absurd h
field_part ns (Some p) v h = (schema_of p, refl, refl)

object_part : (ns : List SchemaTerm) (o : Option SchemaTerm) (key : List ℕ) (v : Json) → FitsAny ns (member_schema o key) v
    → ((s : SchemaTerm) × (member_schema o key ≡ Some s) × (value_member_role ns o key ≡ value_of ns s)) ⊎ (value_member_role ns o key ≡ anything)
object_part ns None key v h = inr refl
object_part ns (Some (primitive p)) key v h = inr refl
object_part ns (Some (named id)) key v h = inr refl
object_part ns (Some (array_of c s)) key v h = inr refl
object_part ns (Some (enumeration c of_text es)) key v h = inr refl
object_part ns (Some (map_of c k w)) key v h = inl (schema_of w, refl, refl)
object_part ns (Some (object_of c fields)) key v h = inl (field_part ns (field_called key fields) v h)

along : (ns : List SchemaTerm) (o : Option SchemaTerm) (r t : Role) → r ≡ t → ((s : SchemaTerm) × (o ≡ Some s) × (t ≡ value_of ns s)) ⊎ (t ≡ anything)
    → ((s : SchemaTerm) × (o ≡ Some s) × (r ≡ value_of ns s)) ⊎ (r ≡ anything)
along ns o r t e (inl (s, f, g)) = inl (s, f, e ∙ g)
along ns o r t e (inr f) = inr (e ∙ f)

part_clear : (place : List ℕ) (broken : BodyCode) (ns : List SchemaTerm) (o : Option SchemaTerm) (r : Role) (part : Json) → FitsAny ns o part
    → ((s : SchemaTerm) × (o ≡ Some s) × (r ≡ value_of ns s)) ⊎ (r ≡ anything)
    → ((s : SchemaTerm) (v : Json) → FitsAny ns (Some s) v → IsBodyBreach (value_of ns s) v place broken → ⊥) → IsBodyBreach r part place broken → ⊥
part_clear place broken ns o r part fit (inl (s, e, f)) hyp b =
    hyp s part (subst (λ (p : Option SchemaTerm). FitsAny ns p part) e fit) (subst (λ (q : Role). IsBodyBreach q part place broken) f b)
part_clear place broken ns o r part fit (inr f) hyp b = free_clear part place broken (subst (λ (q : Role). IsBodyBreach q part place broken) f b)

pub fits_clear : (place : List ℕ) (broken : BodyCode) (ns : List SchemaTerm) (s : SchemaTerm) (v : Json) → FitsAny ns (Some s) v → IsBodyBreach (value_of ns s) v place broken → ⊥
fits_clear [] broken ns s v h b = here_clear ns (standing ns s) v broken (alone_fits ns s v h) b
fits_clear (i ∷ place) broken ns s null h b = b.2
fits_clear (i ∷ place) broken ns s (truth t) h b = b.2
fits_clear (i ∷ place) broken ns s (number n) h b = b.2
fits_clear (i ∷ place) broken ns s (text bytes) h b = b.2
fits_clear (i ∷ place) broken ns s (array vs) h b =
    part_clear place broken ns (element_schema (standing ns s)) b.0 b.1 (element_fits ns (element_schema (standing ns s)) vs i b.1 h.1 b.2.0)
    (along ns (element_schema (standing ns s)) b.0 (value_element_role ns (standing ns s)) (sym b.2.1) (array_part ns (standing ns s)))
    (λ t w. fits_clear place broken ns t w) b.3
fits_clear (i ∷ place) broken ns s (object ms) h b =
    let fit = member_fits ns (member_schema (standing ns s)) ms i b.2.0 b.1 h.1 b.2.1 in
    part_clear place broken ns (member_schema (standing ns s) b.2.0) b.0 b.1 fit
    (along ns (member_schema (standing ns s) b.2.0) b.0 (value_member_role ns (standing ns s) b.2.0) (sym b.2.2) (object_part ns (standing ns s) b.2.0 b.1 fit))
    (λ t w. fits_clear place broken ns t w) b.3
