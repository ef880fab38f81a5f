-- Sorted values break nothing that the values do not; so do printed twins and relationships, and the bodies of which they were
-- made.
use Rattle.std.proofs.Common.{◌≡◌, ℕ, inl, inr, List, [], ◌∷◌, codes, Option, Some, None, refl, sym, ◌∙◌, subst}
use Rattle.std.specs.Prelude.{IsTrue, IsSome, ℤ, FitsSigned}
use Rattle.std.specs.Int.{w32, w64}
use Rattle.std.specs.Option.{IsSomeAnd, option_map}
use Rattle.json_decimal.specs.Number.{Number}
use Rattle.json_decimal.specs.Comparing.{IsWhole}
use Rattle.json_tree.specs.Values.{Json, null, truth, number, text, array, object, Members}
use Rattle.json_tree.specs.Places.{member_at}
use Rattle.json_tree.specs.Members.{text_in, value_at, value_in}
use Rattle.dt_base.specs.names.Grammar.{NameText}
use Rattle.dtdl_terms.specs.Terms.{SchemaTerm, primitive, named, array_of, enumeration, map_of, object_of}
use Rattle.dtdl_terms.specs.declared.primitive.Primitive.{Primitive}
use Rattle.dtdl_terms.specs.declared.primitive.Primitive.TheVariants as primitives
use Rattle.dtdl_terms.specs.declared.enumeration.EnumEntry.{EnumEntry}
use Rattle.dtdl_terms.specs.declared.enumeration.EnumValue.{EnumValue}
use Rattle.dtdl_terms.specs.declared.enumeration.EnumValue.TheVariants as values
use Rattle.value_texts.specs.Clock.{IsDate, IsTime, IsDateTime}
use Rattle.value_texts.specs.Durations.{IsDuration}
use Rattle.twin_patch.specs.Objects.{sorted_value, sorted_members}
use Rattle.twin_value.specs.Fits.{is_truth, is_array, is_object, number_in, IsOfPrimitive, EqualsEnumValue, IsAnyOf, IsOf}
use Rattle.twin_value.specs.Roles.{Role, undeclared, any_text, any_object, model_id, target_id, link_name, twin_metadata, twin_body, part_body, link_body, value, body_member_role}
use Rattle.twin_value.specs.Breaches.{WrongBodyKind, Lacks, MissingBodyKey, BadBodyId, UnknownMember, BadValue, BreaksBody, HasBodyPart, IsBodyBreach, HasNoBreach, IsModelId, IsTwinId}
use Rattle.twin_value.specs.declared.code.BodyCode.{BodyCode}
use Rattle.twin_value.specs.declared.code.BodyCode.TheVariants as code
use Rattle.graph_steps.proofs.invariants.Members.{value-sorted, found_at, sorted_from, sorted_element}

-- ---- what a value is, sorted
pub text_sorted : (v : Json) → text_in (sorted_value v) ≡ text_in v
text_sorted null = refl
text_sorted other = refl

object_sorted : (v : Json) → is_object (sorted_value v) ≡ is_object v
object_sorted null = refl
object_sorted other = refl

array_sorted : (v : Json) → is_array (sorted_value v) ≡ is_array v
array_sorted null = refl
array_sorted other = refl

truth_sorted : (v : Json) → is_truth (sorted_value v) ≡ is_truth v
truth_sorted null = refl
truth_sorted other = refl

number_sorted : (v : Json) → number_in (sorted_value v) ≡ number_in v
number_sorted null = refl
number_sorted other = refl

pub value_in-sorted : (key : List ℕ) (v : Json) → value_in key (sorted_value v) ≡ option_map sorted_value (value_in key v)
value_in-sorted key null = refl
value_in-sorted key (truth b) = refl
value_in-sorted key (number n) = refl
value_in-sorted key (text bytes) = refl
value_in-sorted key (array vs) = refl
value_in-sorted key (object ms) = value-sorted key ms

none_mapped : (o : Option Json) → option_map sorted_value o ≡ None → o ≡ None
none_mapped None h = refl
none_mapped (Some v) h = absurd cc

-- ---- what a value is of, sorted
primitive_sorted : (p : Primitive) (v : Json) → IsOfPrimitive p v → IsOfPrimitive p (sorted_value v)
primitive_sorted primitives.Boolean v h = subst (λ b. IsTrue b) (sym (truth_sorted v)) h
primitive_sorted primitives.Date v h = subst (λ (o : Option (List ℕ)). IsSomeAnd o IsDate) (sym (text_sorted v)) h
primitive_sorted primitives.DateTime v h = subst (λ (o : Option (List ℕ)). IsSomeAnd o IsDateTime) (sym (text_sorted v)) h
primitive_sorted primitives.Double v h = subst (λ (o : Option Number). IsSome o) (sym (number_sorted v)) h
primitive_sorted primitives.Duration v h = subst (λ (o : Option (List ℕ)). IsSomeAnd o IsDuration) (sym (text_sorted v)) h
primitive_sorted primitives.Float v h = subst (λ (o : Option Number). IsSome o) (sym (number_sorted v)) h
primitive_sorted primitives.Integer v h = subst (λ (o : Option Number). IsSomeAnd o (λ n. (z : ℤ) × IsWhole n z × FitsSigned w32 z)) (sym (number_sorted v)) h
primitive_sorted primitives.Long v h = subst (λ (o : Option Number). IsSomeAnd o (λ n. (z : ℤ) × IsWhole n z × FitsSigned w64 z)) (sym (number_sorted v)) h
primitive_sorted primitives.Str v h = subst (λ (o : Option (List ℕ)). IsSome o) (sym (text_sorted v)) h
primitive_sorted primitives.Time v h = subst (λ (o : Option (List ℕ)). IsSomeAnd o IsTime) (sym (text_sorted v)) h

enum_sorted : (e : EnumValue) (v : Json) → EqualsEnumValue e v → EqualsEnumValue e (sorted_value v)
enum_sorted (values.Number z) v h = subst (λ (o : Option Number). IsSomeAnd o (λ n. IsWhole n z)) (sym (number_sorted v)) h
enum_sorted (values.Word bytes) v h = text_sorted v ∙ h

any_sorted : (es : List EnumEntry) (v : Json) → IsAnyOf es v → IsAnyOf es (sorted_value v)
any_sorted [] v h = h
any_sorted (e ∷ es) v (inl h) = inl (enum_sorted e.value v h)
any_sorted (e ∷ es) v (inr h) = inr (any_sorted es v h)

of_sorted : (s : Option SchemaTerm) (v : Json) → IsOf s v → IsOf s (sorted_value v)
of_sorted None v h = h
of_sorted (Some (primitive p)) v h = primitive_sorted p v h
of_sorted (Some (named id)) v h = h
of_sorted (Some (array_of c s)) v h = subst (λ b. IsTrue b) (sym (array_sorted v)) h
of_sorted (Some (enumeration c of_text es)) v h = any_sorted es v h
of_sorted (Some (map_of c key w)) v h = subst (λ b. IsTrue b) (sym (object_sorted v)) h
of_sorted (Some (object_of c fields)) v h = subst (λ b. IsTrue b) (sym (object_sorted v)) h

-- ---- what a value breaks, sorted
wrong_sorted : (r : Role) (v : Json) → WrongBodyKind r (sorted_value v) → WrongBodyKind r v
wrong_sorted any_text v h = sym (text_sorted v) ∙ h
wrong_sorted any_object v h = sym (object_sorted v) ∙ h
wrong_sorted model_id v h = sym (text_sorted v) ∙ h
wrong_sorted target_id v h = sym (text_sorted v) ∙ h
wrong_sorted link_name v h = sym (text_sorted v) ∙ h
wrong_sorted twin_metadata v h = sym (object_sorted v) ∙ h
wrong_sorted (twin_body l cs) v h = sym (object_sorted v) ∙ h
wrong_sorted (part_body l cs) v h = sym (object_sorted v) ∙ h
wrong_sorted (link_body l from ps) v h = sym (object_sorted v) ∙ h
wrong_sorted other v h = absurd h

lacks_sorted : (key : List ℕ) (v : Json) → Lacks key (sorted_value v) → Lacks key v
lacks_sorted key v h = (subst (λ b. IsTrue b) (object_sorted v) h.0, none_mapped (value_in key v) (sym (value_in-sorted key v) ∙ h.1))

missing_sorted : (r : Role) (v : Json) → MissingBodyKey r (sorted_value v) → MissingBodyKey r v
missing_sorted twin_metadata v h = lacks_sorted (codes "$model") v h
missing_sorted (twin_body l cs) v h = lacks_sorted (codes "$metadata") v h
missing_sorted (link_body l from ps) v (inl h) = inl (lacks_sorted (codes "$targetId") v h)
missing_sorted (link_body l from ps) v (inr h) = inr (lacks_sorted (codes "$relationshipName") v h)
missing_sorted other v h = absurd h

id_sorted : (r : Role) (v : Json) → BadBodyId r (sorted_value v) → BadBodyId r v
id_sorted model_id v h = subst (λ (o : Option (List ℕ)). IsSomeAnd o (λ bytes. IsModelId bytes → ⊥)) (text_sorted v) h
id_sorted target_id v h = subst (λ (o : Option (List ℕ)). IsSomeAnd o (λ bytes. IsTwinId bytes → ⊥)) (text_sorted v) h
id_sorted link_name v h = subst (λ (o : Option (List ℕ)). IsSomeAnd o (λ bytes. NameText bytes → ⊥)) (text_sorted v) h
id_sorted other v h = absurd h

unknown_sorted : (r : Role) (v : Json) → UnknownMember r (sorted_value v) → UnknownMember r v
unknown_sorted undeclared v h = tt
unknown_sorted other v h = absurd h

bad_sorted : (r : Role) (v : Json) → BadValue r (sorted_value v) → BadValue r v
bad_sorted (value ns s) v h = λ is. h (of_sorted s v is)
bad_sorted other v h = absurd h

breaks_sorted : (broken : BodyCode) (r : Role) (v : Json) → BreaksBody broken r (sorted_value v) → BreaksBody broken r v
breaks_sorted code.WrongKind r v h = wrong_sorted r v h
breaks_sorted code.MissingKey r v h = missing_sorted r v h
breaks_sorted code.BadId r v h = id_sorted r v h
breaks_sorted code.UnknownMember r v h = unknown_sorted r v h
breaks_sorted code.BadValue r v h = bad_sorted r v h
breaks_sorted code.UnknownRelationship r v h = h

-- ---- breaches of sorted values
-- A part of a sorted value is a part of the value, sorted.
part_from : (r : Role) (v : Json) (i : ℕ) (s : Role) (part : Json) → HasBodyPart r (sorted_value v) i s part → (j : ℕ) × (w : Json) × HasBodyPart r v j s w × (part ≡ sorted_value w)
part_from r null i s part h = absurd h
part_from r (truth b) i s part h = absurd h
part_from r (number n) i s part h = absurd h
part_from r (text bytes) i s part h = absurd h
part_from r (array vs) i s part h = let from = sorted_element vs i part h.0 in (i, from.0, (from.1, h.1), from.2)
part_from r (object ms) i s part h =
    let from = sorted_from ms i h.0 part h.1 in
    let at = found_at h.0 ms from.0 from.1 in
    (at.0, from.0, (h.0, at.1, h.2), from.2)

pub sorted_breach : (place : List ℕ) (r : Role) (v : Json) (broken : BodyCode) → IsBodyBreach r (sorted_value v) place broken → (other : List ℕ) × IsBodyBreach r v other broken
sorted_breach [] r v broken h = ([], breaks_sorted broken r v h)
sorted_breach (i ∷ place) r v broken h =
    let from = part_from r v i h.0 h.1 h.2 in
    let inner = sorted_breach place h.0 from.1 broken (subst (λ (w : Json). IsBodyBreach h.0 w place broken) from.3 h.3) in
    (from.0 ∷ inner.0, (h.0, from.1, from.2, inner.1))

pub sorted_clear : (r : Role) (v : Json) → HasNoBreach (IsBodyBreach r v) → HasNoBreach (IsBodyBreach r (sorted_value v))
sorted_clear r v h place broken b = let other = sorted_breach place r v broken b in h other.0 broken other.1

-- ---- objects
-- An object that breaks nothing by itself, and of which no member has a breach, has none.
pub object_clear : (r : Role) (ms : Members Number) → ((broken : BodyCode) → BreaksBody broken r (object ms) → ⊥)
    → ((i : ℕ) (key : List ℕ) (w : Json) → member_at ms i ≡ Some (key, w) → HasNoBreach (IsBodyBreach (body_member_role r key) w)) → HasNoBreach (IsBodyBreach r (object ms))
object_clear r ms alone parts [] broken b = alone broken b
object_clear r ms alone parts (i ∷ place) broken (s, part, (key, at, role), b) = parts i key part at place broken (subst (λ (q : Role). IsBodyBreach q part place broken) (sym role) b)

-- The same of an object that is sorted, whose members are the first of each key, sorted.
pub sorted_object : (r : Role) (ms : Members Number) → ((broken : BodyCode) → BreaksBody broken r (object ms) → ⊥)
    → ((key : List ℕ) (w : Json) → value_at key ms ≡ Some w → HasNoBreach (IsBodyBreach (body_member_role r key) (sorted_value w))) → HasNoBreach (IsBodyBreach r (sorted_value (object ms)))
sorted_object r ms alone parts =
    object_clear r (sorted_members ms) (λ broken b. alone broken (breaks_sorted broken r (object ms) b))
    (λ i key part at. let from = sorted_from ms i key part at in
    subst (λ (w : Json). HasNoBreach (IsBodyBreach (body_member_role r key) w)) (sym from.2) (parts key from.0 from.1))
