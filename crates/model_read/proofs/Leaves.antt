-- What a value without parts is, by its role in a value in which no rule is broken.
use Rattle.std.proofs.Common.{◌≡◌, ◌≢◌, ℕ, ◌<◌, ◌≤◌, inl, inr, List, [], ◌∷◌, length, true, IsTrue, Option, Some, None, refl, sym, ap, subst, arith}
use Rattle.std.proofs.lemmas.Bool.{false≢true, false_from_ne_true}
use Rattle.dt_base.specs.names.Grammar.{OwnDtmiText, is_reserved}
use Rattle.json_decimal.specs.Number.{Number}
use Rattle.json_tree.specs.Values.{Json, truth, text, array, object, Elements}
use Rattle.json_tree.specs.Members.{list_of}
use Rattle.local_rules.specs.Identifiers.{HasForm, IdUse, IsBadId, IsReservedId, of_interface, of_element, no_id, id_use}
use Rattle.local_rules.specs.Kinds.{kind_of, is_of_kind}
use Rattle.local_rules.specs.Quantities.{IsStringValue}
use Rattle.local_rules.specs.Roles.{type_in}
use Rattle.local_rules.specs.Types.{MayHaveBeside, NamesNothing, further}
use Rattle.local_rules.specs.declared.role.Element.{Element}
use Rattle.local_rules.specs.declared.role.Element.TheVariants as element_kind
use Rattle.local_rules.specs.declared.role.Kind.{Kind}
use Rattle.local_rules.specs.declared.role.Kind.TheVariants as kind
use Rattle.local_rules.specs.declared.role.Localized.{Localized}
use Rattle.local_rules.specs.declared.role.Position.{Position}
use Rattle.local_rules.specs.declared.role.Position.TheVariants as position
use Rattle.local_rules.specs.declared.role.Role.{Role}
use Rattle.local_rules.specs.declared.role.Role.TheVariants as role
use Rattle.local_rules.specs.declared.role.ValueSchema.{ValueSchema}
use Rattle.local_rules.specs.declared.role.ValueSchema.TheVariants as value_schemas
use Rattle.local_rules.specs.declared.rule.LocalRule.TheVariants as rule
use Rattle.model_read.specs.Machinery.Shapes.{CanBe, CanBeId, CanBeName, CanBeMultiplicity, CanBeEnumValue, CanBeValueSchema, CanBeTypes, IsParents, IsTruth, IsWords, IsValid}
use Rattle.model_read.proofs.Valid.{here, of_kind, placed_valid, entry_valid}

-- ---- kinds
-- a value of the kind of texts is a text
pub word : (v : Json) → is_of_kind kind.Text v ≡ true → IsStringValue v
word (text bytes) is = (bytes, refl)
word other is = absurd (false≢true is)

-- ---- identifiers
-- a text that cannot be none of the grammar and is neither reserved nor too long can be an identifier of one's own
can_be_own : (bytes : List ℕ) (most : ℕ) → CanBe (HasForm bytes) → (HasForm bytes × IsTrue (is_reserved bytes) → ⊥) → most ≤ 2048
    → (most < length bytes → ⊥) → CanBeId (text bytes)
can_be_own bytes most good free low long = λ none. good (λ form.
    let own : OwnDtmiText bytes form.0 = record {
      text = record { form = form.1; short = omega (arith, low, long) };
      free = false_from_ne_true (is_reserved bytes) (λ yes. free (form, yes));
    } in
    let spelled = form.1.spelled in
    none (form.0, (ap text spelled, subst (λ (b : List ℕ). OwnDtmiText b form.0) spelled own)))

-- by the rules on identifiers, of which none is broken
free_id : (u : IdUse) (bytes : List ℕ) → (IsBadId u bytes → ⊥) → (IsReservedId u bytes → ⊥) → ((u ≡ of_interface) × (128 < length bytes) → ⊥)
    → ((u ≡ of_element) × (2048 < length bytes) → ⊥) → u ≢ no_id → CanBeId (text bytes)
free_id of_interface bytes good free short small used = can_be_own bytes 128 good free (omega arith) (λ more. short (refl, more))
free_id of_element bytes good free short small used = can_be_own bytes 2048 good free (omega arith) (λ more. small (refl, more))
free_id no_id bytes good free short small used = absurd (used refl)

-- a text that is used as an identifier can be one
pub used_id : (r : Role) (bytes : List ℕ) → id_use r bytes ≢ no_id → IsValid r (text bytes) → CanBeId (text bytes)
used_id r bytes used valid = free_id
    (id_use r bytes)
    bytes
    (here r (text bytes) rule.BadId valid)
    (here r (text bytes) rule.ReservedId valid)
    (here r (text bytes) rule.LongInterfaceId valid)
    (here r (text bytes) rule.LongElementId valid)
    used

-- and so can a value of the kind of texts
word_id : (r : Role) (v : Json) → kind_of r ≡ kind.Text → ((bytes : List ℕ) → id_use r bytes ≢ no_id) → IsValid r v → CanBeId v
word_id r v is_text used valid =
    let is = word v (subst (λ (k : Kind). is_of_kind k v ≡ true) is_text (of_kind r v valid)) in
    subst (λ (w : Json). CanBeId w) (sym is.1) (used_id r is.0 (used is.0) (subst (λ (w : Json). IsValid r w) is.1 valid))

-- an identifier, of an interface or of another element
pub interface_id : (v : Json) → IsValid role.InterfaceId v → CanBeId v
interface_id v valid = word_id role.InterfaceId v refl (λ bytes e. cc) valid

pub element_id : (v : Json) → IsValid role.ElementId v → CanBeId v
element_id v valid = word_id role.ElementId v refl (λ bytes e. cc) valid

pub interface_reference : (v : Json) → IsValid role.InterfaceReference v → CanBeId v
interface_reference v valid = word_id role.InterfaceReference v refl (λ bytes e. cc) valid

pub parents : (v : Json) → IsValid role.Extends v → IsParents v
parents (text bytes) valid = used_id role.Extends bytes (λ e. cc) valid
parents (array vs) valid = λ i v at. word_id _ v refl (λ bytes e. cc) (entry_valid role.Extends vs i _ v refl at valid)
parents other valid = absurd (false≢true (of_kind role.Extends other valid))

-- ---- texts
pub name : (v : Json) → IsValid role.Name v → CanBeName v
name (text bytes) valid = λ none.
    here role.Name (text bytes) rule.BadName valid (refl, λ good. none (bytes, refl, good))
name other valid = absurd (false≢true (of_kind role.Name other valid))

pub unit : (v : Json) → IsValid role.Unit v → CanBeName v
unit v valid = λ none. here role.Unit v rule.BadUnit valid (refl, none)

pub comment : (v : Json) → IsValid role.Comment v → IsStringValue v
comment v valid = word v (of_kind role.Comment v valid)

pub localized : (which : Localized) (v : Json) → IsValid (role.Localized which) v → IsWords v
localized which (text bytes) valid = inl (bytes, refl)
localized which (object ms) valid = inr (
  ms,
  refl,
  λ i key v at.
      word v (of_kind (role.LocalizedText which) v (placed_valid (role.Localized which) ms i (role.LocalizedText which) key v at refl valid)),
)
localized which other valid = absurd (false≢true (of_kind (role.Localized which) other valid))

-- ---- truths and quantities
pub writable : (v : Json) → IsValid role.Writable v → IsTruth v
writable (truth b) valid = (b, refl)
writable other valid = absurd (false≢true (of_kind role.Writable other valid))

pub multiplicity : (v : Json) → IsValid role.MaxMultiplicity v → CanBeMultiplicity v
multiplicity v valid = λ none. here role.MaxMultiplicity v rule.BadMultiplicity valid (inr (refl, none))

pub enum_value : (k : ValueSchema) (v : Json) → k ≢ value_schemas.Neither → IsValid (role.EnumValue k) v → CanBeEnumValue v
enum_value value_schemas.Integer v is valid = λ none.
    here (role.EnumValue value_schemas.Integer) v rule.BadEnumValue valid (value_schemas.Integer, refl, λ good. none (inl good))
enum_value value_schemas.String v is valid = λ none.
    here (role.EnumValue value_schemas.String) v rule.BadEnumValue valid (value_schemas.String, refl, λ good. none (inr good))
enum_value value_schemas.Neither v is valid = absurd (is refl)

pub value_schema : (v : Json) → IsValid role.ValueSchema v → CanBeValueSchema v
value_schema v valid = λ none. here role.ValueSchema v rule.BadValueSchema valid (refl, λ integer. none (inr integer), λ string. none (inl string))

-- ---- types
-- what may stand beside some type may stand beside a property's
beside_property : (e : Element) (vs : List Json) → MayHaveBeside e vs → MayHaveBeside element_kind.Property vs
beside_property e [] may = tt
beside_property element_kind.Telemetry (v ∷ []) may = may
beside_property element_kind.Property (v ∷ []) may = may
beside_property other (v ∷ vs) may = absurd may

-- a list that names a type has beside it what may stand there
beside_type : (p : Position) (vs : Elements Number) (typed : Option Element) → type_in p (array vs) ≡ typed
    → (type_in p (array vs) ≡ None → NamesNothing p (array vs)) → IsValid (role.Type p) (array vs)
    → CanBe (MayHaveBeside element_kind.Property (further p (list_of vs)))
beside_type p vs None is nothing valid = λ none. here (role.Type p) (array vs) rule.BadType valid (p, refl, nothing is)
beside_type p vs (Some e) is nothing valid = λ none.
    here (role.Type p) (array vs) rule.BadSemanticType valid (p, e, refl, is, λ may. none (beside_property e (further p (list_of vs)) may))

can_be_types : (p : Position) (v : Json) → ((vs : Elements Number) → type_in p (array vs) ≡ None → NamesNothing p (array vs)) → IsValid (role.Type p) v
    → CanBeTypes p v
can_be_types p v nothing valid = λ vs is.
    beside_type p vs (type_in p (array vs)) refl (nothing vs) (subst (λ (w : Json). IsValid (role.Type p) w) is valid)

pub content_types : (v : Json) → IsValid (role.Type position.Content) v → CanBeTypes position.Content v
content_types v valid = can_be_types position.Content v (λ vs none. none) valid

pub property_types : (v : Json) → IsValid (role.Type position.Property) v → CanBeTypes position.Property v
property_types v valid = can_be_types position.Property v (λ vs none. none) valid
