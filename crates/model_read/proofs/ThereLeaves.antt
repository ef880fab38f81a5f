-- What the members of an element declare that breaks no rule is there, as far as it holds no schema.
use Rattle.std.proofs.Common.{◌≡◌, ℕ, zero, suc, inl, inr, List, [], ◌∷◌, Bool, true, false, ℤ, pos, negsuc, ◌≤ℤ◌, Option, Some, None, refl, sym, ap, ◌∙◌, subst, arith}
use Rattle.std.specs.Prelude.{codes}
use Rattle.std.specs.List.{AllZip}
use Rattle.std.proofs.lemmas.Int.{ints}
use Rattle.dt_base.specs.Existence.{IsThere}
use Rattle.dt_base.specs.names.Grammar.{Identifier}
use Rattle.dt_base.proofs.Existence.{from_there, is_there, map_there}
use Rattle.json_decimal.specs.Number.{Number}
use Rattle.json_decimal.specs.Comparing.{IsWhole}
use Rattle.json_tree.specs.Values.{Json, text, array, Elements, no_elements, element, Members, no_members, member}
use Rattle.json_tree.specs.Members.{list_of, pairs_of, value_at}
use Rattle.json_tree.specs.Places.{element_at}
use Rattle.dtdl_terms.specs.declared.common.Common.{Common}
use Rattle.dtdl_terms.specs.declared.common.Entry.{Entry}
use Rattle.dtdl_terms.specs.declared.enumeration.EnumEntry.{EnumEntry}
use Rattle.dtdl_terms.specs.declared.enumeration.EnumValue.{EnumValue}
use Rattle.dtdl_terms.specs.declared.enumeration.EnumValue.TheVariants as values
use Rattle.local_rules.specs.Types.{MayHaveBeside, further}
use Rattle.local_rules.specs.declared.role.Element.TheVariants as element_kind
use Rattle.local_rules.specs.declared.role.Position.{Position}
use Rattle.local_rules.specs.Declarations.{HasString, HasOptionalString, HasId, HasOptionalId, DeclaresWritable, IsTextOfLanguage, IsLocalizedBy, IsLocalized, HasLocalized, HasCommon, IsEnumValue, DeclaresEnumEntry, IsEnumEntry, IsSemantic, HasSemantic, HasMax, HasEach, HasParents, IsIdentifier, value_schema}
use Rattle.model_read.specs.Machinery.Shapes.{CanBeEnumValue, CanBeId, CanBeMultiplicity, CanBeName, CanBeTypes, CanBeValueSchema, CommonShape, EnumEntryShape, HasMember, HaveStrings, IsListOf, IsParents, IsTruth, IsValidEnumEntry, IsWords, MayHave}
use Rattle.model_read.proofs.Shaped.{enum_entry_object, enum_entry_shape}
use Rattle.local_rules.specs.Quantities.{IsStringValue}

-- ---- that there is one, where it follows that there is another
pub next_there : {A : Type 0} (B : Type 0) → IsThere A → (A → IsThere B) → IsThere B
next_there B there next = from_there there next

pub last_there : {A : Type 0} (B : Type 0) → IsThere A → (A → B) → IsThere B
last_there B there last = map_there last there

abbrev pub Some_of : (A : Type 0) → (A → Type 0) → Type 0
Some_of A P = (x : A) × P x

-- ---- what stands under a key
module _ {A : Type 0} (key : List ℕ) (ms : Members Number) (P : Json → Type 0) where
  pub has_there : (F : A → Type 0) → ((v : Json) → value_at key ms ≡ Some v → P v → IsThere (Some_of A F)) → HasMember P key ms → IsThere (Some_of A F)
  has_there F one (some, each) = by (value_at key ms) refl
    where
      by : (o : Option Json) → value_at key ms ≡ o → IsThere (Some_of A F)
      by None is = absurd (some is)
      by (Some v) is = one v is (each v is)

  pub may_there : (F : Option A → Type 0) → (value_at key ms ≡ None → F None) → ((v : Json) → value_at key ms ≡ Some v → P v → IsThere ((x : A) × F (Some x)))
      → MayHave P key ms → IsThere (Some_of (Option A) F)
  may_there F none one each = by (value_at key ms) refl
    where
      by : (o : Option Json) → value_at key ms ≡ o → IsThere (Some_of (Option A) F)
      by None is = let it : Some_of (Option A) F = (None, none is) in is_there it
      by (Some v) is = last_there (Some_of (Option A) F) (one v is (each v is)) (λ h. (Some h.0, h.1))

-- ---- lists
module _ {A : Type 0} (Is : Json → A → Type 0) where
  abbrev Zipped : List Json → Type 0
  Zipped vs = (xs : List A) × AllZip Is vs xs

  pub each_there : (vs : Elements Number) → ((i : ℕ) (v : Json) → element_at vs i ≡ Some v → IsThere (Some_of A (Is v))) → IsThere ((xs : List A) × AllZip Is (list_of vs) xs)
  each_there no_elements each = let it : Zipped [] = ([], tt) in is_there it
  each_there (element v vs) each =
      next_there (Zipped (v ∷ list_of vs)) (each zero v refl) (λ one.
      last_there (Zipped (v ∷ list_of vs)) (each_there vs (λ i w at. each (suc i) w at)) (λ rest. (one.0 ∷ rest.0, (one.1, rest.1))))

  pub list_there : (P : Json → Type 0) (o : Option Json) → ((v : Json) → o ≡ Some v → IsListOf P v)
      → ((vs : Elements Number) (i : ℕ) (v : Json) → o ≡ Some (array vs) → element_at vs i ≡ Some v → P v → IsThere (Some_of A (Is v))) → IsThere (Some_of (List A) (HasEach Is o))
  list_there P None may one = let it : Some_of (List A) (HasEach Is None) = ([], (no_elements, refl, tt)) in is_there it
  list_there P (Some v) may one =
      let list = may v refl in
      last_there (Some_of (List A) (HasEach Is (Some v))) (each_there list.0 (λ i w at. one list.0 i w (ap Some list.1) at (list.2 i w at)))
      (λ h. (h.0, (list.0, list.1, h.1)))

-- ---- identifiers and texts
pub id_there : (key : List ℕ) (ms : Members Number) → HasMember CanBeId key ms → IsThere (Some_of Identifier (HasId key ms))
id_there key ms has = has_there key ms CanBeId (HasId key ms) (λ v is can. last_there (Some_of Identifier (HasId key ms)) can (λ h. (h.0, (v, is, h.1)))) has

pub optional_id_there : (key : List ℕ) (ms : Members Number) → MayHave CanBeId key ms → IsThere (Some_of (Option Identifier) (HasOptionalId key ms))
optional_id_there key ms may = may_there key ms CanBeId (HasOptionalId key ms) (λ is. is)
    (λ v is can. last_there (Some_of Identifier (HasId key ms)) can (λ h. (h.0, (v, is, h.1)))) may

pub name_there : (key : List ℕ) (ms : Members Number) → HasMember CanBeName key ms → IsThere (Some_of (List ℕ) (HasString key ms))
name_there key ms has = has_there key ms CanBeName (HasString key ms)
    (λ v is can. last_there (Some_of (List ℕ) (HasString key ms)) can (λ h. (h.0, is ∙ ap Some h.1))) has

pub optional_name_there : (key : List ℕ) (ms : Members Number) → MayHave CanBeName key ms → IsThere (Some_of (Option (List ℕ)) (HasOptionalString key ms))
optional_name_there key ms may = may_there key ms CanBeName (HasOptionalString key ms) (λ is. is)
    (λ v is can. last_there (Some_of (List ℕ) (HasString key ms)) can (λ h. (h.0, is ∙ ap Some h.1))) may

pub optional_text_there : (key : List ℕ) (ms : Members Number) → MayHave IsStringValue key ms → IsThere (Some_of (Option (List ℕ)) (HasOptionalString key ms))
optional_text_there key ms may = may_there key ms IsStringValue (HasOptionalString key ms) (λ is. is)
    (λ v is has. (let it : Some_of (List ℕ) (HasString key ms) = (has.0, is ∙ ap Some has.1) in is_there it)) may

-- ---- localized texts
languages : (ms : Members Number) → HaveStrings ms → (es : List Entry) × AllZip IsTextOfLanguage (pairs_of ms) es
languages no_members strings = ([], tt)
languages (member k v ms) strings =
    let one = strings zero k v refl in
    let rest = languages ms (λ i key w at. strings (suc i) key w at) in
    let e : Entry = record { language = k; text = one.0 } in
    (e ∷ rest.0, ((refl, one.1), rest.1))

words : (v : Json) → IsWords v → (es : List Entry) × IsLocalizedBy v es
words v (inl (bytes, is)) =
    let e : Entry = record { language = codes "en"; text = bytes } in
    (e ∷ [], subst (λ (w : Json). IsLocalizedBy w (e ∷ [])) (sym is) refl)
words v (inr (ms, is, strings)) = let all = languages ms strings in (all.0, subst (λ (w : Json). IsLocalizedBy w all.0) (sym is) all.1)

localized : (o : Option Json) → ((v : Json) → o ≡ Some v → IsWords v) → (es : List Entry) × IsLocalized o es
localized None may = ([], refl)
localized (Some v) may = words v (may v refl)

pub localized_found : (key : List ℕ) (ms : Members Number) → MayHave IsWords key ms → (es : List Entry) × HasLocalized key ms es
localized_found key ms may = localized (value_at key ms) may

-- ---- what every element may have
pub common_there : (ms : Members Number) → CommonShape ms → IsThere (Some_of Common (HasCommon ms))
common_there ms shape =
    let description = localized_found (codes "description") ms shape.description in
    let display_name = localized_found (codes "displayName") ms shape.display_name in
    next_there (Some_of Common (HasCommon ms)) (optional_id_there (codes "@id") ms shape.id) (λ id.
    last_there (Some_of Common (HasCommon ms)) (optional_text_there (codes "comment") ms shape.comment) (λ comment. (
      record { id = id.0; comment = comment.0; description = record { entries = description.0 }; display_name = record { entries = display_name.0 } },
      record { id = id.1; comment = comment.1; description = description.1; display_name = display_name.1 },
    )))

-- ---- enums
enum_value_there : (v : Json) → CanBeEnumValue v → IsThere (Some_of EnumValue (IsEnumValue v))
enum_value_there v can = last_there (Some_of EnumValue (IsEnumValue v)) can (λ h. elim h [
  | inl n ↦ (values.Number n.1, (n.0, n.2, n.4))
  | inr t ↦ (values.Word t.0, t.1)
])

module _ (ms : Members Number) where
  abbrev HasValue : EnumValue → Type 0
  HasValue x = (w : Json) × (value_at (codes "enumValue") ms ≡ Some w) × IsEnumValue w x

  entry_of : EnumEntryShape ms → IsThere (Some_of EnumEntry (DeclaresEnumEntry ms))
  entry_of shape =
      next_there (Some_of EnumEntry (DeclaresEnumEntry ms)) (name_there (codes "name") ms shape.name) (λ name.
      next_there (Some_of EnumEntry (DeclaresEnumEntry ms)) (common_there ms shape.common) (λ common.
      last_there (Some_of EnumEntry (DeclaresEnumEntry ms))
      (has_there (codes "enumValue") ms CanBeEnumValue HasValue (λ w at can. last_there (Some_of EnumValue HasValue) (enum_value_there w can) (λ h. (h.0, (w, at, h.1)))) shape.value) (λ value. (
        record { name = name.0; common = common.0; value = value.0 },
        record { name = name.1; common = common.1; value = value.1 },
      ))))

pub enum_entry_there : (v : Json) → IsValidEnumEntry v → IsThere (Some_of EnumEntry (IsEnumEntry v))
enum_entry_there v valid =
    let is = enum_entry_object v valid in
    last_there (Some_of EnumEntry (IsEnumEntry v)) (entry_of is.0 (enum_entry_shape is.0 (subst IsValidEnumEntry is.1 valid))) (λ e. (e.0, (is.0, is.1, e.1)))

pub value_schema_there : (ms : Members Number) → HasMember CanBeValueSchema (codes "valueSchema") ms
    → IsThere (Some_of Bool (λ b. HasString (codes "valueSchema") ms (value_schema b)))
value_schema_there ms has = has_there (codes "valueSchema") ms CanBeValueSchema (λ (b : Bool). HasString (codes "valueSchema") ms (value_schema b))
    (λ v at can. last_there (Some_of Bool (λ b. HasString (codes "valueSchema") ms (value_schema b))) can (λ h. elim h [ inl e ↦ (true, at ∙ ap Some e) | inr e ↦ (false, at ∙ ap Some e) ])) has

-- ---- contents
pub writable_found : (o : Option Json) → ((v : Json) → o ≡ Some v → IsTruth v) → (b : Bool) × DeclaresWritable o b
writable_found None may = (false, refl)
writable_found (Some v) may = may v refl

beside : (p : Position) (vs : Elements Number) (ws : List Json) → further p (list_of vs) ≡ ws → MayHaveBeside element_kind.Property ws
    → Some_of (Option (List ℕ)) (IsSemantic p (Some (array vs)))
beside p vs [] is may = (None, is)
beside p vs (w ∷ []) is may = (Some may.0, is ∙ ap (λ (u : Json). u ∷ []) may.1)
beside p vs (w ∷ x ∷ ws) is may = absurd may

semantic_of : (p : Position) (o : Option Json) → ((v : Json) → o ≡ Some v → CanBeTypes p v) → IsThere (Some_of (Option (List ℕ)) (IsSemantic p o))
semantic_of p (Some (array vs)) may =
    last_there (Some_of (Option (List ℕ)) (IsSemantic p (Some (array vs)))) (may (array vs) refl vs refl) (λ h. beside p vs (further p (list_of vs)) refl h)
semantic_of p other may = let it : Some_of (Option (List ℕ)) (IsSemantic p other) = (None, tt) in is_there it

pub semantic_there : (p : Position) (ms : Members Number) → MayHave (CanBeTypes p) (codes "@type") ms → IsThere (Some_of (Option (List ℕ)) (HasSemantic p ms))
semantic_there p ms may = semantic_of p (value_at (codes "@type") ms) may

most_of : (z : ℤ) → pos 1 ≤ℤ z → (m : ℕ) × (z ≡ pos m)
most_of (pos m) least = (m, refl)
most_of (negsuc m) least = absurd (omega (arith, ints))

pub most_there : (ms : Members Number) → MayHave CanBeMultiplicity (codes "maxMultiplicity") ms → IsThere (Some_of (Option ℕ) (HasMax ms))
most_there ms may = may_there (codes "maxMultiplicity") ms CanBeMultiplicity (HasMax ms) (λ is. is)
    (λ v at can. last_there (Some_of ℕ (λ m. HasMax ms (Some m))) can
    (λ n. (let size = most_of n.1 n.3 in (size.0, (n.0, at ∙ ap Some n.2, subst (IsWhole n.0) size.1 n.5))))) may

-- ---- parents
parents_of : (v : Json) → IsParents v → IsThere (Some_of (List Identifier) (HasParents (Some v)))
parents_of (array vs) are = last_there (Some_of (List Identifier) (HasParents (Some (array vs)))) (each_there IsIdentifier vs are) (λ h. (h.0, inr (vs, refl, h.1)))
parents_of other can = last_there (Some_of (List Identifier) (HasParents (Some other))) can (λ h. (h.0 ∷ [], inl (h.0, refl, h.1)))

pub parents_there : (o : Option Json) → ((v : Json) → o ≡ Some v → IsParents v) → IsThere (Some_of (List Identifier) (HasParents o))
parents_there None may = let it : Some_of (List Identifier) (HasParents None) = ([], refl) in is_there it
parents_there (Some v) may = parents_of v (may v refl)
