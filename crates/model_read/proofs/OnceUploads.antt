-- Contents, interfaces and where they stand: a document declares each of them at most once.
use Rattle.std.proofs.Common.{◌≡◌, ℕ, ◌<◌, inl, inr, ◌↔◌, List, [], ◌∷◌, Bool, true, false, IsTrue, Option, Some, None, refl, sym, ap, ap₂, subst, ◌∙◌, arith}
use Rattle.std.specs.Prelude.{codes, pos}
use Rattle.std.specs.List.{AllZip, enumerate_from}
use Rattle.dt_base.specs.names.Grammar.{Identifier}
use Rattle.json_decimal.specs.Number.{Number}
use Rattle.json_decimal.specs.Comparing.{IsWhole}
use Rattle.json_decimal.proofs.Wholes.{one_whole}
use Rattle.json_tree.specs.Values.{Json, null, truth, number, text, array, object, Elements, no_elements, element, Members}
use Rattle.json_tree.specs.Pointers.{HasToken, AreReferenceTokens, IsPointerOf, pointer_text}
use Rattle.dtdl_terms.specs.Terms.{KindTerm, telemetry, property, command, relationship, component, ContentTerm, content, ContentTerms, no_contents, more_contents}
use Rattle.dtdl_terms.specs.TermViews.{schema_term, content_term}
use Rattle.dtdl_terms.specs.declared.content.Content.{Content}
use Rattle.dtdl_terms.specs.declared.interface.Interface.{Interface}
use Rattle.dtdl_terms.specs.declared.schema.Schema.{Schema}
use Rattle.dtdl_terms.specs.declared.uploaded.Uploaded.{Uploaded}
use Rattle.dtdl_terms.proofs.OneTerm.{one_schema, one_content}
use Rattle.json_tree.specs.Members.{list_of, value_at}
use Rattle.local_rules.specs.declared.role.Position.{Position}
use Rattle.local_rules.specs.declared.role.Position.TheVariants as position
use Rattle.local_rules.specs.Declarations.{IsIdentifier, AreEntriesOf, IsSemantic, HasSemantic, HasMax, AreKind, IsContent, AreProperties, HasKindOf, IsContentEntry, HasEach, IsSchema, HasParents, DeclaresInterface}
use Rattle.local_rules.specs.Typed.{type_of_kind, IsPropertyTerm}
use Rattle.model_read.specs.Uploads.{HasOrdinal, IsUploaded, IsUploadedAt, AreUploaded}
use Rattle.model_read.proofs.Once.{same_members, option_once, all_zip_once, optional_text_once, identifier_once, id_once, optional_id_once, writable_once, localized_once, commons_once, schema_once, schema_at_once, optional_payload_once}

-- ---- contents
entries_of_once : (o : Option Json) (vs ws : Elements Number) → AreEntriesOf o vs → AreEntriesOf o ws → vs ≡ ws
entries_of_once None vs ws g h = g ∙ sym h
entries_of_once (Some v) vs ws g h = cc

semantic_in_once : (p : Position) (o : Option Json) (a b : Option (List ℕ)) → IsSemantic p o a → IsSemantic p o b → a ≡ b
semantic_in_once p (Some (array vs)) = option_once
    (IsSemantic p (Some (array vs)))
    (λ a b g h. let same : text a ∷ [] ≡ text b ∷ [] = sym g ∙ h in cc)
    (λ a g h. let same : [] ≡ text a ∷ [] = sym g ∙ h in cc)
semantic_in_once p other = option_once (IsSemantic p other) (λ a b g h. absurd g) (λ a g h. h)

semantic_once : (p : Position) (ms : Members Number) (a b : Option (List ℕ)) → HasSemantic p ms a → HasSemantic p ms b → a ≡ b
semantic_once p ms = semantic_in_once p (value_at (codes "@type") ms)

most_once : (ms : Members Number) (a b : ℕ) → HasMax ms (Some a) → HasMax ms (Some b) → a ≡ b
most_once ms a b g h =
    let same : h.0 ≡ g.0 = (let left = g.1 in let right = h.1 in cc) in
    let whole : pos a ≡ pos b = one_whole g.0 (pos a) (pos b) g.2 (subst (λ (n : Number). IsWhole n (pos b)) same h.2) in cc

max_once : (ms : Members Number) (a b : Option ℕ) → HasMax ms a → HasMax ms b → a ≡ b
max_once ms = option_once (HasMax ms) (most_once ms) (λ a g h. let there = h.1 in cc)

abbrev SameType : ContentTerm → ContentTerm → Type 0
SameType (content n c k) (content m d l) = type_of_kind k ≡ type_of_kind l

both_properties : (c d : ContentTerm) → IsPropertyTerm c → IsPropertyTerm d → SameType c d
both_properties (content n c k) (content m d l) g h = g ∙ sym h

both_of_type : (c d : ContentTerm) (v : Json) → HasKindOf c v → HasKindOf d v → SameType c d
both_of_type (content n c k) (content m d l) v g h = let same : Some (type_of_kind k) ≡ Some (type_of_kind l) = sym g ∙ h in cc

mutual
  kind_once : (p : Position) (k l : KindTerm) (ms : Members Number) → type_of_kind k ≡ type_of_kind l → AreKind p k ms → AreKind p l ms → k ≡ l
  kind_once p (telemetry s a b) (telemetry u c d) ms _ = λ g h.
      let schema = schema_at_once (codes "schema") ms s u g.0 h.0 in
      let semantic = semantic_once p ms a c g.1 h.1 in
      let unit = optional_text_once (codes "unit") ms b d g.2 h.2 in
      λ i. telemetry (schema i) (semantic i) (unit i)
  kind_once p (telemetry s a b) other ms e = absurd cc
  kind_once p (property s a b w) (property u c d x) ms _ = λ g h.
      let schema = schema_at_once (codes "schema") ms s u g.0 h.0 in
      let semantic = semantic_once p ms a c g.1 h.1 in
      let unit = optional_text_once (codes "unit") ms b d g.2 h.2 in
      let writable = writable_once (value_at (codes "writable") ms) w x g.3 h.3 in
      λ i. property (schema i) (semantic i) (unit i) (writable i)
  kind_once p (property s a b w) other ms e = absurd cc
  kind_once p (command a b) (command c d) ms _ = λ g h.
      ap₂ command (optional_payload_once (codes "request") ms a c g.0 h.0) (optional_payload_once (codes "response") ms b d g.1 h.1)
  kind_once p (command a b) other ms e = absurd cc
  kind_once p (relationship t cs m w) (relationship u ds n x) ms _ = λ g h.
      let target = optional_id_once (codes "target") ms t u g.0 h.0 in
      let same = entries_of_once (value_at (codes "properties") ms) h.1.0 g.1.0 h.1.1 g.1.1 in
      let properties = properties_once cs ds g.1.0 g.1.2 (subst (AreProperties ds) same h.1.2) in
      let most = max_once ms m n g.2 h.2 in
      let writable = writable_once (value_at (codes "writable") ms) w x g.3 h.3 in
      λ i. relationship (target i) (properties i) (most i) (writable i)
  kind_once p (relationship t cs m w) other ms e = absurd cc
  kind_once p (component a) (component b) ms _ = λ g h. ap component (id_once (codes "schema") ms a b g h)
  kind_once p (component a) other ms e = absurd cc

  content_once : (p : Position) (c d : ContentTerm) (v : Json) → SameType c d → IsContent p c v → IsContent p d v → c ≡ d
  content_once p (content n c k) (content m d l) v kinds g h =
      let same = same_members v g.0 h.0 g.1 h.1 in
      let name : n ≡ m = (let left = g.2 in let right = h.2 in cc) in
      let common = commons_once g.0 h.0 c d same g.3 h.3 in
      let kind = kind_once p k l g.0 kinds g.4 (subst (AreKind p l) same h.4) in
      λ i. content (name i) (common i) (kind i)

  properties_once : (cs ds : ContentTerms) (vs : Elements Number) → AreProperties cs vs → AreProperties ds vs → cs ≡ ds
  properties_once no_contents no_contents vs g h = refl
  properties_once no_contents (more_contents d ds) no_elements g h = absurd h
  properties_once no_contents (more_contents d ds) (element v vs) g h = absurd g
  properties_once (more_contents c cs) ds no_elements g h = absurd g
  properties_once (more_contents c cs) no_contents (element v vs) g h = absurd h
  properties_once (more_contents c cs) (more_contents d ds) (element v vs) g h =
      ap₂ more_contents (content_once position.Property c d v (both_properties c d g.0.1 h.0.1) g.0.0 h.0.0) (properties_once cs ds vs g.1 h.1)

content_entry_once : (v : Json) (c d : Content) → IsContentEntry v c → IsContentEntry v d → c ≡ d
content_entry_once v c d g h =
    one_content c d (content_once position.Content (content_term c) (content_term d) v (both_of_type (content_term c) (content_term d) v g.0 h.0) g.1 h.1)

-- ---- interfaces
-- the elements of a list under a key
has_each_once : {A : Type 0} (Is : Json → A → Type 0) → ((v : Json) (a b : A) → Is v a → Is v b → a ≡ b) → (o : Option Json) (xs ys : List A) → HasEach Is o xs
    → HasEach Is o ys → xs ≡ ys
has_each_once Is one o xs ys g h = all_zip_once Is one (list_of g.0) xs ys g.2
    (subst (λ (vs : Elements Number). AllZip Is (list_of vs) ys) (entries_of_once o h.0 g.0 h.1 g.1) h.2)

identifiers_once : (vs : Elements Number) (is js : List Identifier) → AllZip IsIdentifier (list_of vs) is → AllZip IsIdentifier (list_of vs) js → is ≡ js
identifiers_once vs = all_zip_once IsIdentifier identifier_once (list_of vs)

parents_once : (o : Option Json) (is js : List Identifier) → HasParents o is → HasParents o js → is ≡ js
parents_once None is js g h = g ∙ sym h
parents_once (Some v) is js (inl g) (inl h) =
    let one = identifier_once v g.0 h.0 g.2 h.2 in
    g.1 ∙ (ap (λ (i : Identifier). i ∷ []) one ∙ sym h.1)
parents_once (Some v) is js (inl g) (inr h) = let left = g.2.0 in let right = h.1 in absurd cc
parents_once (Some v) is js (inr g) (inl h) = let left = g.1 in let right = h.2.0 in absurd cc
parents_once (Some v) is js (inr g) (inr h) =
    let same : h.0 ≡ g.0 = (let left = g.1 in let right = h.1 in cc) in
    identifiers_once g.0 is js g.2 (subst (λ (vs : Elements Number). AllZip IsIdentifier (list_of vs) js) same h.2)

schema_entry_once : (v : Json) (s u : Schema) → IsSchema (schema_term s) v → IsSchema (schema_term u) v → s ≡ u
schema_entry_once v s u g h = one_schema s u (schema_once (schema_term s) (schema_term u) v g h)

interface_once : (ms : Members Number) (x y : Interface) → DeclaresInterface ms x → DeclaresInterface ms y → x ≡ y
interface_once ms x y g h =
    let id = id_once (codes "@id") ms x.id y.id g.id h.id in
    let comment = optional_text_once (codes "comment") ms x.comment y.comment g.comment h.comment in
    let description = localized_once (codes "description") ms x.description.entries y.description.entries g.description h.description in
    let display_name = localized_once (codes "displayName") ms x.display_name.entries y.display_name.entries g.display_name h.display_name in
    let parents = parents_once (value_at (codes "extends") ms) x.parents y.parents g.parents h.parents in
    let contents = has_each_once IsContentEntry content_entry_once (value_at (codes "contents") ms) x.contents y.contents g.contents h.contents in
    let schemas = has_each_once (λ v s. IsSchema (schema_term s) v) schema_entry_once (value_at (codes "schemas") ms) x.schemas y.schemas g.schemas h.schemas in
    λ i. record {
      id = id i;
      comment = comment i;
      description = record { entries = description i };
      display_name = record { entries = display_name i };
      parents = parents i;
      contents = contents i;
      schemas = schemas i;
    }

-- ---- places
ordinal_once : (key : List ℕ) (ms : Members Number) (a b : ℕ) → HasOrdinal key ms (Some a) → HasOrdinal key ms (Some b) → a ≡ b
ordinal_once key ms a b g h = neither (λ below. h.3 a g.0 below g.1) (λ above. g.3 b h.0 above h.1)
  where
    neither : (a < b → ⊥) → (b < a → ⊥) → a ≡ b
    neither not_below not_above = omega arith

optional_ordinal_once : (key : List ℕ) (ms : Members Number) (a b : Option ℕ) → HasOrdinal key ms a → HasOrdinal key ms b → a ≡ b
optional_ordinal_once key ms = option_once (HasOrdinal key ms) (ordinal_once key ms) (λ a g h. let there = h.2 in cc)

-- the same of equal members
ordinals_once : (key : List ℕ) (ms ns : Members Number) (a b : Option ℕ) → ns ≡ ms → HasOrdinal key ms a → HasOrdinal key ns b → a ≡ b
ordinals_once key ms ns a b same g h = optional_ordinal_once key ms a b g (subst (λ (xs : Members Number). HasOrdinal key xs b) same h)

token_once : (v : Json) (i : ℕ) (s t : List ℕ) (p q : Json) → HasToken v i s p → HasToken v i t q → (s ≡ t) × (q ≡ p)
token_once (array vs) i s t p q g h = (g.1 ∙ sym h.1, (let left = g.0 in let right = h.0 in cc))
token_once (object ms) i s t p q g h =
    let same : Some (s, p) ≡ Some (t, q) = sym g ∙ h in
    let pair : (s, p) ≡ (t, q) = cc in
    (ap (λ (x : List ℕ × Json). x.0) pair, ap (λ (x : List ℕ × Json). x.1) (sym pair))
token_once null i s t p q g h = absurd g
token_once (truth b) i s t p q g h = absurd g
token_once (number n) i s t p q g h = absurd g
token_once (text bytes) i s t p q g h = absurd g

tokens_once : (place : List ℕ) (v : Json) (ss ts : List (List ℕ)) → AreReferenceTokens v place ss → AreReferenceTokens v place ts → ss ≡ ts
tokens_once [] v ss ts g h = g ∙ sym h
tokens_once (i ∷ place) v ss ts g h =
    let here = token_once v i g.0 h.0 g.1 h.1 g.3 h.3 in
    let rest = tokens_once place g.1 g.2 h.2 g.4 (subst (λ (p : Json). AreReferenceTokens p place h.2) here.1 h.4) in
    g.5 ∙ (ap₂ (λ (x : List ℕ) (xs : List (List ℕ)). x ∷ xs) here.0 rest ∙ sym h.5)

pointer_once : (v : Json) (place a b : List ℕ) → IsPointerOf v place a → IsPointerOf v place b → a ≡ b
pointer_once v place a b g h = g.2 ∙ (ap pointer_text (tokens_once place v g.0 h.0 g.1 h.1) ∙ sym h.2)

flag_once : {P : Type 0} (a b : Bool) → IsTrue a ↔ P → IsTrue b ↔ P → a ≡ b
flag_once true true g h = refl
flag_once false false g h = refl
flag_once true false g h = sym (h.1 (g.0 refl))
flag_once false true g h = g.1 (h.0 refl)

abbrev IsTextFlag : Members Number → Bool → Type 0
IsTextFlag ms b = IsTrue b ↔ ((bytes : List ℕ) × (value_at (codes "extends") ms ≡ Some (text bytes)))

text_flags_once : (ms ns : Members Number) (a b : Bool) → ns ≡ ms → IsTextFlag ms a → IsTextFlag ns b → a ≡ b
text_flags_once ms ns a b same g h = flag_once a b g (subst (λ (xs : Members Number). IsTextFlag xs b) same h)

-- ---- documents
uploaded_once : (whole : Json) (place : List ℕ) (at nth : ℕ) (v : Json) (u w : Uploaded) → IsUploaded whole place at nth v u
    → IsUploaded whole place at nth v w → u ≡ w
uploaded_once whole place at nth v u w g h =
    let ms = g.members in
    let ns = h.members in
    let same = same_members v ms ns g.is h.is in
    let declared = subst (λ (xs : Members Number). DeclaresInterface xs w.interface) same h.declares in
    let interface = interface_once ms u.interface w.interface g.declares declared in
    let base = pointer_once whole place u.base w.base g.base h.base in
    let ids : Some u.id_at ≡ Some w.id_at = ordinals_once (codes "@id") ms ns (Some u.id_at) (Some w.id_at) same g.id_at h.id_at in
    let id_at : u.id_at ≡ w.id_at = cc ids in
    let parents_at = ordinals_once (codes "extends") ms ns u.parents_at w.parents_at same g.parents_at h.parents_at in
    let parents_as_text = text_flags_once ms ns u.parents_as_text w.parents_as_text same g.parents_as_text h.parents_as_text in
    let contents_at = ordinals_once (codes "contents") ms ns u.contents_at w.contents_at same g.contents_at h.contents_at in
    λ i. record {
      interface = interface i;
      document = (g.document ∙ sym h.document) i;
      base = base i;
      index = (g.index ∙ sym h.index) i;
      id_at = id_at i;
      parents_at = parents_at i;
      parents_as_text = parents_as_text i;
      contents_at = contents_at i;
    }

pub document_once : (whole : Json) (nth : ℕ) (us ws : List Uploaded) → AreUploaded whole nth us → AreUploaded whole nth ws → us ≡ ws
document_once (array vs) nth us ws g h = all_zip_once (IsUploadedAt (array vs) nth) (λ e u w. uploaded_once (array vs) (e.0 ∷ []) e.0 nth e.1 u w)
    (enumerate_from 0 (list_of vs)) us ws g h
document_once (object ms) nth us ws g h =
    g.1 ∙ (ap (λ (u : Uploaded). u ∷ []) (uploaded_once (object ms) [] 0 nth (object ms) g.0 h.0 g.2 h.2) ∙ sym h.1)
document_once null nth us ws g h = absurd g
document_once (truth b) nth us ws g h = absurd g
document_once (number n) nth us ws g h = absurd g
document_once (text bytes) nth us ws g h = absurd g
