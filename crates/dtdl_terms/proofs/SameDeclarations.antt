-- To declare the same is an equivalence.
use Rattle.std.proofs.Common.{◌≡◌, inl, inr, List, [], ◌∷◌, map, Option, Some, None, refl, sym, ◌∙◌}
use Rattle.std.specs.List.{AllByRecursion}
use Rattle.dtdl_terms.specs.Terms.{SchemaTerm, primitive, named, array_of, enumeration, map_of, object_of, PayloadTerm, payload, PayloadTerms, no_payloads, more_payloads, ContentTerm, content, KindTerm, telemetry, property, command, relationship, component, ContentTerms, no_contents, more_contents}
use Rattle.dtdl_terms.specs.TermViews.{schema_term, content_term}
use Rattle.dtdl_terms.specs.Equality.{AnyByRecursion, SameElements, SameCommon, SameEnumEntry, payload_list, SameSchema, SamePayload, EachPayloadIn, IsPayloadOf, SameOptionalPayload, content_list, SameKind, SameContent, EachContentIn, IsContentOf, DeclareTheSame}
use Rattle.dtdl_terms.specs.declared.common.Common.{Common}
use Rattle.dtdl_terms.specs.declared.enumeration.EnumEntry.{EnumEntry}
use Rattle.dtdl_terms.specs.declared.interface.Interface.{Interface}
use Rattle.dtdl_terms.proofs.SameElements.{same_elements_self, same_elements_back, same_elements_through, everywhere}

-- ---- elements that are equal or not
module _ {A : Type 0} (xs ys zs : List A) where
  equals_self : SameElements (λ x y. x ≡ y) xs xs
  equals_self = same_elements_self (λ x y. x ≡ y) xs (everywhere (λ x. x ≡ x) (λ x. refl) xs)

  equals_back : SameElements (λ x y. x ≡ y) xs ys → SameElements (λ x y. x ≡ y) ys xs
  equals_back = same_elements_back (λ x y. x ≡ y) xs ys (everywhere (λ x. (y : A) → x ≡ y → y ≡ x) (λ x y e. sym e) xs)

  equals_through : SameElements (λ x y. x ≡ y) xs ys → SameElements (λ x y. x ≡ y) ys zs → SameElements (λ x y. x ≡ y) xs zs
  equals_through = same_elements_through (λ x y. x ≡ y) xs ys zs (everywhere (λ x. (y z : A) → x ≡ y → y ≡ z → x ≡ z) (λ x y z e f. e ∙ f) xs)

common_self : (c : Common) → SameCommon c c
common_self c = record {
  id = refl;
  comment = refl;
  description = equals_self c.description.entries [] [];
  display_name = equals_self c.display_name.entries [] [];
}

common_back : (c d : Common) → SameCommon c d → SameCommon d c
common_back c d same = record {
  id = sym same.id;
  comment = sym same.comment;
  description = equals_back c.description.entries d.description.entries [] same.description;
  display_name = equals_back c.display_name.entries d.display_name.entries [] same.display_name;
}

common_through : (c d e : Common) → SameCommon c d → SameCommon d e → SameCommon c e
common_through c d e first second = record {
  id = first.id ∙ second.id;
  comment = first.comment ∙ second.comment;
  description = equals_through c.description.entries d.description.entries e.description.entries first.description second.description;
  display_name = equals_through c.display_name.entries d.display_name.entries e.display_name.entries first.display_name second.display_name;
}

enum_entry_self : (e : EnumEntry) → SameEnumEntry e e
enum_entry_self e = record { name = refl; common = common_self e.common; value = refl }

enum_entry_back : (e f : EnumEntry) → SameEnumEntry e f → SameEnumEntry f e
enum_entry_back e f same = record { name = sym same.name; common = common_back e.common f.common same.common; value = sym same.value }

enum_entry_through : (e f g : EnumEntry) → SameEnumEntry e f → SameEnumEntry f g → SameEnumEntry e g
enum_entry_through e f g first second = record {
  name = first.name ∙ second.name;
  common = common_through e.common f.common g.common first.common second.common;
  value = first.value ∙ second.value;
}

-- ---- payloads as lists
each_payload_of : (ps : PayloadTerms) (qs : List PayloadTerm) → AllByRecursion (λ p. AnyByRecursion (SamePayload p) qs) (payload_list ps) → EachPayloadIn ps qs
each_payload_of no_payloads qs all = tt
each_payload_of (more_payloads p ps) qs all = (all.0, each_payload_of ps qs all.1)

each_payload_in : (ps : PayloadTerms) (qs : List PayloadTerm) → EachPayloadIn ps qs → AllByRecursion (λ p. AnyByRecursion (SamePayload p) qs) (payload_list ps)
each_payload_in no_payloads qs all = tt
each_payload_in (more_payloads p ps) qs all = (all.0, each_payload_in ps qs all.1)

payload_of : (ps : PayloadTerms) (q : PayloadTerm) → AnyByRecursion (λ p. SamePayload p q) (payload_list ps) → IsPayloadOf ps q
payload_of no_payloads q any = absurd any
payload_of (more_payloads p ps) q (inl here) = inl here
payload_of (more_payloads p ps) q (inr later) = inr (payload_of ps q later)

payload_in : (ps : PayloadTerms) (q : PayloadTerm) → IsPayloadOf ps q → AnyByRecursion (λ p. SamePayload p q) (payload_list ps)
payload_in no_payloads q any = absurd any
payload_in (more_payloads p ps) q (inl here) = inl here
payload_in (more_payloads p ps) q (inr later) = inr (payload_in ps q later)

payloads_of : (ps : PayloadTerms) (qs : List PayloadTerm) → AllByRecursion (λ q. AnyByRecursion (λ p. SamePayload p q) (payload_list ps)) qs → AllByRecursion (IsPayloadOf ps) qs
payloads_of ps [] all = tt
payloads_of ps (q ∷ qs) all = (payload_of ps q all.0, payloads_of ps qs all.1)

payloads_in : (ps : PayloadTerms) (qs : List PayloadTerm) → AllByRecursion (IsPayloadOf ps) qs → AllByRecursion (λ q. AnyByRecursion (λ p. SamePayload p q) (payload_list ps)) qs
payloads_in ps [] all = tt
payloads_in ps (q ∷ qs) all = (payload_in ps q all.0, payloads_in ps qs all.1)

abbrev SamePayloads : PayloadTerms → PayloadTerms → Type 0
SamePayloads ps qs = SameElements SamePayload (payload_list ps) (payload_list qs)

-- so the two lists have the same elements
pub same_payloads : (ps qs : PayloadTerms) → EachPayloadIn ps (payload_list qs) → AllByRecursion (IsPayloadOf ps) (payload_list qs) → SamePayloads ps qs
same_payloads ps qs each other = record { each = each_payload_in ps (payload_list qs) each; other = payloads_in ps (payload_list qs) other }

-- ---- schemas and payloads
mutual
  schema_self : (s : SchemaTerm) → SameSchema s s
  schema_self (primitive p) = refl
  schema_self (named id) = refl
  schema_self (array_of c s) = (common_self c, schema_self s)
  schema_self (enumeration c of_text es) = (common_self c, refl, same_elements_self SameEnumEntry es (everywhere (λ e. SameEnumEntry e e) enum_entry_self es))
  schema_self (map_of c k e) = (common_self c, payload_self k, payload_self e)
  schema_self (object_of c ps) =
      let same = same_elements_self SamePayload (payload_list ps) (payloads_self ps) in
      (common_self c, each_payload_of ps (payload_list ps) same.each, payloads_of ps (payload_list ps) same.other)

  payload_self : (p : PayloadTerm) → SamePayload p p
  payload_self (payload n c s) = (refl, common_self c, schema_self s)

  payloads_self : (ps : PayloadTerms) → AllByRecursion (λ p. SamePayload p p) (payload_list ps)
  payloads_self no_payloads = tt
  payloads_self (more_payloads p ps) = (payload_self p, payloads_self ps)

mutual
  schema_back : (s t : SchemaTerm) → SameSchema s t → SameSchema t s
  schema_back (primitive p) (primitive q) same = sym same
  schema_back (primitive p) other same = absurd same
  schema_back (named id) (named another) same = sym same
  schema_back (named id) other same = absurd same
  schema_back (array_of c s) (array_of d t) same = (common_back c d same.0, schema_back s t same.1)
  schema_back (array_of c s) other same = absurd same
  schema_back (enumeration c of_text es) (enumeration d of_texts fs) same = (
    common_back c d same.0,
    sym same.1,
    same_elements_back SameEnumEntry es fs (everywhere (λ e. (f : EnumEntry) → SameEnumEntry e f → SameEnumEntry f e) enum_entry_back es) same.2,
  )
  schema_back (enumeration c of_text es) other same = absurd same
  schema_back (map_of c k e) (map_of d l f) same = (common_back c d same.0, payload_back k l same.1, payload_back e f same.2)
  schema_back (map_of c k e) other same = absurd same
  schema_back (object_of c ps) (object_of d qs) same =
      let turned = same_elements_back SamePayload (payload_list ps) (payload_list qs) (payloads_back ps) (same_payloads ps qs same.1 same.2) in
      (common_back c d same.0, each_payload_of qs (payload_list ps) turned.each, payloads_of qs (payload_list ps) turned.other)
  schema_back (object_of c ps) other same = absurd same

  payload_back : (p q : PayloadTerm) → SamePayload p q → SamePayload q p
  payload_back (payload n c s) (payload m d t) same = (sym same.0, common_back c d same.1, schema_back s t same.2)

  payloads_back : (ps : PayloadTerms) → AllByRecursion (λ p. (q : PayloadTerm) → SamePayload p q → SamePayload q p) (payload_list ps)
  payloads_back no_payloads = tt
  payloads_back (more_payloads p ps) = (payload_back p, payloads_back ps)

mutual
  schema_through : (s t u : SchemaTerm) → SameSchema s t → SameSchema t u → SameSchema s u
  schema_through (primitive p) (primitive q) (primitive r) first second = first ∙ second
  schema_through (primitive p) (primitive q) other first second = absurd second
  schema_through (primitive p) other u first second = absurd first
  schema_through (named p) (named q) (named r) first second = first ∙ second
  schema_through (named p) (named q) other first second = absurd second
  schema_through (named p) other u first second = absurd first
  schema_through (array_of c s) (array_of d t) (array_of e u) first second = (common_through c d e first.0 second.0, schema_through s t u first.1 second.1)
  schema_through (array_of c s) (array_of d t) other first second = absurd second
  schema_through (array_of c s) other u first second = absurd first
  schema_through (enumeration c a xs) (enumeration d b ys) (enumeration e k zs) first second = (
    common_through c d e first.0 second.0,
    first.1 ∙ second.1,
    same_elements_through SameEnumEntry xs ys zs
        (everywhere (λ x. (y z : EnumEntry) → SameEnumEntry x y → SameEnumEntry y z → SameEnumEntry x z) enum_entry_through xs) first.2 second.2,
  )
  schema_through (enumeration c a xs) (enumeration d b ys) other first second = absurd second
  schema_through (enumeration c a xs) other u first second = absurd first
  schema_through (map_of c k v) (map_of d l w) (map_of e m x) first second =
      (common_through c d e first.0 second.0, payload_through k l m first.1 second.1, payload_through v w x first.2 second.2)
  schema_through (map_of c k v) (map_of d l w) other first second = absurd second
  schema_through (map_of c k v) other u first second = absurd first
  schema_through (object_of c ps) (object_of d qs) (object_of e rs) first second =
      let joined = same_elements_through SamePayload (payload_list ps) (payload_list qs) (payload_list rs) (payloads_through ps)
      (same_payloads ps qs first.1 first.2) (same_payloads qs rs second.1 second.2) in
      (common_through c d e first.0 second.0, each_payload_of ps (payload_list rs) joined.each, payloads_of ps (payload_list rs) joined.other)
  schema_through (object_of c ps) (object_of d qs) other first second = absurd second
  schema_through (object_of c ps) other u first second = absurd first

  payload_through : (p q r : PayloadTerm) → SamePayload p q → SamePayload q r → SamePayload p r
  payload_through (payload n c s) (payload m d t) (payload l e u) first second =
      (first.0 ∙ second.0, common_through c d e first.1 second.1, schema_through s t u first.2 second.2)

  payloads_through : (ps : PayloadTerms) → AllByRecursion (λ p. (q r : PayloadTerm) → SamePayload p q → SamePayload q r → SamePayload p r) (payload_list ps)
  payloads_through no_payloads = tt
  payloads_through (more_payloads p ps) = (payload_through p, payloads_through ps)

optional_self : (o : Option PayloadTerm) → SameOptionalPayload o o
optional_self None = tt
optional_self (Some p) = payload_self p

optional_back : (o r : Option PayloadTerm) → SameOptionalPayload o r → SameOptionalPayload r o
optional_back None None same = tt
optional_back None (Some q) same = absurd same
optional_back (Some p) None same = absurd same
optional_back (Some p) (Some q) same = payload_back p q same

optional_through : (o r t : Option PayloadTerm) → SameOptionalPayload o r → SameOptionalPayload r t → SameOptionalPayload o t
optional_through None None t first second = second
optional_through None (Some q) t first second = absurd first
optional_through (Some p) None t first second = absurd first
optional_through (Some p) (Some q) None first second = absurd second
optional_through (Some p) (Some q) (Some r) first second = payload_through p q r first second

-- ---- contents as lists
each_content_of : (ps : ContentTerms) (qs : List ContentTerm) → AllByRecursion (λ p. AnyByRecursion (SameContent p) qs) (content_list ps) → EachContentIn ps qs
each_content_of no_contents qs all = tt
each_content_of (more_contents p ps) qs all = (all.0, each_content_of ps qs all.1)

each_content_in : (ps : ContentTerms) (qs : List ContentTerm) → EachContentIn ps qs → AllByRecursion (λ p. AnyByRecursion (SameContent p) qs) (content_list ps)
each_content_in no_contents qs all = tt
each_content_in (more_contents p ps) qs all = (all.0, each_content_in ps qs all.1)

content_of : (ps : ContentTerms) (q : ContentTerm) → AnyByRecursion (λ p. SameContent p q) (content_list ps) → IsContentOf ps q
content_of no_contents q any = absurd any
content_of (more_contents p ps) q (inl here) = inl here
content_of (more_contents p ps) q (inr later) = inr (content_of ps q later)

content_in : (ps : ContentTerms) (q : ContentTerm) → IsContentOf ps q → AnyByRecursion (λ p. SameContent p q) (content_list ps)
content_in no_contents q any = absurd any
content_in (more_contents p ps) q (inl here) = inl here
content_in (more_contents p ps) q (inr later) = inr (content_in ps q later)

contents_of : (ps : ContentTerms) (qs : List ContentTerm) → AllByRecursion (λ q. AnyByRecursion (λ p. SameContent p q) (content_list ps)) qs → AllByRecursion (IsContentOf ps) qs
contents_of ps [] all = tt
contents_of ps (q ∷ qs) all = (content_of ps q all.0, contents_of ps qs all.1)

contents_in : (ps : ContentTerms) (qs : List ContentTerm) → AllByRecursion (IsContentOf ps) qs → AllByRecursion (λ q. AnyByRecursion (λ p. SameContent p q) (content_list ps)) qs
contents_in ps [] all = tt
contents_in ps (q ∷ qs) all = (content_in ps q all.0, contents_in ps qs all.1)

abbrev SameContents : ContentTerms → ContentTerms → Type 0
SameContents ps qs = SameElements SameContent (content_list ps) (content_list qs)

pub same_contents : (ps qs : ContentTerms) → EachContentIn ps (content_list qs) → AllByRecursion (IsContentOf ps) (content_list qs) → SameContents ps qs
same_contents ps qs each other = record { each = each_content_in ps (content_list qs) each; other = contents_in ps (content_list qs) other }

-- ---- contents
mutual
  kind_self : (k : KindTerm) → SameKind k k
  kind_self (telemetry s semantic unit) = (schema_self s, refl, refl)
  kind_self (property s semantic unit writable) = (schema_self s, refl, refl, refl)
  kind_self (command request response) = (optional_self request, optional_self response)
  kind_self (relationship target ps most writable) =
      let same = same_elements_self SameContent (content_list ps) (contents_self ps) in
      (refl, each_content_of ps (content_list ps) same.each, contents_of ps (content_list ps) same.other, refl, refl)
  kind_self (component of) = refl

  content_self : (c : ContentTerm) → SameContent c c
  content_self (content n c k) = (refl, common_self c, kind_self k)

  contents_self : (ps : ContentTerms) → AllByRecursion (λ p. SameContent p p) (content_list ps)
  contents_self no_contents = tt
  contents_self (more_contents p ps) = (content_self p, contents_self ps)

mutual
  kind_back : (k l : KindTerm) → SameKind k l → SameKind l k
  kind_back (telemetry s a b) (telemetry t c d) same = (schema_back s t same.0, sym same.1, sym same.2)
  kind_back (telemetry s a b) other same = absurd same
  kind_back (property s a b w) (property t c d v) same = (schema_back s t same.0, sym same.1, sym same.2, sym same.3)
  kind_back (property s a b w) other same = absurd same
  kind_back (command a b) (command c d) same = (optional_back a c same.0, optional_back b d same.1)
  kind_back (command a b) other same = absurd same
  kind_back (relationship t ps m w) (relationship u qs n v) same =
      let turned = same_elements_back SameContent (content_list ps) (content_list qs) (contents_back ps) (same_contents ps qs same.1 same.2) in
      (sym same.0, each_content_of qs (content_list ps) turned.each, contents_of qs (content_list ps) turned.other, sym same.3, sym same.4)
  kind_back (relationship t ps m w) other same = absurd same
  kind_back (component a) (component b) same = sym same
  kind_back (component a) other same = absurd same

  content_back : (c d : ContentTerm) → SameContent c d → SameContent d c
  content_back (content n c k) (content m d l) same = (sym same.0, common_back c d same.1, kind_back k l same.2)

  contents_back : (ps : ContentTerms) → AllByRecursion (λ p. (q : ContentTerm) → SameContent p q → SameContent q p) (content_list ps)
  contents_back no_contents = tt
  contents_back (more_contents p ps) = (content_back p, contents_back ps)

mutual
  kind_through : (j k l : KindTerm) → SameKind j k → SameKind k l → SameKind j l
  kind_through (telemetry s a b) (telemetry t c d) (telemetry u e f) first second =
      (schema_through s t u first.0 second.0, first.1 ∙ second.1, first.2 ∙ second.2)
  kind_through (telemetry s a b) (telemetry t c d) other first second = absurd second
  kind_through (telemetry s a b) other l first second = absurd first
  kind_through (property s a b w) (property t c d v) (property u e f x) first second =
      (schema_through s t u first.0 second.0, first.1 ∙ second.1, first.2 ∙ second.2, first.3 ∙ second.3)
  kind_through (property s a b w) (property t c d v) other first second = absurd second
  kind_through (property s a b w) other l first second = absurd first
  kind_through (command a b) (command c d) (command e f) first second =
      (optional_through a c e first.0 second.0, optional_through b d f first.1 second.1)
  kind_through (command a b) (command c d) other first second = absurd second
  kind_through (command a b) other l first second = absurd first
  kind_through (relationship t ps m w) (relationship u qs n v) (relationship x rs o y) first second =
      let joined = same_elements_through SameContent (content_list ps) (content_list qs) (content_list rs) (contents_through ps)
      (same_contents ps qs first.1 first.2) (same_contents qs rs second.1 second.2) in (
        first.0 ∙ second.0,
        each_content_of ps (content_list rs) joined.each,
        contents_of ps (content_list rs) joined.other,
        first.3 ∙ second.3,
        first.4 ∙ second.4,
      )
  kind_through (relationship t ps m w) (relationship u qs n v) other first second = absurd second
  kind_through (relationship t ps m w) other l first second = absurd first
  kind_through (component a) (component b) (component c) first second = first ∙ second
  kind_through (component a) (component b) other first second = absurd second
  kind_through (component a) other l first second = absurd first

  content_through : (b c d : ContentTerm) → SameContent b c → SameContent c d → SameContent b d
  content_through (content n b j) (content m c k) (content l d i) first second =
      (first.0 ∙ second.0, common_through b c d first.1 second.1, kind_through j k i first.2 second.2)

  contents_through : (ps : ContentTerms) → AllByRecursion (λ p. (q r : ContentTerm) → SameContent p q → SameContent q r → SameContent p r) (content_list ps)
  contents_through no_contents = tt
  contents_through (more_contents p ps) = (content_through p, contents_through ps)

-- ---- interfaces
pub interface_self : (i : Interface) → DeclareTheSame i i
interface_self i = record {
  id = refl;
  comment = refl;
  description = equals_self i.description.entries [] [];
  display_name = equals_self i.display_name.entries [] [];
  parents = equals_self i.parents [] [];
  contents = same_elements_self SameContent (map content_term i.contents) (everywhere (λ c. SameContent c c) content_self (map content_term i.contents));
  schemas = same_elements_self SameSchema (map schema_term i.schemas) (everywhere (λ s. SameSchema s s) schema_self (map schema_term i.schemas));
}

pub interface_back : (i j : Interface) → DeclareTheSame i j → DeclareTheSame j i
interface_back i j same = record {
  id = sym same.id;
  comment = sym same.comment;
  description = equals_back i.description.entries j.description.entries [] same.description;
  display_name = equals_back i.display_name.entries j.display_name.entries [] same.display_name;
  parents = equals_back i.parents j.parents [] same.parents;
  contents = same_elements_back SameContent (map content_term i.contents) (map content_term j.contents)
      (everywhere (λ c. (d : ContentTerm) → SameContent c d → SameContent d c) content_back (map content_term i.contents)) same.contents;
  schemas = same_elements_back SameSchema (map schema_term i.schemas) (map schema_term j.schemas)
      (everywhere (λ s. (t : SchemaTerm) → SameSchema s t → SameSchema t s) schema_back (map schema_term i.schemas)) same.schemas;
}

pub interface_through : (i j k : Interface) → DeclareTheSame i j → DeclareTheSame j k → DeclareTheSame i k
interface_through i j k first second = record {
  id = first.id ∙ second.id;
  comment = first.comment ∙ second.comment;
  description = equals_through i.description.entries j.description.entries k.description.entries first.description second.description;
  display_name = equals_through i.display_name.entries j.display_name.entries k.display_name.entries first.display_name second.display_name;
  parents = equals_through i.parents j.parents k.parents first.parents second.parents;
  contents = same_elements_through SameContent (map content_term i.contents) (map content_term j.contents) (map content_term k.contents)
      (everywhere (λ c. (d e : ContentTerm) → SameContent c d → SameContent d e → SameContent c e) content_through (map content_term i.contents))
      first.contents second.contents;
  schemas = same_elements_through SameSchema (map schema_term i.schemas) (map schema_term j.schemas) (map schema_term k.schemas)
      (everywhere (λ s. (t u : SchemaTerm) → SameSchema s t → SameSchema t u → SameSchema s u) schema_through (map schema_term i.schemas))
      first.schemas second.schemas;
}
