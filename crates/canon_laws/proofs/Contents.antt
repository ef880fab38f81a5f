-- What a canonical content, and a canonical interface, declares has its tree.
use Rattle.std.proofs.Common.{◌≡◌, ℕ, inl, inr, List, [], ◌∷◌, ◌++◌, map, Option, Some, None, refl, sym, ap, ◌∙◌, subst}
use Rattle.std.specs.Prelude.{codes, IfSome}
use Rattle.std.specs.Option.{option_and_then, option_map}
use Rattle.std.specs.List.{AllByRecursion, AllZip}
use Rattle.dt_base.specs.names.Grammar.{Identifier, dtmi_text}
use Rattle.json_decimal.specs.Number.{Number}
use Rattle.json_tree.specs.Values.{Json, text, array, object, Elements, no_elements, element, elements_of, Members, members_of}
use Rattle.json_tree.specs.Members.{list_of, value_at}
use Rattle.local_rules.specs.Roles.{element_named, named_by, type_in}
use Rattle.local_rules.specs.Types.{further}
use Rattle.local_rules.specs.declared.role.Element.{Element}
use Rattle.local_rules.specs.declared.role.Element.TheVariants as element_kind
use Rattle.local_rules.specs.declared.role.Position.{Position}
use Rattle.local_rules.specs.declared.role.Position.TheVariants as position
use Rattle.dtdl_terms.specs.Terms.{ContentTerm, content, KindTerm, telemetry, property, command, relationship, component, ContentTerms, no_contents, more_contents}
use Rattle.dtdl_terms.specs.TermViews.{schema_term, content_term}
use Rattle.dtdl_terms.specs.Equality.{content_list}
use Rattle.dtdl_terms.specs.declared.common.Common.{Common}
use Rattle.dtdl_terms.specs.declared.content.Content.{Content}
use Rattle.dtdl_terms.specs.declared.interface.Interface.{Interface}
use Rattle.dtdl_terms.specs.declared.schema.Schema.{Schema}
use Rattle.local_rules.specs.Declarations.{IsIdentifier, HasId, HasOptionalString, HasOptionalId, IsSemantic, AreKind, IsContent, AreProperties, HasKindOf, IsContentEntry, HasParents, IsSchema, DeclaresInterface}
use Rattle.local_rules.specs.Typed.{type_of_kind, IsPropertyTerm, NamesNoType, KindIsTyped, ContentIsTyped, PropertiesAreTyped, IsTyped}
use Rattle.canon_text.specs.Objects.{present, object_of_parts, list_in_order, unless_empty}
use Rattle.canon_text.specs.Canonical.{id_value, localized_value, element_parts, schema_pair, typed, kind_type, writable_value, most_value, kind_parts, content_value, content_pairs, content_pair, parent_pair, interface_value, interface_pair}
use Rattle.canon_text.proofs.Told.{all_with, all_mapped}
use Rattle.canon_laws.proofs.Tables.{Pairs, Parts, first_some, found, at, same_some, string_told, id_told, writable_back, most_back, PairBack, optional_back, localized_back, LacksCommon, type_at, element_back}
use Rattle.canon_laws.proofs.Schemas.{schema_back, schema_part_back, optional_payload_back}

-- ---- types
module _ (p : Position) (v w : Json) (e : Element) (first : named_by p v ≡ Some e) (second : named_by p w ≡ None) where
  pub two_types : type_in p (array (elements_of (v ∷ w ∷ []))) ≡ Some e
  two_types = rw (first, second) refl

  pub two_further : further p (list_of (elements_of (v ∷ w ∷ []))) ≡ w ∷ []
  two_further = rw (first, second) refl

pub typed_type : (p : Position) (type : List ℕ) (e : Element) (semantic : Option (List ℕ)) → element_named p type ≡ Some e → IfSome semantic (NamesNoType p)
    → type_in p (typed type semantic) ≡ Some e
typed_type p type e None named h = rw named refl
typed_type p type e (Some name) named h = two_types p (text type) (text name) e named h

pub kind_type_in : (k : KindTerm) → KindIsTyped position.Content k → type_in position.Content (kind_type k) ≡ Some (type_of_kind k)
kind_type_in (telemetry s semantic unit) h = typed_type position.Content (codes "Telemetry") element_kind.Telemetry semantic refl h
kind_type_in (property s semantic unit writable) h = typed_type position.Content (codes "Property") element_kind.Property semantic refl h
kind_type_in (command request response) h = refl
kind_type_in (relationship target properties most writable) h = refl
kind_type_in (component of) h = refl

semantic_back : (p : Position) (type : List ℕ) (e : Element) (o q : Option (List ℕ)) → element_named p type ≡ Some e → IfSome o (NamesNoType p)
    → IsSemantic p (Some (typed type o)) q → q ≡ o
semantic_back p type e None None named h g = refl
semantic_back p type e None (Some b) named h g = absurd g
semantic_back p type e (Some a) None named h g =
    absurd (let f : text a ∷ [] ≡ [] = sym (two_further p (text type) (text a) e named h) ∙ g in cc)
semantic_back p type e (Some a) (Some b) named h g =
    let f : text a ∷ [] ≡ text b ∷ [] = sym (two_further p (text type) (text a) e named h) ∙ g in
    let same : b ≡ a = cc in
    ap Some same

-- ---- contents
abbrev pub IsPropertyIn : Json → ContentTerm → Type 0
IsPropertyIn v c = IsContent position.Property c v × IsPropertyTerm c

content_pairs_list : (cs : ContentTerms) → content_pairs cs ≡ map content_pair (content_list cs)
content_pairs_list no_contents = refl
content_pairs_list (more_contents c cs) = ap (λ (ms : Pairs). content_pair c ∷ ms) (content_pairs_list cs)

properties_zip : (cs : ContentTerms) (vs : Elements Number) → AreProperties cs vs → AllZip IsPropertyIn (list_of vs) (content_list cs)
properties_zip no_contents no_elements g = tt
properties_zip no_contents (element v vs) g = absurd g
properties_zip (more_contents c cs) no_elements g = absurd g
properties_zip (more_contents c cs) (element v vs) g = (g.0, properties_zip cs vs g.1)

-- optional texts and identifiers under a key of a table
text_back : (key : List ℕ) (ps : Parts) (ms : Members Number) (o q : Option (List ℕ)) → object_of_parts ps ≡ object ms → found key ps ≡ first_some (option_map text o) None
    → HasOptionalString key ms q → ◌≡◌ {A = Option Json} (option_map text q) (option_map text o)
text_back key ps ms o q object_is there g = sym (string_told key ms q g) ∙ at key ps ms (option_map text o) object_is there

id_back : (key : List ℕ) (ps : Parts) (ms : Members Number) (o q : Option Identifier) → object_of_parts ps ≡ object ms → found key ps ≡ first_some (option_map id_value o) None
    → HasOptionalId key ms q → option_map id_value q ≡ option_map id_value o
id_back key ps ms o q object_is there g = sym (id_told key ms q g) ∙ at key ps ms (option_map id_value o) object_is there

own_id_back : (key : List ℕ) (ps : Parts) (ms : Members Number) (i j : Identifier) → object_of_parts ps ≡ object ms → found key ps ≡ Some (id_value i) → HasId key ms j → id_value j ≡ id_value i
own_id_back key ps ms i j object_is there g = same_some (id_value j) (id_value i) (sym (g.1 ∙ ap Some g.2.0) ∙ at key ps ms (Some (id_value i)) object_is there)

abbrev pub table : List ℕ → Common → KindTerm → Parts
table n c k = element_parts (Some (kind_type k)) c ++ kind_parts n k

pub kind_lacks : (n : List ℕ) (k : KindTerm) → LacksCommon (kind_parts n k)
kind_lacks n (telemetry s semantic unit) = (refl, refl, refl, refl, refl)
kind_lacks n (property s semantic unit writable) = (refl, refl, refl, refl, refl)
kind_lacks n (command request response) = (refl, refl, refl, refl, refl)
kind_lacks n (relationship target properties most writable) = (refl, refl, refl, refl, refl)
kind_lacks n (component of) = (refl, refl, refl, refl, refl)

pub name_found : (n : List ℕ) (c : Common) (k : KindTerm) → found (codes "name") (table n c k) ≡ Some (text n)
name_found n c (telemetry s semantic unit) = refl
name_found n c (property s semantic unit writable) = refl
name_found n c (command request response) = refl
name_found n c (relationship target properties most writable) = refl
name_found n c (component of) = refl

pub kind_type_at : (n : List ℕ) (c : Common) (k : KindTerm) (ms : Members Number) → object_of_parts (table n c k) ≡ object ms → value_at (codes "@type") ms ≡ Some (kind_type k)
kind_type_at n c k ms object_is = type_at (Some (kind_type k)) c (kind_parts n k) (kind_lacks n k) ms object_is

-- a kind that may have a semantic type stands in a position that has its type
abbrev Stands : Position → KindTerm → Type 0
Stands p (telemetry s semantic unit) = element_named p (codes "Telemetry") ≡ Some element_kind.Telemetry
Stands p (property s semantic unit writable) = element_named p (codes "Property") ≡ Some element_kind.Property
Stands p (command request response) = Unit {0}
Stands p (relationship target properties most writable) = Unit {0}
Stands p (component of) = Unit {0}

content_stands : (k : KindTerm) → Stands position.Content k
content_stands (telemetry s semantic unit) = refl
content_stands (property s semantic unit writable) = refl
content_stands (command request response) = tt
content_stands (relationship target properties most writable) = tt
content_stands (component of) = tt

property_stands : (k : KindTerm) → type_of_kind k ≡ element_kind.Property → Stands position.Property k
property_stands (telemetry s semantic unit) e = absurd cc
property_stands (property s semantic unit writable) e = refl
property_stands (command request response) e = absurd cc
property_stands (relationship target properties most writable) e = absurd cc
property_stands (component of) e = absurd cc

-- what is read of the kind of a canonical content has its type and its parts
abbrev KindBack : Position → List ℕ → Common → KindTerm → Type 0
KindBack p n c k = (m : List ℕ) (l : KindTerm) (ms : Members Number) → type_of_kind l ≡ type_of_kind k → object_of_parts (table n c k) ≡ object ms → m ≡ n → AreKind p l ms
    → (kind_type l ≡ kind_type k) × (kind_parts m l ≡ kind_parts n k)

from_kind : (p : Position) (n : List ℕ) (c : Common) (k : KindTerm) → KindBack p n c k → (m : List ℕ) (d : Common) (l : KindTerm) → type_of_kind l ≡ type_of_kind k
    → IsContent p (content m d l) (content_value (content n c k)) → content_pair (content m d l) ≡ content_pair (content n c k)
from_kind p n c k back m d l kinds g =
    let names : text m ≡ text n = same_some (text m) (text n) (sym g.2 ∙ at (codes "name") (table n c k) g.0 (Some (text n)) g.1 (name_found n c k)) in
    let name : m ≡ n = cc in
    let own = back m l g.0 kinds g.1 name g.4 in
    let value = ap (λ (v : Json). object_of_parts (element_parts (Some v) d ++ kind_parts m l)) own.0
    ∙ element_back (Some (kind_type k)) c (kind_parts n k) (kind_lacks n k) g.0 g.1 d g.3 (kind_parts m l) own.1 in
    λ i. (name i, value i)

mutual
  kind_back : (p : Position) (n : List ℕ) (c : Common) (k l : KindTerm) → type_of_kind l ≡ type_of_kind k → Stands p k → KindIsTyped p k → (m : List ℕ) (ms : Members Number)
      → object_of_parts (table n c k) ≡ object ms → m ≡ n → AreKind p l ms → (kind_type l ≡ kind_type k) × (kind_parts m l ≡ kind_parts n k)
  kind_back p n c (telemetry s a u) (telemetry t b v) _ = λ stands known m ms object_is name g.
      let ps = table n c (telemetry s a u) in
      let schema = schema_part_back s t (codes "schema") ps ms object_is refl g.0 in
      let seen = subst (λ (o : Option Json). IsSemantic p o b) (kind_type_at n c (telemetry s a u) ms object_is) g.1 in
      let semantic = semantic_back p (codes "Telemetry") element_kind.Telemetry a b stands known seen in
      let unit = text_back (codes "unit") ps ms u v object_is refl g.2 in
      (ap (typed (codes "Telemetry")) semantic, λ i. (codes "name", Some (text (name i))) ∷ (codes "schema", Some (schema i)) ∷ (codes "unit", unit i) ∷ [])
  kind_back p n c (telemetry s a u) other e = absurd cc
  kind_back p n c (property s a u w) (property t b v x) _ = λ stands known m ms object_is name g.
      let ps = table n c (property s a u w) in
      let schema = schema_part_back s t (codes "schema") ps ms object_is refl g.0 in
      let seen = subst (λ (o : Option Json). IsSemantic p o b) (kind_type_at n c (property s a u w) ms object_is) g.1 in
      let semantic = semantic_back p (codes "Property") element_kind.Property a b stands known seen in
      let unit = text_back (codes "unit") ps ms u v object_is refl g.2 in
      let writable = writable_back w (value_at (codes "writable") ms) x (at (codes "writable") ps ms (writable_value w) object_is refl) g.3 in (
        ap (typed (codes "Property")) semantic,
        λ i. (codes "name", Some (text (name i))) ∷ (codes "schema", Some (schema i)) ∷ (codes "unit", unit i) ∷ (codes "writable", writable i) ∷ [],
      )
  kind_back p n c (property s a u w) other e = absurd cc
  kind_back p n c (command q r) (command o s) _ = λ stands known m ms object_is name g.
      let ps = table n c (command q r) in
      let request = optional_payload_back q o (codes "request") ps ms object_is refl g.0 in
      let response = optional_payload_back r s (codes "response") ps ms object_is refl g.1 in
      (refl, λ i. (codes "name", Some (text (name i))) ∷ (codes "request", request i) ∷ (codes "response", response i) ∷ [])
  kind_back p n c (command q r) other e = absurd cc
  kind_back p n c (relationship t cs o w) (relationship u ds q x) _ = λ stands known m ms object_is name g.
      let ps = table n c (relationship t cs o w) in
      let target = id_back (codes "target") ps ms t u object_is refl g.0 in
      let list = at (codes "properties") ps ms (unless_empty list_in_order (content_pairs cs)) object_is refl in
      let properties = ap (unless_empty list_in_order) (content_pairs_list ds)
      ∙ optional_back IsPropertyIn content_pair (content_pairs cs) (value_at (codes "properties") ms) g.1.0 (content_list ds) (properties_back cs known) list g.1.1
      (properties_zip ds g.1.0 g.1.2) in
      let most = most_back ms o q (at (codes "maxMultiplicity") ps ms (option_map most_value o) object_is refl) g.2 in
      let writable = writable_back w (value_at (codes "writable") ms) x (at (codes "writable") ps ms (writable_value w) object_is refl) g.3 in (
        refl,
        λ i. (codes "maxMultiplicity", most i) ∷ (codes "name", Some (text (name i))) ∷ (codes "properties", properties i) ∷ (codes "target", target i)
            ∷ (codes "writable", writable i) ∷ [],
      )
  kind_back p n c (relationship t cs o w) other e = absurd cc
  kind_back p n c (component of) (component another) _ = λ stands known m ms object_is name g.
      let id = own_id_back (codes "schema") (table n c (component of)) ms of another object_is refl g in
      (refl, λ i. (codes "name", Some (text (name i))) ∷ (codes "schema", Some (id i)) ∷ [])
  kind_back p n c (component of) other e = absurd cc

  property_back : (c d : ContentTerm) → IsPropertyTerm c → ContentIsTyped position.Property c → IsPropertyIn (content_value c) d → content_pair d ≡ content_pair c
  property_back (content n c k) (content m d l) kind known g =
      from_kind position.Property n c k (λ o j ms same object_is name h. kind_back position.Property n c k j same (property_stands k kind) known o ms object_is name h) m d l
      (g.1 ∙ sym kind) g.0

  properties_back : (cs : ContentTerms) → PropertiesAreTyped cs → AllByRecursion (PairBack IsPropertyIn content_pair) (content_pairs cs)
  properties_back no_contents h = tt
  properties_back (more_contents c cs) h = (λ d g. property_back c d h.0.0 h.0.1 g, properties_back cs h.1)

pub content_back : (c d : ContentTerm) → ContentIsTyped position.Content c → HasKindOf d (content_value c) → IsContent position.Content d (content_value c)
    → content_pair d ≡ content_pair c
content_back (content n c k) (content m d l) known kind g =
    let types = ap (option_and_then (type_in position.Content)) (kind_type_at n c k (members_of (present (table n c k))) refl) ∙ kind_type_in k known in
    let both : Some (type_of_kind l) ≡ Some (type_of_kind k) = sym kind ∙ types in
    let same : type_of_kind l ≡ type_of_kind k = cc in
    from_kind position.Content n c k (λ o j ms e object_is name h. kind_back position.Content n c k j e (content_stands k) known o ms object_is name h) m d l same g

-- ---- interfaces
parent_back : (p : Identifier) → PairBack IsIdentifier parent_pair (parent_pair p)
parent_back p id g =
    let words : text (dtmi_text id) ≡ text (dtmi_text p) = sym g.0 in
    let same : dtmi_text id ≡ dtmi_text p = cc in
    λ i. (same i, text (same i))

each_parent_back : (ps : List Identifier) → AllByRecursion (λ p. PairBack IsIdentifier parent_pair (parent_pair p)) ps
each_parent_back [] = tt
each_parent_back (p ∷ ps) = (parent_back p, each_parent_back ps)

parents_back : (ps : List Identifier) (v : Option Json) (ids : List Identifier) → v ≡ unless_empty list_in_order (map parent_pair ps) → HasParents v ids
    → unless_empty list_in_order (map parent_pair ids) ≡ unless_empty list_in_order (map parent_pair ps)
parents_back [] None ids e g = ap (λ (is : List Identifier). unless_empty list_in_order (map parent_pair is)) g
parents_back [] (Some v) ids e g = absurd (let f : Some v ≡ None = e in cc)
parents_back (p ∷ ps) None ids e g = absurd (let f : None ≡ Some (list_in_order (map parent_pair (p ∷ ps))) = e in cc)
parents_back (p ∷ ps) (Some v) ids e (inl g) =
    absurd (let f : text (dtmi_text g.0) ≡ list_in_order (map parent_pair (p ∷ ps)) = sym g.2.0 ∙ same_some v (list_in_order (map parent_pair (p ∷ ps))) e in cc)
parents_back (p ∷ ps) (Some v) ids e (inr g) =
    optional_back IsIdentifier parent_pair (map parent_pair (p ∷ ps)) (Some v) g.0 ids (all_mapped parent_pair (PairBack IsIdentifier parent_pair) (p ∷ ps) (each_parent_back (p ∷ ps))) e g.1 g.2

abbrev pub content_named : Content → List ℕ × Json
content_named c = content_pair (content_term c)

abbrev pub schema_named : Schema → List ℕ × Json
schema_named s = schema_pair (schema_term s)

abbrev IsSchemaIn : Json → Schema → Type 0
IsSchemaIn v s = IsSchema (schema_term s) v

each_schema_back : (ss : List Schema) → AllByRecursion (λ s. PairBack IsSchemaIn schema_named (schema_named s)) ss
each_schema_back [] = tt
each_schema_back (s ∷ ss) = (λ t g. schema_back (schema_term s) (schema_term t) g, each_schema_back ss)

abbrev pub interface_parts : Interface → Parts
interface_parts i =
    (codes "@context", Some (text (codes "dtmi:dtdl:context;2")))
    ∷ (codes "@id", Some (id_value i.id))
    ∷ (codes "@type", Some (text (codes "Interface")))
    ∷ (codes "comment", option_map text i.comment)
    ∷ (codes "contents", unless_empty list_in_order (map content_named i.contents))
    ∷ (codes "description", localized_value i.description)
    ∷ (codes "displayName", localized_value i.display_name)
    ∷ (codes "extends", unless_empty list_in_order (map parent_pair i.parents))
    ∷ (codes "schemas", unless_empty list_in_order (map schema_named i.schemas))
    ∷ []

pub interface_back : (i j : Interface) (ms : Members Number) → IsTyped i → interface_value i ≡ object ms → DeclaresInterface ms j → interface_pair j ≡ interface_pair i
interface_back i j ms known object_is g =
    let parts : Parts = interface_parts i in
    let id = own_id_back (codes "@id") parts ms i.id j.id object_is refl g.id in
    let words : text (dtmi_text j.id) ≡ text (dtmi_text i.id) = id in
    let name : dtmi_text j.id ≡ dtmi_text i.id = cc in
    let comment = text_back (codes "comment") parts ms i.comment j.comment object_is refl g.comment in
    let contents = optional_back IsContentEntry content_named (map content_named i.contents) (value_at (codes "contents") ms) g.contents.0 j.contents
    (all_mapped content_named (PairBack IsContentEntry content_named) i.contents
    (all_with (λ c. ContentIsTyped position.Content (content_term c)) (λ c. PairBack IsContentEntry content_named (content_named c))
    (λ c h d e. content_back (content_term c) (content_term d) h e.0 e.1) i.contents known))
    (at (codes "contents") parts ms (unless_empty list_in_order (map content_named i.contents)) object_is refl) g.contents.1 g.contents.2 in
    let description = localized_back (codes "description") ms i.description j.description (at (codes "description") parts ms (localized_value i.description) object_is refl) g.description in
    let display_name = localized_back (codes "displayName") ms i.display_name j.display_name (at (codes "displayName") parts ms (localized_value i.display_name) object_is refl) g.display_name in
    let parents = parents_back i.parents (value_at (codes "extends") ms) j.parents (at (codes "extends") parts ms (unless_empty list_in_order (map parent_pair i.parents)) object_is refl) g.parents in
    let schemas = optional_back IsSchemaIn schema_named (map schema_named i.schemas) (value_at (codes "schemas") ms) g.schemas.0 j.schemas
    (all_mapped schema_named (PairBack IsSchemaIn schema_named) i.schemas (each_schema_back i.schemas))
    (at (codes "schemas") parts ms (unless_empty list_in_order (map schema_named i.schemas)) object_is refl) g.schemas.1 g.schemas.2 in
    λ k. (
      name k,
      object_of_parts (
          (codes "@context", Some (text (codes "dtmi:dtdl:context;2")))
          ∷ (codes "@id", Some (id k))
          ∷ (codes "@type", Some (text (codes "Interface")))
          ∷ (codes "comment", comment k)
          ∷ (codes "contents", contents k)
          ∷ (codes "description", description k)
          ∷ (codes "displayName", display_name k)
          ∷ (codes "extends", parents k)
          ∷ (codes "schemas", schemas k)
          ∷ []),
    )
