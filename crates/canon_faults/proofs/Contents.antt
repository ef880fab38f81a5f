-- Canonical contents have no fault where those that declare them have none.
use Rattle.std.proofs.Common.{◌≡◌, ℕ, zero, suc, inl, inr, List, [], ◌∷◌, map, Bool, true, false, ℤ, pos, Option, Some, None, option_and_then, refl, sym, ap, subst, ◌∙◌, arith}
use Rattle.std.specs.Prelude.{codes, IfSome, ◌≤ℤ◌}
use Rattle.std.specs.Option.{option_map}
use Rattle.std.specs.List.{AllByRecursion}
use Rattle.std.proofs.lemmas.Bool.{false≢true}
use Rattle.json_decimal.specs.Number.{Number}
use Rattle.json_decimal.specs.Comparing.{IsWhole}
use Rattle.json_decimal.proofs.Wholes.{one_whole}
use Rattle.json_tree.specs.Values.{Json, null, truth, number, text, array, object, Elements, no_elements, element, elements_of, Members}
use Rattle.json_tree.specs.Places.{element_at}
use Rattle.dtdl_terms.specs.Terms.{SchemaTerm, PayloadTerm, ContentTerm, content, KindTerm, telemetry, property, command, relationship, component, ContentTerms, no_contents, more_contents}
use Rattle.dtdl_terms.specs.Distinct.{AreDistinct, KindIsDistinct, ContentIsDistinct, ContentsAreDistinct, OptionalPayloadIsDistinct, SchemaIsDistinct, content_name, content_names}
use Rattle.dtdl_terms.specs.declared.common.Common.{Common}
use Rattle.json_tree.specs.Members.{list_of, members_in, text_in, value_at}
use Rattle.local_rules.specs.Repeats.{name_in}
use Rattle.local_rules.specs.Roles.{element_named, element_of, entry_role, key_of, position_of, type_in, type_of}
use Rattle.local_rules.specs.Tables.{required}
use Rattle.local_rules.specs.Types.{MayHaveBeside, NamesNothing, further}
use Rattle.local_rules.specs.Breaches.{BreaksAlone, BreaksBySchemas}
use Rattle.local_rules.specs.declared.key.Key.TheVariants as key
use Rattle.local_rules.specs.declared.rule.LocalRule.{LocalRule}
use Rattle.local_rules.specs.declared.rule.LocalRule.TheVariants as rule
use Rattle.local_rules.specs.declared.role.Element.{Element}
use Rattle.local_rules.specs.declared.role.Element.TheVariants as element_kind
use Rattle.local_rules.specs.declared.role.PayloadUse.TheVariants as payload_use
use Rattle.local_rules.specs.declared.role.Position.{Position}
use Rattle.local_rules.specs.declared.role.Position.TheVariants as position
use Rattle.local_rules.specs.declared.role.SchemaUse.{SchemaUse}
use Rattle.local_rules.specs.declared.role.SchemaUse.TheVariants as schema_use
use Rattle.local_rules.specs.declared.role.Role.{Role}
use Rattle.local_rules.specs.declared.role.Role.TheVariants as role
use Rattle.local_rules.specs.Declarations.{AreEntriesOf, AreKind, AreProperties, HasCommon, HasKindOf, HasMax, HasOptionalPayload, HasOptionalString, HasSchema, HasString, IsContent, IsSchema, IsSemantic, DeclaresWritable}
use Rattle.local_rules.specs.Typed.{IsPropertyTerm, type_of_kind, ContentIsTyped, KindIsTyped, NamesNoType, PropertiesAreTyped}
use Rattle.local_rules.specs.Limits.{KindIsWithin, ContentIsWithin, ContentsAreWithin, HasShortTexts, OuterPayloadIsWithin, OuterSchemaIsWithin}
use Rattle.model_read.specs.Machinery.Shapes.{CanBe, CanBeTypes}
use Rattle.model_read.proofs.Leaves as leaves
use Rattle.model_read.proofs.Valid.{here}
use Rattle.model_read.proofs.Standing.{BreaksNowhere, Stands, entry_stands, key_stands, stands_valid}
use Rattle.canon_text.specs.Sorting.{sorted_by}
use Rattle.canon_text.specs.Numbers.{whole as whole_number}
use Rattle.canon_text.specs.Objects.{list_in_order, unless_empty}
use Rattle.canon_text.specs.Canonical.{content_pairs, content_pair, content_value, kind_parts, kind_type, most_value, payload_value, schema_value, typed, writable_value}
use Rattle.canon_text.specs.Machinery.Pairs.{pair_name, pair_value}
use Rattle.canon_text.proofs.Told.{are_distinct, keys_of}
use Rattle.canon_laws.proofs.Tables.{id_told, string_told, whole_is}
use Rattle.canon_laws.proofs.Contents.{kind_type_at, kind_type_in, name_found, table, two_further, typed_type}
use Rattle.canon_faults.proofs.Everywhere.{Everywhere}
use Rattle.canon_faults.proofs.Counts.{ids_count}
use Rattle.canon_faults.proofs.Apart.{Named, names_repeat_nothing}
use Rattle.canon_faults.proofs.Fine.{Fine, IsOfObject, IsPlain, all_alone, leaf_fine, list_fine, object_fine, plain_schemas}
use Rattle.canon_faults.proofs.Leaves.{listed_alone, type_alone}
use Rattle.canon_faults.proofs.Good.{EachGood, Good, Pairs, PartGood, Parts, PartsGood, list_good, object_good, part_of}
use Rattle.canon_faults.proofs.Named.{members, under}
use Rattle.canon_faults.proofs.Parts.{HasKeys, IsCommon, element_good, id_part, leaf_part, new_part, nothing_missing, part_at, text_part}
use Rattle.canon_faults.proofs.Schemas.{payload_good, schema_good}

-- ---- `@type`
module _ (cs : Members Number) (p : Position) (nothing : (v : Json) → NamesNothing p v → type_in p v ≡ None) (e : Element) (type : List ℕ) where
  named_type : (v : Json) → type_in p v ≡ Some e → NamesNothing p v → ⊥
  named_type v is none = let f : Some e ≡ None = sym is ∙ nothing v none in cc

  listed_fine : (t : List ℕ) → Fine cs role.ListedText (text t)
  listed_fine t = leaf_fine cs role.ListedText (text t) tt (listed_alone t) (plain_schemas cs role.ListedText (text t) tt)

  -- a list of the type and a semantic type
  module _ (name : List ℕ) (known : element_named p type ≡ Some e) (untyped : NamesNoType p name) (may : CanBe (MayHaveBeside e (text name ∷ []))) where
    abbrev both : Elements Number
    both = elements_of (text type ∷ text name ∷ [])

    typed_is : type_in p (array both) ≡ Some e
    typed_is = typed_type p type e (Some name) known untyped

    beside_alone : BreaksAlone rule.BadSemanticType (role.Type p) (array both) → ⊥
    beside_alone (q, f, is, named, not_beside) =
        let same : q ≡ p = (let g : role.Type p ≡ role.Type q = is in cc) in
        let found : type_in p (array both) ≡ Some f = subst (λ (o : Position). type_in o (array both) ≡ Some f) same named in
        let none : MayHaveBeside f (further p (list_of both)) → ⊥ = subst (λ (o : Position). MayHaveBeside f (further o (list_of both)) → ⊥) same not_beside in
        let kinds : e ≡ f = (let g : Some e ≡ Some f = sym typed_is ∙ found in cc) in
        may (λ m. none (subst (λ (vs : List Json). MayHaveBeside f vs) (sym (two_further p (text type) (text name) e known untyped))
        (subst (λ (k : Element). MayHaveBeside k (text name ∷ [])) kinds m)))

    pair_alone : (broken : LocalRule) → BreaksAlone broken (role.Type p) (array both) → ⊥
    pair_alone = all_alone (role.Type p) (array both) (
      λ b. false≢true (sym b),
      (
        λ b.
            let same : b.0 ≡ p = (let f : role.Type p ≡ role.Type b.0 = b.1 in cc) in
            named_type (array both) typed_is (subst (λ (q : Position). NamesNothing q (array both)) same b.2),
        (beside_alone, tt),
      ),
    )

    pair_fine : Everywhere (Fine cs) (Some (role.Type p)) (array both)
    pair_fine = (
      record {
        alone = pair_alone;
        schemas = plain_schemas cs (role.Type p) (array both) tt;
        parents = λ vs i is f again. absurd (let g : role.Type p ≡ role.Extends = is in cc);
        names = λ vs i is f again. elim is [
          | inl g ↦ absurd cc
          | inr (inl g) ↦ absurd cc
          | inr (inr (inl g)) ↦ absurd cc
          | inr (inr (inr g)) ↦ (let h : role.Type p ≡ role.EnumValues g.0 = g.1 in absurd cc)
        ];
        values = λ vs i k is f again. absurd (let g : role.Type p ≡ role.EnumValues k = is in cc);
        languages = λ which ms i is f bad. absurd (let g : array both ≡ object ms = f in cc);
      },
      (listed_fine type, (listed_fine name, tt)),
    )

  -- `@type` of an element that may have a semantic type
  pub typed_fine : (semantic : Option (List ℕ)) → element_named p type ≡ Some e → IfSome semantic (NamesNoType p)
      → IfSome semantic (λ name. CanBe (MayHaveBeside e (text name ∷ []))) → Everywhere (Fine cs) (Some (role.Type p)) (typed type semantic)
  typed_fine None known untyped may = leaf_fine cs (role.Type p) (text type) tt
      (type_alone p type (named_type (text type) (typed_type p type e None known tt))) (plain_schemas cs (role.Type p) (text type) tt)
  typed_fine (Some name) known untyped may = pair_fine name known untyped may

  pub typed_count : (semantic : Option (List ℕ)) (x : List ℕ) → ids_count x (Some (role.Type p)) (typed type semantic) ≡ 0
  typed_count None x = refl
  typed_count (Some name) x = refl

-- a semantic type is a name
can_be_beside : (e : Element) (p : Position) (o : Option Json) (semantic : Option (List ℕ)) → ((name : List ℕ) → MayHaveBeside element_kind.Property (text name ∷ []) → MayHaveBeside e (text name ∷ []))
    → ((v : Json) → o ≡ Some v → CanBeTypes p v) → IsSemantic p o semantic → IfSome semantic (λ name. CanBe (MayHaveBeside e (text name ∷ [])))
can_be_beside e p o None may types is = tt
can_be_beside e p (Some (array vs)) (Some name) may types is =
    λ none. types (array vs) refl vs refl (λ beside. none (may name (subst (λ (ws : List Json). MayHaveBeside element_kind.Property ws) is beside)))
can_be_beside e p None (Some name) may types is = absurd is
can_be_beside e p (Some null) (Some name) may types is = absurd is
can_be_beside e p (Some (truth b)) (Some name) may types is = absurd is
can_be_beside e p (Some (number n)) (Some name) may types is = absurd is
can_be_beside e p (Some (text t)) (Some name) may types is = absurd is
can_be_beside e p (Some (object ms)) (Some name) may types is = absurd is

-- ---- tables of contents by their kinds
kind_common : (k : KindTerm) → IsCommon (type_of_kind k)
kind_common (telemetry s a u) = record { id = refl; id_is = refl; comment = refl; description = refl; display_name = refl }
kind_common (property s a u w) = record { id = refl; id_is = refl; comment = refl; description = refl; display_name = refl }
kind_common (command q r) = record { id = refl; id_is = refl; comment = refl; description = refl; display_name = refl }
kind_common (relationship t ps m w) = record { id = refl; id_is = refl; comment = refl; description = refl; display_name = refl }
kind_common (component of) = record { id = refl; id_is = refl; comment = refl; description = refl; display_name = refl }

kind_distinct : (n : List ℕ) (c : Common) (k : KindTerm) → are_distinct (keys_of (table n c k)) ≡ true
kind_distinct n c (telemetry s a u) = refl
kind_distinct n c (property s a u w) = refl
kind_distinct n c (command q r) = refl
kind_distinct n c (relationship t ps m w) = refl
kind_distinct n c (component of) = refl

kind_keys : (n : List ℕ) (c : Common) (k : KindTerm) → HasKeys (table n c k) (required (type_of_kind k))
kind_keys n c (telemetry s a u) = (refl, (refl, (refl, tt)))
kind_keys n c (property s a u w) = (refl, (refl, (refl, tt)))
kind_keys n c (command q r) = (refl, (refl, tt))
kind_keys n c (relationship t ps m w) = (refl, (refl, tt))
kind_keys n c (component of) = (refl, (refl, (refl, tt)))

kind_typed : (k : KindTerm) → key_of (type_of_kind k) (codes "@type") ≡ Some key.Type
kind_typed (telemetry s a u) = refl
kind_typed (property s a u w) = refl
kind_typed (command q r) = refl
kind_typed (relationship t ps m w) = refl
kind_typed (component of) = refl

pub content_named_by : (c : ContentTerm) → Named name_in (content_pair c)
content_named_by (content n c k) = ap (option_and_then text_in) (under (codes "name") (table n c k) (Some (text n)) (name_found n c k))

pub contents_named : (cs : ContentTerms) → AllByRecursion (Named name_in) (content_pairs cs)
contents_named no_contents = tt
contents_named (more_contents c cs) = (content_named_by c, contents_named cs)

names_are : (cs : ContentTerms) → map pair_name (content_pairs cs) ≡ content_names cs
names_are no_contents = refl
names_are (more_contents c cs) = ap (λ (ks : List (List ℕ)). content_name c ∷ ks) (names_are cs)

module _ (cs ms : Members Number) (none : BreaksNowhere (object ms))
    (alike : (s : SchemaTerm) (r : Role) (v : Json) → IsSchema s v → Stands (object ms) r v → (broken : LocalRule) → BreaksBySchemas cs broken r (schema_value s) → ⊥)
    (once : (r q : Role) (m n : Number) (z : ℤ) → Stands (object ms) r (number m) → Stands (object ms) q (number n) → IsWhole m z → IsWhole n z → m ≡ n) where
  abbrev whole : Json
  whole = object ms

  -- ---- single members
  abbrev StandsAt : Role → Members Number → List ℕ → Type 0
  StandsAt q ns k = (v : Json) → value_at k ns ≡ Some v → Stands whole q v

  writable_part : (o : Bool) (own : Option Json) → DeclaresWritable own o → ((v : Json) → own ≡ Some v → Stands whole role.Writable v)
      → PartGood cs (Some role.Writable) (Some role.Writable) (writable_value o) own
  writable_part false own is stands = tt
  writable_part true None is stands = absurd cc
  writable_part true (Some v) is stands = leaf_part cs whole none role.Writable (Some (truth true)) (Some v) (ap (λ (w : Json). Some w) is) tt tt stands

  most_fine : (m : ℕ) (n : Number) → IsWhole n (pos m) → Stands whole role.MaxMultiplicity (number n) → Fine cs role.MaxMultiplicity (most_value m)
  most_fine m n is stands = leaf_fine cs role.MaxMultiplicity (most_value m) tt
      (all_alone role.MaxMultiplicity (most_value m) (
        λ b. false≢true (sym b),
        (
          λ b. elim b [
            | inl e ↦ absurd (let f : role.MaxMultiplicity ≡ role.MinMultiplicity = e.0 in cc)
            | inr e ↦ here role.MaxMultiplicity (number n) rule.BadMultiplicity (stands_valid whole none role.MaxMultiplicity (number n) stands) (inr (
              refl,
              λ own.
                  let same : n ≡ own.0 = (let f : number n ≡ number own.0 = own.2 in cc) in
                  let equal : own.1 ≡ pos m = one_whole n own.1 (pos m) (subst (λ (k : Number). IsWhole k own.1) (sym same) own.5) is in
                  e.1 (whole_number (pos m), pos m, refl, subst (λ (z : ℤ). pos 1 ≤ℤ z) equal own.3, subst (λ (z : ℤ). z ≤ℤ pos 2147483647) equal own.4, whole_is (pos m)),
            ))
          ],
          tt,
        ),
      )) (plain_schemas cs role.MaxMultiplicity (most_value m) tt)

  most_part : (o : Option ℕ) (ns : Members Number) → HasMax ns o → StandsAt role.MaxMultiplicity ns (codes "maxMultiplicity")
      → PartGood cs (Some role.MaxMultiplicity) (Some role.MaxMultiplicity) (option_map most_value o) (value_at (codes "maxMultiplicity") ns)
  most_part None ns has stands = tt
  most_part (Some m) ns has stands =
      new_part cs role.MaxMultiplicity (Some role.MaxMultiplicity) (most_value m) (value_at (codes "maxMultiplicity") ns) tt (λ x. refl)
      (most_fine m has.0 has.2 (stands (number has.0) has.1))

  schema_part : (part : SchemaUse) (s : SchemaTerm) (ns : Members Number) → HasSchema (codes "schema") ns s → SchemaIsDistinct s → OuterSchemaIsWithin s
      → StandsAt (role.Schema part) ns (codes "schema") → PartGood cs (Some (role.Schema part)) (Some (role.Schema part)) (Some (schema_value s)) (value_at (codes "schema") ns)
  schema_part part s ns has d w stands = part_of cs (role.Schema part) (schema_value s) has.0 (value_at (codes "schema") ns) has.1
      (schema_good cs ms none alike once s (role.Schema part) has.0 (inr (part, refl)) has.2 d w.1 (stands has.0 has.1))

  payload_part : (k : List ℕ) (o : Option PayloadTerm) (ns : Members Number) → HasOptionalPayload k ns o → OptionalPayloadIsDistinct o → IfSome o OuterPayloadIsWithin
      → StandsAt (role.Payload payload_use.Command) ns k
      → PartGood cs (Some (role.Payload payload_use.Command)) (Some (role.Payload payload_use.Command)) (option_map payload_value o) (value_at k ns)
  payload_part k None ns has d w stands = tt
  payload_part k (Some p) ns has d w stands = part_of cs (role.Payload payload_use.Command) (payload_value p) has.0 (value_at k ns) has.1
      (payload_good cs ms none alike once p (role.Payload payload_use.Command) has.0 (inl (payload_use.Command, refl)) has.2 d w.1 (stands has.0 has.1))

  -- a list that is left out where it is empty
  pub optional_list : (r s : Role) (pairs : Pairs) (own : Option Json) (vs : Elements Number) → entry_role r ≡ Some s → AreEntriesOf own vs → Fine cs r (list_in_order pairs)
      → EachGood cs s pairs vs → PartGood cs (Some r) (Some r) (unless_empty list_in_order pairs) own
  optional_list r s [] own vs entries is fine each = tt
  optional_list r s (m ∷ more) None vs entries is fine each = absurd (subst (EachGood cs s (m ∷ more)) is each)
  optional_list r s (m ∷ more) (Some v) vs entries is fine each =
      part_of cs r (list_in_order (m ∷ more)) (array vs) (Some v) (ap (λ (w : Json). Some w) is) (list_good cs r s (m ∷ more) vs entries fine each)

  -- ---- an element by its table
  element_by : (r : Role) (p : Position) (n : List ℕ) (c : Common) (k : KindTerm) (ns : Members Number) → IsOfObject r → IsPlain r → position_of r ≡ p
      → element_of r (members (table n c k)) ≡ Some (type_of_kind k) → element_of r ns ≡ Some (type_of_kind k) → Stands whole r (object ns) → HasCommon ns c → HasShortTexts c
      → Everywhere (Fine cs) (Some (role.Type p)) (kind_type k) → ((x : List ℕ) → ids_count x (Some (role.Type p)) (kind_type k) ≡ 0)
      → PartsGood cs r (type_of_kind k) (members (table n c k)) ns (kind_parts n k) → Good cs (Some r) (content_value (content n c k)) (object ns)
  element_by r p n c k ns of plain at is known stands has short type_fine none_typed parts =
      let ps : Parts = table n c k in
      let e = type_of_kind k in
      let of_type : role.Type (position_of r) ≡ role.Type p = ap (λ (q : Position). role.Type q) at in
      object_good cs r e ps ns is known (kind_distinct n c k)
      (object_fine cs r (members ps) of (nothing_missing r e ps is (kind_keys n c k) (λ is_named. absurd (subst IsPlain is_named plain))) (plain_schemas cs r (object (members ps)) plain))
      (element_good cs whole none r e (members ps) ns (Some (kind_type k)) c (kind_parts n k) (kind_common k) known stands has short
      (part_at cs r e (members ps) ns (codes "@type") key.Type (role.Type p) (Some (kind_type k)) (value_at (codes "@type") ns) (kind_typed k) of_type of_type
      (type_fine, λ x. (let zeros = none_typed x in omega arith))) parts)

  name_part : (n : List ℕ) (ns : Members Number) → HasString (codes "name") ns n → StandsAt role.Name ns (codes "name")
      → PartGood cs (Some role.Name) (Some role.Name) (Some (text n)) (value_at (codes "name") ns)
  name_part n ns has stands = text_part cs whole none role.Name (Some n) (value_at (codes "name") ns) has tt stands

  unit_part : (o : Option (List ℕ)) (ns : Members Number) → HasOptionalString (codes "unit") ns o → StandsAt role.Unit ns (codes "unit")
      → PartGood cs (Some role.Unit) (Some role.Unit) (option_map text o) (value_at (codes "unit") ns)
  unit_part o ns has stands = text_part cs whole none role.Unit o (value_at (codes "unit") ns) (string_told (codes "unit") ns o has) tt stands

  -- ---- the entries of a relationship's `properties`
  property_good : (c : ContentTerm) (v : Json) → IsContent position.Property c v → IsPropertyTerm c → ContentIsTyped position.Property c → ContentIsDistinct c → ContentIsWithin c
      → Stands whole role.RelationshipProperty v → Good cs (Some role.RelationshipProperty) (content_value c) v
  property_good (content n c (property s a u w)) v g is t d l there =
      let r : Role = role.RelationshipProperty in
      let e = element_kind.Property in
      let k : KindTerm = property s a u w in
      let stands = subst (Stands whole r) g.1 there in
      subst (λ (x : Json). Good cs (Some r) (content_value (content n c k)) x) (sym g.1)
      (element_by r position.Property n c k g.0 tt tt refl refl refl stands g.3 l.1
      (typed_fine cs position.Property (λ x nothing. nothing) e (codes "Property") a refl t
      (can_be_beside e position.Property (value_at (codes "@type") g.0) a (λ name may. may)
      (λ x at. leaves.property_types x (stands_valid whole none (role.Type position.Property) x (key_stands whole r g.0 e key.Type (codes "@type") x refl refl at stands))) g.4.1))
      (typed_count cs position.Property (λ x nothing. nothing) e (codes "Property") a) (
        name_part n g.0 g.2 (λ x at. key_stands whole r g.0 e key.Name (codes "name") x refl refl at stands),
        (
          schema_part schema_use.Property s g.0 g.4.0 d.1 l.2.0 (λ x at. key_stands whole r g.0 e key.Schema (codes "schema") x refl refl at stands),
          (
            unit_part u g.0 g.4.2 (λ x at. key_stands whole r g.0 e key.Unit (codes "unit") x refl refl at stands),
            (writable_part w (value_at (codes "writable") g.0) g.4.3 (λ x at. key_stands whole r g.0 e key.Writable (codes "writable") x refl refl at stands), tt),
          ),
        ),
      ))
  property_good (content n c other) v g is t d l there = absurd cc

  properties_good : (ps : ContentTerms) (vs : Elements Number) → AreProperties ps vs → PropertiesAreTyped ps → ContentsAreDistinct ps → ContentsAreWithin ps
      → ((i : ℕ) (v : Json) → element_at vs i ≡ Some v → Stands whole role.RelationshipProperty v) → EachGood cs role.RelationshipProperty (content_pairs ps) vs
  properties_good no_contents no_elements g t d l stands = tt
  properties_good no_contents (element v vs) g t d l stands = absurd g
  properties_good (more_contents c ps) no_elements g t d l stands = absurd g
  properties_good (more_contents c ps) (element v vs) g t d l stands =
      (property_good c v g.0.0 g.0.1 t.0.1 d.0 l.0 (stands zero v refl), properties_good ps vs g.1 t.1 d.1 l.1 (λ i u at. stands (suc i) u at))

  properties_fine : (ps : ContentTerms) → AreDistinct (content_names ps) → Fine cs role.Properties (list_in_order (content_pairs ps))
  properties_fine ps apart = list_fine cs role.Properties (elements_of (map pair_value (sorted_by pair_name (content_pairs ps)))) tt
      (λ i. names_repeat_nothing name_in (content_pairs ps) i (contents_named ps) (subst AreDistinct (sym (names_are ps)) apart))

  properties_stand : (o : Option Json) (vs : Elements Number) → AreEntriesOf o vs → ((v : Json) → o ≡ Some v → Stands whole role.Properties v)
      → (i : ℕ) (v : Json) → element_at vs i ≡ Some v → Stands whole role.RelationshipProperty v
  properties_stand None vs is stands i v at = absurd (let f : element_at no_elements i ≡ Some v = subst (λ (us : Elements Number). element_at us i ≡ Some v) is at in cc)
  properties_stand (Some w) vs is stands i v at =
      entry_stands whole role.Properties vs i role.RelationshipProperty v refl at (subst (Stands whole role.Properties) is (stands w refl))

  -- ---- the entries of `contents`
  kind_good : (n : List ℕ) (c : Common) (k : KindTerm) (ns : Members Number) → type_of position.Content ns ≡ Some (type_of_kind k) → AreKind position.Content k ns
      → HasString (codes "name") ns n → KindIsDistinct k → KindIsTyped position.Content k → KindIsWithin k → Stands whole role.Content (object ns)
      → PartsGood cs role.Content (type_of_kind k) (members (table n c k)) ns (kind_parts n k)
  kind_good n c (telemetry s a u) ns is g name d t l stands =
      let r : Role = role.Content in
      let e = element_kind.Telemetry in (
        name_part n ns name (λ x at. key_stands whole r ns e key.Name (codes "name") x is refl at stands),
        (
          schema_part schema_use.Outer s ns g.0 d l.0 (λ x at. key_stands whole r ns e key.Schema (codes "schema") x is refl at stands),
          (unit_part u ns g.2 (λ x at. key_stands whole r ns e key.Unit (codes "unit") x is refl at stands), tt),
        ),
      )
  kind_good n c (property s a u w) ns is g name d t l stands =
      let r : Role = role.Content in
      let e = element_kind.Property in (
        name_part n ns name (λ x at. key_stands whole r ns e key.Name (codes "name") x is refl at stands),
        (
          schema_part schema_use.Property s ns g.0 d l.0 (λ x at. key_stands whole r ns e key.Schema (codes "schema") x is refl at stands),
          (
            unit_part u ns g.2 (λ x at. key_stands whole r ns e key.Unit (codes "unit") x is refl at stands),
            (writable_part w (value_at (codes "writable") ns) g.3 (λ x at. key_stands whole r ns e key.Writable (codes "writable") x is refl at stands), tt),
          ),
        ),
      )
  kind_good n c (command q a) ns is g name d t l stands =
      let r : Role = role.Content in
      let e = element_kind.Command in (
        name_part n ns name (λ x at. key_stands whole r ns e key.Name (codes "name") x is refl at stands),
        (
          payload_part (codes "request") q ns g.0 d.0 l.0 (λ x at. key_stands whole r ns e key.Request (codes "request") x is refl at stands),
          (payload_part (codes "response") a ns g.1 d.1 l.1 (λ x at. key_stands whole r ns e key.Response (codes "response") x is refl at stands), tt),
        ),
      )
  kind_good n c (relationship o ps m w) ns is g name d t l stands =
      let r : Role = role.Content in
      let e = element_kind.Relationship in
      let listed = properties_stand (value_at (codes "properties") ns) g.1.0 g.1.1 (λ x at. key_stands whole r ns e key.Properties (codes "properties") x is refl at stands) in (
        most_part m ns g.2 (λ x at. key_stands whole r ns e key.MaxMultiplicity (codes "maxMultiplicity") x is refl at stands),
        (
          name_part n ns name (λ x at. key_stands whole r ns e key.Name (codes "name") x is refl at stands),
          (
            optional_list role.Properties role.RelationshipProperty (content_pairs ps) (value_at (codes "properties") ns) g.1.0 refl g.1.1 (properties_fine ps d.0)
                (properties_good ps g.1.0 g.1.2 t d.1 l.1 listed),
            (
              id_part cs whole none role.InterfaceReference o (value_at (codes "target") ns) (id_told (codes "target") ns o g.0) tt
                  (λ x at. key_stands whole r ns e key.Target (codes "target") x is refl at stands),
              (writable_part w (value_at (codes "writable") ns) g.3 (λ x at. key_stands whole r ns e key.Writable (codes "writable") x is refl at stands), tt),
            ),
          ),
        ),
      )
  kind_good n c (component of) ns is g name d t l stands =
      let r : Role = role.Content in
      let e = element_kind.Component in (
        name_part n ns name (λ x at. key_stands whole r ns e key.Name (codes "name") x is refl at stands),
        (
          id_part cs whole none role.InterfaceReference (Some of) (value_at (codes "schema") ns) (id_told (codes "schema") ns (Some of) g) tt
              (λ x at. key_stands whole r ns e key.Schema (codes "schema") x is refl at stands),
          tt,
        ),
      )

  kind_type_fine : (k : KindTerm) (ns : Members Number) → type_of position.Content ns ≡ Some (type_of_kind k) → AreKind position.Content k ns → KindIsTyped position.Content k
      → Stands whole role.Content (object ns) → Everywhere (Fine cs) (Some (role.Type position.Content)) (kind_type k)
  kind_type_fine (telemetry s a u) ns is g t stands =
      let e = element_kind.Telemetry in
      typed_fine cs position.Content (λ x nothing. nothing) e (codes "Telemetry") a refl t
      (can_be_beside e position.Content (value_at (codes "@type") ns) a (λ name may. may)
      (λ x at. leaves.content_types x (stands_valid whole none (role.Type position.Content) x (key_stands whole role.Content ns e key.Type (codes "@type") x is refl at stands))) g.1)
  kind_type_fine (property s a u w) ns is g t stands =
      let e = element_kind.Property in
      typed_fine cs position.Content (λ x nothing. nothing) e (codes "Property") a refl t
      (can_be_beside e position.Content (value_at (codes "@type") ns) a (λ name may. may)
      (λ x at. leaves.content_types x (stands_valid whole none (role.Type position.Content) x (key_stands whole role.Content ns e key.Type (codes "@type") x is refl at stands))) g.1)
  kind_type_fine (command q r) ns is g t stands = typed_fine cs position.Content (λ x nothing. nothing) element_kind.Command (codes "Command") None refl tt tt
  kind_type_fine (relationship o ps m w) ns is g t stands = typed_fine cs position.Content (λ x nothing. nothing) element_kind.Relationship (codes "Relationship") None refl tt tt
  kind_type_fine (component of) ns is g t stands = typed_fine cs position.Content (λ x nothing. nothing) element_kind.Component (codes "Component") None refl tt tt

  kind_type_count : (k : KindTerm) (x : List ℕ) → ids_count x (Some (role.Type position.Content)) (kind_type k) ≡ 0
  kind_type_count (telemetry s a u) x = typed_count cs position.Content (λ v nothing. nothing) element_kind.Telemetry (codes "Telemetry") a x
  kind_type_count (property s a u w) x = typed_count cs position.Content (λ v nothing. nothing) element_kind.Property (codes "Property") a x
  kind_type_count (command q r) x = refl
  kind_type_count (relationship o ps m w) x = refl
  kind_type_count (component of) x = refl

  pub content_good : (c : ContentTerm) (v : Json) → HasKindOf c v → IsContent position.Content c v → ContentIsDistinct c → ContentIsTyped position.Content c → ContentIsWithin c
      → Stands whole role.Content v → Good cs (Some role.Content) (content_value c) v
  content_good (content n c k) v kind g d t l there =
      let r : Role = role.Content in
      let stands = subst (Stands whole r) g.1 there in
      let is : type_of position.Content g.0 ≡ Some (type_of_kind k) = subst (λ (w : Json). type_of position.Content (members_in w) ≡ Some (type_of_kind k)) g.1 kind in
      let canonical : element_of r (members (table n c k)) ≡ Some (type_of_kind k) =
      ap (option_and_then (type_in position.Content)) (kind_type_at n c k (members (table n c k)) refl) ∙ kind_type_in k t in
      subst (λ (x : Json). Good cs (Some r) (content_value (content n c k)) x) (sym g.1)
      (element_by r position.Content n c k g.0 tt tt refl canonical is stands g.3 l.1
      (kind_type_fine k g.0 is g.4 t stands) (kind_type_count k) (kind_good n c k g.0 is g.4 g.2 d.1 t l.2 stands))
