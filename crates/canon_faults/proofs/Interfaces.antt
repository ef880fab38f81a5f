-- A canonical interface has no fault where the object that declares it has none.
use Rattle.std.proofs.Common.{◌≡◌, ◌≢◌, ℕ, zero, suc, ◌≤◌, inl, List, [], ◌∷◌, length, map, ℤ, Option, Some, None, refl, sym, ap, subst, ◌∙◌, arith}
use Rattle.std.specs.Prelude.{codes}
use Rattle.std.specs.List.{AllByRecursion, AllZip}
use Rattle.dt_base.specs.names.Grammar.{Identifier, OwnDtmiText, dtmi_text}
use Rattle.json_decimal.specs.Number.{Number}
use Rattle.json_decimal.specs.Comparing.{IsWhole}
use Rattle.json_tree.specs.Values.{Json, number, text, object, Elements, no_elements, element, elements_of, Members}
use Rattle.json_tree.specs.Places.{element_at}
use Rattle.dtdl_terms.specs.Terms.{SchemaTerm}
use Rattle.dtdl_terms.specs.TermViews.{schema_term, content_term}
use Rattle.dtdl_terms.specs.Distinct.{AreDistinct, ContentIsDistinct, HasDeclaration, SchemaIsDistinct}
use Rattle.dtdl_terms.specs.declared.content.Content.{Content}
use Rattle.dtdl_terms.specs.declared.interface.Interface.{Interface}
use Rattle.dtdl_terms.specs.declared.schema.Schema.{Schema}
use Rattle.json_tree.specs.Members.{list_of, text_in, value_at}
use Rattle.local_rules.specs.Repeats.{name_in}
use Rattle.local_rules.specs.Roles.{entry_role, type_in}
use Rattle.local_rules.specs.Breaches.{BreaksBySchemas}
use Rattle.local_rules.specs.declared.key.Key.TheVariants as key
use Rattle.local_rules.specs.declared.rule.LocalRule.{LocalRule}
use Rattle.local_rules.specs.declared.role.Element.TheVariants as element_kind
use Rattle.local_rules.specs.declared.role.Localized.TheVariants as localized
use Rattle.local_rules.specs.declared.role.Position.TheVariants as position
use Rattle.local_rules.specs.declared.role.Role.{Role}
use Rattle.local_rules.specs.declared.role.Role.TheVariants as role
use Rattle.local_rules.specs.Declarations.{AreEntriesOf, DeclaresInterface, HasContents, HasSchemas, IsContentEntry, IsIdentifier, IsSchema}
use Rattle.local_rules.specs.Limits.{ContentIsWithin, IsShortInterfaceId, IsWithinLimits, OuterSchemaIsWithin}
use Rattle.model_read.proofs.Once.{identifier_once}
use Rattle.model_read.proofs.Standing.{BreaksNowhere, Stands, entry_stands, itself, key_stands}
use Rattle.canon_text.specs.Sorting.{sorted_by}
use Rattle.canon_text.specs.Objects.{list_in_order, unless_empty}
use Rattle.canon_text.specs.Canonical.{id_value, interface_value, parent_pair, schema_value}
use Rattle.canon_text.specs.Machinery.Pairs.{pair_name, pair_value}
use Rattle.canon_text.proofs.Told.{all_sorted}
use Rattle.local_rules.specs.Typed.{ContentIsTyped, IsTyped}
use Rattle.canon_laws.proofs.Tables.{string_told}
use Rattle.canon_laws.proofs.Contents.{content_named, interface_parts, schema_named}
use Rattle.canon_faults.proofs.Counts.{each_count, ids_count}
use Rattle.canon_faults.proofs.Apart.{Named, names_repeat_nothing}
use Rattle.canon_faults.proofs.Fine.{leaf_fine, list_fine, object_fine, plain_schemas}
use Rattle.canon_faults.proofs.Leaves.{context_alone, parent_alone, type_alone}
use Rattle.canon_faults.proofs.Good.{EachGood, Good, PairFine, Pairs, PartGood, elements_fine, object_good, sorted_length}
use Rattle.canon_faults.proofs.Named.{members, under}
use Rattle.canon_faults.proofs.Parts.{id_part, new_part, nothing_missing, text_part, texts_part}
use Rattle.canon_faults.proofs.Levels.{schemas_alike}
use Rattle.canon_faults.proofs.Schemas.{schema_good}
use Rattle.canon_laws.proofs.Identified.{parents_own}
use Rattle.canon_faults.proofs.Contents.{content_good, content_named_by, optional_list}

-- ---- parents
other_texts : (id : Identifier) (ids : List Identifier) → OwnDtmiText (dtmi_text id) id → AllByRecursion (λ j. OwnDtmiText (dtmi_text j) j) ids → AllByRecursion (λ j. id ≢ j) ids
    → AllByRecursion (λ k. dtmi_text id ≢ k) (map pair_name (map parent_pair ids))
other_texts id [] own owns apart = tt
other_texts id (j ∷ js) own owns apart = (
  λ same.
      let first : IsIdentifier (text (dtmi_text id)) id = (refl, own) in
      let second : IsIdentifier (text (dtmi_text id)) j = (ap text same, owns.0) in
      apart.0 (identifier_once (text (dtmi_text id)) id j first second),
  other_texts id js own owns.1 apart.1,
)

parent_texts : (ids : List Identifier) → AllByRecursion (λ j. OwnDtmiText (dtmi_text j) j) ids → AreDistinct ids → AreDistinct (map pair_name (map parent_pair ids))
parent_texts [] owns apart = tt
parent_texts (id ∷ ids) owns apart = (other_texts id ids owns.0 owns.1 apart.0, parent_texts ids owns.1 apart.1)

parents_named : (ids : List Identifier) → AllByRecursion (Named text_in) (map parent_pair ids)
parents_named [] = tt
parents_named (id ∷ ids) = (refl, parents_named ids)

parents_long : (ids : List Identifier) → length (map parent_pair ids) ≡ length ids
parents_long [] = refl
parents_long (id ∷ ids) = let rest = parents_long ids in omega arith

module _ (cs : Members Number) where
  abbrev IsParent : List ℕ × Json → Type 0
  IsParent m = PairFine cs role.Parent m × ((x : List ℕ) → ids_count x (Some role.Parent) (pair_value m) ≡ 0)

  each_parent : (ids : List Identifier) → AllByRecursion (λ j. OwnDtmiText (dtmi_text j) j) ids → AllByRecursion IsShortInterfaceId ids → AllByRecursion IsParent (map parent_pair ids)
  each_parent [] owns short = tt
  each_parent (id ∷ ids) owns short = (
    (leaf_fine cs role.Parent (id_value id) tt (parent_alone id owns.0 short.0) (plain_schemas cs role.Parent (id_value id) tt), λ x. refl),
    each_parent ids owns.1 short.1,
  )

  parents_fine : (ms : Pairs) → AllByRecursion IsParent ms → AllByRecursion (PairFine cs role.Parent) ms
  parents_fine [] all = tt
  parents_fine (m ∷ ms) all = (all.0.0, parents_fine ms all.1)

  parents_count : (x : List ℕ) (ms : Pairs) → AllByRecursion IsParent ms → each_count x (Some role.Parent) (elements_of (map pair_value ms)) ≡ 0
  parents_count x [] all = refl
  parents_count x (m ∷ ms) all = let first = all.0.1 x in let rest = parents_count x ms all.1 in omega arith

  parents_part : (own : Option Json) (ids : List Identifier) → AllByRecursion (λ j. OwnDtmiText (dtmi_text j) j) ids → AllByRecursion IsShortInterfaceId ids → AreDistinct ids → length ids ≤ 2
      → PartGood cs (Some role.Extends) (Some role.Extends) (unless_empty list_in_order (map parent_pair ids)) own
  parents_part own [] owns short apart few = tt
  parents_part own (id ∷ ids) owns short apart few =
      let pairs : Pairs = map parent_pair (id ∷ ids) in
      let sorted = sorted_by pair_name pairs in
      let each = all_sorted pair_name IsParent pairs (each_parent (id ∷ ids) owns short) in
      let long = sorted_length pairs in
      let count = parents_long (id ∷ ids) in (
        (
          list_fine cs role.Extends (elements_of (map pair_value sorted)) (omega arith)
              (λ i. names_repeat_nothing text_in pairs i (parents_named (id ∷ ids)) (parent_texts (id ∷ ids) owns apart)),
          elements_fine cs role.Parent sorted (parents_fine sorted each),
        ),
        λ x. (let zeros = parents_count x sorted each in omega arith),
      )

-- ---- the names of contents
names_of : (cs : List Content) → map pair_name (map content_named cs) ≡ map (λ c. c.name) cs
names_of [] = refl
names_of (c ∷ cs) = ap (λ (ks : List (List ℕ)). c.name ∷ ks) (names_of cs)

contents_long : (cs : List Content) → length (map content_named cs) ≡ length cs
contents_long [] = refl
contents_long (c ∷ cs) = let rest = contents_long cs in omega arith

contents_named : (cs : List Content) → AllByRecursion (Named name_in) (map content_named cs)
contents_named [] = tt
contents_named (c ∷ cs) = (content_named_by (content_term c), contents_named cs)

nothing_stands : (whole : Json) (q : Role) (vs : Elements Number) → vs ≡ no_elements → (i : ℕ) (v : Json) → element_at vs i ≡ Some v → Stands whole q v
nothing_stands whole q vs is i v at = absurd (let f : element_at no_elements i ≡ Some v = subst (λ (us : Elements Number). element_at us i ≡ Some v) is at in cc)

-- ---- the interface
module _ (ms : Members Number) (i : Interface) (g : DeclaresInterface ms i) (d : HasDeclaration i) (w : IsWithinLimits i) (t : IsTyped i) (none : BreaksNowhere (object ms))
    (once : (r q : Role) (m n : Number) (z : ℤ) → Stands (object ms) r (number m) → Stands (object ms) q (number n) → IsWhole m z → IsWhole n z → m ≡ n) where
  abbrev whole : Json
  whole = object ms

  abbrev cs : Members Number
  cs = members (interface_parts i)

  alike : (s : SchemaTerm) (r : Role) (v : Json) → IsSchema s v → Stands whole r v → (broken : LocalRule) → BreaksBySchemas cs broken r (schema_value s) → ⊥
  alike = schemas_alike cs ms i.schemas (under (codes "schemas") (interface_parts i) (unless_empty list_in_order (map schema_named i.schemas)) refl) g.schemas d.ids none

  contents_good : (vs : Elements Number) (xs : List Content) → AllZip IsContentEntry (list_of vs) xs → AllByRecursion (λ c. ContentIsDistinct (content_term c)) xs
      → AllByRecursion (λ c. ContentIsTyped position.Content (content_term c)) xs → AllByRecursion (λ c. ContentIsWithin (content_term c)) xs
      → ((k : ℕ) (v : Json) → element_at vs k ≡ Some v → Stands whole role.Content v) → EachGood cs role.Content (map content_named xs) vs
  contents_good no_elements [] all apart typed within stands = tt
  contents_good (element v vs) [] all apart typed within stands = absurd all
  contents_good no_elements (c ∷ xs) all apart typed within stands = absurd all
  contents_good (element v vs) (c ∷ xs) all apart typed within stands = (
    content_good cs ms none alike once (content_term c) v all.0.0 all.0.1 apart.0 typed.0 within.0 (stands zero v refl),
    contents_good vs xs all.1 apart.1 typed.1 within.1 (λ k u at. stands (suc k) u at),
  )

  schemas_good : (vs : Elements Number) (ss : List Schema) → AllZip (λ v s. IsSchema (schema_term s) v) (list_of vs) ss → AllByRecursion (λ s. SchemaIsDistinct (schema_term s)) ss
      → AllByRecursion (λ s. OuterSchemaIsWithin (schema_term s)) ss
      → ((k : ℕ) (v : Json) → element_at vs k ≡ Some v → Stands whole role.NamedSchema v) → EachGood cs role.NamedSchema (map schema_named ss) vs
  schemas_good no_elements [] all apart within stands = tt
  schemas_good (element v vs) [] all apart within stands = absurd all
  schemas_good no_elements (s ∷ ss) all apart within stands = absurd all
  schemas_good (element v vs) (s ∷ ss) all apart within stands = (
    schema_good cs ms none alike once (schema_term s) role.NamedSchema v (inl refl) all.0 apart.0 within.0.1 (stands zero v refl),
    schemas_good vs ss all.1 apart.1 within.1 (λ k u at. stands (suc k) u at),
  )

  stands_in : (r s : Role) (own : Option Json) (vs : Elements Number) → entry_role r ≡ Some s → AreEntriesOf own vs → ((v : Json) → own ≡ Some v → Stands whole r v)
      → (k : ℕ) (v : Json) → element_at vs k ≡ Some v → Stands whole s v
  stands_in r s None vs entries is stands = nothing_stands whole s vs is
  stands_in r s (Some u) vs entries is stands = λ k v at. entry_stands whole r vs k s v entries at (subst (Stands whole r) is (stands u refl))

  contents_part : (own : Option Json) → HasContents own i.contents → ((v : Json) → own ≡ Some v → Stands whole role.Contents v)
      → PartGood cs (Some role.Contents) (Some role.Contents) (unless_empty list_in_order (map content_named i.contents)) own
  contents_part own has stands =
      let pairs : Pairs = map content_named i.contents in
      let long = sorted_length pairs in
      let count = contents_long i.contents in
      let few = w.few_contents in
      optional_list cs ms none alike once role.Contents role.Content pairs own has.0 refl has.1
      (list_fine cs role.Contents (elements_of (map pair_value (sorted_by pair_name pairs))) (omega arith)
      (λ k. names_repeat_nothing name_in pairs k (contents_named i.contents) (subst AreDistinct (sym (names_of i.contents)) d.names)))
      (contents_good has.0 i.contents has.2 d.contents t w.contents (stands_in role.Contents role.Content own has.0 refl has.1 stands))

  schemas_part : (own : Option Json) → HasSchemas own i.schemas → ((v : Json) → own ≡ Some v → Stands whole role.Schemas v)
      → PartGood cs (Some role.Schemas) (Some role.Schemas) (unless_empty list_in_order (map schema_named i.schemas)) own
  schemas_part own has stands =
      let pairs : Pairs = map schema_named i.schemas in
      optional_list cs ms none alike once role.Schemas role.NamedSchema pairs own has.0 refl has.1
      (list_fine cs role.Schemas (elements_of (map pair_value (sorted_by pair_name pairs))) tt (λ k. tt))
      (schemas_good has.0 i.schemas has.2 d.schemas w.schemas (stands_in role.Schemas role.NamedSchema own has.0 refl has.1 stands))

  pub interface_good : Good cs (Some role.Interface) (interface_value i) whole
  interface_good =
      let r : Role = role.Interface in
      let e = element_kind.Interface in
      let stands = itself whole in
      let context : List ℕ = codes "dtmi:dtdl:context;2" in
      object_good cs r e (interface_parts i) ms refl refl refl
      (object_fine cs r cs tt (nothing_missing r e (interface_parts i) refl (refl, (refl, (refl, tt))) (λ is_named. absurd (let f : role.Interface ≡ role.NamedSchema = is_named in cc)))
      (plain_schemas cs r (object cs) tt)) (
        new_part cs role.Context (Some role.Context) (text context) (value_at (codes "@context") ms) tt (λ x. refl)
            (leaf_fine cs role.Context (text context) tt context_alone (plain_schemas cs role.Context (text context) tt)),
        (
          id_part cs whole none role.InterfaceId (Some i.id) (value_at (codes "@id") ms) (g.id.1 ∙ ap (λ (v : Json). Some v) g.id.2.0) tt
              (λ v at. key_stands whole r ms e key.Id (codes "@id") v refl refl at stands),
          (
            new_part cs (role.Type position.Interface) (Some (role.Type position.Interface)) (text (codes "Interface")) (value_at (codes "@type") ms) tt (λ x. refl)
                (leaf_fine cs (role.Type position.Interface) (text (codes "Interface")) tt
                (type_alone position.Interface (codes "Interface") (λ nothing. let f : type_in position.Interface (text (codes "Interface")) ≡ None = nothing in cc))
                (plain_schemas cs (role.Type position.Interface) (text (codes "Interface")) tt)),
            (
              text_part cs whole none role.Comment i.comment (value_at (codes "comment") ms) (string_told (codes "comment") ms i.comment g.comment) tt
                  (λ v at. key_stands whole r ms e key.Comment (codes "comment") v refl refl at stands),
              (
                contents_part (value_at (codes "contents") ms) g.contents (λ v at. key_stands whole r ms e key.Contents (codes "contents") v refl refl at stands),
                (
                  texts_part cs whole none localized.Description i.description (value_at (codes "description") ms) g.description w.description
                      (λ v at. key_stands whole r ms e key.Description (codes "description") v refl refl at stands),
                  (
                    texts_part cs whole none localized.DisplayName i.display_name (value_at (codes "displayName") ms) g.display_name w.display_name
                        (λ v at. key_stands whole r ms e key.DisplayName (codes "displayName") v refl refl at stands),
                    (
                      parents_part cs (value_at (codes "extends") ms) i.parents (parents_own (value_at (codes "extends") ms) i.parents g.parents) w.parents d.parents w.few_parents,
                      (schemas_part (value_at (codes "schemas") ms) g.schemas (λ v at. key_stands whole r ms e key.Schemas (codes "schemas") v refl refl at stands), tt),
                    ),
                  ),
                ),
              ),
            ),
          ),
        ),
      )
