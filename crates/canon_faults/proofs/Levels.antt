-- No schema of a canonical tree is unknown, too deep or reaches an array where that which it was made from is not.
use Rattle.std.proofs.Common.{◌≡◌, ℕ, zero, suc, ◌⊎◌, inl, inr, List, [], ◌∷◌, map, true, find, Option, Some, None, refl, sym, ap, subst, ◌∙◌}
use Rattle.std.specs.Prelude.{codes, Contains}
use Rattle.std.specs.List.{AllByRecursion}
use Rattle.dt_base.specs.names.Grammar.{Identifier, OwnDtmiText, dtmi_text}
use Rattle.json_decimal.specs.Number.{Number}
use Rattle.json_tree.specs.Values.{Json, text, object, Elements, Members}
use Rattle.dtdl_terms.specs.Terms.{SchemaTerm, primitive, named, array_of, enumeration, map_of, object_of}
use Rattle.dtdl_terms.specs.TermViews.{schema_term}
use Rattle.dtdl_terms.specs.Equality.{AnyByRecursion}
use Rattle.dtdl_terms.specs.Distinct.{AreDistinct, schema_id}
use Rattle.dtdl_terms.specs.declared.schema.Schema.{Schema}
use Rattle.json_tree.specs.Members.{list_of, value_at}
use Rattle.local_rules.specs.Identifiers.{OfText}
use Rattle.local_rules.specs.Levels.{IsComplex, UnknownSchema, HasLevel, ReachesWithin, IsPrimitiveName, entries_at, entries_under, has_id, parts_by, schema_named, schema_parts, schema_type}
use Rattle.local_rules.specs.Breaches.{BreaksBySchemas}
use Rattle.local_rules.specs.declared.rule.LocalRule.{LocalRule}
use Rattle.local_rules.specs.declared.rule.LocalRule.TheVariants as rule
use Rattle.local_rules.specs.declared.role.Element.{Element}
use Rattle.local_rules.specs.declared.role.SchemaUse.{SchemaUse}
use Rattle.local_rules.specs.declared.role.Role.{Role}
use Rattle.local_rules.specs.declared.role.Role.TheVariants as role
use Rattle.local_rules.specs.Declarations.{AreEntriesOf, HasOptionalId, HasSchemas, IsIdentifier, IsSchema}
use Rattle.model_read.proofs.Once.{identifier_once}
use Rattle.model_read.proofs.Standing.{BreaksNowhere, Stands}
use Rattle.canon_text.specs.Sorting.{sorted_by}
use Rattle.canon_text.specs.Objects.{list_in_order, unless_empty}
use Rattle.canon_text.specs.Canonical.{schema_value, schema_pair}
use Rattle.canon_text.specs.Machinery.Pairs.{pair_name, pair_value}
use Rattle.canon_text.proofs.Told.{any_with, at_one, any_mapped, any_unmapped, any_sorted, sorted_any}
use Rattle.canon_faults.proofs.Among.{find_passes, find_some, any_is, any_of_contains, contains_of_any, zip_any, any_zip, one_known}
use Rattle.canon_faults.proofs.Good.{Pairs, list_again}
use Rattle.canon_faults.proofs.Named.{IsNamed, canonical_id, canonical_inner, canonical_kind, declared_id, declared_inner, declared_kind, has_by, inner_schemas, kind_of_schema, named_by}

-- ---- identifiers
-- the identifier of a schema that is declared is one of its own
owns : (s : SchemaTerm) (v : Json) (id : Identifier) → IsSchema s v → schema_id s ≡ Some id → OwnDtmiText (dtmi_text id) id
owns (primitive p) v id g is = absurd cc
owns (named other) v id g is = absurd cc
owns (array_of c s) v id g is = (subst (HasOptionalId (codes "@id") g.0) is g.3.id).2.1
owns (enumeration c a es) v id g is = (subst (HasOptionalId (codes "@id") g.0) is g.3.id).2.1
owns (map_of c k e) v id g is = (subst (HasOptionalId (codes "@id") g.0) is g.4.id).2.1
owns (object_of c fs) v id g is = (subst (HasOptionalId (codes "@id") g.0) is g.3.id).2.1

-- so two that are named alike have one
one_name : (bytes : List ℕ) (s t : SchemaTerm) (v w : Json) → IsSchema s v → IsSchema t w → IsNamed bytes (schema_id s) → IsNamed bytes (schema_id t) → schema_id s ≡ schema_id t
one_name bytes s t v w g h (id, is, spelled) (other, also, spells) =
    let first : IsIdentifier (text bytes) id = (ap text (sym spelled), owns s v id g is) in
    let second : IsIdentifier (text bytes) other = (ap text (sym spells), owns t w other h also) in
    is ∙ ap (λ (x : Identifier). Some x) (identifier_once (text bytes) id other first second) ∙ sym also

-- a schema whose canonical value is a text is declared by that text
same_text : (s : SchemaTerm) (v : Json) (bytes : List ℕ) → IsSchema s v → schema_value s ≡ text bytes → v ≡ text bytes
same_text (primitive p) v bytes g is = g ∙ is
same_text (named id) v bytes g is = g.0 ∙ is
same_text (array_of c s) v bytes g is = absurd cc
same_text (enumeration c a es) v bytes g is = absurd cc
same_text (map_of c k e) v bytes g is = absurd cc
same_text (object_of c fs) v bytes g is = absurd cc

entries_of_list : (o : Option Json) (vs : Elements Number) → AreEntriesOf o vs → entries_under o ≡ list_of vs
entries_of_list None vs g = ap list_of (sym g)
entries_of_list (Some v) vs g = ap (λ (w : Json). entries_under (Some w)) g

canonical_entries : (ps : Pairs) → entries_under (unless_empty list_in_order ps) ≡ map pair_value (sorted_by pair_name ps)
canonical_entries [] = refl
canonical_entries (p ∷ ps) = list_again (map pair_value (sorted_by pair_name (p ∷ ps)))

abbrev value_of : Schema → Json
value_of s = schema_value (schema_term s)

-- ---- the schemas of an interface: the members of its canonical tree, and those of the value that declares it
module _ (cs ms : Members Number) (ss : List Schema) (canonical : value_at (codes "schemas") cs ≡ unless_empty list_in_order (map (λ s. schema_pair (schema_term s)) ss))
    (declared : HasSchemas (value_at (codes "schemas") ms) ss) (apart : AreDistinct (map (λ s. schema_id (schema_term s)) ss)) where
  abbrev pairs : Pairs
  pairs = map (λ s. schema_pair (schema_term s)) ss

  abbrev Is : Json → Schema → Type 0
  Is v s = IsSchema (schema_term s) v

  entries_canonical : entries_at (codes "schemas") (object cs) ≡ map pair_value (sorted_by pair_name pairs)
  entries_canonical = ap entries_under canonical ∙ canonical_entries pairs

  entries_declared : entries_at (codes "schemas") (object ms) ≡ list_of declared.0
  entries_declared = entries_of_list (value_at (codes "schemas") ms) declared.0 declared.1

  -- what a text names in the canonical tree
  canonical_named : (bytes : List ℕ) (w : Json) → schema_named cs bytes ≡ Some w
      → (s : Schema) × AnyByRecursion (λ t. t ≡ s) ss × (value_of s ≡ w) × IsNamed bytes (schema_id (schema_term s))
  canonical_named bytes w found =
      let passes = find_passes (has_id bytes) (map pair_value (sorted_by pair_name pairs)) w
      (sym (ap (find (has_id bytes)) entries_canonical) ∙ found) in
      let in_order = any_unmapped pair_value (λ v. (v ≡ w) × (has_id bytes v ≡ true)) (sorted_by pair_name pairs) passes in
      let in_pairs = sorted_any pair_name (λ m. (pair_value m ≡ w) × (has_id bytes (pair_value m) ≡ true)) pairs in_order in
      let some = any_unmapped (λ s. schema_pair (schema_term s)) (λ m. (pair_value m ≡ w) × (has_id bytes (pair_value m) ≡ true)) ss in_pairs in
      let (s, among, (is, held)) = any_is (λ s. (value_of s ≡ w) × (has_id bytes (value_of s) ≡ true)) ss some in
      (s, among, is, named_by bytes (value_of s) (schema_id (schema_term s)) (canonical_id (schema_term s)) held)

  canonical_names : (bytes : List ℕ) → AnyByRecursion (λ s. IsNamed bytes (schema_id (schema_term s))) ss → schema_named cs bytes ≡ None → ⊥
  canonical_names bytes some none =
      let held = any_with (λ s. IsNamed bytes (schema_id (schema_term s))) (λ s. has_id bytes (value_of s) ≡ true)
      (λ s h. has_by bytes (value_of s) (schema_id (schema_term s)) (canonical_id (schema_term s)) h) ss some in
      let in_pairs = any_mapped (λ s. schema_pair (schema_term s)) (λ m. has_id bytes (pair_value m) ≡ true) ss held in
      let in_order = any_sorted pair_name (λ m. has_id bytes (pair_value m) ≡ true) pairs in_pairs in
      let there = any_mapped pair_value (λ v. has_id bytes v ≡ true) (sorted_by pair_name pairs) in_order in
      find_some (has_id bytes) (map pair_value (sorted_by pair_name pairs)) there (sym (ap (find (has_id bytes)) entries_canonical) ∙ none)

  -- and in the value that declares the interface
  declared_named : (bytes : List ℕ) (v : Json) → schema_named ms bytes ≡ Some v
      → (s : Schema) × AnyByRecursion (λ t. t ≡ s) ss × IsSchema (schema_term s) v × IsNamed bytes (schema_id (schema_term s))
  declared_named bytes v found =
      let passes = find_passes (has_id bytes) (list_of declared.0) v (sym (ap (find (has_id bytes)) entries_declared) ∙ found) in
      let some = zip_any Is (λ w. (w ≡ v) × (has_id bytes w ≡ true)) (list_of declared.0) ss declared.2 passes in
      let (s, among, (w, g, (is, held))) = any_is (λ s. (w : Json) × Is w s × ((w ≡ v) × (has_id bytes w ≡ true))) ss some in
      (s, among, subst (IsSchema (schema_term s)) is g, named_by bytes w (schema_id (schema_term s)) (declared_id (schema_term s) w g) held)

  declared_names : (bytes : List ℕ) → AnyByRecursion (λ s. IsNamed bytes (schema_id (schema_term s))) ss → schema_named ms bytes ≡ None → ⊥
  declared_names bytes some none =
      let there = any_zip Is (λ s. IsNamed bytes (schema_id (schema_term s))) (list_of declared.0) ss declared.2 some in
      let held = any_with (λ v. (s : Schema) × Is v s × IsNamed bytes (schema_id (schema_term s))) (λ v. has_id bytes v ≡ true)
      (λ v h. has_by bytes v (schema_id (schema_term h.0)) (declared_id (schema_term h.0) v h.1) h.2) (list_of declared.0) there in
      find_some (has_id bytes) (list_of declared.0) held (sym (ap (find (has_id bytes)) entries_declared) ∙ none)

  declared_by : (s : Schema) → AnyByRecursion (λ t. t ≡ s) ss → (v : Json) × IsSchema (schema_term s) v
  declared_by s among =
      let some = any_zip Is (λ t. t ≡ s) (list_of declared.0) ss declared.2 among in
      let (v, in_list, (t, g, is)) = any_is (λ v. (t : Schema) × Is v t × (t ≡ s)) (list_of declared.0) some in
      (v, subst (λ (u : Schema). IsSchema (schema_term u) v) is g)

  -- what a text names in the one is declared by what it names in the other
  named_alike : (bytes : List ℕ) (w : Json) → schema_named cs bytes ≡ Some w
      → (s : Schema) × (v : Json) × (value_of s ≡ w) × (schema_named ms bytes ≡ Some v) × IsSchema (schema_term s) v
  named_alike bytes w found =
      let (s, among, is, names) = canonical_named bytes w found in
      let some : AnyByRecursion (λ t. IsNamed bytes (schema_id (schema_term t))) ss =
      any_with (λ t. t ≡ s) (λ t. IsNamed bytes (schema_id (schema_term t))) (λ t e. subst (λ (u : Schema). IsNamed bytes (schema_id (schema_term u))) (sym e) names) ss among in
      by s among is names some (schema_named ms bytes) refl
    where
      by : (s : Schema) → AnyByRecursion (λ t. t ≡ s) ss → value_of s ≡ w → IsNamed bytes (schema_id (schema_term s))
          → AnyByRecursion (λ t. IsNamed bytes (schema_id (schema_term t))) ss → (o : Option Json) → schema_named ms bytes ≡ o
          → (s : Schema) × (v : Json) × (value_of s ≡ w) × (schema_named ms bytes ≡ Some v) × IsSchema (schema_term s) v
      by s among is names some None none = absurd (declared_names bytes some none)
      by s among is names some (Some v) there =
          let (t, also, g, called) = declared_named bytes v there in
          let own = declared_by s among in
          let ids : schema_id (schema_term s) ≡ schema_id (schema_term t) = one_name bytes (schema_term s) (schema_term t) own.0 v own.1 g names called in
          let same : s ≡ t = one_known (λ u. schema_id (schema_term u)) ss s t apart among also ids in
          (t, v, ap value_of (sym same) ∙ is, there, g)

  -- ---- levels and reach
  -- the parts of a complex schema, each beside the part that declares it
  abbrev Parts : List Json → List Json → Type 0
  Parts canonicals own = (p : Json) → Contains canonicals p → (t : SchemaTerm) × (q : Json) × (schema_value t ≡ p) × Contains own q × IsSchema t q

  parts_alike : (s : SchemaTerm) (v : Json) (type : Element) (parts : List Json) → IsSchema s v → schema_type (schema_value s) ≡ Some type
      → schema_parts (schema_value s) ≡ parts → (schema_type v ≡ Some type) × Parts parts (schema_parts v)
  parts_alike s v type parts g typed parted =
      let kind : kind_of_schema s ≡ Some type = sym (canonical_kind s) ∙ typed in (
        declared_kind s v g ∙ kind,
        λ p inside.
            let first : AnyByRecursion (λ q. q ≡ p) (parts_by (kind_of_schema s) (schema_value s)) =
            subst (λ (o : Option Element). AnyByRecursion (λ q. q ≡ p) (parts_by o (schema_value s))) (canonical_kind s)
            (subst (AnyByRecursion (λ q. q ≡ p)) (sym parted) (any_of_contains parts p inside)) in
            let each = subst (λ (o : Option Element). AllByRecursion (λ t. AnyByRecursion (λ w. IsSchema t w) (parts_by o v)) (inner_schemas s)) (sym (declared_kind s v g)) (declared_inner s v g) in
            at_one (λ t. AnyByRecursion (λ w. IsSchema t w) (schema_parts v)) (λ t. schema_value t ≡ p)
            ((t : SchemaTerm) × (q : Json) × (schema_value t ≡ p) × Contains (schema_parts v) q × IsSchema t q) (inner_schemas s)
            (λ t some is. let (q, contained, h) = contains_of_any (λ w. IsSchema t w) (schema_parts v) some in (t, q, is, contained, h)) each (canonical_inner s p first),
      )

  complex_alike : (s : SchemaTerm) (v : Json) (type : Element) (parts : List Json) → IsSchema s v → IsComplex cs (schema_value s) type parts
      → (own : List Json) × IsComplex ms v type own × Parts parts own
  complex_alike s v type parts g complex = by complex.leads
    where
      by : (schema_value s ≡ complex.whole) ⊎ ((bytes : List ℕ) × (schema_value s ≡ text bytes) × (IsPrimitiveName bytes → ⊥) × (schema_named cs bytes ≡ Some complex.whole))
          → (own : List Json) × IsComplex ms v type own × Parts parts own
      by (inl is) =
          let alike = parts_alike s v type parts g (ap schema_type is ∙ complex.typed) (ap schema_parts is ∙ complex.parted) in
          (schema_parts v, record { whole = v; leads = inl refl; typed = alike.0; parted = refl }, alike.1)
      by (inr (bytes, is, other, found)) =
          let (t, w, same, there, h) = named_alike bytes complex.whole found in
          let alike = parts_alike (schema_term t) w type parts h (ap schema_type same ∙ complex.typed) (ap schema_parts same ∙ complex.parted) in
          (schema_parts w, record { whole = w; leads = inr (bytes, same_text s v bytes g is, other, there); typed = alike.0; parted = refl }, alike.1)

  level_alike : (n : ℕ) (s : SchemaTerm) (v : Json) → IsSchema s v → HasLevel cs n (schema_value s) → HasLevel ms n v
  level_alike zero s v g level = tt
  level_alike (suc n) s v g (type, parts, complex, rest) =
      let alike = complex_alike s v type parts g complex in (
        type,
        alike.0,
        alike.1,
        elim rest [
          | inl is ↦ inl is
          | inr (part, inside, level) ↦ (let q = alike.2 part inside in
              inr (q.1, q.3, level_alike n q.0 q.1 q.4 (subst (HasLevel cs n) (sym q.2) level)))
        ],
      )

  reach_alike : (n : ℕ) (s : SchemaTerm) (v : Json) → IsSchema s v → ReachesWithin cs n (schema_value s) → ReachesWithin ms n v
  reach_alike zero s v g reach = reach
  reach_alike (suc n) s v g (type, parts, complex, rest) =
      let alike = complex_alike s v type parts g complex in (
        type,
        alike.0,
        alike.1,
        elim rest [
          | inl is ↦ inl is
          | inr (part, inside, reach) ↦ (let q = alike.2 part inside in
              inr (q.1, q.3, reach_alike n q.0 q.1 q.4 (subst (ReachesWithin cs n) (sym q.2) reach)))
        ],
      )

  -- ---- the rules on schemas
  module _ (none : BreaksNowhere (object ms)) where
    known_alike : (id : Identifier) (part : SchemaUse) (r : Role) (v : Json) → v ≡ text (dtmi_text id) → r ≡ role.Schema part → Stands (object ms) r v
        → (IsPrimitiveName (dtmi_text id) → ⊥) → schema_named cs (dtmi_text id) ≡ None → (o : Option Json) → schema_named ms (dtmi_text id) ≡ o → ⊥
    known_alike id part r v is of stands other lacks None unknown =
        let Unknown : List ℕ → Type 0 = λ t. (IsPrimitiveName t → ⊥) × (schema_named ms t ≡ None) in
        none stands.place rule.UnknownSchema (r, v, stands.there, inr (inr (inl (part, of, subst (OfText Unknown) (sym is) (other, unknown)))))
    known_alike id part r v is of stands other lacks (Some w) found =
        let (s, among, g, called) = declared_named (dtmi_text id) w found in
        canonical_names (dtmi_text id) (any_with (λ t. t ≡ s) (λ t. IsNamed (dtmi_text id) (schema_id (schema_term t)))
        (λ t e. subst (λ (u : Schema). IsNamed (dtmi_text id) (schema_id (schema_term u))) (sym e) called) ss among) lacks

    unknown_alike : (s : SchemaTerm) (r : Role) (v : Json) → IsSchema s v → Stands (object ms) r v → UnknownSchema cs r (schema_value s) → ⊥
    unknown_alike (primitive p) r v g stands b = b.2.0 (p, refl)
    unknown_alike (named id) r v g stands b = known_alike id b.0 r v g.0 b.1 stands b.2.0 b.2.1 (schema_named ms (dtmi_text id)) refl
    unknown_alike (array_of c s) r v g stands b = b.2
    unknown_alike (enumeration c a es) r v g stands b = b.2
    unknown_alike (map_of c k e) r v g stands b = b.2
    unknown_alike (object_of c fs) r v g stands b = b.2

    pub schemas_alike : (s : SchemaTerm) (r : Role) (v : Json) → IsSchema s v → Stands (object ms) r v → (broken : LocalRule) → BreaksBySchemas cs broken r (schema_value s) → ⊥
    schemas_alike s r v g stands rule.UnknownSchema b = unknown_alike s r v g stands b
    schemas_alike s r v g stands rule.TooDeep b = none stands.place rule.TooDeep (r, v, stands.there, inr (inr (inl (b.0, level_alike 6 s v g b.1))))
    schemas_alike s r v g stands rule.ArrayInProperty b =
        none stands.place rule.ArrayInProperty (r, v, stands.there, inr (inr (inl (b.0, (b.1.0, reach_alike b.1.0 s v g b.1.1)))))
    schemas_alike s r v g stands other b = b
