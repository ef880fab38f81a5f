-- A schema has at least the levels of its record.
use Rattle.std.proofs.Common.{◌≡◌, ℕ, zero, suc, ◌≤◌, ◌⊎◌, inl, inr, List, [], ◌∷◌, ◌++◌, Option, Some, None, option_and_then, refl, sym, ap, ap₂, subst, ◌∙◌, arith}
use Rattle.std.specs.Prelude.{Contains, codes, max, filter_map, option_to_list}
use Rattle.std.specs.List.{cons_option}
use Rattle.json_decimal.specs.Number.{Number}
use Rattle.json_tree.specs.Values.{Json, object, Elements, no_elements, element, Members}
use Rattle.dtdl_terms.specs.Terms.{SchemaTerm, primitive, named, array_of, enumeration, map_of, object_of, PayloadTerm, payload, PayloadTerms, no_payloads, more_payloads}
use Rattle.json_tree.specs.Members.{list_of, value_at, value_in}
use Rattle.local_rules.specs.Roles.{type_of}
use Rattle.local_rules.specs.Levels.{HasLevel, entries_under, parts_by}
use Rattle.local_rules.specs.declared.role.Element.{Element}
use Rattle.local_rules.specs.declared.role.Element.TheVariants as element_kind
use Rattle.local_rules.specs.declared.role.Position.TheVariants as position
use Rattle.local_rules.specs.Declarations.{IsPayload, ArePayloads, IsSchema}
use Rattle.local_rules.specs.Limits.{levels, payload_levels, payloads_levels}

-- ---- lists
contains_here : {A : Type 0} (x : A) (xs : List A) → Contains (x ∷ xs) x
contains_here x xs = (0, omega arith, refl)

contains_later : {A : Type 0} (y x : A) (xs : List A) → Contains xs x → Contains (y ∷ xs) x
contains_later y x xs c = (suc c.0, (let within = c.1 in omega arith), c.2)

contains_option : {A : Type 0} (o : Option A) (x : A) (xs : List A) → Contains xs x → Contains (cons_option o xs) x
contains_option None x xs c = c
contains_option (Some y) x xs c = contains_later y x xs c

at_most_max : (n a b : ℕ) → n ≤ max a b → (n ≤ a) ⊎ (n ≤ b)
at_most_max n a b le = grind arith

-- ---- schemas
module _ (ms : Members Number) where
  -- a schema object of a type, with its parts
  object_level : (type : Element) (inner : Members Number) (v : Json) (parts : List Json) (n : ℕ) → v ≡ object inner → type_of position.Schema inner ≡ Some type
      → parts_by (Some type) (object inner) ≡ parts → (n ≡ 0) ⊎ ((part : Json) × Contains parts part × HasLevel ms n part) → HasLevel ms (suc n) v
  object_level type inner v parts n is typed parted some = subst (HasLevel ms (suc n)) (sym is) (
    type,
    parts,
    record {
      whole = object inner;
      leads = inl refl;
      typed = typed;
      parted = ap (λ (o : Option Element). parts_by o (object inner)) typed ∙ parted;
    },
    some,
  )

  schema_under : Json → Option Json
  schema_under v = value_in (codes "schema") v

  mutual
    pub has_levels : (s : SchemaTerm) (v : Json) → IsSchema s v → (n : ℕ) → n ≤ levels s → HasLevel ms n v
    has_levels s v g zero le = tt
    has_levels (primitive p) v g (suc n) le = absurd (omega arith)
    has_levels (named id) v g (suc n) le = absurd (omega arith)
    has_levels (array_of c s) v g (suc n) le =
        object_level element_kind.Array g.0 v (g.1 ∷ []) n g.2.0 g.2.1 (ap option_to_list g.4)
        (inr (g.1, contains_here g.1 [], has_levels s g.1 g.5 n (omega arith)))
    has_levels (enumeration c of_text es) v g (suc n) le =
        object_level element_kind.Enumeration g.0 v [] n g.2.0 g.2.1 refl (inl (omega arith))
    has_levels (map_of c k e) v g (suc n) le =
        let key = payload_has_levels k g.1 g.6 in
        let value = payload_has_levels e g.2 g.8 in
        let keys : option_and_then (value_in (codes "schema")) (value_at (codes "mapKey") g.0) ≡ Some key.0 =
        ap (option_and_then (value_in (codes "schema"))) g.5 ∙ key.1 in
        let values : option_and_then (value_in (codes "schema")) (value_at (codes "mapValue") g.0) ≡ Some value.0 =
        ap (option_and_then (value_in (codes "schema"))) g.7 ∙ value.1 in
        let parted = ap₂ (λ (a b : Option Json). option_to_list a ++ option_to_list b) keys values in
        let inner : n ≤ max (payload_levels k) (payload_levels e) = omega arith in
        object_level element_kind.Map g.0 v (key.0 ∷ value.0 ∷ []) n g.3.0 g.3.1 parted (inr (elim (at_most_max n (payload_levels k) (payload_levels e) inner) [
          | inl low ↦ (key.0, contains_here key.0 (value.0 ∷ []), key.2 n low)
          | inr low ↦ (value.0, contains_later key.0 value.0 (value.0 ∷ []) (contains_here value.0 []), value.2 n low)
        ]))
    has_levels (object_of c fs) v g (suc zero) le =
        object_level element_kind.Object g.0 v (filter_map (value_in (codes "schema")) (entries_under (value_at (codes "fields") g.0))) zero g.2.0 g.2.1 refl (inl refl)
    has_levels (object_of c fs) v g (suc (suc n)) le =
        let parted = ap (λ (o : Option Json). filter_map (value_in (codes "schema")) (entries_under o)) g.4 in
        object_level element_kind.Object g.0 v (filter_map (value_in (codes "schema")) (list_of g.1)) (suc n) g.2.0 g.2.1 parted
        (inr (payloads_have_levels fs g.1 g.5 n (omega arith)))

    payload_has_levels : (p : PayloadTerm) (v : Json) → IsPayload p v
        → (part : Json) × (value_in (codes "schema") v ≡ Some part) × ((n : ℕ) → n ≤ payload_levels p → HasLevel ms n part)
    payload_has_levels (payload n c s) v g = (g.1, ap (value_in (codes "schema")) g.2 ∙ g.5, has_levels s g.1 g.6)

    payloads_have_levels : (ps : PayloadTerms) (vs : Elements Number) → ArePayloads ps vs → (n : ℕ) → suc n ≤ payloads_levels ps
        → (part : Json) × Contains (filter_map (value_in (codes "schema")) (list_of vs)) part × HasLevel ms (suc n) part
    payloads_have_levels no_payloads vs g n le = absurd (omega arith)
    payloads_have_levels (more_payloads p ps) no_elements g n le = absurd g
    payloads_have_levels (more_payloads p ps) (element v vs) g n le =
        let first = payload_has_levels p v g.0 in
        let rest = filter_map (value_in (codes "schema")) (list_of vs) in
        elim (at_most_max (suc n) (payload_levels p) (payloads_levels ps) le) [
          | inl low ↦ (
            first.0,
            subst (λ (o : Option Json). Contains (cons_option o rest) first.0) (sym first.1) (contains_here first.0 rest),
            first.2 (suc n) low,
          )
          | inr low ↦ (let later = payloads_have_levels ps vs g.1 n low in (
            later.0,
            contains_option (value_in (codes "schema") v) later.0 rest later.1,
            later.2,
          ))
        ]
