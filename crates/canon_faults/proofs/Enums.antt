-- Canonical enums have no fault where those that declare them have none.
use Rattle.std.proofs.Common.{◌≡◌, ◌≢◌, ℕ, zero, suc, ◌<◌, ◌≤◌, inl, inr, List, [], ◌∷◌, ◌++◌, length, map, take, Bool, true, false, ◌||◌, ◌&&◌, nat_eq, ℤ, ap₂, Option, Some, None, option_and_then, refl, sym, ap, subst, ◌∙◌, arith}
use Rattle.std.specs.Prelude.{codes, FitsSigned, slice_get}
use Rattle.std.specs.Ordering.{int_eq}
use Rattle.std.proofs.Math.Bool.{beq}
use Rattle.std.proofs.lemmas.Bool.Decides.{Decides-eqb, Decides-int_eq}
use Rattle.std.specs.List.{AllByRecursion, AllZip, list_any}
use Rattle.std.specs.Int.{w32}
use Rattle.std.proofs.lemmas.Bool.{and_parts, eqb-true, false≢true}
use Rattle.std.proofs.lemmas.Slice.Eq.{bytes_eq-Decides}
use Rattle.json_decimal.specs.Number.{Number}
use Rattle.json_decimal.specs.Comparing.{IsWhole}
use Rattle.json_decimal.proofs.Unique.{same_fields}
use Rattle.json_decimal.proofs.Wholes.{one_whole}
use Rattle.json_tree.specs.Values.{Json, number, text, array, object, Elements, no_elements, element, elements_of, Members}
use Rattle.json_tree.specs.Places.{element_at}
use Rattle.dtdl_terms.specs.Distinct.{AreDistinct}
use Rattle.dtdl_terms.specs.declared.common.Common.{Common}
use Rattle.dtdl_terms.specs.declared.enumeration.EnumEntry.{EnumEntry}
use Rattle.dtdl_terms.specs.declared.enumeration.EnumValue.{EnumValue}
use Rattle.dtdl_terms.specs.declared.enumeration.EnumValue.TheVariants as values
use Rattle.json_tree.specs.Members.{list_of, text_in, value_at, value_in}
use Rattle.local_rules.specs.Quantities.{IsNoneOf}
use Rattle.local_rules.specs.Kinds.{is_of_kind, kind_of}
use Rattle.local_rules.specs.Breaches.{BreaksAlone}
use Rattle.local_rules.specs.Repeats.{IsInEntry, holds_some, is_among, name_in, number_eq, repeats, repeats_value, same_value}
use Rattle.local_rules.specs.Roles.{HasRole, element_of, schema_of_values, schema_of_values_named}
use Rattle.local_rules.specs.declared.key.Key.TheVariants as key
use Rattle.local_rules.specs.declared.rule.LocalRule.{LocalRule}
use Rattle.local_rules.specs.declared.rule.LocalRule.TheVariants as rule
use Rattle.local_rules.specs.declared.role.Element.TheVariants as element_kind
use Rattle.local_rules.specs.declared.role.ValueSchema.{ValueSchema}
use Rattle.local_rules.specs.declared.role.ValueSchema.TheVariants as value_schemas
use Rattle.local_rules.specs.declared.role.Role.{Role}
use Rattle.local_rules.specs.declared.role.Role.TheVariants as role
use Rattle.local_rules.specs.Declarations.{HasString, IsEnumEntry, IsEnumValue, value_schema as declared_value_schema}
use Rattle.local_rules.specs.Limits.{EnumEntryIsWithin}
use Rattle.model_read.proofs.Valid.{here}
use Rattle.model_read.proofs.Standing.{BreaksNowhere, Stands, entry_at, entry_stands, key_at, key_stands, stands_valid}
use Rattle.model_read.proofs.Pairs.{distinct_pairs, mapped_back, zip_at}
use Rattle.canon_text.specs.Sorting.{sorted_by}
use Rattle.canon_text.specs.Numbers.{whole as whole_number}
use Rattle.canon_text.specs.Objects.{list_in_order}
use Rattle.canon_text.specs.Canonical.{element_parts, enum_entry_pair, enum_entry_value, enum_value, value_schema_json}
use Rattle.canon_text.specs.Machinery.Pairs.{pair_name, pair_value}
use Rattle.canon_text.proofs.Wholes.{whole_told}
use Rattle.canon_faults.proofs.Counts.{ids_count}
use Rattle.canon_faults.proofs.Apart.{Named, Pairwise, PairsDiffer, names_repeat_nothing, nothing_repeats}
use Rattle.canon_faults.proofs.Fine.{Fine, IsLeaf, all_alone, leaf_fine, list_fine, object_fine, plain_schemas}
use Rattle.canon_faults.proofs.Good.{EachGood, Good, Pairs, PartGood, Parts, PartsGood, list_good, object_good, part_of, sorted_length}
use Rattle.canon_faults.proofs.Named.{enum_parts, members, table, under}
use Rattle.canon_laws.proofs.Tables.{whole_is}
use Rattle.canon_faults.proofs.Parts.{element_good, new_part, nothing_missing, part_at, text_part}

-- ---- the value of an entry
value_leaf : (v : EnumValue) → IsLeaf (enum_value v)
value_leaf (values.Number z) = tt
value_leaf (values.Word b) = tt

value_count : (k : ValueSchema) (v : EnumValue) (x : List ℕ) → ids_count x (Some (role.EnumValue k)) (enum_value v) ≡ 0
value_count k (values.Number z) x = refl
value_count k (values.Word b) x = refl

value_kind : (k : ValueSchema) (v : EnumValue) → is_of_kind (kind_of (role.EnumValue k)) (enum_value v) ≡ true
value_kind k (values.Number z) = refl
value_kind k (values.Word b) = refl

-- where the canonical value is none of a kind, that which declares it is none either
none_of_alike : (k : ValueSchema) (w : Json) (v : EnumValue) → IsEnumValue w v → IsNoneOf k (enum_value v) → IsNoneOf k w
none_of_alike value_schemas.Integer w (values.Number y) g none = λ h.
    let same : h.0 ≡ g.0 = (let e : number h.0 ≡ number g.0 = sym h.2 ∙ g.1 in cc) in
    let equal : h.1 ≡ y = one_whole g.0 h.1 y (subst (λ (m : Number). IsWhole m h.1) same h.4) g.2 in
    none (whole_number y, y, refl, subst (FitsSigned w32) equal h.3, whole_is y)
none_of_alike value_schemas.Integer w (values.Word b) g none = λ h. let e : text b ≡ number h.0 = sym g ∙ h.2 in cc
none_of_alike value_schemas.String w (values.Number y) g none = λ h. let e : number g.0 ≡ text h.0 = sym g.1 ∙ h.1 in cc
none_of_alike value_schemas.String w (values.Word b) g none = λ h. none (b, refl)
none_of_alike value_schemas.Neither w v g none = none

-- the kind of values that an enum asks for
abbrev pub kind_of_values : Bool → ValueSchema
kind_of_values true = value_schemas.String
kind_of_values false = value_schemas.Integer

schema_text : (a : Bool) → value_schema_json a ≡ text (declared_value_schema a)
schema_text true = refl
schema_text false = refl

asked : (a : Bool) → schema_of_values_named (Some (declared_value_schema a)) ≡ kind_of_values a
asked true = refl
asked false = refl

asks : (a : Bool) (ns : Members Number) → value_at (codes "valueSchema") ns ≡ Some (text (declared_value_schema a)) → schema_of_values ns ≡ kind_of_values a
asks a ns at = ap (λ (o : Option Json). schema_of_values_named (option_and_then text_in o)) at ∙ asked a

-- ---- names
entry_named : (e : EnumEntry) → Named name_in (enum_entry_pair e)
entry_named e =
    let ps : Parts = element_parts None e.common ++ (codes "enumValue", Some (enum_value e.value)) ∷ (codes "name", Some (text e.name)) ∷ [] in
    ap (option_and_then text_in) (under (codes "name") ps (Some (text e.name)) refl)

entries_named : (es : List EnumEntry) → AllByRecursion (Named name_in) (map enum_entry_pair es)
entries_named [] = tt
entries_named (e ∷ es) = (entry_named e, entries_named es)

names_are : (es : List EnumEntry) → map pair_name (map enum_entry_pair es) ≡ map (λ e. e.name) es
names_are [] = refl
names_are (e ∷ es) = ap (λ (ks : List (List ℕ)). e.name ∷ ks) (names_are es)

entries_long : (es : List EnumEntry) → length (map enum_entry_pair es) ≡ length es
entries_long [] = refl
entries_long (e ∷ es) = let rest = entries_long es in omega arith

-- ---- values
value_there : (e : EnumEntry) → value_in (codes "enumValue") (enum_entry_value e) ≡ Some (enum_value e.value)
value_there e =
    let ps : Parts = element_parts None e.common ++ (codes "enumValue", Some (enum_value e.value)) ∷ (codes "name", Some (text e.name)) ∷ [] in
    under (codes "enumValue") ps (Some (enum_value e.value)) refl

exact_number : (m n : Number) → number_eq m n ≡ true → m ≡ n
exact_number m n is =
    let parts = and_parts (beq m.negative n.negative && nat_eq m.coefficient n.coefficient) (int_eq m.exponent n.exponent) is in
    let first = and_parts (beq m.negative n.negative) (nat_eq m.coefficient n.coefficient) parts.0 in
    same_fields m n (exact_sign m.negative n.negative first.0) (eqb-true m.coefficient n.coefficient first.1) ((Decides-int_eq m.exponent n.exponent).0 parts.1)
  where
    exact_sign : (a b : Bool) → beq a b ≡ true → a ≡ b
    exact_sign true true e = refl
    exact_sign true false e = cc
    exact_sign false true e = cc
    exact_sign false false e = refl

same_number : (n : Number) → number_eq n n ≡ true
same_number n = by n.negative n.coefficient n.exponent
  where
    by : (b : Bool) (c : ℕ) (e : ℤ) → (beq b b && nat_eq c c && int_eq e e) ≡ true
    by true c e = ap₂ ◌&&◌ ((Decides-eqb c c).1 refl) ((Decides-int_eq e e).1 refl)
    by false c e = ap₂ ◌&&◌ ((Decides-eqb c c).1 refl) ((Decides-int_eq e e).1 refl)

-- values that are the same are equal
exact_json : (v w : Json) → same_value v w ≡ true → v ≡ w
exact_json (number m) (number n) is = ap number (exact_number m n is)
exact_json (text a) (text b) is = ap text ((bytes_eq-Decides a b).0 is)
exact_json v w is = absurd cc

-- each pair of entries has two values
values_differ : (e : EnumEntry) (es : List EnumEntry) → AllByRecursion (λ v. enum_value e.value ≢ v) (map (λ f. enum_value f.value) es)
    → AllByRecursion (λ n. PairsDiffer same_value exact_json (value_in (codes "enumValue")) (enum_entry_pair e) n) (map enum_entry_pair es)
values_differ e [] apart = tt
values_differ e (f ∷ fs) apart = (
  λ x y first second same.
      let one : enum_value e.value ≡ x = (let g : Some (enum_value e.value) ≡ Some x = sym (value_there e) ∙ first in cc) in
      let other : enum_value f.value ≡ y = (let g : Some (enum_value f.value) ≡ Some y = sym (value_there f) ∙ second in cc) in
      apart.0 (one ∙ same ∙ sym other),
  values_differ e fs apart.1,
)

all_values_differ : (es : List EnumEntry) → AreDistinct (map (λ e. enum_value e.value) es)
    → Pairwise (PairsDiffer same_value exact_json (value_in (codes "enumValue"))) (map enum_entry_pair es)
all_values_differ [] apart = tt
all_values_differ (e ∷ es) apart = (values_differ e es apart.0, all_values_differ es apart.1)

-- ---- an entry that has the value of an earlier one repeats it
repeats_at : {X : Type 0} (same : X → X → Bool) (xs : List (Option X)) (i j : ℕ) (x y : X) → i < j → slice_get xs i ≡ Some (Some x) → slice_get xs j ≡ Some (Some y)
    → same x y ≡ true → repeats same xs j ≡ true
repeats_at {X = X} same xs i j x y less first second is =
    ap (λ (o : Option (Option X)). is_among same (take j xs) (option_and_then (λ p. p) o)) second ∙ earlier xs i j less first
  where
    or_true : (a b : Bool) → a ≡ true → (a || b) ≡ true
    or_true true b e = refl
    or_true false b e = absurd cc

    true_or : (a b : Bool) → b ≡ true → (a || b) ≡ true
    true_or true b e = refl
    true_or false b e = e

    earlier : (os : List (Option X)) (k l : ℕ) → k < l → slice_get os k ≡ Some (Some x) → list_any (holds_some (λ z. same z y)) (take l os) ≡ true
    earlier [] k l under at = absurd cc
    earlier (o ∷ os) k zero under at = absurd (omega arith)
    earlier (o ∷ os) zero (suc l) under at =
        let there : o ≡ Some x = cc in or_true (holds_some (λ z. same z y) o) (list_any (holds_some (λ z. same z y)) (take l os)) (ap (holds_some (λ z. same z y)) there ∙ is)
    earlier (o ∷ os) (suc k) (suc l) under at =
        true_or (holds_some (λ z. same z y) o) (list_any (holds_some (λ z. same z y)) (take l os)) (earlier os k l (omega arith) at)

looked_at : {X : Type 0} (f : Json → X) (vs : Elements Number) (i : ℕ) (v : Json) → element_at vs i ≡ Some v → slice_get (map f (list_of vs)) i ≡ Some (f v)
looked_at f no_elements i v at = absurd cc
looked_at {X = X} f (element w vs) zero v at = let same : w ≡ v = cc in ap (λ (u : Json). Some (f u)) same
looked_at f (element w vs) (suc i) v at = looked_at f vs i v at

module _ (cs : Members Number) (whole : Json) (none : BreaksNowhere whole)
    (once : (r q : Role) (m n : Number) (z : ℤ) → Stands whole r (number m) → Stands whole q (number n) → IsWhole m z → IsWhole n z → m ≡ n) where
  -- ---- an entry
  value_alone : (k : ValueSchema) (v : EnumValue) (w : Json) → IsEnumValue w v → Stands whole (role.EnumValue k) w → (broken : LocalRule)
      → BreaksAlone broken (role.EnumValue k) (enum_value v) → ⊥
  value_alone k v w is stands = all_alone (role.EnumValue k) (enum_value v) (
    λ b. false≢true (sym b ∙ value_kind k v),
    (
      λ b.
          let same : k ≡ b.0 = (let e : role.EnumValue k ≡ role.EnumValue b.0 = b.1 in cc) in
          here (role.EnumValue k) w rule.BadEnumValue (stands_valid whole none (role.EnumValue k) w stands)
          (k, refl, none_of_alike k w v is (subst (λ (j : ValueSchema). IsNoneOf j (enum_value v)) (sym same) b.2)),
      tt,
    ),
  )

  entry_good : (k : ValueSchema) (e : EnumEntry) (v : Json) → IsEnumEntry v e → EnumEntryIsWithin e → Stands whole (role.EnumEntry k) v
      → Good cs (Some (role.EnumEntry k)) (enum_entry_value e) v
  entry_good k e v g w there =
      let r : Role = role.EnumEntry k in
      let kind = element_kind.EnumEntry in
      let stands = subst (Stands whole r) g.1 there in
      let own : Parts = (codes "enumValue", Some (enum_value e.value)) ∷ (codes "name", Some (text e.name)) ∷ [] in
      let ps : Parts = element_parts None e.common ++ own in
      let value = g.2.value in
      let value_stands = key_stands whole r g.0 kind key.EnumValue (codes "enumValue") value.0 refl refl value.1 stands in
      subst (λ (u : Json). Good cs (Some r) (enum_entry_value e) u) (sym g.1)
      (object_good cs r kind ps g.0 refl refl refl
      (object_fine cs r (members ps) tt (nothing_missing r kind ps refl (refl, (refl, tt)) (λ named. absurd cc)) (plain_schemas cs r (object (members ps)) tt))
      (element_good cs whole none r kind (members ps) g.0 None e.common own (record { id = refl; id_is = refl; comment = refl; description = refl; display_name = refl }) refl stands
      g.2.common w.common tt (
        new_part cs (role.EnumValue k) (Some (role.EnumValue k)) (enum_value e.value) (value_at (codes "enumValue") g.0) (value_leaf e.value) (value_count k e.value)
            (leaf_fine cs (role.EnumValue k) (enum_value e.value) (value_leaf e.value) (value_alone k e.value value.0 value.2 value_stands) (plain_schemas cs (role.EnumValue k) (enum_value e.value) tt)),
        (
          text_part cs whole none role.Name (Some e.name) (value_at (codes "name") g.0) g.2.name tt
              (λ u at. key_stands whole r g.0 kind key.Name (codes "name") u refl refl at stands),
          tt,
        ),
      )))

  entries_good : (k : ValueSchema) (es : List EnumEntry) (vs : Elements Number) → AllZip IsEnumEntry (list_of vs) es → AllByRecursion EnumEntryIsWithin es
      → ((i : ℕ) (v : Json) → element_at vs i ≡ Some v → Stands whole (role.EnumEntry k) v) → EachGood cs (role.EnumEntry k) (map enum_entry_pair es) vs
  entries_good k [] no_elements all w stands = tt
  entries_good k [] (element v vs) all w stands = absurd all
  entries_good k (e ∷ es) no_elements all w stands = absurd all
  entries_good k (e ∷ es) (element v vs) all w stands = (entry_good k e v all.0 w.0 (stands zero v refl), entries_good k es vs all.1 w.1 (λ i u at. stands (suc i) u at))

  -- ---- the values of an enum are distinct
  same_declared : (k : ValueSchema) (v w : Json) (a b : EnumValue) → IsEnumValue v a → IsEnumValue w b → Stands whole (role.EnumValue k) v → Stands whole (role.EnumValue k) w
      → enum_value a ≡ enum_value b → same_value v w ≡ true
  same_declared k v w (values.Number y) (values.Number z) g h first second same =
      let numbers : whole_number y ≡ whole_number z = (let e : number (whole_number y) ≡ number (whole_number z) = same in cc) in
      let equal : y ≡ z = whole_told y z numbers in
      let one : g.0 ≡ h.0 = once (role.EnumValue k) (role.EnumValue k) g.0 h.0 z (subst (Stands whole (role.EnumValue k)) g.1 first) (subst (Stands whole (role.EnumValue k)) h.1 second)
      (subst (IsWhole g.0) equal g.2) h.2 in
      ap (λ (u : Json). same_value u w) g.1 ∙ ap (λ (u : Json). same_value (number g.0) u) h.1 ∙ ap (λ (n : Number). number_eq g.0 n) (sym one) ∙ same_number g.0
  same_declared k v w (values.Number y) (values.Word b) g h first second same = absurd cc
  same_declared k v w (values.Word a) (values.Number z) g h first second same = absurd cc
  same_declared k v w (values.Word a) (values.Word b) g h first second same =
      let bytes : a ≡ b = (let e : text a ≡ text b = same in cc) in
      ap (λ (u : Json). same_value u w) g ∙ ap (λ (u : Json). same_value (text a) u) h ∙ (bytes_eq-Decides a b).1 bytes

  values_apart : (k : ValueSchema) (vs : Elements Number) (es : List EnumEntry) → AllZip IsEnumEntry (list_of vs) es → Stands whole (role.EnumValues k) (array vs)
      → AreDistinct (map (λ e. enum_value e.value) es)
  values_apart k vs es all stands = distinct_pairs (map (λ e. enum_value e.value) es) (λ i j x y less first second same.
      let (e, e_at, e_is) = mapped_back (λ (f : EnumEntry). enum_value f.value) es i x first in
      let (f, f_at, f_is) = mapped_back (λ (h : EnumEntry). enum_value h.value) es j y second in
      let (v, v_at, v_declares) = zip_at IsEnumEntry vs es i e all e_at in
      let (w, w_at, w_declares) = zip_at IsEnumEntry vs es j f all f_at in
      let own = v_declares.2.value in
      let other = w_declares.2.value in
      let v_there = subst (λ (u : Json). HasRole role.Interface whole (stands.place ++ i ∷ []) (role.EnumEntry k) u) v_declares.1
      (entry_at whole stands.place (role.EnumValues k) vs i (role.EnumEntry k) v refl v_at stands.there) in
      let w_there = subst (λ (u : Json). HasRole role.Interface whole (stands.place ++ j ∷ []) (role.EnumEntry k) u) w_declares.1
      (entry_at whole stands.place (role.EnumValues k) vs j (role.EnumEntry k) w refl w_at stands.there) in
      let v_value = key_at whole (stands.place ++ i ∷ []) (role.EnumEntry k) v_declares.0 element_kind.EnumEntry key.EnumValue (codes "enumValue") own.0 refl refl own.1 v_there in
      let w_value = key_at whole (stands.place ++ j ∷ []) (role.EnumEntry k) w_declares.0 element_kind.EnumEntry key.EnumValue (codes "enumValue") other.0 refl refl other.1 w_there in
      let alike = same_declared k own.0 other.0 e.value f.value own.2 other.2 (record { place = (stands.place ++ i ∷ []) ++ v_value.0 ∷ []; there = v_value.1 })
      (record { place = (stands.place ++ j ∷ []) ++ w_value.0 ∷ []; there = w_value.1 }) (e_is ∙ same ∙ sym f_is) in
      let one = looked_at (value_in (codes "enumValue")) vs i v v_at ∙ ap (λ (o : Option Json). Some o) (ap (value_in (codes "enumValue")) v_declares.1 ∙ own.1) in
      let two = looked_at (value_in (codes "enumValue")) vs j w w_at ∙ ap (λ (o : Option Json). Some o) (ap (value_in (codes "enumValue")) w_declares.1 ∙ other.1) in
      let again = repeats_at same_value (map (value_in (codes "enumValue")) (list_of vs)) i j own.0 other.0 less one two alike in
      let in_list : IsInEntry whole (role.EnumValues k) repeats_value ((stands.place ++ j ∷ []) ++ w_value.0 ∷ []) =
      (stands.place ++ j ∷ [], w_value.0, refl, (stands.place, j, refl, record { entries = vs; stands = stands.there; holds = again })) in
      none ((stands.place ++ j ∷ []) ++ w_value.0 ∷ []) rule.DuplicateEnumValue (role.EnumValue k, other.0, w_value.1, inr (inl ((k, refl), (k, in_list)))))

  -- ---- the list
  entries_fine : (k : ValueSchema) (es : List EnumEntry) → AreDistinct (map (λ e. e.name) es) → AreDistinct (map (λ e. enum_value e.value) es) → length es ≤ 100
      → Fine cs (role.EnumValues k) (list_in_order (map enum_entry_pair es))
  entries_fine k es names apart few =
      let pairs : Pairs = map enum_entry_pair es in
      let long = sorted_length pairs in
      let count = entries_long es in
      list_fine cs (role.EnumValues k) (elements_of (map pair_value (sorted_by pair_name pairs))) (omega arith)
      (λ i. (
        names_repeat_nothing name_in pairs i (entries_named es) (subst AreDistinct (sym (names_are es)) names),
        nothing_repeats same_value exact_json (value_in (codes "enumValue")) pairs i (all_values_differ es apart),
      ))

  -- ---- the members of an enum
  pub enum_parts_good : (r : Role) (c : Common) (a : Bool) (es : List EnumEntry) (ns : Members Number) (vs : Elements Number)
      → element_of r ns ≡ Some element_kind.Enumeration → Stands whole r (object ns) → HasString (codes "valueSchema") ns (declared_value_schema a)
      → value_at (codes "enumValues") ns ≡ Some (array vs) → AllZip IsEnumEntry (list_of vs) es → AreDistinct (map (λ e. e.name) es) → length es ≤ 100 → AllByRecursion EnumEntryIsWithin es
      → PartsGood cs r element_kind.Enumeration (members (table (codes "Enum") c (enum_parts a es))) ns (enum_parts a es)
  enum_parts_good r c a es ns vs is stands asked_for listed all names few within =
      let e = element_kind.Enumeration in
      let k = kind_of_values a in
      let ps : Parts = table (codes "Enum") c (enum_parts a es) in
      let canonical : schema_of_values (members ps) ≡ k =
      asks a (members ps) (under (codes "valueSchema") ps (Some (value_schema_json a)) refl ∙ ap (λ (v : Json). Some v) (schema_text a)) in
      let own : schema_of_values ns ≡ k = asks a ns asked_for in
      let list_stands = subst (λ (j : ValueSchema). Stands whole (role.EnumValues j) (array vs)) own
      (key_stands whole r ns e key.EnumValues (codes "enumValues") (array vs) is refl listed stands) in
      let each = entries_good k es vs all within (λ i u at. entry_stands whole (role.EnumValues k) vs i (role.EnumEntry k) u refl at list_stands) in
      let good = list_good cs (role.EnumValues k) (role.EnumEntry k) (map enum_entry_pair es) vs refl (entries_fine k es names (values_apart k vs es all list_stands) few) each in (
        part_at cs r e (members ps) ns (codes "enumValues") key.EnumValues (role.EnumValues k) (Some (list_in_order (map enum_entry_pair es))) (value_at (codes "enumValues") ns) refl
            (ap (λ (j : ValueSchema). role.EnumValues j) canonical) (ap (λ (j : ValueSchema). role.EnumValues j) own)
            (part_of cs (role.EnumValues k) (list_in_order (map enum_entry_pair es)) (array vs) (value_at (codes "enumValues") ns) listed good),
        (
          subst (λ (v : Json). PartGood cs (Some role.ValueSchema) (Some role.ValueSchema) (Some v) (value_at (codes "valueSchema") ns)) (sym (schema_text a))
              (text_part cs whole none role.ValueSchema (Some (declared_value_schema a)) (value_at (codes "valueSchema") ns) asked_for tt
              (λ u at. key_stands whole r ns e key.ValueSchema (codes "valueSchema") u is refl at stands)),
          tt,
        ),
      )
