-- What a canonical object has under its keys, and canonical lists read back.
use Rattle.std.proofs.Common.{◌≡◌, ℕ, zero, suc, ◌+ℤ◌, ◌*◌, ◌^◌, List, [], ◌∷◌, ◌++◌, map, Bool, true, false, if◌then◌else◌, ℤ, pos, negsuc, Option, Some, None, refl, sym, ap, ap₂, ◌∙◌, subst, mul-one, arith}
use Rattle.std.specs.Prelude.{codes}
use Rattle.std.specs.Option.{option_map}
use Rattle.std.specs.List.{AllByRecursion, AllZip}
use Rattle.std.specs.Str.{bytes_eq}
use Rattle.std.proofs.lemmas.Int.{ints}
use Rattle.dt_base.specs.names.Grammar.{Identifier}
use Rattle.json_decimal.specs.Number.{Number}
use Rattle.json_decimal.specs.Comparing.{above, IsWhole}
use Rattle.json_decimal.specs.Machinery.Sizes.{IsSize}
use Rattle.json_decimal.proofs.Sizes.{above_from, below_from}
use Rattle.json_decimal.proofs.Wholes.{whole_from_size, one_whole}
use Rattle.json_tree.specs.Values.{Json, null, truth, number, text, array, object, Elements, elements_of, Members, members_of}
use Rattle.json_tree.specs.Members.{list_of, pairs_of, value_at}
use Rattle.dtdl_terms.specs.declared.common.Common.{Common}
use Rattle.dtdl_terms.specs.declared.common.Entry.{Entry}
use Rattle.dtdl_terms.specs.declared.common.Localized.{Localized}
use Rattle.local_rules.specs.Declarations.{HasOptionalString, HasOptionalId, DeclaresWritable, IsTextOfLanguage, IsLocalizedBy, IsLocalized, HasLocalized, HasCommon, HasMax, AreEntriesOf}
use Rattle.canon_text.specs.Sorting.{sorted_by, put_by, is_before}
use Rattle.canon_text.specs.Numbers.{without_zeros, sized, whole}
use Rattle.canon_text.specs.Objects.{present, object_of_parts, members_in_order, list_in_order, unless_empty}
use Rattle.canon_text.specs.Canonical.{id_value, entry_pair, localized_value, element_parts, writable_value, most_value, id_text}
use Rattle.canon_text.specs.Machinery.Pairs.{pair_name, pair_value}
use Rattle.canon_text.proofs.SortedOnce.{less, ranked, kept, one_rising, rises_sorted, kept_sorted}
use Rattle.canon_text.proofs.Told.{all_sorted}
use Rattle.canon_text.proofs.Wholes.{size_sized, sign_sized}

abbrev pub Pairs : Type 0
Pairs = List (List ℕ × Json)

abbrev pub Parts : Type 0
Parts = List (List ℕ × Option Json)

-- ---- the value under a key of a table
abbrev pub first_some : Option Json → Option Json → Option Json
first_some None other = other
first_some (Some v) other = Some v

abbrev pub found : List ℕ → Parts → Option Json
found key [] = None
found key ((k, o) ∷ ps) = if bytes_eq k key then first_some o (found key ps) else found key ps

pub or_none : (o : Option Json) → first_some o None ≡ o
or_none None = refl
or_none (Some v) = refl

same_both : {A : Type 0} (b : Bool) (x : A) → x ≡ (if b then x else x)
same_both true x = refl
same_both false x = refl

pub found_at : (key : List ℕ) (ps : Parts) → value_at key (members_of (present ps)) ≡ found key ps
found_at key [] = refl
found_at key ((k, None) ∷ ps) = found_at key ps ∙ same_both (bytes_eq k key) (found key ps)
found_at key ((k, Some v) ∷ ps) = ap (λ (o : Option Json). if bytes_eq k key then Some v else o) (found_at key ps)

-- the value under a key of members that are those of a table
pub at : (key : List ℕ) (ps : Parts) (ms : Members Number) (o : Option Json) → object_of_parts ps ≡ object ms → found key ps ≡ first_some o None → value_at key ms ≡ o
at key ps ms o is there =
    let same : ms ≡ members_of (present ps) = cc in
    ap (value_at key) same ∙ found_at key ps ∙ there ∙ or_none o

-- ---- what a declaration says of the value under a key
pub string_told : (key : List ℕ) (ms : Members Number) (o : Option (List ℕ)) → HasOptionalString key ms o → value_at key ms ≡ option_map text o
string_told key ms None g = g
string_told key ms (Some b) g = g

pub id_told : (key : List ℕ) (ms : Members Number) (o : Option Identifier) → HasOptionalId key ms o → value_at key ms ≡ option_map id_value o
id_told key ms None g = g
id_told key ms (Some id) g = g.1 ∙ ap Some g.2.0

pub same_some : (v w : Json) → Some v ≡ Some w → v ≡ w
same_some v w e = cc

pub writable_back : (o : Bool) (v : Option Json) (w : Bool) → v ≡ writable_value o → DeclaresWritable v w → writable_value w ≡ writable_value o
writable_back true None w e g = absurd (let f : None ≡ Some (truth true) = e in cc)
writable_back true (Some v) w e g =
    let f : Some v ≡ Some (truth true) = e in
    let same : true ≡ w = cc in
    ap writable_value (sym same)
writable_back false None w e g = ap writable_value g
writable_back false (Some v) w e g = absurd (let f : Some v ≡ None = e in cc)

-- ---- whole numbers
sized_at : (c k n : ℕ) → c * 10 ^ k ≡ n → c * 10 ^ above (pos 0) (pos k) ≡ n * 10 ^ above (pos k) (pos 0)
sized_at c k n h =
    let e : pos k ≡ pos 0 +ℤ pos k = omega (arith, ints) in
    ap (λ (j : ℕ). c * 10 ^ j) (above_from (pos k) (pos 0) k e) ∙ h ∙ sym (ap (λ (j : ℕ). n * 10 ^ j) (below_from (pos 0) (pos k) k e) ∙ mul-one n)

whole_size : (b : Bool) (n : ℕ) → IsSize (sized b n) n
whole_size b zero = refl
whole_size b (suc n) = let w = without_zeros (suc n) (suc n) 0 in sized_at w.0 w.1 (suc n) (size_sized b (suc n))

pub whole_is : (z : ℤ) → IsWhole (whole z) z
whole_is (pos n) = whole_from_size (sized false n) n false (sign_sized n) (whole_size false n)
whole_is (negsuc n) = whole_from_size (sized true (suc n)) (suc n) true refl (whole_size true (suc n))

pub number_back : (y z : ℤ) (n : Number) → number n ≡ number (whole y) → IsWhole n z → z ≡ y
number_back y z n e g =
    let same : n ≡ whole y = cc in
    one_whole (whole y) z y (subst (λ (m : Number). IsWhole m z) same g) (whole_is y)

pub most_back : (ms : Members Number) (o p : Option ℕ) → value_at (codes "maxMultiplicity") ms ≡ option_map most_value o → HasMax ms p → option_map most_value p ≡ option_map most_value o
most_back ms o None e g = sym g ∙ e
most_back ms None (Some m) e g = absurd (let f : Some (number g.0) ≡ None = sym g.1 ∙ e in cc)
most_back ms (Some a) (Some m) e g =
    let numbers : number g.0 ≡ number (whole (pos a)) = same_some (number g.0) (number (whole (pos a))) (sym g.1 ∙ e) in
    let same : pos m ≡ pos a = number_back (pos a) (pos m) g.0 numbers g.2 in
    let sizes : m ≡ a = cc in
    ap (λ (n : ℕ). Some (most_value n)) sizes

-- ---- lists in order, read back
pub sorted_again : (ms : Pairs) → sorted_by pair_name (sorted_by pair_name ms) ≡ sorted_by pair_name ms
sorted_again ms = one_rising (less pair_name) (ranked pair_name) (sorted_by pair_name (sorted_by pair_name ms)) (sorted_by pair_name ms)
    (rises_sorted pair_name (sorted_by pair_name ms)) (rises_sorted pair_name ms) (kept_again ms)
  where
    kept_again : (ms : Pairs) (z : List ℕ × Json) → kept (less pair_name) (ranked pair_name) z (sorted_by pair_name (sorted_by pair_name ms)) ≡ kept (less pair_name) (ranked pair_name) z (sorted_by pair_name ms)
    kept_again ms z = kept_sorted pair_name z (sorted_by pair_name ms)

pub list_again : (ms ns : Pairs) → ns ≡ sorted_by pair_name ms → list_in_order ns ≡ list_in_order ms
list_again ms ns e = ap list_in_order e ∙ ap (λ (os : Pairs). array (elements_of (map pair_value os))) (sorted_again ms)

members_again : (ms ns : Pairs) → ns ≡ sorted_by pair_name ms → members_in_order ns ≡ members_in_order ms
members_again ms ns e = ap members_in_order e ∙ ap (λ (os : Pairs). object (members_of os)) (sorted_again ms)

module _ (value : Pairs → Json) (same : (ms ns : Pairs) → ns ≡ sorted_by pair_name ms → value ns ≡ value ms) where
  put_some : (m : List ℕ × Json) (ns : Pairs) → unless_empty value (put_by pair_name m ns) ≡ Some (value (put_by pair_name m ns))
  put_some m [] = refl
  put_some m (n ∷ ns) = by (is_before (pair_name n) (pair_name m))
    where
      by : (b : Bool) → unless_empty value (if b then n ∷ put_by pair_name m ns else m ∷ n ∷ ns) ≡ Some (value (if b then n ∷ put_by pair_name m ns else m ∷ n ∷ ns))
      by true = refl
      by false = refl

  pub unless_again : (ms ns : Pairs) → ns ≡ sorted_by pair_name ms → unless_empty value ns ≡ unless_empty value ms
  unless_again [] ns e = ap (unless_empty value) e
  unless_again (m ∷ ms) ns e =
      ap (unless_empty value) e ∙ put_some m (sorted_by pair_name ms) ∙ ap Some (same (m ∷ ms) (put_by pair_name m (sorted_by pair_name ms)) refl)

module _ {A : Type 0} (Is : Json → A → Type 0) (pair : A → List ℕ × Json) where
  -- what is read from the value of a pair has this pair
  abbrev pub PairBack : List ℕ × Json → Type 0
  PairBack m = (x : A) → Is (pair_value m) x → pair x ≡ m

  zip_back : (ms : Pairs) (xs : List A) → AllByRecursion PairBack ms → AllZip Is (list_of (elements_of (map pair_value ms))) xs → map pair xs ≡ ms
  zip_back [] [] back all = refl
  zip_back [] (x ∷ xs) back all = absurd all
  zip_back (m ∷ ms) [] back all = absurd all
  zip_back (m ∷ ms) (x ∷ xs) back all = ap₂ (λ (n : List ℕ × Json) (ns : Pairs). n ∷ ns) (back.0 x all.0) (zip_back ms xs back.1 all.1)

  in_order : (ms : Pairs) (vs : Elements Number) (xs : List A) → AllByRecursion PairBack ms → array vs ≡ list_in_order ms → AllZip Is (list_of vs) xs
      → map pair xs ≡ sorted_by pair_name ms
  in_order ms vs xs back is all =
      let same : vs ≡ elements_of (map pair_value (sorted_by pair_name ms)) = cc in
      zip_back (sorted_by pair_name ms) xs (all_sorted pair_name PairBack ms back) (subst (λ (ws : Elements Number). AllZip Is (list_of ws) xs) same all)

  pub list_back : (ms : Pairs) (vs : Elements Number) (xs : List A) → AllByRecursion PairBack ms → array vs ≡ list_in_order ms → AllZip Is (list_of vs) xs
      → list_in_order (map pair xs) ≡ list_in_order ms
  list_back ms vs xs back is all = list_again ms (map pair xs) (in_order ms vs xs back is all)

  nothing : (xs : List A) → AllZip Is [] xs → unless_empty list_in_order (map pair xs) ≡ None
  nothing [] all = refl
  nothing (x ∷ xs) all = absurd all

  pub optional_back : (ms : Pairs) (v : Option Json) (vs : Elements Number) (xs : List A) → AllByRecursion PairBack ms → v ≡ unless_empty list_in_order ms → AreEntriesOf v vs
      → AllZip Is (list_of vs) xs → unless_empty list_in_order (map pair xs) ≡ unless_empty list_in_order ms
  optional_back [] None vs xs back e g all = nothing xs (subst (λ (ws : Elements Number). AllZip Is (list_of ws) xs) g all)
  optional_back [] (Some v) vs xs back e g all = absurd (let f : Some v ≡ None = e in cc)
  optional_back (m ∷ ms) None vs xs back e g all = absurd (let f : None ≡ Some (list_in_order (m ∷ ms)) = e in cc)
  optional_back (m ∷ ms) (Some v) vs xs back e g all =
      let is : v ≡ list_in_order (m ∷ ms) = same_some v (list_in_order (m ∷ ms)) e in
      unless_again list_in_order list_again (m ∷ ms) (map pair xs) (in_order (m ∷ ms) vs xs back (sym g ∙ is) all)

-- ---- localized texts
entries_back : (ms : Pairs) (es : List Entry) → AllZip IsTextOfLanguage (pairs_of (members_of ms)) es → map entry_pair es ≡ ms
entries_back [] [] all = refl
entries_back [] (e ∷ es) all = absurd all
entries_back (m ∷ ms) [] all = absurd all
entries_back ((k, v) ∷ ms) (e ∷ es) all =
    let first : entry_pair e ≡ (k, v) = (let one = all.0.0 in let other = all.0.1 in λ i. (sym one i, sym other i)) in
    ap₂ (λ (n : List ℕ × Json) (ns : Pairs). n ∷ ns) first (entries_back ms es all.1)

localized_in : (ms : Pairs) (v : Option Json) (es : List Entry) → v ≡ unless_empty members_in_order ms → IsLocalized v es
    → unless_empty members_in_order (map entry_pair es) ≡ unless_empty members_in_order ms
localized_in [] None es e g = ap (λ (fs : List Entry). unless_empty members_in_order (map entry_pair fs)) g
localized_in [] (Some v) es e g = absurd (let f : Some v ≡ None = e in cc)
localized_in (m ∷ ms) None es e g = absurd (let f : None ≡ Some (members_in_order (m ∷ ms)) = e in cc)
localized_in (m ∷ ms) (Some v) es e g =
    let is : v ≡ members_in_order (m ∷ ms) = same_some v (members_in_order (m ∷ ms)) e in
    let all : IsLocalizedBy (members_in_order (m ∷ ms)) es = subst (λ (w : Json). IsLocalizedBy w es) is g in
    unless_again members_in_order members_again (m ∷ ms) (map entry_pair es) (entries_back (sorted_by pair_name (m ∷ ms)) es all)

pub localized_back : (key : List ℕ) (ms : Members Number) (l m : Localized) → value_at key ms ≡ localized_value l → HasLocalized key ms m.entries → localized_value m ≡ localized_value l
localized_back key ms l m e g = localized_in (map entry_pair l.entries) (value_at key ms) m.entries e g

-- ---- what every element may have
abbrev pub LacksCommon : Parts → Type 0
LacksCommon own = (found (codes "@id") own ≡ None) × (found (codes "@type") own ≡ None) × (found (codes "comment") own ≡ None)
    × (found (codes "description") own ≡ None) × (found (codes "displayName") own ≡ None)

abbrev pub id_words : Option Json → List ℕ
id_words None = []
id_words (Some null) = []
id_words (Some (truth b)) = []
id_words (Some (number n)) = []
id_words (Some (text b)) = b
id_words (Some (array vs)) = []
id_words (Some (object ms)) = []

pub words_of : (o : Option Identifier) → id_words (option_map id_value o) ≡ id_text o
words_of None = refl
words_of (Some id) = refl

module _ (type : Option Json) (c : Common) (own : Parts) (lacks : LacksCommon own) (ms : Members Number) (is : object_of_parts (element_parts type c ++ own) ≡ object ms) where
  pub type_at : value_at (codes "@type") ms ≡ type
  type_at = at (codes "@type") (element_parts type c ++ own) ms type is (ap (first_some type) lacks.1)

  module _ (d : Common) (g : HasCommon ms d) where
    pub ids_back : option_map id_value d.id ≡ option_map id_value c.id
    ids_back = sym (id_told (codes "@id") ms d.id g.id) ∙ at (codes "@id") (element_parts type c ++ own) ms (option_map id_value c.id) is (ap (first_some (option_map id_value c.id)) lacks.0)

    pub common_back : element_parts type d ≡ element_parts type c
    common_back =
        let comments = sym (string_told (codes "comment") ms d.comment g.comment)
        ∙ at (codes "comment") (element_parts type c ++ own) ms (option_map text c.comment) is (ap (first_some (option_map text c.comment)) lacks.2) in
        let descriptions = localized_back (codes "description") ms c.description d.description
        (at (codes "description") (element_parts type c ++ own) ms (localized_value c.description) is (ap (first_some (localized_value c.description)) lacks.3)) g.description in
        let names = localized_back (codes "displayName") ms c.display_name d.display_name
        (at (codes "displayName") (element_parts type c ++ own) ms (localized_value c.display_name) is (ap (first_some (localized_value c.display_name)) lacks.4)) g.display_name in
        λ i. (codes "@id", ids_back i) ∷ (codes "@type", type) ∷ (codes "comment", comments i) ∷ (codes "description", descriptions i) ∷ (codes "displayName", names i) ∷ []

    -- an element with equal parts of its own
    pub element_back : (more : Parts) → more ≡ own → object_of_parts (element_parts type d ++ more) ≡ object_of_parts (element_parts type c ++ own)
    element_back more same = λ i. object_of_parts (common_back i ++ same i)
