-- The members that each element may have: in canonical trees they are what stands in the value that declares the element.
use Rattle.std.proofs.Common.{◌≡◌, ℕ, zero, suc, inl, inr, List, [], ◌∷◌, ◌++◌, map, true, Option, Some, None, option_and_then, refl, sym, ap, subst, ◌∙◌, arith}
use Rattle.std.specs.Prelude.{codes, IfSome, is_some}
use Rattle.std.specs.Option.{option_map}
use Rattle.std.specs.List.{AllByRecursion, AllZip}
use Rattle.std.proofs.lemmas.Bool.{false≢true, true_from_ne_false}
use Rattle.dt_base.specs.names.Grammar.{Identifier}
use Rattle.json_decimal.specs.Number.{Number}
use Rattle.json_tree.specs.Values.{Json, null, truth, number, text, array, object, Members, no_members, member, members_of}
use Rattle.json_tree.specs.Places.{member_at}
use Rattle.dtdl_terms.specs.declared.common.Common.{Common}
use Rattle.dtdl_terms.specs.declared.common.Entry.{Entry}
use Rattle.dtdl_terms.specs.declared.common.Localized.{Localized}
use Rattle.json_tree.specs.Members.{pairs_of, value_at}
use Rattle.local_rules.specs.Tables.{key_text, required}
use Rattle.local_rules.specs.Roles.{element_of, id_role, key_of, key_role, member_role, role_of_key}
use Rattle.local_rules.specs.Kinds.{LacksKeyOf, MissingKey, needed_keys}
use Rattle.local_rules.specs.Languages.{IsNoLanguage, is_language}
use Rattle.local_rules.specs.declared.key.Key.{Key}
use Rattle.local_rules.specs.declared.key.Key.TheVariants as key
use Rattle.local_rules.specs.declared.rule.LocalRule.TheVariants as rule
use Rattle.local_rules.specs.declared.role.Element.{Element}
use Rattle.local_rules.specs.declared.role.Localized.{Localized as Which}
use Rattle.local_rules.specs.declared.role.Localized.TheVariants as localized
use Rattle.local_rules.specs.declared.role.Role.{Role}
use Rattle.local_rules.specs.declared.role.Role.TheVariants as role
use Rattle.local_rules.specs.Declarations.{HasCommon, IsLocalized, IsLocalizedBy, IsTextOfLanguage}
use Rattle.local_rules.specs.Limits.{HasShortTexts, IsShortText}
use Rattle.model_read.proofs.Valid.{here}
use Rattle.model_read.proofs.Standing.{BreaksNowhere, Stands, key_stands, part_stands, stands_valid}
use Rattle.canon_text.specs.Sorting.{sorted_by}
use Rattle.canon_text.specs.Objects.{members_in_order, unless_empty}
use Rattle.canon_text.specs.Canonical.{element_parts, entry_pair, id_value, localized_value}
use Rattle.canon_text.specs.Machinery.Pairs.{pair_name, pair_value}
use Rattle.canon_text.proofs.Told.{all_mapped, all_sorted, at_one}
use Rattle.canon_laws.proofs.Tables.{found, found_at, id_told, string_told}
use Rattle.canon_faults.proofs.Among.{any_of_contains}
use Rattle.canon_faults.proofs.Everywhere.{Everywhere, InMembers}
use Rattle.canon_faults.proofs.Counts.{ids_count, members_count}
use Rattle.canon_faults.proofs.Fine.{Fine, IsLeaf, IsPlain, all_alone, leaf_fine, plain_schemas}
use Rattle.canon_faults.proofs.Leaves.{limit_of, localized_alone}
use Rattle.canon_faults.proofs.Good.{Good, Pairs, PartGood, Parts, PartsGood, leaf_everywhere, leaf_good, part_of}
use Rattle.canon_faults.proofs.Named.{members}

-- ---- keys that an object must have
first_is : (o : Option Json) → is_some o ≡ true → o ≡ None → ⊥
first_is None some none = cc
first_is (Some v) some none = cc

abbrev pub HasKeys : Parts → List Key → Type 0
HasKeys ps ks = AllByRecursion (λ k. is_some (found (key_text k) ps) ≡ true) ks

lacks_none : (ps : Parts) (ks : List Key) → HasKeys ps ks → LacksKeyOf ks (members ps) → ⊥
lacks_none ps ks all (k, inside, none) =
    at_one (λ l. is_some (found (key_text l) ps) ≡ true) (λ l. l ≡ k) ⊥ ks
    (λ l some is. first_is (found (key_text l) ps) some (sym (found_at (key_text l) ps) ∙ ap (λ (m : Key). value_at (key_text m) (members ps)) is ∙ none)) all (any_of_contains ks k inside)

needed_or : (r : Role) (e : Element) (ps : Parts) → HasKeys ps (required e) → (r ≡ role.NamedSchema → is_some (found (codes "@id") ps) ≡ true) → HasKeys ps (needed_keys r (Some e))
needed_or role.NamedSchema e ps all id = (id refl, all)
needed_or other e ps all id = all

pub nothing_missing : (r : Role) (e : Element) (ps : Parts) → element_of r (members ps) ≡ Some e → HasKeys ps (required e)
    → (r ≡ role.NamedSchema → is_some (found (codes "@id") ps) ≡ true) → MissingKey r (object (members ps)) → ⊥
nothing_missing r e ps is all id missing =
    lacks_none ps (needed_keys r (Some e)) (needed_or r e ps all id) (subst (λ (o : Option Element). LacksKeyOf (needed_keys r o) (members ps)) is missing)

-- an element that may have what every element but an interface may have
pub record IsCommon (e : Element) : Type 0 where
  pub id : key_of e (codes "@id") ≡ Some key.Id
  pub id_is : id_role e ≡ role.ElementId
  pub comment : key_of e (codes "comment") ≡ Some key.Comment
  pub description : key_of e (codes "description") ≡ Some key.Description
  pub display_name : key_of e (codes "displayName") ≡ Some key.DisplayName

-- ---- parts by their keys
module _ (cs : Members Number) where
  -- a part whose role is known by its key
  pub part_at : (r : Role) (e : Element) (ns ms : Members Number) (k : List ℕ) (known : Key) (q : Role) (o own : Option Json) → key_of e k ≡ Some known
      → key_role r e ns known ≡ q → key_role r e ms known ≡ q → PartGood cs (Some q) (Some q) o own
      → PartGood cs (Some (role_of_key r e ns (key_of e k))) (Some (role_of_key r e ms (key_of e k))) o own
  part_at r e ns ms k known q o own is one other good =
      let first : role_of_key r e ns (key_of e k) ≡ q = ap (role_of_key r e ns) is ∙ one in
      let second : role_of_key r e ms (key_of e k) ≡ q = ap (role_of_key r e ms) is ∙ other in
      subst (λ (p : Role). PartGood cs (Some p) (Some (role_of_key r e ms (key_of e k))) o own) (sym first)
      (subst (λ (p : Role). PartGood cs (Some q) (Some p) o own) (sym second) good)

  -- one that stands in the canonical tree alone, and is no `@id`
  pub new_part : (q : Role) (p : Option Role) (v : Json) (own : Option Json) → IsLeaf v → ((x : List ℕ) → ids_count x (Some q) v ≡ 0) → Fine cs q v
      → PartGood cs (Some q) p (Some v) own
  new_part q p v own leaf none fine = (leaf_everywhere (Fine cs) q v leaf fine, λ x. (let zeros = none x in omega arith))

  text_leaf : (o : Option (List ℕ)) → IfSome (option_map text o) IsLeaf
  text_leaf None = tt
  text_leaf (Some t) = tt

  id_leaf : (o : Option Identifier) → IfSome (option_map id_value o) IsLeaf
  id_leaf None = tt
  id_leaf (Some id) = tt

  -- ---- texts in languages
  abbrev IsWord : Which → List ℕ × Json → Type 0
  IsWord which m = Everywhere (Fine cs) (Some (role.LocalizedText which)) (pair_value m) × ((x : List ℕ) → ids_count x (Some (role.LocalizedText which)) (pair_value m) ≡ 0)
      × (is_language (pair_name m) ≡ true)

  words_fine : (which : Which) (ms : Pairs) → AllByRecursion (IsWord which) ms → InMembers (Fine cs) (λ k. Some (role.LocalizedText which)) (members_of ms)
  words_fine which [] all = tt
  words_fine which (m ∷ ms) all = (all.0.0, words_fine which ms all.1)

  words_count : (which : Which) (x : List ℕ) (ms : Pairs) → AllByRecursion (IsWord which) ms → members_count x (λ k. Some (role.LocalizedText which)) (members_of ms) ≡ 0
  words_count which x [] all = refl
  words_count which x (m ∷ ms) all = let first = all.0.1 x in let rest = words_count which x ms all.1 in omega arith

  words_languages : (which : Which) (ms : Pairs) (i : ℕ) → AllByRecursion (IsWord which) ms → IsNoLanguage (members_of ms) i → ⊥
  words_languages which [] i all (k, v, at, bad) = cc
  words_languages which (m ∷ ms) zero all (k, v, at, bad) =
      let pair : (m.0, m.1) ≡ (k, v) = cc in
      let same : m.0 ≡ k = ap (λ (n : List ℕ × Json). n.0) pair in
      let yes : is_language (pair_name m) ≡ true = all.0.2 in
      false≢true (sym bad ∙ ap is_language (sym same) ∙ yes)
  words_languages which (m ∷ ms) (suc i) all bad = words_languages which ms i all.1 bad

  word_of : (which : Which) (e : Entry) → IsShortText (limit_of which) e.text → is_language e.language ≡ true → IsWord which (entry_pair e)
  word_of which e short is =
      (leaf_fine cs (role.LocalizedText which) (text e.text) tt (localized_alone which e.text short) (plain_schemas cs (role.LocalizedText which) (text e.text) tt), λ x. refl, is)

  words_of : (which : Which) (es : List Entry) → AllByRecursion (λ e. IsShortText (limit_of which) e.text) es → AllByRecursion (λ e. is_language e.language ≡ true) es
      → AllByRecursion (λ e. IsWord which (entry_pair e)) es
  words_of which [] short known = tt
  words_of which (e ∷ es) short known = (word_of which e short.0 known.0, words_of which es short.1 known.1)

  object_of_words : (which : Which) (ms : Pairs) → AllByRecursion (IsWord which) ms → Fine cs (role.Localized which) (object (members_of ms))
  object_of_words which ms all = record {
    alone = all_alone (role.Localized which) (object (members_of ms)) (λ b. false≢true (sym b), (λ b. b.1, (λ b. b.1, tt)));
    schemas = plain_schemas cs (role.Localized which) (object (members_of ms)) tt;
    parents = λ vs i is e again. absurd (let f : object (members_of ms) ≡ array vs = e in cc);
    names = λ vs i is e again. absurd (let f : object (members_of ms) ≡ array vs = e in cc);
    values = λ vs i k is e again. absurd (let f : object (members_of ms) ≡ array vs = e in cc);
    languages = λ other ns i is e bad. words_languages which ms i all (let same : ns ≡ members_of ms = cc in subst (λ (os : Members Number). IsNoLanguage os i) same bad);
  }

  localized_part : (which : Which) (p : Option Role) (l : Localized) (own : Option Json) → AllByRecursion (λ e. IsShortText (limit_of which) e.text) l.entries
      → AllByRecursion (λ e. is_language e.language ≡ true) l.entries → PartGood cs (Some (role.Localized which)) p (localized_value l) own
  localized_part which p l own short known = by (map entry_pair l.entries) (all_mapped entry_pair (IsWord which) l.entries (words_of which l.entries short known))
    where
      by : (ms : Pairs) → AllByRecursion (IsWord which) ms → PartGood cs (Some (role.Localized which)) p (unless_empty members_in_order ms) own
      by [] all = tt
      by (m ∷ ms) all =
          let sorted = sorted_by pair_name (m ∷ ms) in
          let words = all_sorted pair_name (IsWord which) (m ∷ ms) all in
          ((object_of_words which sorted words, words_fine which sorted words), λ x. (let none = words_count which x sorted words in omega arith))

  -- ---- in a value in which no rule is broken
  module _ (whole : Json) (none : BreaksNowhere whole) where
    pub stands_good : (r : Role) (v : Json) → IsPlain r → IsLeaf v → Stands whole r v → Good cs (Some r) v v
    stands_good r v plain leaf stands =
        leaf_good cs r v leaf (leaf_fine cs r v leaf (λ broken b. here r v broken (stands_valid whole none r v stands) b) (plain_schemas cs r v plain))

    -- a part without parts of its own
    pub leaf_part : (q : Role) (o own : Option Json) → own ≡ o → IfSome o IsLeaf → IsPlain q → ((v : Json) → own ≡ Some v → Stands whole q v)
        → PartGood cs (Some q) (Some q) o own
    leaf_part q None own is leaf plain stands = tt
    leaf_part q (Some v) own is leaf plain stands = part_of cs q v v own is (stands_good q v plain leaf (stands v is))

    pub text_part : (q : Role) (o : Option (List ℕ)) (own : Option Json) → own ≡ option_map text o → IsPlain q → ((v : Json) → own ≡ Some v → Stands whole q v)
        → PartGood cs (Some q) (Some q) (option_map text o) own
    text_part q o own is plain stands = leaf_part q (option_map text o) own is (text_leaf o) plain stands

    pub id_part : (q : Role) (o : Option Identifier) (own : Option Json) → own ≡ option_map id_value o → IsPlain q → ((v : Json) → own ≡ Some v → Stands whole q v)
        → PartGood cs (Some q) (Some q) (option_map id_value o) own
    id_part q o own is plain stands = leaf_part q (option_map id_value o) own is (id_leaf o) plain stands

    -- the languages of a text are language codes
    key_is_language : (which : Which) (ms : Members Number) (i : ℕ) (k : List ℕ) (w : Json) → Stands whole (role.Localized which) (object ms)
        → member_at ms i ≡ Some (k, w) → is_language k ≡ true
    key_is_language which ms i k w stands at = true_from_ne_false (is_language k) (λ bad.
        let there = part_stands stands.place role.Interface whole (role.Localized which) (object ms) i (role.LocalizedText which) w stands.there (k, at)
        (ap (λ (o : Option (List ℕ × Json)). option_and_then (λ m. member_role (role.Localized which) ms m.0) o) at) in
        none (stands.place ++ i ∷ []) rule.BadLanguage
        (role.LocalizedText which, w, there, inr (inl (stands.place, i, which, ms, refl, stands.there, (k, w, at, bad)))))

    languages_known : (ms : Members Number) (es : List Entry) → ((i : ℕ) (k : List ℕ) (w : Json) → member_at ms i ≡ Some (k, w) → is_language k ≡ true)
        → AllZip IsTextOfLanguage (pairs_of ms) es → AllByRecursion (λ e. is_language e.language ≡ true) es
    languages_known no_members [] known all = tt
    languages_known no_members (e ∷ es) known all = absurd all
    languages_known (member k v ms) [] known all = absurd all
    languages_known (member k v ms) (e ∷ es) known all =
        (ap is_language (sym all.0.0) ∙ known zero k v refl, languages_known ms es (λ i l w at. known (suc i) l w at) all.1)

    localized_languages : (which : Which) (v : Json) (es : List Entry) → IsLocalizedBy v es → Stands whole (role.Localized which) v
        → AllByRecursion (λ e. is_language e.language ≡ true) es
    localized_languages which (text bytes) es is stands = subst (λ (fs : List Entry). AllByRecursion (λ e. is_language e.language ≡ true) fs) (sym is) (refl, tt)
    localized_languages which (object ms) es is stands = languages_known ms es (λ i k w at. key_is_language which ms i k w stands at) is
    localized_languages which null es is stands = absurd is
    localized_languages which (truth b) es is stands = absurd is
    localized_languages which (number n) es is stands = absurd is
    localized_languages which (array vs) es is stands = absurd is

    optional_languages : (which : Which) (o : Option Json) (es : List Entry) → IsLocalized o es → ((v : Json) → o ≡ Some v → Stands whole (role.Localized which) v)
        → AllByRecursion (λ e. is_language e.language ≡ true) es
    optional_languages which None es is stands = subst (λ (fs : List Entry). AllByRecursion (λ e. is_language e.language ≡ true) fs) (sym is) tt
    optional_languages which (Some v) es is stands = localized_languages which v es is (stands v refl)

    pub texts_part : (which : Which) (l : Localized) (own : Option Json) → IsLocalized own l.entries → AllByRecursion (λ e. IsShortText (limit_of which) e.text) l.entries
        → ((v : Json) → own ≡ Some v → Stands whole (role.Localized which) v)
        → PartGood cs (Some (role.Localized which)) (Some (role.Localized which)) (localized_value l) own
    texts_part which l own is short stands = localized_part which (Some (role.Localized which)) l own short (optional_languages which own l.entries is stands)

    -- ---- what every element but an interface may have
    pub element_good : (r : Role) (e : Element) (ns ms : Members Number) (type : Option Json) (c : Common) (own : Parts) → IsCommon e → element_of r ms ≡ Some e
        → Stands whole r (object ms) → HasCommon ms c → HasShortTexts c
        → PartGood cs (Some (role_of_key r e ns (key_of e (codes "@type")))) (Some (role_of_key r e ms (key_of e (codes "@type")))) type (value_at (codes "@type") ms)
        → PartsGood cs r e ns ms own → PartsGood cs r e ns ms (element_parts type c ++ own)
    element_good r e ns ms type c own common is stands has short typed rest = (
      part_at r e ns ms (codes "@id") key.Id role.ElementId (option_map id_value c.id) (value_at (codes "@id") ms) common.id common.id_is common.id_is
          (id_part role.ElementId c.id (value_at (codes "@id") ms) (id_told (codes "@id") ms c.id has.id) tt
          (λ v at. subst (λ (q : Role). Stands whole q v) common.id_is (key_stands whole r ms e key.Id (codes "@id") v is common.id at stands))),
      (
        typed,
        (
          part_at r e ns ms (codes "comment") key.Comment role.Comment (option_map text c.comment) (value_at (codes "comment") ms) common.comment refl refl
              (text_part role.Comment c.comment (value_at (codes "comment") ms) (string_told (codes "comment") ms c.comment has.comment) tt
              (λ v at. key_stands whole r ms e key.Comment (codes "comment") v is common.comment at stands)),
          (
            part_at r e ns ms (codes "description") key.Description (role.Localized localized.Description) (localized_value c.description) (value_at (codes "description") ms) common.description refl refl
                (texts_part localized.Description c.description (value_at (codes "description") ms) has.description short.description
                (λ v at. key_stands whole r ms e key.Description (codes "description") v is common.description at stands)),
            (
              part_at r e ns ms (codes "displayName") key.DisplayName (role.Localized localized.DisplayName) (localized_value c.display_name) (value_at (codes "displayName") ms) common.display_name refl refl
                  (texts_part localized.DisplayName c.display_name (value_at (codes "displayName") ms) has.display_name short.display_name
                  (λ v at. key_stands whole r ms e key.DisplayName (codes "displayName") v is common.display_name at stands)),
              rest,
            ),
          ),
        ),
      ),
    )
