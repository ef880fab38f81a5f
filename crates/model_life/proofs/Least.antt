-- The least model that uses another.
use Rattle.std.proofs.Common.{◌≡◌, ℕ, ◌⊎◌, inl, inr, List, [], ◌∷◌, Bool, true, false, not, cond, ◌||◌, ◌&&◌, Option, Some, None, refl, sym, ap, ◌∙◌, true≢false, Less, is_eq, arith}
use Rattle.std.specs.Prelude.{slice_get, Contains}
use Rattle.std.specs.Option.{option_map}
use Rattle.std.specs.List.{filter, list_any}
use Rattle.std.specs.List.Sorted.{IsStrictlySortedBy}
use Rattle.std.specs.Map.{lookup, keys_of}
use Rattle.std.specs.BTreeMap.{is_at}
use Rattle.std.proofs.lemmas.Option.{same_Some, none-some}
use Rattle.std.proofs.lemmas.Map.{lookup-none}
use Rattle.std.proofs.lemmas.Map.Entries.{none_below_head}
use Rattle.std.proofs.lemmas.Slice.Eq.{bytes_eq-Decides}
use Rattle.std.proofs.lemmas.Bool.{and_from, or_cases}
use Rattle.dt_base.specs.names.Grammar.{Identifier, dtmi_text, id_cmp, id_eq}
use Rattle.dtdl_terms.specs.Sets.{InOrder, interface_at}
use Rattle.dtdl_terms.specs.TermViews.{kind_term}
use Rattle.dtdl_terms.specs.declared.content.Content.{Content}
use Rattle.dtdl_terms.specs.declared.interface.Interface.{Interface}
use Rattle.dtdl_terms.specs.declared.spot.Spot.TheVariants as spots
use Rattle.extend_resolve.specs.declared.rule.SetRule.TheVariants as rules
use Rattle.extend_resolve.specs.SetRules.{NamesParent, NamesComponent}
use Rattle.extend_resolve.specs.Breaches.{BreaksNoRule}
use Rattle.extend_resolve.proofs.Members.{contains_placed}
use Rattle.extend_resolve.proofs.Within.{placed_from_any, any_from_placed, found_placed}
use Rattle.model_life.specs.resolution.Machinery.Families.{IsThere}
use Rattle.model_life.proofs.resolution.ByKey.{C, alike, all_of_contained}
use Rattle.model_life.proofs.resolution.Families.{listed, stands, spelled}
use Rattle.model_life.proofs.resolution.Changes.{ids_total, lacks_none}
use Rattle.model_life.specs.sets.Changing.{AreFree}
use Rattle.model_life.proofs.sets.Apart.{uncons, contains_head, contains_tail}
use Rattle.model_life.proofs.sets.Looking.{at_text, one_is}
use Rattle.model_life.specs.Models.{Model, is_component, uses, is_user, first_user}
use Rattle.model_life.specs.Machinery.Keeping.{record_at, models_of, Users, user_at, use_of, RecordsFit}
use Rattle.model_life.proofs.Seen.{Records, seen, record_there}
use Rattle.model_life.proofs.Growing.{names_of, used_there}

abbrev pub uses_other : Identifier → Interface → Bool
uses_other id i = uses id i && not (id_eq id i.id)

none_in : {X : Type 0} (x : X) → Contains [] x → ⊥
none_in x (k, low, is) = omega (arith, low)

-- ---- the first of an ordered set
module _ (p : Interface → Bool) where
  pub first_by : (set : List Interface) → InOrder set → (x : Interface) → Contains set x → p x ≡ true → ((y : Interface) → Contains set y → p y ≡ true → id_cmp y.id x.id ≡ Less → ⊥) → slice_get (filter p set) 0 ≡ Some x
  unfolding IsStrictlySortedBy
  first_by [] sorted x here on least = absurd (none_in x here)
  first_by (y ∷ ys) sorted x here on least =
      elim (p y) as (λ b. p y ≡ b → slice_get (cond b (y ∷ filter p ys) (filter p ys)) 0 ≡ Some x) [
        | true ↦ λ e.
            elim (uncons y ys x here) [
              | inl same ↦ ap Some same
              | inr later ↦ absurd (least y (contains_head y ys) e (all_of_contained (λ j. id_cmp y.id j ≡ Less) (λ (i : Interface). i.id) ys x sorted.0 later))
            ]
        | false ↦ λ e.
            elim (uncons y ys x here) [
              | inl same ↦ absurd (true≢false (sym on ∙ sym (ap p same) ∙ e))
              | inr later ↦ first_by ys sorted.1 x later on (λ z c. least z (contains_tail y ys z c))
            ]
      ] refl

  pub none_by : (set : List Interface) → ((y : Interface) → Contains set y → p y ≡ false) → slice_get (filter p set) 0 ≡ None
  none_by [] off = refl
  none_by (y ∷ ys) off = ap (λ b. slice_get (cond b (y ∷ filter p ys) (filter p ys)) 0) (off y (contains_head y ys)) ∙ none_by ys (λ z c. off z (contains_tail y ys z c))

  pub none_from : (set : List Interface) → slice_get (filter p set) 0 ≡ None → (y : Interface) → Contains set y → p y ≡ false
  none_from [] none y here = absurd (none_in y here)
  none_from (z ∷ zs) none y here =
      elim (p z) as (λ b. p z ≡ b → slice_get (cond b (z ∷ filter p zs) (filter p zs)) 0 ≡ None → p y ≡ false) [
        | true ↦ λ e h. absurd (none-some z (sym h))
        | false ↦ λ e h. elim (uncons z zs y here) [ inl same ↦ ap p (sym same) ∙ e | inr later ↦ none_from zs h y later ]
      ] refl none

-- ---- models that use one
filter_users : (id : Identifier) (set : List Interface) (es : Records) → filter (is_user id) (models_of set es) ≡ models_of (filter (uses_other id) set) es
filter_users id [] es = refl
filter_users id (i ∷ is) es =
    elim (uses_other id i) as (λ b. cond b (seen es i ∷ filter (is_user id) (models_of is es)) (filter (is_user id) (models_of is es)) ≡ models_of (cond b (i ∷ filter (uses_other id) is) (filter (uses_other id) is)) es) [
      | true ↦ ap (λ ms. seen es i ∷ ms) (filter_users id is es)
      | false ↦ filter_users id is es
    ]

first_id : (set : List Interface) (es : Records) → option_map (λ (m : Model). m.interface.id) (slice_get (models_of set es) 0) ≡ option_map (λ (i : Interface). i.id) (slice_get set 0)
first_id [] es = refl
first_id (i ∷ is) es = refl

first_seen : (id : Identifier) (set : List Interface) (es : Records) → first_user id (models_of set es) ≡ option_map (λ (i : Interface). i.id) (slice_get (filter (uses_other id) set) 0)
first_seen id set es = ap (λ ms. option_map (λ (m : Model). m.interface.id) (slice_get ms 0)) (filter_users id set es) ∙ first_id (filter (uses_other id) set) es

-- ---- none uses itself

and_left : (a b : Bool) → (a && b) ≡ true → a ≡ true
and_left true b h = refl
and_left false b h = h

off_unless : (a b : Bool) → (a ≡ true → ⊥) → (a && b) ≡ false
off_unless true b h = absurd (h refl)
off_unless false b h = refl

not_itself : (set : List Interface) → BreaksNoRule set → (id : Identifier) (i : Interface) → IsThere set i → uses id i ≡ true → id_eq id i.id ≡ true → ⊥
not_itself set sound id i there used same =
    let place = found_placed set i.id i there in
    let text : dtmi_text id ≡ dtmi_text i.id = (bytes_eq-Decides (dtmi_text id) (dtmi_text i.id)).0 same in
    elim (or_cases (list_any (id_eq id) i.parents) (list_any (λ c. is_component id (kind_term c.kind)) i.contents) used) [
      | inl h ↦
          let one = placed_from_any (id_eq id) i.parents h in
          let found : interface_at one.1 set ≡ Some i = at_text one.1 i.id set (sym ((bytes_eq-Decides (dtmi_text id) (dtmi_text one.1)).0 one.3) ∙ text) ∙ there in
          sound place.0 i rules.Cycle (spots.Parent one.0) place.1 (i, (one.1, one.2, found), (i, ([], tt, refl), refl))
      | inr h ↦
          let one = placed_from_any (λ (c : Content). is_component id (kind_term c.kind)) i.contents h in
          let of = names_of id (kind_term one.1.kind) one.3 in
          let found : interface_at of.0 set ≡ Some i = at_text of.0 i.id set (sym ((bytes_eq-Decides (dtmi_text id) (dtmi_text of.0)).0 of.2) ∙ text) ∙ there in
          sound place.0 i rules.ComponentInComponent (spots.ContentSchema one.0) place.1 (i, i, (of.0, (one.1, one.2, of.1), found), ([], tt, refl), (one.1, of.0, contains_placed i.contents one.1 one.0 one.2, of.1))
    ]

off_itself : (set : List Interface) → BreaksNoRule set → (id : Identifier) (i : Interface) → IsThere set i → uses id i ≡ true → not (id_eq id i.id) ≡ true
off_itself set sound id i there used =
    elim (id_eq id i.id) as (λ b. id_eq id i.id ≡ b → not b ≡ true) [
      | true ↦ λ e. absurd (not_itself set sound id i there used e)
      | false ↦ λ e. refl
    ] refl

-- ---- the row of an identifier
use_some : (id : Identifier) (o : Option Interface) (i : Interface) → o ≡ Some i → uses id i ≡ true → use_of id o ≡ Some tt
use_some id o i is used = ap (use_of id) is ∙ ap (λ b. cond b (Some tt) None) used

uses_from : (id : Identifier) (i : Interface) → use_of id (Some i) ≡ Some tt → uses id i ≡ true
uses_from id i h = by (uses id i) h
  where
    by : (b : Bool) → cond {A = Option (Unit {0})} b (Some tt) None ≡ Some tt → b ≡ true
    by true h = refl
    by false h = absurd (none-some tt h)

module _ (set : List Interface) (es : Records) (us : Users) (sorted : InOrder set) (sound : BreaksNoRule set) (fits : RecordsFit set es us) where
  -- no model uses what is not there
  pub none_absent : (id : Identifier) → record_at id es ≡ None → first_user id (models_of set es) ≡ None
  none_absent id none =
      first_seen id set es
      ∙ ap (option_map (λ (i : Interface). i.id))
      (none_by (uses_other id) set
      (λ y c. off_unless (uses id y) (not (id_eq id y.id))
      (λ used.
      let one = record_there set es us id fits (used_there set (lacks_none set sound) y id ((listed set sorted y).0 c) used) in
      none-some one.0 (sym none ∙ one.1))))

  module _ (id : Identifier) (row : List (Identifier × Unit {0})) (up : IsStrictlySortedBy id_cmp (keys_of row)) (told : (u : Identifier) → lookup (is_at (id_cmp u)) row ≡ user_at id u us) where
    in_row : (y : Interface) → Contains set y → uses id y ≡ true → lookup (is_at (id_cmp y.id)) row ≡ Some tt
    in_row y c used = told y.id ∙ fits.users id y.id ∙ use_some id (interface_at y.id set) y ((listed set sorted y).0 c) used

    pub none_listed : slice_get (keys_of row) 0 ≡ None → first_user id (models_of set es) ≡ None
    none_listed none =
        first_seen id set es
        ∙ ap (option_map (λ (i : Interface). i.id))
        (none_by (uses_other id) set (λ y c. off_unless (uses id y) (not (id_eq id y.id)) (λ used. empty y.id row none (in_row y c used))))
      where
        empty : (q : Identifier) (es : List (Identifier × Unit {0})) → slice_get (keys_of es) 0 ≡ None → lookup (is_at (id_cmp q)) es ≡ Some tt → ⊥
        empty q [] none h = none-some tt h
        empty q (e ∷ es) none h = none-some e.0 (sym none)

    head_in : (u : Identifier) (es : List (Identifier × Unit {0})) → slice_get (keys_of es) 0 ≡ Some u → lookup (is_at (id_cmp u)) es ≡ Some tt
    head_in u [] is = absurd (none-some u is)
    head_in u (e ∷ es) is =
        ap (λ (k : Identifier). lookup (is_at (id_cmp k)) (e ∷ es)) (sym (same_Some e.0 u is))
        ∙ ap (λ b. cond b (Some e.1) (lookup (is_at (id_cmp e.0)) es)) (ap is_eq (alike (dtmi_text e.0)))

    below_head : (u q : Identifier) (es : List (Identifier × Unit {0})) → IsStrictlySortedBy id_cmp (keys_of es) → slice_get (keys_of es) 0 ≡ Some u → id_cmp q u ≡ Less → lookup (is_at (id_cmp q)) es ≡ Some tt → ⊥
    below_head u q [] sorted is low h = none-some u is
    below_head u q (e ∷ es) sorted is low h =
        let below : id_cmp q e.0 ≡ Less = ap (id_cmp q) (same_Some e.0 u is) ∙ low in
        none-some tt (sym (lookup-none (is_at (id_cmp q)) (e ∷ es) (none_below_head ids_total q e es sorted below)) ∙ h)

    listed_user : (u : Identifier) → slice_get (keys_of row) 0 ≡ Some u → use_of id (interface_at u set) ≡ Some tt
    listed_user u is = sym (fits.users id u) ∙ sym (told u) ∙ head_in u row is

    pub first_listed : (u : Identifier) (i : Interface) → slice_get (keys_of row) 0 ≡ Some u → interface_at u set ≡ Some i → first_user id (models_of set es) ≡ Some i.id
    first_listed u i is found =
        let there : IsThere set i = stands set u i found in
        let used : uses id i ≡ true = uses_from id i (sym (ap (use_of id) found) ∙ listed_user u is) in
        first_seen id set es
        ∙ ap (option_map (λ (j : Interface). j.id))
        (first_by (uses_other id) set sorted i ((listed set sorted i).1 there) (and_from (uses id i) (not (id_eq id i.id)) used (off_itself set sound id i there used))
        (λ y c on low.
        below_head u y.id row up is (ap (C (dtmi_text y.id)) (spelled set u i found) ∙ low) (in_row y c (and_left (uses id y) (not (id_eq id y.id)) on))))

    pub never_absent : (u : Identifier) → slice_get (keys_of row) 0 ≡ Some u → interface_at u set ≡ None → ⊥
    never_absent u is none = none-some tt (sym (ap (use_of id) none) ∙ listed_user u is)

-- ---- one that none uses
named_used : (i : Interface) (k : ℕ) (p id : Identifier) → NamesParent i k p ⊎ NamesComponent i k p → id_eq id p ≡ true → uses id i ≡ true
named_used i k p id (inl named) same = ap (λ b. b || list_any (λ c. is_component id (kind_term c.kind)) i.contents) (any_from_placed (id_eq id) i.parents k p named same)
named_used i k p id (inr (c, at, of)) same =
    or_right (list_any (id_eq id) i.parents) (list_any (λ d. is_component id (kind_term d.kind)) i.contents)
    (any_from_placed (λ (d : Content). is_component id (kind_term d.kind)) i.contents k c at (ap (is_component id) of ∙ same))
  where
    or_right : (a b : Bool) → b ≡ true → (a || b) ≡ true
    or_right true b h = refl
    or_right false b h = h

pub unused_free : (set : List Interface) (es : Records) (id : Identifier) → InOrder set → first_user id (models_of set es) ≡ None → AreFree set (id ∷ [])
unused_free set es id sorted none i k p there named on =
    let same : id_eq id p ≡ true = (bytes_eq-Decides (dtmi_text id) (dtmi_text p)).1 (sym ((bytes_eq-Decides (dtmi_text p) (dtmi_text id)).0 (sym (one_is id p) ∙ on))) in
    let off : uses_other id i ≡ false = none_from (uses_other id) set (no_first (slice_get (filter (uses_other id) set) 0) (sym (first_seen id set es) ∙ none)) i ((listed set sorted i).1 there) in
    one_is id i.id ∙ (bytes_eq-Decides (dtmi_text i.id) (dtmi_text id)).1 (sym ((bytes_eq-Decides (dtmi_text id) (dtmi_text i.id)).0 (itself (uses id i) (id_eq id i.id) (named_used i k p id named same) off)))
  where
    no_first : (o : Option Interface) → option_map (λ (j : Interface). j.id) o ≡ None → o ≡ None
    no_first None h = refl
    no_first (Some j) h = absurd (none-some j.id (sym h))

    itself : (a b : Bool) → a ≡ true → (a && not b) ≡ false → b ≡ true
    itself a true g h = refl
    itself true false g h = absurd (true≢false h)
    itself false false g h = absurd (true≢false (sym g))
