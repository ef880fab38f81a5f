-- What is gathered: behind the new interfaces each of the set once, with all that these lead to.
use Rattle.std.proofs.Common.{◌≡◌, ◌↔◌, ℕ, zero, suc, ◌+◌, ◌<◌, ◌≤◌, List, [], ◌∷◌, ◌++◌, Bool, true, false, cond, ◌||◌, map, take, length, get_or, Option, Some, None, refl, sym, ap, ◌∙◌, subst, true≢false, append-nil, append_assoc, length-append, is_eq, arith}
use Rattle.std.specs.Prelude.{slice_get, IsSome, Contains}
use Rattle.std.specs.Cmp.{IsEquivalence}
use Rattle.std.specs.Cmp.Lexicographic.{slice_cmp}
use Rattle.std.specs.List.{AllByRecursion, IsDistinct, list_any, filter_map, cons_option, position_from}
use Rattle.std.specs.Map.{lookup}
use Rattle.std.specs.BTreeMap.{is_at}
use Rattle.std.specs.Option.{is_some, option_or, option_map, option_to_list}
use Rattle.std.specs.Ordering.{nat_cmp}
use Rattle.std.proofs.Math.Seq.{take-length}
use Rattle.std.proofs.lemmas.Cmp.{nat_list_cmp_total, eq_by_cmp_equiv}
use Rattle.std.proofs.lemmas.List.{length-map, map_push}
use Rattle.std.proofs.lemmas.Map.Keys.{IsDistinct-push}
use Rattle.std.proofs.lemmas.Map.Steps.{length-le_from_keys}
use Rattle.std.proofs.lemmas.Option.{none-some, same_Some, slice_get-map, get_or_from_slice_get}
use Rattle.dt_base.specs.names.Grammar.{Identifier, dtmi_text, id_cmp}
use Rattle.dtdl_terms.specs.Sets.{keyed, interface_at}
use Rattle.dtdl_terms.specs.Terms.{KindTerm, telemetry, property, command, relationship, component}
use Rattle.dtdl_terms.specs.TermViews.{kind_term}
use Rattle.dtdl_terms.specs.declared.content.Content.{Content}
use Rattle.dtdl_terms.specs.declared.interface.Interface.{Interface}
use Rattle.extend_resolve.specs.SetRules.{IsComponentOf, DeclaresComponent}
use Rattle.extend_resolve.specs.Machinery.Numbers.{number_at, kept_at, number_for}
use Rattle.extend_resolve.specs.Machinery.Gathering.{id_of_kind, component_id, component_ids, with_id, with_ids, with_components, AreNumbered, have_one_id, IsGathering, AreThere, HaveParents, HaveComponents, IsGathered}
use Rattle.extend_resolve.specs.Machinery.Worlds.{IsWorld}
use Rattle.extend_resolve.proofs.Numbers.{same_text, number-push, some_of, none_of}
use Rattle.extend_resolve.proofs.Within.{placed_from_contained, contained_from_placed, any_from_placed, placed_from_any, found_placed}
use Rattle.extend_resolve.proofs.Worlds.{found_text}

-- ---- lists
module _ {X : Type 0} where
  all_weaker : (P Q : X → Type 0) (xs : List X) → ((x : X) → P x → Q x) → AllByRecursion P xs → AllByRecursion Q xs
  all_weaker P Q [] f all = tt
  all_weaker P Q (x ∷ xs) f all = (f x all.0, all_weaker P Q xs f all.1)

  all_push : (P : X → Type 0) (xs : List X) (y : X) → AllByRecursion P xs → P y → AllByRecursion P (xs ++ y ∷ [])
  all_push P [] y all p = (p, tt)
  all_push P (x ∷ xs) y all p = (all.0, all_push P xs y all.1 p)

  all_at : (P : X → Type 0) (xs : List X) (k : ℕ) (x : X) → AllByRecursion P xs → slice_get xs k ≡ Some x → P x
  all_at P [] k x all at = absurd (none-some x at)
  all_at P (y ∷ ys) zero x all at = subst P (same_Some y x at) all.0
  all_at P (y ∷ ys) (suc k) x all at = all_at P ys k x all.1 at

  all_take_more : (P : X → Type 0) (xs more : List X) (k : ℕ) (x : X) → slice_get xs k ≡ Some x → AllByRecursion P (take k xs) → P x → AllByRecursion P (take (suc k) (xs ++ more))
  all_take_more P [] more k x at all one = absurd (none-some x at)
  all_take_more P (y ∷ ys) more zero x at all one = (subst P (sym (same_Some y x at)) one, tt)
  all_take_more P (y ∷ ys) more (suc k) x at all one = (all.0, all_take_more P ys more k x at all.1 one)

  placed_left : (xs ys : List X) (k : ℕ) (x : X) → slice_get xs k ≡ Some x → slice_get (xs ++ ys) k ≡ Some x
  placed_left [] ys k x at = absurd (none-some x at)
  placed_left (z ∷ zs) ys zero x at = at
  placed_left (z ∷ zs) ys (suc k) x at = placed_left zs ys k x at

  pub all_from_map : {Y : Type 0} (f : Y → X) (P : X → Type 0) (ys : List Y) → AllByRecursion (λ y. P (f y)) ys → AllByRecursion P (map f ys)
  all_from_map f P [] all = tt
  all_from_map f P (y ∷ ys) all = (all.0, all_from_map f P ys all.1)

  -- what holds of all that is kept holds of what an element becomes
  all_kept : {Y : Type 0} (f : Y → Option X) (P : X → Type 0) (ys : List Y) (k : ℕ) (y : Y) (x : X) → AllByRecursion P (filter_map f ys) → slice_get ys k ≡ Some y → f y ≡ Some x → P x
  all_kept f P [] k y x all at is = absurd (none-some y at)
  all_kept f P (z ∷ zs) zero y x all at is = (subst (λ o. AllByRecursion P (cons_option o (filter_map f zs))) (ap f (same_Some z y at) ∙ is) all).0
  all_kept f P (z ∷ zs) (suc k) y x all at is =
      all_kept f P zs k y x (elim (f z) as (λ o. AllByRecursion P (cons_option o (filter_map f zs)) → AllByRecursion P (filter_map f zs)) [ None ↦ λ a. a | Some v ↦ λ a. a.1 ] all) at is

pub map_map : {X Y Z : Type 0} (f : Y → Z) (g : X → Y) (xs : List X) → map f (map g xs) ≡ map (λ x. f (g x)) xs
map_map f g [] = refl
map_map f g (x ∷ xs) = ap (λ zs. f (g x) ∷ zs) (map_map f g xs)

-- ---- identifiers
id_laws : IsEquivalence have_one_id
id_laws = record {
  refl = λ p. (eq_by_cmp_equiv nat_list_cmp_total).refl (dtmi_text p);
  symm = λ p q. (eq_by_cmp_equiv nat_list_cmp_total).symm (dtmi_text p) (dtmi_text q);
  congr = λ p q r. (eq_by_cmp_equiv nat_list_cmp_total).congr (dtmi_text p) (dtmi_text q) (dtmi_text r);
}

one_id : (p q : Identifier) → dtmi_text q ≡ dtmi_text p → have_one_id p q ≡ true
one_id p q same = subst (λ t. is_eq (slice_cmp nat_cmp (dtmi_text p) t) ≡ true) (sym same) (id_laws.refl p)

at_text : (p q : Identifier) (is : List Interface) → dtmi_text p ≡ dtmi_text q → interface_at p is ≡ interface_at q is
at_text p q is same = ap (λ t. lookup (λ (k : Identifier). is_eq (slice_cmp nat_cmp t (dtmi_text k))) (keyed is)) same

any_text : (p q : Identifier) (ids : List Identifier) → dtmi_text p ≡ dtmi_text q → list_any (have_one_id p) ids ≡ list_any (have_one_id q) ids
any_text p q ids same = ap (λ t. list_any (λ (k : Identifier). is_eq (slice_cmp nat_cmp t (dtmi_text k))) ids) same

found_in_both : (p : Identifier) (xs ys : List Interface) → interface_at p (xs ++ ys) ≡ option_or (interface_at p xs) (interface_at p ys)
found_in_both p [] ys = refl
found_in_both p (x ∷ xs) ys =
    elim (is_eq (id_cmp p x.id)) as (λ b. cond b (Some x) (interface_at p (xs ++ ys)) ≡ option_or (cond b (Some x) (interface_at p xs)) (interface_at p ys)) [
      | true ↦ refl
      | false ↦ found_in_both p xs ys
    ]

-- ---- numbers
module _ (q : Identifier) where
  abbrev place : ℕ → List Interface → Option ℕ
  place n is = position_from (λ i. is_eq (id_cmp q i.id)) n is

  -- what has a number is the first with the identifier
  at_place : (n : ℕ) (is : List Interface) (k : ℕ) → place n is ≡ Some k → (m : ℕ) × (i : Interface) × (k ≡ n + m) × (slice_get is m ≡ Some i) × (interface_at q is ≡ Some i)
  at_place n [] k h = absurd (none-some k h)
  at_place n (i ∷ is) k h =
      elim (is_eq (id_cmp q i.id)) as (λ b. is_eq (id_cmp q i.id) ≡ b → cond b (Some n) (place (n + 1) is) ≡ Some k → (m : ℕ) × (j : Interface) × (k ≡ n + m) × (slice_get (i ∷ is) m ≡ Some j) × (interface_at q (i ∷ is) ≡ Some j)) [
        | true ↦ λ e h. let same : n ≡ k = same_Some n k h in (zero, i, omega (arith, same), refl, ap (λ b. cond b (Some i) (interface_at q is)) e)
        | false ↦ λ e h.
            let r = at_place (n + 1) is k h in
            let same : k ≡ n + 1 + r.0 = r.2 in
            (suc r.0, r.1, omega (arith, same), r.3, ap (λ b. cond b (Some i) (interface_at q is)) e ∙ r.4)
      ] refl h

  place_least : (n : ℕ) (is : List Interface) (k j : ℕ) (i : Interface) → place n is ≡ Some k → slice_get is j ≡ Some i → is_eq (id_cmp q i.id) ≡ true → k ≤ n + j
  place_least n [] k j i h at same = absurd (none-some k h)
  place_least n (x ∷ xs) k zero i h at same =
      let here : is_eq (id_cmp q x.id) ≡ true = ap (λ y. is_eq (id_cmp q y.id)) (same_Some x i at) ∙ same in
      let e : n ≡ k = same_Some n k (ap (λ b. cond b (Some n) (place (n + 1) xs)) (sym here) ∙ h) in
      omega (arith, e)
  place_least n (x ∷ xs) k (suc j) i h at same =
      elim (is_eq (id_cmp q x.id)) as (λ b. cond b (Some n) (place (n + 1) xs) ≡ Some k → k ≤ n + suc j) [
        | true ↦ λ h. let e : n ≡ k = same_Some n k h in omega (arith, e)
        | false ↦ λ h. let e : k ≤ n + 1 + j = place_least (n + 1) xs k j i h at same in omega (arith, e)
      ] h

  place_met : (n : ℕ) (is : List Interface) (j : ℕ) (i : Interface) → slice_get is j ≡ Some i → is_eq (id_cmp q i.id) ≡ true → IsSome (place n is)
  place_met n [] j i at same = absurd (none-some i at)
  place_met n (x ∷ xs) zero i at same =
      let here : is_eq (id_cmp q x.id) ≡ true = ap (λ y. is_eq (id_cmp q y.id)) (same_Some x i at) ∙ same in
      ap (λ b. is_some (cond b (Some n) (place (n + 1) xs))) here
  place_met n (x ∷ xs) (suc j) i at same =
      elim (is_eq (id_cmp q x.id)) as (λ b. is_some (cond b (Some n) (place (n + 1) xs)) ≡ true) [ true ↦ refl | false ↦ place_met (n + 1) xs j i at same ]

  place_stays : (n : ℕ) (is more : List Interface) → IsSome (place n is) → IsSome (place n (is ++ more))
  place_stays n [] more h = absurd (true≢false (sym h))
  place_stays n (x ∷ xs) more h =
      elim (is_eq (id_cmp q x.id)) as (λ b. is_some (cond b (Some n) (place (n + 1) xs)) ≡ true → is_some (cond b (Some n) (place (n + 1) (xs ++ more))) ≡ true) [
        | true ↦ λ _. refl
        | false ↦ λ h. place_stays (n + 1) xs more h
      ] h

  place_none : (n : ℕ) (is : List Interface) → is_some (place n is) ≡ false → list_any (have_one_id q) (map (λ i. i.id) is) ≡ false
  place_none n [] h = refl
  place_none n (x ∷ xs) h =
      elim (is_eq (id_cmp q x.id)) as (λ b. is_some (cond b (Some n) (place (n + 1) xs)) ≡ false → (b || list_any (have_one_id q) (map (λ i. i.id) xs)) ≡ false) [
        | true ↦ λ h. absurd (true≢false h)
        | false ↦ λ h. place_none (n + 1) xs h
      ] h

  -- where no number is behind others, none is
  place_behind : (n : ℕ) (front is : List Interface) → is_some (place n (front ++ is)) ≡ false → list_any (have_one_id q) (map (λ i. i.id) is) ≡ false
  place_behind n [] is h = place_none n is h
  place_behind n (x ∷ xs) is h =
      elim (is_eq (id_cmp q x.id)) as (λ b. is_some (cond b (Some n) (place (n + 1) (xs ++ is))) ≡ false → list_any (have_one_id q) (map (λ i. i.id) is) ≡ false) [
        | true ↦ λ h. absurd (true≢false h)
        | false ↦ λ h. place_behind (n + 1) xs is h
      ] h

met : (q : Identifier) (is : List Interface) (j : ℕ) (i : Interface) → slice_get is j ≡ Some i → dtmi_text i.id ≡ dtmi_text q → IsSome (number_at q is)
met q is j i at same = place_met q 0 is j i at (one_id q i.id same)

-- ---- with further identifiers
module _ (set : List Interface) where
  with_id_more : (nodes : List Interface) (p : Identifier) → (more : List Interface) × (with_id set nodes p ≡ nodes ++ more)
  with_id_more nodes p =
      elim (is_some (number_at p nodes)) as (λ b. (more : List Interface) × (cond b nodes (nodes ++ option_to_list (interface_at p set)) ≡ nodes ++ more)) [
        | true ↦ ([], sym (append-nil nodes))
        | false ↦ (option_to_list (interface_at p set), refl)
      ]

  with_ids_more : (nodes : List Interface) (ps : List Identifier) → (more : List Interface) × (with_ids set nodes ps ≡ nodes ++ more)
  with_ids_more nodes [] = ([], sym (append-nil nodes))
  with_ids_more nodes (p ∷ ps) =
      let one = with_id_more nodes p in
      let rest = with_ids_more (with_id set nodes p) ps in
      (one.0 ++ rest.0, rest.1 ∙ ap (λ xs. xs ++ rest.0) one.1 ∙ append_assoc nodes one.0 rest.0)

  with_id_there : (nodes : List Interface) (p : Identifier) → IsSome (interface_at p set) → IsSome (number_at p (with_id set nodes p))
  with_id_there nodes p there =
      elim (is_some (number_at p nodes)) as (λ b. is_some (number_at p nodes) ≡ b → IsSome (number_at p (cond b nodes (nodes ++ option_to_list (interface_at p set))))) [
        | true ↦ λ e. e
        | false ↦ λ e. elim (interface_at p set) as (λ o. interface_at p set ≡ o → IsSome o → IsSome (number_at p (nodes ++ option_to_list o))) [
          | None ↦ λ _ h. absurd (true≢false (sym h))
          | Some i ↦ λ f _.
              ap is_some (number-push p nodes i)
              ∙ ap (λ b. is_some (option_or (number_at p nodes) (cond b (Some (length nodes)) None))) (one_id p i.id (sym (found_text p set i f)))
              ∙ elim (number_at p nodes) as (λ o. is_some (option_or o (Some (length nodes))) ≡ true) [ None ↦ refl | Some k ↦ refl ]
        ] refl there
      ] refl

  still : (p : Identifier) (nodes : List Interface) (ps : List Identifier) → IsSome (number_at p nodes) → IsSome (number_at p (with_ids set nodes ps))
  still p nodes ps h = let more = with_ids_more nodes ps in subst (λ xs. IsSome (number_at p xs)) (sym more.1) (place_stays p 0 nodes more.0 h)

  all_there : (nodes : List Interface) (ps : List Identifier) → AreThere set (with_ids set nodes ps) ps
  all_there nodes [] = tt
  all_there nodes (p ∷ ps) = (λ h. still p (with_id set nodes p) ps (with_id_there nodes p h), all_there (with_id set nodes p) ps)

  still_there : (nodes : List Interface) (qs ps : List Identifier) → AreThere set nodes ps → AreThere set (with_ids set nodes qs) ps
  still_there nodes qs ps all =
      all_weaker (λ p. IsSome (interface_at p set) → IsSome (number_at p nodes)) (λ p. IsSome (interface_at p set) → IsSome (number_at p (with_ids set nodes qs))) ps (λ p h s. still p nodes qs (h s)) all

  module _ (new : List Interface) where
    gathering_begins : IsGathering set new new
    unfolding IsDistinct
    gathering_begins = record { more = []; split = sym (append-nil new); there = tt; distinct = tt }

    gathering_one : (nodes : List Interface) (p : Identifier) → IsGathering set new nodes → IsGathering set new (with_id set nodes p)
    gathering_one nodes p g =
        elim (is_some (number_at p nodes)) as (λ b. is_some (number_at p nodes) ≡ b → IsGathering set new (cond b nodes (nodes ++ option_to_list (interface_at p set)))) [
          | true ↦ λ _. g
          | false ↦ λ e. elim (interface_at p set) as (λ o. interface_at p set ≡ o → IsGathering set new (nodes ++ option_to_list o)) [
            | None ↦ λ _. subst (IsGathering set new) (sym (append-nil nodes)) g
            | Some i ↦ λ f.
                let text : dtmi_text p ≡ dtmi_text i.id = found_text p set i f in
                let apart : list_any (have_one_id i.id) (map (λ j. j.id) g.more) ≡ false =
                any_text i.id p (map (λ j. j.id) g.more) (sym text) ∙ place_behind p 0 new g.more (ap (λ xs. is_some (number_at p xs)) (sym g.split) ∙ e) in
                record {
                  more = g.more ++ i ∷ [];
                  split = ap (λ xs. xs ++ i ∷ []) g.split ∙ append_assoc new g.more (i ∷ []);
                  there = all_push (λ j. interface_at j.id set ≡ Some j) g.more i g.there (at_text i.id p set (sym text) ∙ f);
                  distinct = subst (IsDistinct have_one_id) (sym (map_push (λ j. j.id) g.more i)) (IsDistinct-push id_laws (map (λ j. j.id) g.more) i.id g.distinct apart);
                }
          ] refl
        ] refl

    gathering_more : (nodes : List Interface) (ps : List Identifier) → IsGathering set new nodes → IsGathering set new (with_ids set nodes ps)
    gathering_more nodes [] g = g
    gathering_more nodes (p ∷ ps) g = gathering_more (with_id set nodes p) ps (gathering_one nodes p g)

    gathering_components : (nodes is : List Interface) → IsGathering set new nodes → IsGathering set new (with_components set nodes is)
    gathering_components nodes [] g = g
    gathering_components nodes (i ∷ is) g = gathering_components (with_ids set nodes (component_ids i)) is (gathering_more nodes (component_ids i) g)

    still_after : (nodes is : List Interface) (ps : List Identifier) → AreThere set nodes ps → AreThere set (with_components set nodes is) ps
    still_after nodes [] ps all = all
    still_after nodes (i ∷ is) ps all = still_after (with_ids set nodes (component_ids i)) is ps (still_there nodes (component_ids i) ps all)

    all_components : (nodes is : List Interface) → HaveComponents set (with_components set nodes is) is
    all_components nodes [] = tt
    all_components nodes (i ∷ is) = (
      still_after (with_ids set nodes (component_ids i)) is (component_ids i) (all_there nodes (component_ids i)),
      all_components (with_ids set nodes (component_ids i)) is,
    )

    pub gathered_begins : IsGathered set new (with_components set new new) 0
    gathered_begins = record { gathering = gathering_components new new gathering_begins; components = all_components new new; parents = tt }

    gathered_suc : (nodes : List Interface) (at : ℕ) (i : Interface) → slice_get nodes at ≡ Some i → IsGathered set new nodes at → IsGathered set new (with_ids set nodes i.parents) (suc at)
    gathered_suc nodes at i here g =
        let next : List Interface = with_ids set nodes i.parents in
        let more = with_ids_more nodes i.parents in
        let parents : HaveParents set next (take (suc at) (nodes ++ more.0)) =
        all_take_more (λ j. AreThere set next j.parents) nodes more.0 at i here
        (all_weaker (λ j. AreThere set nodes j.parents) (λ j. AreThere set next j.parents) (take at nodes) (λ j h. still_there nodes i.parents j.parents h) g.parents)
        (all_there nodes i.parents) in
        record {
          gathering = gathering_more nodes i.parents g.gathering;
          components = all_weaker (λ j. AreThere set nodes (component_ids j)) (λ j. AreThere set next (component_ids j)) new (λ j h. still_there nodes i.parents (component_ids j) h) g.components;
          parents = subst (λ xs. HaveParents set next (take (suc at) xs)) (sym more.1) parents;
        }

    pub gathered_step : (nodes : List Interface) (at : ℕ) (i : Interface) → slice_get nodes at ≡ Some i → IsGathered set new nodes at
        → IsGathered set new (with_ids set nodes i.parents) (at + 1) × (length nodes ≤ length (with_ids set nodes i.parents))
    gathered_step nodes at i here g =
        let next : suc at ≡ at + 1 = omega arith in
        let more = with_ids_more nodes i.parents in
        let grows : length nodes ≤ length (nodes ++ more.0) = omega (arith, length-append nodes more.0) in (
          subst (IsGathered set new (with_ids set nodes i.parents)) next (gathered_suc nodes at i here g),
          subst (λ xs. length nodes ≤ length xs) (sym more.1) grows,
        )

    own_found : (is : List Interface) (q : Identifier) → AllByRecursion (λ i. interface_at i.id set ≡ Some i) is → list_any (have_one_id q) (map (λ i. i.id) is) ≡ true → IsSome (interface_at q set)
    own_found [] q all h = absurd (true≢false (sym h))
    own_found (x ∷ xs) q all h =
        elim (is_eq (id_cmp q x.id)) as (λ b. is_eq (id_cmp q x.id) ≡ b → (b || list_any (have_one_id q) (map (λ i. i.id) xs)) ≡ true → IsSome (interface_at q set)) [
          | true ↦ λ e _. ap is_some (at_text q x.id set (same_text q x.id e) ∙ all.0)
          | false ↦ λ _ h. own_found xs q all.1 h
        ] refl h

    -- no more is gathered than there is
    pub gathered_fits : (nodes : List Interface) (at : ℕ) → IsGathered set new nodes at → length nodes ≤ length new + length set
    gathered_fits nodes at g =
        let ids : List Identifier = map (λ i. i.id) g.gathering.more in
        let fits : length ids ≤ length (keyed set) = length-le_from_keys id_laws ids (keyed set) g.gathering.distinct (λ q h. own_found g.gathering.more q g.gathering.there h) in
        let more : length ids ≡ length g.gathering.more = length-map g.gathering.more (λ i. i.id) in
        let keys : length (keyed set) ≡ length set = length-map set (λ i. (i.id, i)) in
        let whole : length nodes ≡ length new + length g.gathering.more = ap length g.gathering.split ∙ length-append new g.gathering.more in
        omega (arith, fits, more, keys, whole)

-- ---- numbers are kept
pub numbered_one : (numbers later : List (Identifier × ℕ)) (nodes : List Interface) (i : Interface) → AreNumbered numbers nodes
    → ((q : Identifier) → kept_at q later ≡ option_or (kept_at q numbers) (number_for i.id (length nodes) q)) → AreNumbered later (nodes ++ i ∷ [])
numbered_one numbers later nodes i so_far put q =
    put q ∙ ap (λ o. option_or o (number_for i.id (length nodes) q)) (so_far q) ∙ sym (number-push q nodes i)

-- ---- components
pub component_of : (k : KindTerm) (p : Identifier) → id_of_kind k ≡ Some p → k ≡ component p
component_of (telemetry s a b) p h = absurd (none-some p h)
component_of (property s a b w) p h = absurd (none-some p h)
component_of (command a b) p h = absurd (none-some p h)
component_of (relationship t ps m w) p h = absurd (none-some p h)
component_of (component q) p h = ap component (same_Some q p h)

some_identifier : (o : Option Identifier) → is_some o ≡ true → (p : Identifier) × (o ≡ Some p)
some_identifier None h = absurd (true≢false (sym h))
some_identifier (Some p) h = (p, refl)

composes_from : (i : Interface) → list_any (λ c. is_some (component_id c)) i.contents ≡ true → DeclaresComponent i
composes_from i h =
    let c = placed_from_any (λ c. is_some (component_id c)) i.contents h in
    let p = some_identifier (component_id c.1) c.3 in
    let listed = contained_from_placed i.contents c.1 c.0 c.2 in
    (c.1, p.0, (c.0, listed.0, listed.1), component_of (kind_term c.1.kind) p.0 p.1)

composes_to : (i : Interface) → DeclaresComponent i → list_any (λ c. is_some (component_id c)) i.contents ≡ true
composes_to i (c, p, (k, low, is), of) =
    any_from_placed (λ d. is_some (component_id d)) i.contents k c (placed_from_contained i.contents c k low is) (ap (λ t. is_some (id_of_kind t)) of)

-- ---- the world
module _ (old new nodes : List Interface) (numbers : List (Identifier × ℕ))
    (apart : AllByRecursion (λ i. interface_at i.id old ≡ None) new)
    (gathered : IsGathered old new nodes (length nodes)) (numbered : AreNumbered numbers nodes) where
  split : nodes ≡ new ++ gathered.gathering.more
  split = gathered.gathering.split

  begins : (k : ℕ) (i : Interface) → slice_get new k ≡ Some i → slice_get nodes k ≡ Some i
  begins k i at = subst (λ xs. slice_get xs k ≡ Some i) (sym split) (placed_left new gathered.gathering.more k i at)

  -- the first of the nodes with an identifier stands for it
  standing : (p : Identifier) (i : Interface) → interface_at p nodes ≡ Some i → interface_at p (old ++ new) ≡ Some i
  standing p i found =
      let both : option_or (interface_at p new) (interface_at p gathered.gathering.more) ≡ Some i =
      sym (found_in_both p new gathered.gathering.more) ∙ ap (interface_at p) (sym split) ∙ found in
      found_in_both p old new
      ∙ elim (interface_at p new) as (λ o. interface_at p new ≡ o → option_or o (interface_at p gathered.gathering.more) ≡ Some i → option_or (interface_at p old) o ≡ Some i) [
        | Some j ↦ λ f h.
            let place = found_placed new p j f in
            let none : interface_at p old ≡ None = at_text p j.id old (found_text p new j f) ∙ all_at (λ x. interface_at x.id old ≡ None) new place.0 j apart place.1 in
            ap (λ o. option_or o (Some j)) none ∙ h
        | None ↦ λ f h.
            let place = found_placed gathered.gathering.more p i h in
            let there : interface_at p old ≡ Some i =
            at_text p i.id old (found_text p gathered.gathering.more i h) ∙ all_at (λ x. interface_at x.id old ≡ Some x) gathered.gathering.more place.0 i gathered.gathering.there place.1 in
            ap (λ o. option_or o None) there
      ] refl both

  stands : (p : Identifier) (k : ℕ) → kept_at p numbers ≡ Some k → (i : Interface) × (slice_get nodes k ≡ Some i) × (interface_at p (old ++ new) ≡ Some i)
  stands p k kept =
      let place = at_place p 0 nodes k (sym (numbered p) ∙ kept) in
      let same : place.0 ≡ k = let e : k ≡ 0 + place.0 = place.2 in omega (arith, e) in
      (place.1, subst (λ n. slice_get nodes n ≡ Some place.1) same place.3, standing p place.1 place.4)

  first : (p : Identifier) (k j : ℕ) (i : Interface) → kept_at p numbers ≡ Some k → slice_get nodes j ≡ Some i → dtmi_text i.id ≡ dtmi_text p → k ≤ j
  first p k j i kept at same = let e : k ≤ 0 + j = place_least p 0 nodes k j i (sym (numbered p) ∙ kept) at (one_id p i.id same) in omega (arith, e)

  kept_if_met : (p : Identifier) → IsSome (number_at p nodes) → IsSome (kept_at p numbers)
  kept_if_met p h = ap is_some (numbered p) ∙ h

  placed : (i : Interface) → Contains nodes i → IsSome (kept_at i.id numbers)
  placed i (k, low, is) = kept_if_met i.id (met i.id nodes k i (placed_from_contained nodes i k low is) refl)

  -- what stands for an identifier in the old set or among the new ones is there
  there_of : (p : Identifier) → (IsSome (interface_at p old) → IsSome (number_at p nodes)) → IsSome (interface_at p (old ++ new)) → IsSome (kept_at p numbers)
  there_of p h some =
      kept_if_met p (elim (interface_at p old) as (λ o. (IsSome o → IsSome (number_at p nodes)) → IsSome (option_or o (interface_at p new)) → IsSome (number_at p nodes)) [
        | Some i ↦ λ h _. h refl
        | None ↦ λ _ s. elim (interface_at p new) as (λ o. interface_at p new ≡ o → IsSome o → IsSome (number_at p nodes)) [
          | None ↦ λ _ s. absurd (true≢false (sym s))
          | Some i ↦ λ f _. let place = found_placed new p i f in met p nodes place.0 i (begins place.0 i place.1) (sym (found_text p new i f))
        ] refl s
      ] h (ap is_some (sym (found_in_both p old new)) ∙ some))

  parents : (i : Interface) (p : Identifier) → Contains nodes i → Contains i.parents p → IsSome (interface_at p (old ++ new)) → IsSome (kept_at p numbers)
  parents i p (k, low, is) (m, within, named) some =
      let all : HaveParents old nodes nodes = subst (HaveParents old nodes) (take-length nodes) gathered.parents in
      let here : AreThere old nodes i.parents = all_at (λ j. AreThere old nodes j.parents) nodes k i all (placed_from_contained nodes i k low is) in
      there_of p (all_at (λ q. IsSome (interface_at q old) → IsSome (number_at q nodes)) i.parents m p here (placed_from_contained i.parents p m within named)) some

  components : (i : Interface) (c : Content) (p : Identifier) → Contains new i → Contains i.contents c → IsComponentOf c p → IsSome (interface_at p (old ++ new)) → IsSome (kept_at p numbers)
  components i c p (k, low, is) (m, within, listed) of some =
      let here : AreThere old nodes (component_ids i) = all_at (λ j. AreThere old nodes (component_ids j)) new k i gathered.components (placed_from_contained new i k low is) in
      there_of p (all_kept component_id (λ q. IsSome (interface_at q old) → IsSome (number_at q nodes)) i.contents m c p here (placed_from_contained i.contents c m within listed) (ap id_of_kind of)) some

  pub world_made : (links : List (List ℕ)) (composed : List Bool)
      → links ≡ map (λ i. filter_map (λ p. kept_at p numbers) i.parents) nodes
      → composed ≡ map (λ i. list_any (λ c. is_some (component_id c)) i.contents) nodes
      → IsWorld (old ++ new) new nodes numbers links composed
  world_made links composed linked composes = record {
    begins = begins;
    stands = stands;
    first = first;
    placed = placed;
    parents = parents;
    components = components;
    linked = linked;
    composes_length = ap length composes ∙ length-map nodes (λ i. list_any (λ c. is_some (component_id c)) i.contents);
    composes = λ k i at.
        let read : get_or composed k false ≡ list_any (λ c. is_some (component_id c)) i.contents =
        ap (λ cs. get_or cs k false) composes
        ∙ get_or_from_slice_get (map (λ j. list_any (λ c. is_some (component_id c)) j.contents) nodes) k (list_any (λ c. is_some (component_id c)) i.contents) false
        (slice_get-map (λ j. list_any (λ c. is_some (component_id c)) j.contents) nodes k ∙ ap (option_map (λ j. list_any (λ c. is_some (component_id c)) j.contents)) at) in
        (λ h. composes_from i (sym read ∙ h), λ d. read ∙ composes_to i d);
  }
