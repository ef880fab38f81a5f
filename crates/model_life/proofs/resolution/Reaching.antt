-- The ancestors and the parts of an interface are those that the tests pick out of its set.
use Rattle.std.proofs.Common.{◌≡◌, ◌↔◌, ℕ, zero, suc, ◌≤◌, inl, inr, List, [], ◌∷◌, map, Bool, true, false, cond, ◌||◌, length, Option, Some, None, refl, sym, ap, ◌∙◌, subst, true≢false, is_eq, arith}
use Rattle.std.specs.Prelude.{Contains}
use Rattle.std.specs.List.{filter, list_any}
use Rattle.std.specs.List.Sorted.{IsStrictlySortedBy}
use Rattle.std.specs.Map.{lookup}
use Rattle.std.proofs.lemmas.List.Kept.{IsStrictlySortedBy-filter}
use Rattle.std.proofs.lemmas.Slice.Eq.{bytes_eq-Decides}
use Rattle.std.proofs.lemmas.Bool.{or_left, or_right}
use Rattle.dt_base.specs.names.Grammar.{Identifier, dtmi_text, id_cmp, id_eq}
use Rattle.dtdl_terms.specs.Sets.{InOrder, interface_at}
use Rattle.dtdl_terms.specs.Terms.{KindTerm, telemetry, property, command, relationship, component}
use Rattle.dtdl_terms.specs.TermViews.{kind_term}
use Rattle.dtdl_terms.specs.declared.content.Content.{Content}
use Rattle.dtdl_terms.specs.declared.interface.Interface.{Interface}
use Rattle.dtdl_terms.specs.declared.resolved.ResolvedContent.{ResolvedContent}
use Rattle.extend_resolve.specs.Chains.{IsChain, chain_end, IsAncestor}
use Rattle.extend_resolve.specs.Breaches.{BreaksNoRule}
use Rattle.extend_resolve.proofs.Members.{either, contains_placed}
use Rattle.extend_resolve.proofs.Within.{any_from_placed, placed_from_any}
use Rattle.model_life.specs.resolution.Resolving.{HasPart, IsSource}
use Rattle.model_life.specs.resolution.Machinery.Families.{IsThere, kind_id}
use Rattle.model_life.specs.resolution.Machinery.Reaching.{found_passes, reaches, ancestors_in, is_named, has_component, parts_in}
use Rattle.model_life.proofs.resolution.ByKey.{C}
use Rattle.model_life.proofs.resolution.Families.{stands, spelled, one_there, listed, ten_at_most, ancestors_there}
use Rattle.model_life.proofs.resolution.Declared.{get_placed}
use Rattle.model_life.proofs.resolution.OneResolved.{uncons, here, there}

-- ---- what a test picks out of a list
pub filter_down : {X : Type 0} (p : X → Bool) (xs : List X) (x : X) → Contains (filter p xs) x → Contains xs x × (p x ≡ true)
filter_down p [] x h = let low = h.1 in absurd (omega (arith, low))
filter_down p (y ∷ ys) x h =
    elim (p y) as (λ b. p y ≡ b → Contains (cond b (y ∷ filter p ys) (filter p ys)) x → Contains (y ∷ ys) x × (p x ≡ true)) [
      | true ↦ λ e g.
          elim (uncons y (filter p ys) x g) [
            | inl same ↦ (subst (Contains (y ∷ ys)) same (here y ys), sym (ap p same) ∙ e)
            | inr later ↦ let rest = filter_down p ys x later in (there y ys x rest.0, rest.1)
          ]
      | false ↦ λ e g. let rest = filter_down p ys x g in (there y ys x rest.0, rest.1)
    ] refl h

pub filter_up : {X : Type 0} (p : X → Bool) (xs : List X) (x : X) → Contains xs x → p x ≡ true → Contains (filter p xs) x
filter_up p [] x h on = let low = h.1 in absurd (omega (arith, low))
filter_up p (y ∷ ys) x h on =
    elim (uncons y ys x h) [
      | inl same ↦ subst (λ b. Contains (cond b (y ∷ filter p ys) (filter p ys)) x) (sym (ap p same ∙ on)) (subst (Contains (y ∷ filter p ys)) same (here y (filter p ys)))
      | inr later ↦
          elim (p y) as (λ b. Contains (cond b (y ∷ filter p ys) (filter p ys)) x) [
            | true ↦ there y (filter p ys) x (filter_up p ys x later on)
            | false ↦ filter_up p ys x later on
          ]
    ]

pub ids_filter : (keep : Interface → Bool) (is : List Interface) (f : Identifier → Bool) → ((i : Interface) → keep i ≡ f i.id) → map (λ i. i.id) (filter keep is) ≡ filter f (map (λ i. i.id) is)
ids_filter keep [] f same = refl
ids_filter keep (j ∷ js) f same =
    elim (f j.id) as (λ b. keep j ≡ b → map (λ (i : Interface). i.id) (filter keep (j ∷ js)) ≡ cond b (j.id ∷ filter f (map (λ (i : Interface). i.id) js)) (filter f (map (λ (i : Interface). i.id) js))) [
      | true ↦ λ e. ap (λ b. map (λ (i : Interface). i.id) (cond b (j ∷ filter keep js) (filter keep js))) e ∙ ap (λ ids. j.id ∷ ids) (ids_filter keep js f same)
      | false ↦ λ e. ap (λ b. map (λ (i : Interface). i.id) (cond b (j ∷ filter keep js) (filter keep js))) e ∙ ids_filter keep js f same
    ] (same j)

pub picked_in_order : (f : Identifier → Bool) (set : List Interface) → InOrder set → InOrder (filter (λ i. f i.id) set)
picked_in_order f set sorted =
    subst (IsStrictlySortedBy id_cmp) (sym (ids_filter (λ i. f i.id) set f (λ i. refl))) (IsStrictlySortedBy-filter id_cmp f (map (λ (i : Interface). i.id) set) sorted)

same_id : (a b : Identifier) → id_eq a b ≡ true → dtmi_text a ≡ dtmi_text b
same_id a b h = (bytes_eq-Decides (dtmi_text a) (dtmi_text b)).0 h

id_same : (a b : Identifier) → dtmi_text a ≡ dtmi_text b → id_eq a b ≡ true
id_same a b h = (bytes_eq-Decides (dtmi_text a) (dtmi_text b)).1 h

by_text : (p q : Identifier) (set : List Interface) → dtmi_text p ≡ dtmi_text q → interface_at p set ≡ interface_at q set
by_text p q set same = ap (λ t. lookup (λ (k : Identifier). is_eq (C t (dtmi_text k))) (map (λ (j : Interface). (j.id, j)) set)) same

named_of : (id : Identifier) (k : KindTerm) → is_named id (kind_id k) ≡ true → (p : Identifier) × (k ≡ component p) × (id_eq id p ≡ true)
named_of id (telemetry schema semantic unit) h = absurd (true≢false (sym h))
named_of id (property schema semantic unit writable) h = absurd (true≢false (sym h))
named_of id (command request response) h = absurd (true≢false (sym h))
named_of id (relationship target properties most writable) h = absurd (true≢false (sym h))
named_of id (component of) h = (of, refl, h)

-- ---- ancestors
module _ (set : List Interface) where
  abbrev pub is_source_id : Interface → Identifier → Bool
  is_source_id i id = reaches set id 10 i || list_any (λ q. reaches set id 10 q) (parts_in set i)

  reached_by : (n : ℕ) (i a : Interface) (p : Identifier) → Contains i.parents p → ((j : Interface) → interface_at p set ≡ Some j → reaches set a.id n j ≡ true → IsAncestor set j a)
      → (o : Option Interface) → interface_at p set ≡ o → found_passes (reaches set a.id n) o ≡ true → IsAncestor set i a
  reached_by n i a p named next None e on = absurd (true≢false (sym on))
  reached_by n i a p named next (Some j) e on = let up = next j e on in (j ∷ up.0, ((p, named, e), up.1), up.2)

  reached : (n : ℕ) (i a : Interface) → IsThere set i → IsThere set a → reaches set a.id n i ≡ true → IsAncestor set i a
  reached zero i a low high h = ([], tt, sym (one_there set a i high low (same_id a.id i.id h)))
  reached (suc n) i a low high h =
      elim (either (id_eq a.id i.id) (list_any (λ p. found_passes (reaches set a.id n) (interface_at p set)) i.parents) h) [
        | inl e ↦ ([], tt, sym (one_there set a i high low (same_id a.id i.id e)))
        | inr t ↦
            let one = placed_from_any (λ p. found_passes (reaches set a.id n) (interface_at p set)) i.parents t in
            reached_by n i a one.1 (contains_placed i.parents one.1 one.0 one.2) (λ j found on. reached n j a (stands set one.1 j found) high on) (interface_at one.1 set) refl one.3
      ]

  reaching : (n : ℕ) (i a : Interface) (js : List Interface) → IsChain set i js → chain_end i js ≡ a → length js ≤ n → reaches set a.id n i ≡ true
  reaching zero i a [] chain is low = id_same a.id i.id (ap (λ (x : Interface). dtmi_text x.id) (sym is))
  reaching (suc n) i a [] chain is low = or_left (id_eq a.id i.id) (list_any (λ p. found_passes (reaches set a.id n) (interface_at p set)) i.parents) (id_same a.id i.id (ap (λ (x : Interface). dtmi_text x.id) (sym is)))
  reaching zero i a (j ∷ js) chain is low = absurd (omega (arith, low))
  reaching (suc n) i a (j ∷ js) ((p, (k, under, at), found), chain) is low =
      or_right (id_eq a.id i.id) (list_any (λ q. found_passes (reaches set a.id n) (interface_at q set)) i.parents)
      (any_from_placed (λ q. found_passes (reaches set a.id n) (interface_at q set)) i.parents k p (get_placed i.parents p k under at)
      (ap (found_passes (reaches set a.id n)) found ∙ reaching n j a js chain is (omega (arith, low))))

  module _ (sound : BreaksNoRule set) (sorted : InOrder set) where
    pub reaches_all : (i a : Interface) → IsThere set i → IsThere set a → (reaches set a.id 10 i ≡ true) ↔ IsAncestor set i a
    reaches_all i a low high = (reached 10 i a low high, λ up. reaching 10 i a up.0 up.1 up.2 (ten_at_most set sound i low up.0 up.1))

    pub ancestors_ordered : (i : Interface) → InOrder (ancestors_in set i)
    ancestors_ordered i = picked_in_order (λ id. reaches set id 10 i) set sorted

    pub ancestors_are_in : (i : Interface) → IsThere set i → (a : Interface) → Contains (ancestors_in set i) a ↔ IsAncestor set i a
    ancestors_are_in i low a = (
      λ h. let one = filter_down (λ (x : Interface). reaches set x.id 10 i) set a h in (reaches_all i a low ((listed set sorted a).0 one.0)).0 one.1,
      λ up.
          let high : IsThere set a = ancestors_there set i a low up in
          filter_up (λ (x : Interface). reaches set x.id 10 i) set a ((listed set sorted a).1 high) ((reaches_all i a low high).1 up),
    )

    -- ---- parts
    pub parts_ordered : (i : Interface) → InOrder (parts_in set i)
    parts_ordered i = picked_in_order (λ id. list_any (has_component id) (ancestors_in set i)) set sorted

    part_from : (i a q : Interface) (c : Content) → IsAncestor set i a → Contains a.contents c → IsThere set q → is_named q.id (kind_id (kind_term c.kind)) ≡ true → HasPart set i q
    part_from i a q c up inside high on =
        let one = named_of q.id (kind_term c.kind) on in
        let r : ResolvedContent = record { from = a.id; content = c } in
        (r, one.0, (a, up, refl, inside), one.1, by_text one.0 q.id set (sym (same_id q.id one.0 one.2)) ∙ high)

    pub parts_are_in : (i : Interface) → IsThere set i → (q : Interface) → Contains (parts_in set i) q ↔ HasPart set i q
    parts_are_in i low q = (
      λ h.
          let one = filter_down (λ (x : Interface). list_any (has_component x.id) (ancestors_in set i)) set q h in
          let a = placed_from_any (has_component q.id) (ancestors_in set i) one.1 in
          let c = placed_from_any (λ (x : Content). is_named q.id (kind_id (kind_term x.kind))) a.1.contents a.3 in
          part_from i a.1 q c.1 ((ancestors_are_in i low a.1).0 (contains_placed (ancestors_in set i) a.1 a.0 a.2)) (contains_placed a.1.contents c.1 c.0 c.2) ((listed set sorted q).0 one.0) c.3,
      has,
    )
      where
        has : HasPart set i q → Contains (parts_in set i) q
        has (r, p, (a, up, from, (k, under, at)), of, found) =
            let high : IsThere set q = stands set p q found in
            let on : is_named q.id (kind_id (kind_term r.content.kind)) ≡ true = ap (λ x. is_named q.id (kind_id x)) of ∙ id_same q.id p (sym (spelled set p q found)) in
            let place = (ancestors_are_in i low a).1 up in
            filter_up (λ (x : Interface). list_any (has_component x.id) (ancestors_in set i)) set q ((listed set sorted q).1 high)
            (any_from_placed (has_component q.id) (ancestors_in set i) place.0 a (get_placed (ancestors_in set i) a place.0 place.1 place.2)
            (any_from_placed (λ (x : Content). is_named q.id (kind_id (kind_term x.kind))) a.contents k r.content (get_placed a.contents r.content k under at) on))

    -- ---- sources
    pub sources_are_in : (i : Interface) → IsThere set i → (a : Interface) → Contains (filter (λ (x : Interface). is_source_id i x.id) set) a ↔ IsSource set i a
    sources_are_in i low a = (
      λ h.
          let one = filter_down (λ (x : Interface). is_source_id i x.id) set a h in
          let high : IsThere set a = (listed set sorted a).0 one.0 in
          elim (either (reaches set a.id 10 i) (list_any (λ q. reaches set a.id 10 q) (parts_in set i)) one.1) [
            | inl e ↦ inl ((reaches_all i a low high).0 e)
            | inr t ↦
                let q = placed_from_any (λ x. reaches set a.id 10 x) (parts_in set i) t in
                let part : HasPart set i q.1 = (parts_are_in i low q.1).0 (contains_placed (parts_in set i) q.1 q.0 q.2) in
                inr (q.1, part, (reaches_all q.1 a (stands set part.1 q.1 part.4) high).0 q.3)
          ],
      back,
    )
      where
        back : IsSource set i a → Contains (filter (λ (x : Interface). is_source_id i x.id) set) a
        back (inl up) =
            let high : IsThere set a = ancestors_there set i a low up in
            filter_up (λ (x : Interface). is_source_id i x.id) set a ((listed set sorted a).1 high) (or_left (reaches set a.id 10 i) (list_any (λ q. reaches set a.id 10 q) (parts_in set i)) ((reaches_all i a low high).1 up))
        back (inr (q, part, up)) =
            let own : IsThere set q = stands set part.1 q part.4 in
            let high : IsThere set a = ancestors_there set q a own up in
            let place = (parts_are_in i low q).1 part in
            filter_up (λ (x : Interface). is_source_id i x.id) set a ((listed set sorted a).1 high)
            (or_right (reaches set a.id 10 i) (list_any (λ x. reaches set a.id 10 x) (parts_in set i))
            (any_from_placed (λ x. reaches set a.id 10 x) (parts_in set i) place.0 q (get_placed (parts_in set i) q place.0 place.1 place.2) ((reaches_all q a own high).1 up)))
