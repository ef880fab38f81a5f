-- What interfaces have where others come into their set or go from it.
use Rattle.std.proofs.Common.{◌≡◌, ◌↔◌, ℕ, inl, inr, List, [], ◌∷◌, map, Bool, true, false, cond, Option, Some, None, refl, sym, ap, ◌∙◌, subst, is_eq}
use Rattle.std.specs.Ordering.{eq_by_cmp}
use Rattle.std.specs.Cmp.{IsTotalOrder}
use Rattle.std.specs.List.{AllByRecursion}
use Rattle.std.specs.List.Sorted.{IsStrictlySortedBy}
use Rattle.std.specs.Map.{lookup, remove_entry, keys_of}
use Rattle.std.specs.BTreeMap.{is_at}
use Rattle.std.proofs.lemmas.Cmp.{nat_list_cmp_total, on_total, eq_by_cmp_equiv}
use Rattle.std.proofs.lemmas.Map.{lookup-remove_entry}
use Rattle.std.proofs.lemmas.Map.Keys.{IsDistinct-from_sorted}
use Rattle.std.proofs.lemmas.Option.{same_Some, none-some}
use Rattle.dt_base.specs.names.Grammar.{Identifier, dtmi_text, id_cmp}
use Rattle.dtdl_terms.specs.Sets.{keyed, InOrder, interface_at, without_interface}
use Rattle.dtdl_terms.specs.declared.interface.Interface.{Interface}
use Rattle.dtdl_terms.specs.declared.resolved.Resolved.{Resolved}
use Rattle.dtdl_terms.specs.declared.resolved.ResolvedContent.{ResolvedContent}
use Rattle.dtdl_terms.specs.declared.spot.Spot.TheVariants as spots
use Rattle.dtdl_terms.proofs.Keyed.{remove-keyed}
use Rattle.extend_resolve.specs.declared.rule.SetRule.TheVariants as rules
use Rattle.extend_resolve.specs.Chains.{IsParent, IsChain, IsAncestor}
use Rattle.extend_resolve.specs.Breaches.{BreaksNoRule}
use Rattle.model_life.specs.resolution.Resolving.{Has, HasPart, IsSource, ListsContents, IsResolved, entry_at, HoldsRight, IsWithin, LacksNone, IsFree}
use Rattle.model_life.specs.resolution.Machinery.Families.{IsThere}
use Rattle.extend_resolve.proofs.Within.{found_placed}
use Rattle.model_life.proofs.resolution.ByKey.{C, same_spelling, alike}
use Rattle.model_life.proofs.resolution.Families.{stands, ancestors_there}
use Rattle.model_life.proofs.resolution.Declared.{get_placed}

flip : {A B : Type 0} → A ↔ B → B ↔ A
flip e = (e.1, e.0)

-- ---- one set for another
contents_by : (s t : List Interface) (i : Interface) (rs : List ResolvedContent) → ((r : ResolvedContent) → Has s i r ↔ Has t i r) → ListsContents s i rs → ListsContents t i rs
contents_by s t i rs e l = record { each = λ r. (λ h. (e r).0 ((l.each r).0 h), λ h. (l.each r).1 ((e r).1 h)); sorted = l.sorted }

resolved_by : (s t : List Interface) (i : Interface) (r : Resolved) → ((a : Interface) → IsAncestor s i a ↔ IsAncestor t i a) → ((r : ResolvedContent) → Has s i r ↔ Has t i r) → ((q : Interface) → HasPart s i q ↔ HasPart t i q)
    → ((a : Interface) → IsSource s i a ↔ IsSource t i a) → ((q : Interface) (rs : List ResolvedContent) → HasPart s i q → ListsContents s q rs → ListsContents t q rs) → IsResolved s i r → IsResolved t i r
resolved_by s t i r ancestors contents parts sources inside l = record {
  contents = contents_by s t i r.contents contents l.contents;
  ancestors = record {
    each = λ id. (
      λ h. let was = (l.ancestors.each id).0 h in (was.0, (ancestors was.0).0 was.1, was.2),
      λ h. (l.ancestors.each id).1 (h.0, (ancestors h.0).1 h.1, h.2),
    );
    sorted = l.ancestors.sorted;
  };
  named = record {
    each = λ n. (
      λ h. let was = (l.named.each n).0 h in (was.0, (sources was.0).0 was.1, was.2, was.3),
      λ h. (l.named.each n).1 (h.0, (sources h.0).1 h.1, h.2, h.3),
    );
    sorted = l.named.sorted;
  };
  parts = record {
    each = λ part h. let was = l.parts.each part h in (was.0, (parts was.0).0 was.1, was.2, inside was.0 part.contents was.1 was.3);
    every = λ q h. l.parts.every q ((parts q).1 h);
    sorted = l.parts.sorted;
  };
}

-- ---- a smaller set and a larger one
module _ (small large : List Interface) (within : IsWithin small large) (whole : LacksNone small) where
  pub known : (p : Identifier) → (interface_at p small ≡ None → ⊥) → (j : Interface) → interface_at p large ≡ Some j → interface_at p small ≡ Some j
  known p some j found = by (interface_at p small) refl
    where
      by : (o : Option Interface) → interface_at p small ≡ o → interface_at p small ≡ Some j
      by None e = absurd (some e)
      by (Some q) e = e ∙ ap Some (same_Some q j (sym (within p q e) ∙ found))

  pub parent_down : (i j : Interface) → IsThere small i → IsParent large i j → IsParent small i j
  parent_down i j there (p, (k, low, is), found) =
      (p, (k, low, is), known p (λ none. (whole i k there).0 (p, get_placed i.parents p k low is, none)) j found)

  pub chain_up : (i : Interface) (js : List Interface) → IsChain small i js → IsChain large i js
  chain_up i [] chain = tt
  chain_up i (j ∷ js) ((p, named, found), chain) = ((p, named, within p j found), chain_up j js chain)

  pub chain_down : (i : Interface) (js : List Interface) → IsThere small i → IsChain large i js → IsChain small i js
  chain_down i [] there chain = tt
  chain_down i (j ∷ js) there (step, chain) =
      let own : IsParent small i j = parent_down i j there step in
      (own, chain_down j js (stands small own.0 j own.2) chain)

  pub same_ancestors : (i a : Interface) → IsThere small i → IsAncestor small i a ↔ IsAncestor large i a
  same_ancestors i a there = (λ up. (up.0, chain_up i up.0 up.1, up.2), λ up. (up.0, chain_down i up.0 there up.1, up.2))

  same_contents : (i : Interface) (r : ResolvedContent) → IsThere small i → Has small i r ↔ Has large i r
  same_contents i r there = (λ h. (h.0, (same_ancestors i h.0 there).0 h.1, h.2, h.3), λ h. (h.0, (same_ancestors i h.0 there).1 h.1, h.2, h.3))

  part_down : (i q : Interface) → IsThere small i → HasPart large i q → HasPart small i q
  part_down i q there (r, p, has, of, found) =
      let own : Has small i r = (same_contents i r there).1 has in
      let up : IsThere small own.0 = ancestors_there small i own.0 there own.1 in
      let k : ℕ = own.3.0 in
      (r, p, own, of, known p (λ none. (whole own.0 k up).1 (p, (r.content, get_placed own.0.contents r.content k own.3.1 own.3.2, of), none)) q found)

  pub same_parts : (i q : Interface) → IsThere small i → HasPart small i q ↔ HasPart large i q
  same_parts i q there = (λ h. (h.0, h.1, (same_contents i h.0 there).0 h.2, h.3, within h.1 q h.4), part_down i q there)

  pub part_stands : (i q : Interface) → HasPart small i q → IsThere small q
  part_stands i q h = stands small h.1 q h.4

  source_up : (i a : Interface) → IsThere small i → IsSource small i a → IsSource large i a
  source_up i a there (inl up) = inl ((same_ancestors i a there).0 up)
  source_up i a there (inr (q, part, up)) = inr (q, (same_parts i q there).0 part, (same_ancestors q a (part_stands i q part)).0 up)

  source_down : (i a : Interface) → IsThere small i → IsSource large i a → IsSource small i a
  source_down i a there (inl up) = inl ((same_ancestors i a there).1 up)
  source_down i a there (inr (q, part, up)) =
      let own : HasPart small i q = part_down i q there part in
      inr (q, own, (same_ancestors q a (part_stands i q own)).1 up)

  pub same_resolved : (i : Interface) (r : Resolved) → IsThere small i → IsResolved small i r ↔ IsResolved large i r
  same_resolved i r there = (
    resolved_by small large i r (λ a. same_ancestors i a there) (λ x. same_contents i x there) (λ q. same_parts i q there) (λ a. (source_up i a there, source_down i a there))
        (λ q rs part l. contents_by small large q rs (λ x. same_contents q x (part_stands i q part)) l),
    resolved_by large small i r (λ a. flip (same_ancestors i a there)) (λ x. flip (same_contents i x there)) (λ q. flip (same_parts i q there)) (λ a. (source_down i a there, source_up i a there))
        (λ q rs part l. contents_by large small q rs (λ x. flip (same_contents q x (part_stands i q (part_down i q there part)))) l),
  )

pub lacks_none : (set : List Interface) → BreaksNoRule set → LacksNone set
lacks_none set sound i k there =
    let at = found_placed set i.id i there in
    (λ h. sound at.0 i rules.AbsentReference (spots.Parent k) at.1 h, λ h. sound at.0 i rules.AbsentReference (spots.ContentSchema k) at.1 h)

pub all_map : {X : Type 0} (P Q : X → Type 0) (xs : List X) → ((x : X) → P x → Q x) → AllByRecursion P xs → AllByRecursion Q xs
all_map P Q [] f all = tt
all_map P Q (x ∷ xs) f all = (f x all.0, all_map P Q xs f all.1)

-- ---- what is held
-- where interfaces come, what is held stays right
pub held_with_more : (old new : List Interface) (table : List (Identifier × Resolved)) → IsWithin old new → LacksNone old → HoldsRight old table → HoldsRight new table
held_with_more old new table within whole right id r held =
    let one = right id r held in
    (one.0, within id one.0 one.1, (same_resolved old new within whole one.0 r (stands old id one.0 one.1)).0 one.2)

-- ---- an interface that goes
pub ids_total : IsTotalOrder id_cmp
ids_total = on_total dtmi_text nat_list_cmp_total

same_test : (id x y : Identifier) → is_at (id_cmp id) x ≡ true → is_at (id_cmp id) y ≡ eq_by_cmp id_cmp x y
same_test id x y h = ap (λ t. is_eq (C t (dtmi_text y))) (same_spelling (dtmi_text id) (dtmi_text x) h)

pub taken_out : {V : Type 0} (id q : Identifier) (es : List (Identifier × V)) → IsStrictlySortedBy id_cmp (keys_of es) → lookup (is_at (id_cmp q)) (remove_entry (is_at (id_cmp id)) es) ≡ cond (is_eq (id_cmp id q)) None (lookup (is_at (id_cmp q)) es)
taken_out id q es sorted = lookup-remove_entry (eq_by_cmp_equiv ids_total) (is_at (id_cmp id)) (same_test id) q es (IsDistinct-from_sorted id_cmp (keys_of es) sorted)

pub keys_keyed : (is : List Interface) → map (λ (i : Interface). i.id) is ≡ keys_of (keyed is)
keys_keyed [] = refl
keys_keyed (i ∷ is) = ap (λ ids. i.id ∷ ids) (keys_keyed is)

pub left : (id q : Identifier) (set : List Interface) → InOrder set → interface_at q (without_interface id set) ≡ cond (is_eq (id_cmp id q)) None (interface_at q set)
left id q set sorted =
    ap (lookup (is_at (id_cmp q))) (sym (remove-keyed (is_at (id_cmp id)) set)) ∙ taken_out id q (keyed set) (subst (IsStrictlySortedBy id_cmp) (keys_keyed set) sorted)

module _ (set : List Interface) (id : Identifier) (sound : BreaksNoRule set) (sorted : InOrder set) (free : IsFree set id) where
  abbrev rest : List Interface
  rest = without_interface id set

  rest_within : IsWithin rest set
  rest_within p i found = by (is_eq (id_cmp id p)) (sym (left id p set sorted) ∙ found)
    where
      by : (b : Bool) → cond b None (interface_at p set) ≡ Some i → interface_at p set ≡ Some i
      by true h = absurd (none-some i h)
      by false h = h

  -- what stays is not the one that goes
  not_it : (i : Interface) → IsThere rest i → dtmi_text i.id ≡ dtmi_text id → ⊥
  not_it i there same =
      let equal : is_eq (id_cmp id i.id) ≡ true = ap is_eq (ap (C (dtmi_text id)) same ∙ alike (dtmi_text id)) in
      none-some i (sym (ap (λ b. cond b None (interface_at i.id set)) equal) ∙ sym (left id i.id set sorted) ∙ there)

  still : (p : Identifier) → (interface_at p set ≡ None → ⊥) → interface_at p rest ≡ None → dtmi_text p ≡ dtmi_text id
  still p some gone = by (is_eq (id_cmp id p)) refl (sym (left id p set sorted) ∙ gone)
    where
      by : (b : Bool) → is_eq (id_cmp id p) ≡ b → cond b None (interface_at p set) ≡ None → dtmi_text p ≡ dtmi_text id
      by true e h = sym (same_spelling (dtmi_text id) (dtmi_text p) e)
      by false e h = absurd (some h)

  rest_whole : LacksNone rest
  rest_whole i k there =
      let own : IsThere set i = rest_within i.id i there in
      let all = lacks_none set sound i k own in (
        λ h. not_it i there (free i k h.0 own (inl h.1) (still h.0 (λ none. all.0 (h.0, h.1, none)) h.2)),
        λ h. not_it i there (free i k h.0 own (inr h.1) (still h.0 (λ none. all.1 (h.0, h.1, none)) h.2)),
      )

  pub held_with_less : (table : List (Identifier × Resolved)) → IsStrictlySortedBy id_cmp (keys_of table) → HoldsRight set table → HoldsRight rest (remove_entry (is_at (id_cmp id)) table)
  held_with_less table ordered right q r held = by (is_eq (id_cmp id q)) (left id q set sorted) (sym (taken_out id q table ordered) ∙ held)
    where
      by : (b : Bool) → interface_at q rest ≡ cond b None (interface_at q set) → cond b None (entry_at q table) ≡ Some r → (i : Interface) × (interface_at q rest ≡ Some i) × IsResolved rest i r
      by true is there = absurd (none-some r there)
      by false is there =
          let one = right q r there in
          let found : interface_at q rest ≡ Some one.0 = is ∙ one.1 in
          (one.0, found, (same_resolved rest set rest_within rest_whole one.0 r (stands rest q one.0 found)).1 one.2)
