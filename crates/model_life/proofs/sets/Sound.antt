-- Sets that break no rule, in another order, with more interfaces and with fewer.
use Rattle.std.proofs.Common.{◌≡◌, ◌↔◌, ℕ, inl, inr, List, [], ◌∷◌, ◌++◌, map, take, Bool, true, false, cond, Some, None, refl, sym, ap, ◌∙◌, subst}
use Rattle.std.specs.Prelude.{slice_get, Contains}
use Rattle.std.proofs.lemmas.Option.{none-some}
use Rattle.std.proofs.lemmas.Slice.Eq.{bytes_eq-Decides}
use Rattle.dt_base.specs.names.Grammar.{Identifier, dtmi_text}
use Rattle.dtdl_terms.specs.Sets.{InOrder, interface_at, without_interface}
use Rattle.dtdl_terms.specs.declared.interface.Interface.{Interface}
use Rattle.dtdl_terms.specs.declared.spot.Spot.{Spot}
use Rattle.dtdl_terms.specs.declared.spot.Spot.TheVariants as spots
use Rattle.dtdl_terms.specs.declared.uploaded.Uploaded.{Uploaded}
use Rattle.extend_resolve.specs.declared.rule.SetRule.{SetRule}
use Rattle.extend_resolve.specs.declared.rule.SetRule.TheVariants as rules
use Rattle.extend_resolve.specs.SetRules.{together, RepeatsId}
use Rattle.extend_resolve.specs.Breaches.{BreaksSetRule, BreaksNoRule, IsSound}
use Rattle.extend_resolve.proofs.Members.{mapped_at, unmapped_at, all_at}
use Rattle.extend_resolve.proofs.Within.{found_placed}
use Rattle.model_life.specs.resolution.Resolving.{IsWithin, LacksNone, IsFree}
use Rattle.model_life.specs.resolution.Machinery.Families.{IsThere}
use Rattle.model_life.proofs.resolution.Declared.{get_placed}
use Rattle.model_life.proofs.resolution.Changes.{lacks_none}
use Rattle.model_life.specs.sets.Changing.{with_uploads, is_one_of, without_interfaces, HaveTheSame, HaveDistinctIds, AreFree}
use Rattle.model_life.proofs.sets.Apart.{contains_append, placed_append, map-take, there_apart, not_before, apart_ordered, apart_from}
use Rattle.model_life.proofs.sets.Looking.{AreAbsent, or_else, at_append, at_text, at_without, ordered_without, uploads_ordered, uploads_same, same_without_one, ordered_without_one, one_is}
use Rattle.model_life.proofs.sets.Standing.{with_others, breaks_down, breaks_up}

-- ---- another order
pub same_rules : (one other : List Interface) → HaveTheSame one other → HaveDistinctIds other → BreaksNoRule one → BreaksNoRule other
same_rules one other same apart sound k i rule spot at broken =
    let there : IsThere one i = same i.id ∙ there_apart other apart k i at in
    let place = found_placed one i.id i there in
    sound place.0 i rule spot place.1
    (breaks_down one other (λ p j found. sym (same p) ∙ found) (lacks_none one sound) (take k other) (take place.0 one) i there (not_before other apart k i at) rule spot broken)

-- ---- uploads as a set
abbrev interface_of : Uploaded → Interface
interface_of u = u.interface

pub as_uploads : (new : List Uploaded) → IsSound [] new ↔ BreaksNoRule (map interface_of new)
as_uploads new = (
  λ sound k i rule spot at broken.
      let u = unmapped_at interface_of new k i at in
      let same : (f : List Interface) → BreaksSetRule (together [] new) f i rule spot → BreaksSetRule (together [] new) f u.0.interface rule spot =
      λ f h. subst (λ (j : Interface). BreaksSetRule (together [] new) f j rule spot) (sym u.2) h in
      sound (record { index = k; rule = rule; spot = spot })
      (u.0, u.1, subst (λ f. BreaksSetRule (together [] new) f u.0.interface rule spot) (sym (map-take interface_of k new)) (same (take k (map interface_of new)) broken)),
  λ sound b broken.
      sound b.index broken.0.interface b.rule b.spot (mapped_at interface_of new b.index broken.0 broken.1)
      (subst (λ f. BreaksSetRule (together [] new) f broken.0.interface b.rule b.spot) (map-take interface_of b.index new) broken.2),
)

-- ---- interfaces that come
module _ (set : List Interface) (new : List Uploaded) (sorted : InOrder set) (absent : AreAbsent set new) (sound : IsSound set new) where
  abbrev joined : List Interface
  joined = together set new

  -- a new one at a position
  new_sound : (n : ℕ) (i : Interface) → slice_get (map interface_of new) n ≡ Some i → (f : List Interface) → (RepeatsId f i → RepeatsId (map interface_of (take n new)) i) → (rule : SetRule) (spot : Spot) → BreaksSetRule (together set new) f i rule spot → ⊥
  new_sound n i at f others rule spot broken =
      let u = unmapped_at interface_of new n i at in
      let moved : BreaksSetRule (together set new) (map interface_of (take n new)) i rule spot = with_others (together set new) f (map interface_of (take n new)) i others rule spot broken in
      sound (record { index = n; rule = rule; spot = spot }) (u.0, u.1, subst (λ (j : Interface). BreaksSetRule (together set new) (map interface_of (take n new)) j rule spot) (sym u.2) moved)

  pub new_apart : HaveDistinctIds (map interface_of new)
  new_apart = apart_from (map interface_of new) (λ k i at r.
      new_sound k i at (take k (map interface_of new)) (λ h. subst (λ f. RepeatsId f i) (sym (map-take interface_of k new)) h) rules.RepeatedId spots.Id r)

  old_within : IsWithin set (together set new)
  old_within p i found = at_append p set (map interface_of new) ∙ ap (λ o. or_else o (interface_at p (map interface_of new))) found

  -- an old one has another identifier
  not_old : (n : ℕ) (i : Interface) → slice_get (map interface_of new) n ≡ Some i → (e : Interface) → Contains set e → dtmi_text e.id ≡ dtmi_text i.id → ⊥
  not_old n i at e has same =
      let u = unmapped_at interface_of new n i at in
      let none : interface_at u.0.interface.id set ≡ None = all_at (λ v. interface_at v.interface.id set ≡ None) new n u.0 absent u.1 in
      let there : IsThere set e = there_apart set (apart_ordered set sorted) has.0 e (get_placed set e has.0 has.1 has.2) in
      none-some e (sym none ∙ at_text u.0.interface.id e.id set (ap (λ (j : Interface). dtmi_text j.id) u.2 ∙ sym same) ∙ there)

  pub joined_sound : BreaksNoRule set → BreaksNoRule (together set new)
  joined_sound old k i rule spot at broken =
      elim (placed_append set (map interface_of new) k i at) [
        | inl a ↦
            let apart : HaveDistinctIds set = apart_ordered set sorted in
            let there : IsThere set i = there_apart set apart k i a.0 in
            let kept : BreaksSetRule (together set new) (take k set) i rule spot = subst (λ f. BreaksSetRule (together set new) f i rule spot) a.1 broken in
            old k i rule spot a.0 (breaks_down set (together set new) old_within (lacks_none set old) (take k set) (take k set) i there (not_before set apart k i a.0) rule spot kept)
        | inr b ↦
            new_sound b.0 i b.1 (set ++ take b.0 (map interface_of new))
            (λ r. elim (contains_append set (take b.0 (map interface_of new)) r.0 r.1) [
              | inl old_one ↦ absurd (not_old b.0 i b.1 r.0 old_one r.2)
              | inr new_one ↦ subst (λ f. RepeatsId f i) (sym (map-take interface_of b.0 new)) (r.0, new_one, r.2)
            ])
            rule spot (subst (λ f. BreaksSetRule (together set new) f i rule spot) b.2 broken)
      ]

  pub with_sound : BreaksNoRule set → BreaksNoRule (with_uploads new set)
  with_sound old = same_rules (together set new) (with_uploads new set) (uploads_same new set absent new_apart) (apart_ordered (with_uploads new set) (uploads_ordered new set sorted absent new_apart)) (joined_sound old)

-- ---- interfaces that go
module _ (set : List Interface) (ids : List Identifier) (sorted : InOrder set) (sound : BreaksNoRule set) (free : AreFree set ids) where
  abbrev rest : List Interface
  rest = without_interfaces ids set

  pub rest_within : IsWithin (without_interfaces ids set) set
  rest_within p i found = by (is_one_of ids p) (sym (at_without ids set p) ∙ found)
    where
      by : (b : Bool) → cond b None (interface_at p set) ≡ Some i → interface_at p set ≡ Some i
      by true h = absurd (none-some i h)
      by false h = h

  not_gone : (i : Interface) → IsThere (without_interfaces ids set) i → is_one_of ids i.id ≡ true → ⊥
  not_gone i there gone = none-some i (sym (ap (λ b. cond b None (interface_at i.id set)) gone) ∙ sym (at_without ids set i.id) ∙ there)

  still : (p : Identifier) → (interface_at p set ≡ None → ⊥) → interface_at p (without_interfaces ids set) ≡ None → is_one_of ids p ≡ true
  still p some none = by (is_one_of ids p) refl (sym (at_without ids set p) ∙ none)
    where
      by : (b : Bool) → is_one_of ids p ≡ b → cond b None (interface_at p set) ≡ None → is_one_of ids p ≡ true
      by true e h = e
      by false e h = absurd (some h)

  pub rest_whole : LacksNone (without_interfaces ids set)
  rest_whole i k there =
      let own : IsThere set i = rest_within i.id i there in
      let all = lacks_none set sound i k own in (
        λ h. not_gone i there (free i k h.0 own (inl h.1) (still h.0 (λ none. all.0 (h.0, h.1, none)) h.2)),
        λ h. not_gone i there (free i k h.0 own (inr h.1) (still h.0 (λ none. all.1 (h.0, h.1, none)) h.2)),
      )

  pub rest_sound : BreaksNoRule (without_interfaces ids set)
  rest_sound k i rule spot at broken =
      let apart : HaveDistinctIds (without_interfaces ids set) = apart_ordered (without_interfaces ids set) (ordered_without ids set sorted) in
      let there : IsThere (without_interfaces ids set) i = there_apart (without_interfaces ids set) apart k i at in
      let place = found_placed set i.id i (rest_within i.id i there) in
      sound place.0 i rule spot place.1
      (breaks_up (without_interfaces ids set) set rest_within rest_whole (take k (without_interfaces ids set)) (take place.0 set) i there (not_before (without_interfaces ids set) apart k i at) rule spot broken)

-- one that goes
pub free_one : (set : List Interface) (id : Identifier) → IsFree set id → AreFree set (id ∷ [])
free_one set id free i k p there named is =
    one_is id i.id ∙ (bytes_eq-Decides (dtmi_text i.id) (dtmi_text id)).1 (free i k p there named ((bytes_eq-Decides (dtmi_text p) (dtmi_text id)).0 (sym (one_is id p) ∙ is)))

pub one_gone : (set : List Interface) (id : Identifier) → InOrder set → BreaksNoRule set → IsFree set id → BreaksNoRule (without_interface id set)
one_gone set id sorted sound free =
    same_rules (without_interfaces (id ∷ []) set) (without_interface id set) (same_without_one id set sorted) (apart_ordered (without_interface id set) (ordered_without_one id set sorted))
    (rest_sound set (id ∷ []) sorted sound (free_one set id free))
