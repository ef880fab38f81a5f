-- A state to which models came is well typed.
use Rattle.std.proofs.Common.{◌≡◌, ℕ, zero, suc, ◌<◌, ◌⊎◌, inl, inr, List, [], ◌∷◌, map, length, Bool, true, false, cond, ◌||◌, bytes_eq, Option, Some, None, refl, sym, ap, ◌∙◌, subst, true≢false, Less, is_eq, arith}
use Rattle.std.specs.Prelude.{Contains, IsTrue, IsSome}
use Rattle.std.specs.Option.{option_map, is_some}
use Rattle.std.specs.List.{AllByRecursion, sum_by}
use Rattle.std.specs.Ordering.{nat_cmp, is_lt, ordering_reverse}
use Rattle.std.specs.Cmp.Lexicographic.{slice_cmp}
use Rattle.std.proofs.lemmas.Cmp.{nat_list_cmp_total}
use Rattle.std.proofs.lemmas.Option.{same_Some, none-some}
use Rattle.std.proofs.lemmas.Slice.Eq.{bytes_eq-Decides}
use Rattle.ordered_table.proofs.Flat.{C}
use Rattle.dt_base.specs.names.Grammar.{Identifier, dtmi_text, id_cmp}
use Rattle.dtdl_terms.specs.Distinct.{HasDeclaration}
use Rattle.dtdl_terms.specs.Sets.{interface_at, InOrder, with_interface}
use Rattle.dtdl_terms.specs.declared.interface.Interface.{Interface}
use Rattle.dtdl_terms.specs.declared.limit.Limit.TheVariants as limits
use Rattle.dtdl_terms.specs.declared.uploaded.Uploaded.{Uploaded}
use Rattle.extend_resolve.specs.Breaches.{BreaksNoRule, IsSound, set_rule_code}
use Rattle.model_life.specs.resolution.Resolving.{IsWithin, LacksNone}
use Rattle.model_life.specs.resolution.Machinery.Families.{IsThere}
use Rattle.model_life.proofs.resolution.Changes.{all_map, lacks_none}
use Rattle.model_life.proofs.resolution.Families.{stands}
use Rattle.model_life.specs.sets.Changing.{with_uploads}
use Rattle.model_life.proofs.sets.Looking.{or_else as or_else_found, at_append, AreAbsent, uploads_ordered, uploads_same}
use Rattle.model_life.proofs.sets.Sound.{new_apart, with_sound}
use Rattle.graph_asks.specs.declared.refusal.At.TheVariants as places
use Rattle.graph_asks.specs.declared.refusal.Refusal.{Refusal}
use Rattle.graph_asks.specs.declared.refusal.Refusal.TheVariants as refusals
use Rattle.model_life.specs.Models.{Model, interfaces_of, model_at}
use Rattle.model_life.specs.Refusals.{AreNew, IsFirstThere}
use Rattle.model_life.specs.Sums.{model_bytes, AllTake, AreWithinLimits}
use Rattle.model_life.specs.Machinery.Keeping.{share_of}
use Rattle.model_life.proofs.Refused.{interfaces_with}
use Rattle.model_life.proofs.Taking.{all_take}
use Rattle.graph_steps.specs.States.{State, Twin, Link, set_of, interface_of, twin_at, is_live, is_end}
use Rattle.local_rules.specs.Soundness.{IsSoundInterface}
use Rattle.graph_steps.specs.Typed.{AreSound, FitsModel, SuitsTarget, FitsSource, HasEnds, TwinIsTyped, LinkIsTyped, WellTyped}
use Rattle.graph_steps.specs.ModelAsks.{after_uploads, ModelExists, ModelFault, ModelsFull, TwinDoesNotFit, RefusesPutModels}
use Rattle.graph_steps.proofs.invariants.Lists.{all_at, all_from, IsLeast, none_ill}
use Rattle.graph_steps.proofs.invariants.Keyed.{all-with}
use Rattle.graph_steps.proofs.invariants.Unrefused.{not_first, not_second, some_there}
use Rattle.graph_steps.proofs.invariants.Twins.{twin_there}
use Rattle.graph_steps.proofs.invariants.SetFirsts.{sound_set}
use Rattle.graph_steps.proofs.invariants.Stable.{less_of, twin_stable, link_stable}
use Rattle.graph_steps.proofs.invariants.Sets.{inherited_same, contents_same, is_a_same}
use Rattle.graph_steps.proofs.invariants.Models.{fits_by, source_by, suits_by}

-- ---- models that are new
-- The interface with an identifier is that of the model.
interface_found : (id : Identifier) (ms : List Model) → interface_at id (interfaces_of ms) ≡ option_map (λ (m : Model). m.interface) (model_at id ms)
interface_found id [] = refl
interface_found id (m ∷ ms) = ap (λ (o : Option Interface). cond (is_eq (id_cmp id m.interface.id)) (Some m.interface) o) (interface_found id ms) ∙ mapped (is_eq (id_cmp id m.interface.id))
  where
    mapped : (b : Bool) → cond b (Some m.interface) (option_map (λ (n : Model). n.interface) (model_at id ms)) ≡ option_map (λ (n : Model). n.interface) (cond b (Some m) (model_at id ms))
    mapped true = refl
    mapped false = refl

all_new : (ms : List Model) (us : List Uploaded) → ((k : ℕ) → IsFirstThere ms us k → ⊥) → AreNew ms us
all_new ms [] none = tt
all_new ms (u ∷ us) none = by (model_at u.interface.id ms) refl (λ new. all_new ms us (λ k first. none (suc k) (first.0, first.1, first.2, (new, first.3))))
  where
    by : (o : Option Model) → model_at u.interface.id ms ≡ o → (model_at u.interface.id ms ≡ None → AreNew ms us) → AreNew ms (u ∷ us)
    by None e rest = (e, rest e)
    by (Some m) e rest = absurd (none zero (u, refl, subst (λ (o : Option Model). IsSome o) (sym e) refl, tt))

all_absent : (ms : List Model) (us : List Uploaded) → AreNew ms us → AreAbsent (interfaces_of ms) us
all_absent ms [] new = tt
all_absent ms (u ∷ us) new = (interface_found u.interface.id ms ∙ ap (λ (o : Option Model). option_map (λ (m : Model). m.interface) o) new.0, all_absent ms us new.1)

all_with_uploads : (P : Interface → Type 0) (us : List Uploaded) (set : List Interface) → AllByRecursion (λ u. P u.interface) us → AllByRecursion P set → AllByRecursion P (with_uploads us set)
all_with_uploads P [] set new all = all
all_with_uploads P (u ∷ us) set new all = all_with_uploads P us (with_interface u.interface set) new.1 (all-with (λ (i : Interface). i.id) id_cmp P u.interface set new.0 all)

one_way : (a b : List ℕ) → C a b ≡ Less → C b a ≡ Less → ⊥
one_way a b h g = true≢false (sym (ap is_lt g) ∙ ap is_lt (nat_list_cmp_total.antisymm b a ∙ ap ordering_reverse h))

end_source : (l : Link) (id : List ℕ) → id ≡ l.source → is_end id l ≡ true
end_source l id same = ap (λ b. b || bytes_eq l.target id) ((bytes_eq-Decides l.source id).1 (sym same))

end_target : (l : Link) (id : List ℕ) → id ≡ l.target → is_end id l ≡ true
end_target l id same = ap (λ b. bytes_eq l.source id || b) ((bytes_eq-Decides l.target id).1 (sym same)) ∙ either (bytes_eq l.source id)
  where
    either : (b : Bool) → (b || true) ≡ true
    either true = refl
    either false = refl

module _ (s : State) (us : List Uploaded) (w : WellTyped s) (each : AllByRecursion (λ u. IsSoundInterface u.interface) us)
    (free : (r : Refusal) → RefusesPutModels s us r → ⊥) where
  -- ---- the models
  absent : AreAbsent (set_of s) us
  absent = all_absent s.models us (all_new s.models us (λ k first. not_first (ModelExists s us) _ free (refusals.ModelExists (dtmi_text first.0.interface.id)) (k, first.0, first, first.1, refl)))

  judged : IsSound (set_of s) us
  judged =
      sound_set (set_of s) us
      (λ b first. not_first (ModelFault s us) _ (not_second (ModelExists s us) _ free)
      (refusals.ModelFault (places.Pointer _) (set_rule_code b.rule)) (b, first.breach.0, first, first.breach.1, refl))

  now : set_of (after_uploads s us) ≡ with_uploads us (set_of s)
  now = interfaces_with us s.models

  within_new : IsWithin (set_of s) (with_uploads us (set_of s))
  within_new p i found =
      sym (uploads_same us (set_of s) absent (new_apart (set_of s) us w.models.ordered absent judged) p)
      ∙ at_append p (set_of s) (map (λ (u : Uploaded). u.interface) us)
      ∙ ap (λ (o : Option Interface). or_else_found o (interface_at p (map (λ (u : Uploaded). u.interface) us))) found

  within : IsWithin (set_of s) (set_of (after_uploads s us))
  within = subst (λ (set : List Interface). IsWithin (set_of s) set) (sym now) within_new

  lacks : LacksNone (set_of s)
  lacks = lacks_none (set_of s) w.models.rules

  sound_now : AreSound (after_uploads s us).models
  sound_now = record {
    rules = subst BreaksNoRule (sym now) (with_sound (set_of s) us w.models.ordered absent judged w.models.rules);
    each = subst (AllByRecursion IsSoundInterface) (sym now) (all_with_uploads IsSoundInterface us (set_of s) each w.models.each);
    ordered = subst InOrder (sym now) (uploads_ordered us (set_of s) w.models.ordered absent (new_apart (set_of s) us w.models.ordered absent judged));
  }

  sized : (n : ℕ) × AllTake (set_of (after_uploads s us)) n
  sized = (
    sum_by (share_of (set_of (after_uploads s us))) (set_of (after_uploads s us)),
    all_take (set_of (after_uploads s us)) sound_now.rules (all_map IsSoundInterface HasDeclaration (set_of (after_uploads s us)) (λ i h. h.declaration) sound_now.each) sound_now.ordered,
  )

  limits_now : AreWithinLimits (after_uploads s us).models
  limits_now =
      let full = not_first (ModelsFull s us) _ (not_second (ModelFault s us) _ (not_second (ModelExists s us) _ free)) in
      let few : 10000 < length (after_uploads s us).models → ⊥ = λ over. full (refusals.Full limits.Models) (limits.Models, over, refl) in
      let short : 67108864 < model_bytes (after_uploads s us).models → ⊥ = λ over. full (refusals.Full limits.ModelBytes) (limits.ModelBytes, (few, over), refl) in
      let small : 268435456 < sized.0 → ⊥ = λ over. full (refusals.Full limits.ResolvedBytes) (limits.ResolvedBytes, (few, short, (sized.0, sized.1, over)), refl) in
      record {
        models = omega (arith, few);
        bytes = omega (arith, short);
        resolved = (sized.0, sized.1, omega (arith, small));
      }

  -- ---- twins that become live
  abbrev Ill : Twin → Type 0
  Ill t = (is_live s t ≡ false) × (is_live (after_uploads s us) t ≡ true)
      × ((TwinIsTyped (after_uploads s us) t → ⊥) ⊎ ((l : Link) × Contains s.links l × IsTrue (is_end t.id l) × (LinkIsTyped (after_uploads s us) l → ⊥)))

  not_least : (t : Twin) → IsLeast C (λ (x : Twin). x.id) Ill s.twins t → ⊥
  not_least t least =
      not_second (ModelsFull s us) (TwinDoesNotFit s us) (not_second (ModelFault s us) _ (not_second (ModelExists s us) _ free)) (refusals.TwinDoesNotFit t.id) (
        t,
        record { there = least.0; before = least.1.0; after = least.1.1; ill = least.1.2 },
        (λ other would less. least.2 other would.there (would.before, would.after, would.ill) (less_of (slice_cmp nat_cmp other.id t.id) less)),
        refl,
      )

  none_unfit : (t : Twin) → Contains s.twins t → Ill t → ⊥
  none_unfit t c ill = none_ill C (λ (x : Twin). x.id) Ill s.twins (λ x y. one_way x.id y.id) w.twins not_least t c ill

  before_of : (t : Twin) → interface_of s t.model ≡ None → is_live s t ≡ false
  before_of t none = ap (λ (o : Option Interface). is_some o) none

  after_of : (t : Twin) (i : Interface) → interface_of (after_uploads s us) t.model ≡ Some i → is_live (after_uploads s us) t ≡ true
  after_of t i live = ap (λ (o : Option Interface). is_some o) live

  twin_now : (t : Twin) → Contains s.twins t → (o : Option Interface) → interface_of s t.model ≡ o → TwinIsTyped (after_uploads s us) t
  twin_now t c None e = λ i live. twin_stable (after_uploads s us) t (λ ill. none_unfit t c (before_of t e, after_of t i live, inl ill)) i live
  twin_now t c (Some j) e = λ i live.
      let same : j ≡ i = same_Some j i (sym (within t.model j e) ∙ live) in
      subst (λ (k : Interface). FitsModel (set_of (after_uploads s us)) k t) same
      (fits_by (set_of s) (set_of (after_uploads s us)) j t (inherited_same (set_of s) (set_of (after_uploads s us)) within lacks j (stands (set_of s) t.model j e)) (all_at (TwinIsTyped s) s.twins t w.fit c j e))

  -- ---- relationships
  link_by_twin : (l : Link) → Contains s.links l → (t : Twin) → Contains s.twins t → IsTrue (is_end t.id l) → interface_of s t.model ≡ None → (i : Interface) → interface_of (after_uploads s us) t.model ≡ Some i → LinkIsTyped (after_uploads s us) l
  link_by_twin l c t at ends none i live = link_stable (after_uploads s us) l (λ ill. none_unfit t at (before_of t none, after_of t i live, inr (l, c, ends, ill)))

  suits_now : (u : Twin) (k : Interface) → interface_of s u.model ≡ Some k → (o : Option Identifier) → SuitsTarget s o u → SuitsTarget (after_uploads s us) o u
  suits_now u k e =
      suits_by s (after_uploads s us).models u (λ j on.
      let same : k ≡ j = same_Some k j (sym (within u.model k e) ∙ on) in
      (e ∙ ap Some same, λ d. is_a_same (set_of s) (set_of (after_uploads s us)) within lacks j d (subst (IsThere (set_of s)) same (stands (set_of s) u.model k e))))

  suits_frozen : (u : Twin) → interface_of (after_uploads s us) u.model ≡ None → (o : Option Identifier) → SuitsTarget s o u → SuitsTarget (after_uploads s us) o u
  suits_frozen u none = suits_by s (after_uploads s us).models u (λ j on. absurd (none-some j (sym none ∙ on)))

  old_link : (l : Link) → Contains s.links l → (i : Interface) → IsThere (set_of s) i → (u : Twin) → twin_at l.target s ≡ Some u → ((o : Option Identifier) → SuitsTarget s o u → SuitsTarget (after_uploads s us) o u) → FitsSource s i l → FitsSource (after_uploads s us) i l
  old_link l c i there u at suits f =
      source_by s (after_uploads s us).models i l (contents_same (set_of s) (set_of (after_uploads s us)) within lacks i there) (inherited_same (set_of s) (set_of (after_uploads s us)) within lacks i there)
      (λ o x found h. subst (λ (y : Twin). SuitsTarget (after_uploads s us) o y) (same_Some u x (sym at ∙ found)) (suits o (subst (λ (y : Twin). SuitsTarget s o y) (sym (same_Some u x (sym at ∙ found))) h))) f

  -- a relationship of a source that was live, by what its target was and is
  by_target : (l : Link) → Contains s.links l → (t : Twin) (i j : Interface) → twin_at l.source s ≡ Some t → interface_of s t.model ≡ Some j → interface_of (after_uploads s us) t.model ≡ Some i → (u : Twin) → twin_at l.target s ≡ Some u
      → (o p : Option Interface) → interface_of s u.model ≡ o → interface_of (after_uploads s us) u.model ≡ p → FitsSource (after_uploads s us) i l
  by_target l c t i j found was live u at (Some k) p e f =
      let same : j ≡ i = same_Some j i (sym (within t.model j was) ∙ live) in
      subst (λ (x : Interface). FitsSource (after_uploads s us) x l) same (old_link l c j (stands (set_of s) t.model j was) u at (suits_now u k e) (all_at (LinkIsTyped s) s.links l w.links_fit c t j found was))
  by_target l c t i j found was live u at None None e f =
      let same : j ≡ i = same_Some j i (sym (within t.model j was) ∙ live) in
      subst (λ (x : Interface). FitsSource (after_uploads s us) x l) same (old_link l c j (stands (set_of s) t.model j was) u at (suits_frozen u f) (all_at (LinkIsTyped s) s.links l w.links_fit c t j found was))
  by_target l c t i j found was live u at None (Some k) e f =
      let there = twin_there s l.target u at in
      link_by_twin l c u there.1 (end_target l u.id there.0) e k f t i found live

  by_source : (l : Link) → Contains s.links l → (t : Twin) (i : Interface) → twin_at l.source s ≡ Some t → interface_of (after_uploads s us) t.model ≡ Some i → (o : Option Interface) → interface_of s t.model ≡ o → FitsSource (after_uploads s us) i l
  by_source l c t i found live None e =
      let there = twin_there s l.source t found in
      link_by_twin l c t there.1 (end_source l t.id there.0) e i live t i found live
  by_source l c t i found live (Some j) e =
      let ends : HasEnds s l = all_at (HasEnds s) s.links l w.ends c in
      let u = some_there (twin_at l.target s) (λ none. true≢false (sym (subst (λ (o : Option Twin). IsSome o) none ends.1))) in
      by_target l c t i j found e live u.0 u.1 (interface_of s u.0.model) (interface_of (after_uploads s us) u.0.model) refl refl

  pub models_put : WellTyped (after_uploads s us)
  models_put = record {
    models = sound_now;
    twins = w.twins;
    links = w.links;
    ends = w.ends;
    fit = all_from (TwinIsTyped (after_uploads s us)) s.twins (λ t c. twin_now t c (interface_of s t.model) refl);
    links_fit = all_from (LinkIsTyped (after_uploads s us)) s.links (λ l c t i found live. by_source l c t i found live (interface_of s t.model) refl);
    limits = record {
      models = limits_now;
      twin_bytes = w.limits.twin_bytes;
      link_bytes = w.limits.link_bytes;
      twins = w.limits.twins;
      links = w.limits.links;
      graph_bytes = w.limits.graph_bytes;
    };
  }
