-- A state from which a model went is well typed.
use Rattle.std.proofs.Common.{◌≡◌, ℕ, zero, suc, ◌≤◌, ◌+◌, ◌⊎◌, inl, inr, List, [], ◌∷◌, length, Bool, true, false, cond, not, ◌||◌, ◌&&◌, Some, None, refl, sym, ap, ◌∙◌, subst, true≢false, arith}
use Rattle.std.specs.Prelude.{Contains, slice_get}
use Rattle.std.specs.Option.{option_map}
use Rattle.std.specs.List.{AllByRecursion, filter, list_any, sum_by}
use Rattle.std.proofs.lemmas.Option.{same_Some, none-some}
use Rattle.std.proofs.lemmas.List.Sums.{sum_by-cons}
use Rattle.std.proofs.lemmas.Bool.{or_left, or_right}
use Rattle.dt_base.specs.names.Grammar.{Identifier, dtmi_text, id_eq}
use Rattle.dtdl_terms.specs.Sets.{interface_at, InOrder}
use Rattle.dtdl_terms.specs.Terms.{KindTerm, component}
use Rattle.dtdl_terms.specs.TermViews.{kind_term}
use Rattle.dtdl_terms.specs.declared.content.Content.{Content}
use Rattle.dtdl_terms.specs.declared.interface.Interface.{Interface}
use Rattle.extend_resolve.specs.SetRules.{NamesParent, NamesComponent}
use Rattle.extend_resolve.specs.Breaches.{BreaksNoRule}
use Rattle.extend_resolve.specs.Chains.{IsAncestor}
use Rattle.model_life.specs.resolution.Resolving.{IsWithin, LacksNone, HasPart, IsResolved}
use Rattle.model_life.specs.resolution.Machinery.Families.{IsThere}
use Rattle.model_life.proofs.resolution.ByKey.{from_contains, contained}
use Rattle.model_life.proofs.resolution.Changes.{all_map, same_ancestors, same_resolved, part_stands}
use Rattle.model_life.proofs.resolution.Families.{stands, listed, ancestors_there}
use Rattle.model_life.specs.sets.Changing.{is_one_of, without_interfaces, AreFree}
use Rattle.model_life.proofs.sets.Looking.{one_is, turned, ordered_without}
use Rattle.model_life.proofs.sets.Sound.{rest_within, rest_whole, rest_sound}
use Rattle.graph_asks.specs.declared.refusal.Refusal.{Refusal}
use Rattle.graph_asks.specs.declared.refusal.Refusal.TheVariants as refusals
use Rattle.model_life.specs.Models.{Model, interfaces_of, without_models, is_component, uses, is_user, first_user}
use Rattle.model_life.specs.Sums.{text_bytes, bytes_in, bytes_of, LineTakes, ResolvedTakes, AllTake, AreWithinLimits}
use Rattle.model_life.proofs.Leaving.{all_filter}
use Rattle.model_life.proofs.Taking.{sum_same}
use Rattle.graph_steps.specs.States.{State, Twin, Link, set_of, interface_of}
use Rattle.local_rules.specs.Soundness.{IsSoundInterface}
use Rattle.graph_steps.specs.Typed.{AreSound, TwinIsTyped, LinkIsTyped, WellTyped}
use Rattle.graph_steps.specs.ModelAsks.{ModelNotFound, ModelInUse, RefusesDropModel, after_drop}
use Rattle.graph_steps.proofs.invariants.Lists.{all_at}
use Rattle.graph_steps.proofs.invariants.Unrefused.{not_second, none_there}
use Rattle.graph_steps.proofs.invariants.Sets.{inherited_same, contents_same, is_a_same}
use Rattle.graph_steps.proofs.invariants.Models.{fits_by, source_by, suits_by}

-- ---- who uses a model
any_placed : {A : Type 0} (p : A → Bool) (xs : List A) (k : ℕ) (x : A) → slice_get xs k ≡ Some x → p x ≡ true → list_any p xs ≡ true
any_placed p [] k x e is = absurd (none-some x e)
any_placed p (y ∷ ys) zero x e is = ap (λ b. b || list_any p ys) (ap p (same_Some y x e) ∙ is)
any_placed p (y ∷ ys) (suc k) x e is = ap (λ b. p y || b) (any_placed p ys k x e is) ∙ either (p y)
  where
    either : (b : Bool) → (b || true) ≡ true
    either true = refl
    either false = refl

of_component : (id : Identifier) (k : KindTerm) (p : Identifier) → k ≡ component p → id_eq id p ≡ true → is_component id k ≡ true
of_component id k p e same = ap (is_component id) e ∙ same

uses_named : (id p : Identifier) (i : Interface) (k : ℕ) → NamesParent i k p ⊎ NamesComponent i k p → id_eq id p ≡ true → uses id i ≡ true
uses_named id p i k (inl named) same = or_left (list_any (id_eq id) i.parents) _ (any_placed (id_eq id) i.parents k p named same)
uses_named id p i k (inr (c, at, of)) same =
    or_right (list_any (id_eq id) i.parents) _ (any_placed (λ (d : Content). is_component id (kind_term d.kind)) i.contents k c at (of_component id (kind_term c.kind) p of same))

none_kept : (p : Model → Bool) (ms : List Model) → option_map (λ (m : Model). m.interface.id) (slice_get (filter p ms) 0) ≡ None → AllByRecursion (λ m. p m ≡ false) ms
none_kept p [] e = tt
none_kept p (m ∷ ms) e =
    elim (p m) as (λ b. p m ≡ b → option_map (λ (n : Model). n.interface.id) (slice_get (cond b (m ∷ filter p ms) (filter p ms)) 0) ≡ None → (p m ≡ false) × AllByRecursion (λ n. p n ≡ false) ms) [
      | true ↦ λ is h. absurd (none-some m.interface.id (sym h))
      | false ↦ λ is h. (is, none_kept p ms h)
    ] refl e

used_only : (a b : Bool) → a ≡ true → (a && not b) ≡ false → b ≡ true
used_only true true e h = refl
used_only true false e h = absurd (true≢false h)
used_only false b e h = absurd (true≢false (sym e))

pub unused_free : (id : Identifier) (ms : List Model) → first_user id ms ≡ None → AreFree (interfaces_of ms) (id ∷ [])
unused_free id ms none i k p there named gone =
    let c = contained (λ (j : Interface). j.id) dtmi_text (dtmi_text i.id) (interfaces_of ms) i there in
    let m = from_contains (λ (n : Model). n.interface) ms i c in
    let off = all_at (λ (n : Model). is_user id n ≡ false) ms m.0 (none_kept (is_user id) ms none) m.1 in
    let off_i : (uses id i && not (id_eq id i.id)) ≡ false = subst (λ (j : Interface). (uses id j && not (id_eq id j.id)) ≡ false) m.2 off in
    let same : id_eq id p ≡ true = turned id p ∙ sym (one_is id p) ∙ gone in
    one_is id i.id ∙ turned i.id id ∙ used_only (uses id i) (id_eq id i.id) (uses_named id p i k named same) off_i

-- ---- what is left
pub same_left : (ids : List Identifier) (ms : List Model) → interfaces_of (without_models ids ms) ≡ without_interfaces ids (interfaces_of ms)
same_left ids [] = refl
same_left ids (m ∷ ms) =
    elim (is_one_of ids m.interface.id) as (λ b. interfaces_of (cond (not b) (m ∷ without_models ids ms) (without_models ids ms)) ≡ cond (not b) (m.interface ∷ without_interfaces ids (interfaces_of ms)) (without_interfaces ids (interfaces_of ms))) [
      | true ↦ same_left ids ms
      | false ↦ ap (λ (is : List Interface). m.interface ∷ is) (same_left ids ms)
    ]

length_left : {A : Type 0} (p : A → Bool) (xs : List A) → length (filter p xs) ≤ length xs
length_left p [] = omega arith
length_left p (x ∷ xs) =
    let less = length_left p xs in
    elim (p x) as (λ b. length (cond b (x ∷ filter p xs) (filter p xs)) ≤ length (x ∷ xs)) [
      | true ↦ omega (arith, less)
      | false ↦ omega (arith, less)
    ]

sum_left : {A : Type 0} (f : A → ℕ) (p : A → Bool) (xs : List A) → sum_by f (filter p xs) ≤ sum_by f xs
sum_left f p [] = omega arith
sum_left f p (x ∷ xs) =
    let less = sum_left f p xs in
    let all = sum_by-cons f x xs in
    let kept = sum_by-cons f x (filter p xs) in
    elim (p x) as (λ b. sum_by f (cond b (x ∷ filter p xs) (filter p xs)) ≤ sum_by f (x ∷ xs)) [
      | true ↦ omega (arith, less, all, kept)
      | false ↦ omega (arith, less, all)
    ]

-- ---- what the rest takes
module _ (small large : List Interface) (within : IsWithin small large) (whole : LacksNone small) where
  same_bytes : (i : Interface) (ids : List Identifier) → IsThere small i → ((id : Identifier) → Contains ids id → (a : Interface) × IsAncestor small i a × (id ≡ a.id)) → bytes_of small ids ≡ bytes_of large ids
  same_bytes i ids there listed_by = sum_same (λ id. bytes_in (interface_at id small)) (λ id. bytes_in (interface_at id large)) ids each
    where
      each : (id : Identifier) → Contains ids id → bytes_in (interface_at id small) ≡ bytes_in (interface_at id large)
      each id c =
          let a = listed_by id c in
          let up : IsThere small a.0 = ancestors_there small i a.0 there a.1 in
          let found : interface_at id small ≡ Some a.0 = ap (λ (q : Identifier). interface_at q small) a.2 ∙ up in
          ap bytes_in (found ∙ sym (within id a.0 found))

  line_takes : (q : Interface) (n : ℕ) → IsThere small q → LineTakes large q n → LineTakes small q n
  line_takes q n there (r, is, sum) =
      let own : IsResolved small q r = (same_resolved small large within whole q r there).1 is in
      (r, own, same_bytes q r.ancestors there (λ id c. (own.ancestors.each id).0 c) ∙ sum)

  takes : (i : Interface) (n : ℕ) → IsThere small i → ResolvedTakes large i n → ResolvedTakes small i n
  takes i n there t =
      let own : IsResolved small i t.resolved = (same_resolved small large within whole i t.resolved there).1 t.is in
      record {
        resolved = t.resolved;
        is = own;
        line_of = t.line_of;
        lines = λ q part. line_takes q (t.line_of q.id) (part_stands small large within whole i q part) (t.lines q (part_up i q there part));
        sum = ap (λ (b : ℕ). b + sum_by (λ p. t.line_of p.of) t.resolved.parts) (same_bytes i t.resolved.ancestors there (λ id c. (own.ancestors.each id).0 c)) ∙ t.sum;
      }
    where
      part_up : (j q : Interface) → IsThere small j → HasPart small j q → HasPart large j q
      part_up j q on part =
          let has = part.2 in
          (part.0, part.1, (has.0, (same_ancestors small large within whole j has.0 on).0 has.1, has.2, has.3), part.3, within part.1 q part.4)

-- ---- a model goes
module _ (s : State) (id : Identifier) (w : WellTyped s) (free : (r : Refusal) → RefusesDropModel s id r → ⊥) where
  unused : AreFree (set_of s) (id ∷ [])
  unused = unused_free id s.models (none_there (first_user id s.models) (λ by e. not_second (ModelNotFound s id) (ModelInUse s id) free (refusals.ModelInUse (dtmi_text by)) (by, e, refl)))

  abbrev rest : List Interface
  rest = without_interfaces (id ∷ []) (set_of s)

  left : set_of (after_drop s id) ≡ rest
  left = same_left (id ∷ []) s.models

  within_old : IsWithin rest (set_of s)
  within_old = rest_within (set_of s) (id ∷ []) w.models.ordered w.models.rules unused

  lacks : LacksNone rest
  lacks = rest_whole (set_of s) (id ∷ []) w.models.ordered w.models.rules unused

  within_now : IsWithin (set_of (after_drop s id)) (set_of s)
  within_now = subst (λ (set : List Interface). IsWithin set (set_of s)) (sym left) within_old

  lacks_now : LacksNone (set_of (after_drop s id))
  lacks_now = subst LacksNone (sym left) lacks

  sound_now : AreSound (after_drop s id).models
  sound_now = record {
    rules = subst BreaksNoRule (sym left) (rest_sound (set_of s) (id ∷ []) w.models.ordered w.models.rules unused);
    each = subst (AllByRecursion IsSoundInterface) (sym left) (all_filter IsSoundInterface _ (set_of s) w.models.each);
    ordered = subst InOrder (sym left) (ordered_without (id ∷ []) (set_of s) w.models.ordered);
  }

  all_take : (n : ℕ) → AllTake (set_of s) n → (n ≤ 268435456) → (m : ℕ) × AllTake rest m × (m ≤ 268435456)
  all_take n t low =
      let less = sum_left t.bytes_for (λ (i : Interface). not (is_one_of (id ∷ []) i.id)) (set_of s) in
      let is = t.sum in (
        sum_by t.bytes_for rest,
        record {
          bytes_for = t.bytes_for;
          each = λ i c.
              let there : IsThere rest i = (listed rest (ordered_without (id ∷ []) (set_of s) w.models.ordered) i).0 c in
              takes rest (set_of s) within_old lacks i (t.bytes_for i) there (t.each i (contained (λ (j : Interface). j.id) dtmi_text (dtmi_text i.id) (set_of s) i (within_old i.id i there)));
          sum = refl;
        },
        omega (arith, less, is, low),
      )

  limits_now : AreWithinLimits (after_drop s id).models
  limits_now =
      let within = w.limits.models in
      let many = within.models in
      let long = within.bytes in
      let fewer = length_left (λ (m : Model). not (is_one_of (id ∷ []) m.interface.id)) s.models in
      let shorter = sum_left (λ (m : Model). text_bytes m.interface) (λ (m : Model). not (is_one_of (id ∷ []) m.interface.id)) s.models in
      record {
        models = omega (arith, many, fewer);
        bytes = omega (arith, long, shorter);
        resolved = subst (λ (set : List Interface). (n : ℕ) × AllTake set n × (n ≤ 268435456)) (sym left) (all_take within.resolved.0 within.resolved.1 within.resolved.2);
      }

  there_now : (model : Identifier) (i : Interface) → interface_of (after_drop s id) model ≡ Some i → IsThere (set_of (after_drop s id)) i
  there_now model i live = stands (set_of (after_drop s id)) model i live

  twin_now : (t : Twin) → TwinIsTyped s t → TwinIsTyped (after_drop s id) t
  twin_now t typed = λ i live. fits_by (set_of s) (set_of (after_drop s id)) i t (sym (inherited_same (set_of (after_drop s id)) (set_of s) within_now lacks_now i (there_now t.model i live))) (typed i (within_now t.model i live))

  link_now : (l : Link) → LinkIsTyped s l → LinkIsTyped (after_drop s id) l
  link_now l typed = λ t i found live.
      let there = there_now t.model i live in
      source_by s (after_drop s id).models i l (sym (contents_same (set_of (after_drop s id)) (set_of s) within_now lacks_now i there)) (sym (inherited_same (set_of (after_drop s id)) (set_of s) within_now lacks_now i there))
      (λ o u at. suits_by s (after_drop s id).models u (λ j on. (within_now u.model j on, λ d. sym (is_a_same (set_of (after_drop s id)) (set_of s) within_now lacks_now j d (there_now u.model j on)))) o) (typed t i found (within_now t.model i live))

  pub model_dropped : WellTyped (after_drop s id)
  model_dropped = record {
    models = sound_now;
    twins = w.twins;
    links = w.links;
    ends = w.ends;
    fit = all_map (TwinIsTyped s) (TwinIsTyped (after_drop s id)) s.twins twin_now w.fit;
    links_fit = all_map (LinkIsTyped s) (LinkIsTyped (after_drop s id)) s.links link_now w.links_fit;
    limits = record {
      models = limits_now;
      twin_bytes = w.limits.twin_bytes;
      link_bytes = w.limits.link_bytes;
      twins = w.limits.twins;
      links = w.limits.links;
      graph_bytes = w.limits.graph_bytes;
    };
  }
