-- Twins that would be live again, and would not fit: those of the models that come.
use Rattle.std.proofs.Common.{◌≡◌, ◌↔◌, ◌⊎◌, inl, inr, ℕ, ◌+◌, ◌<◌, ◌++◌, List, [], ◌∷◌, map, take, length, slice_index_or, true, false, cond, Bor, Option, Some, None, refl, sym, ap, ◌∙◌, subst, true≢false, Ordering, Less, is_eq, arith}
use Rattle.std.specs.Prelude.{Contains, IsTrue, IsSome}
use Rattle.std.specs.Cmp.{IsTotalOrder}
use Rattle.std.specs.List.{AllByRecursion, filter}
use Rattle.std.specs.List.Sorted.{IsStrictlySortedBy}
use Rattle.std.specs.Map.{values_of}
use Rattle.std.specs.BTreeMap.{insert_entry}
use Rattle.std.specs.Option.{is_some, option_copied, option_map}
use Rattle.std.specs.Ordering.{is_lt, match_ordering, nat_cmp, ordering_reverse}
use Rattle.std.specs.Cmp.Lexicographic.{slice_cmp}
use Rattle.std.proofs.lemmas.Cmp.{tied_itself}
use Rattle.std.proofs.lemmas.Map.Keys.{sorted_head, sorted_tail}
use Rattle.std.proofs.lemmas.Option.{same_Some, none-some}
use Rattle.ordered_table.proofs.Flat.{C, c_total}
use Rattle.dt_base.specs.names.Grammar.{Identifier, dtmi_text, id_cmp}
use Rattle.dtdl_terms.specs.Sets.{interface_at, with_interface}
use Rattle.dtdl_terms.specs.declared.interface.Interface.{Interface}
use Rattle.dtdl_terms.specs.declared.uploaded.Uploaded.{Uploaded}
use Rattle.model_life.proofs.resolution.ByKey.{contains_map, from_contains, in_found, same_spelling, alike}
use Rattle.model_life.proofs.resolution.Reaching.{filter_down, filter_up}
use Rattle.model_life.specs.sets.Changing.{with_uploads}
use Rattle.model_life.proofs.sets.Apart.{contains_append, contains_head, contains_tail, uncons}
use Rattle.model_life.proofs.sets.Looking.{at_text}
use Rattle.model_life.specs.Models.{Model, interfaces_of, model_at}
use Rattle.model_life.specs.Refusals.{AreNew}
use Rattle.model_life.proofs.Refused.{interfaces_with}
use Rattle.graph_steps.specs.twins.Held.{TwinsInOrder, is_twin_of, of_model, id_of}
use Rattle.graph_steps.specs.declared.twins.held.Held.{Held}
use Rattle.twin_value.specs.declared.twin.Twin as values
use Rattle.graph_steps.specs.ModelAsks.{after_uploads, WouldNotFit}
use Rattle.graph_steps.specs.States.{State, Twin, Link, interface_of, is_live, set_of, twin_at, with_twin}
use Rattle.graph_steps.specs.Typed.{FitsModel, TwinIsTyped}
use Rattle.graph_steps.specs.TwinAsks.{WouldBeIll}
use Rattle.graph_steps.specs.bodies.Kept.{twin_view, IsKeptTwin}
use Rattle.graph_steps.proofs.invariants.Keyed.{entries, values-entries, all-with}
use Rattle.graph_steps.proofs.invariants.Lists.{all_at, all_from}
use Rattle.graph_steps.proofs.invariants.Twins.{twin_stands, twin_there}
use Rattle.graph_steps.specs.held.Held.{Holding, twin_of, link_of, state_of, IsHeldTwin}
use Rattle.graph_steps.specs.declared.held.stored.Stored.{Stored}
use Rattle.rel_graph.specs.declared.edge.Edge.{Edge}
use Rattle.graph_judges.specs.fits.Ill.{IsLeastIll, IsLeastMisfit}
use Rattle.graph_judges.specs.fits.Machinery.Firsts.{IsFirstOf, IsLeastOf, lesser}
use Rattle.graph_judges.specs.fits.Machinery.Judged.{Misfits, MisfitsOf, MisfitsAmong, StandsLive}
use Rattle.graph_judges.proofs.fits.Least.{first_least, least_same, lesser_least, sorted_passing}
use Rattle.twin_value.proofs.Enumerated.{take-more}

not_in_none : {X : Type 0} (x : X) → Contains [] x → ⊥
not_in_none x (k, low, is) = omega (arith, low)

-- ---- one that stands at its place already
module _ {K X : Type 0} (key : X → K) (R : K → K → Ordering) (total : IsTotalOrder R) where
  later : (y : X) (ys : List X) → AllByRecursion (λ k. R (key y) k ≡ Less) (map key ys) → AllByRecursion (λ x. R (key y) (key x) ≡ Less) ys
  later y [] all = tt
  later y (x ∷ xs) all = (all.0, later y xs all.1)

  same-with : (x : X) (xs : List X) → IsStrictlySortedBy R (map key xs) → Contains xs x → values_of (insert_entry R (entries key xs) (key x) x) ≡ xs
  same-with x [] sorted c = absurd (not_in_none x c)
  same-with x (y ∷ ys) sorted c =
      elim (uncons y ys x c) [
        | inl same ↦
            ap (λ o. values_of (match_ordering o ((key x, x) ∷ (key y, y) ∷ entries key ys) ((key y, x) ∷ entries key ys) ((key y, y) ∷ insert_entry R (entries key ys) (key x) x))) (ap (λ (z : X). R (key x) (key z)) same ∙ tied_itself total (key x))
            ∙ ap (λ (zs : List X). x ∷ zs) (values-entries key ys)
            ∙ ap (λ (z : X). z ∷ ys) (sym same)
        | inr d ↦
            let less : R (key y) (key x) ≡ Less = all_at (λ (z : X). R (key y) (key z) ≡ Less) ys x (later y ys (sorted_head R (key y) (map key ys) sorted)) d in
            ap (λ o. values_of (match_ordering o ((key x, x) ∷ (key y, y) ∷ entries key ys) ((key y, x) ∷ entries key ys) ((key y, y) ∷ insert_entry R (entries key ys) (key x) x))) (total.antisymm (key x) (key y) ∙ ap ordering_reverse less)
            ∙ ap (λ (zs : List X). y ∷ zs) (same-with x ys (sorted_tail R (key y) (map key ys) sorted) d)
      ]

-- ---- twins in order
ids_seen : (hs : List Held) → map (λ (t : Twin). t.id) (map twin_of hs) ≡ map id_of hs
ids_seen [] = refl
ids_seen (h ∷ hs) = ap (λ (ids : List (List ℕ)). h.twin.id ∷ ids) (ids_seen hs)

seen_order : (h : Holding) → TwinsInOrder h.twins → IsStrictlySortedBy (slice_cmp nat_cmp) (map (λ (t : Twin). t.id) (state_of h).twins)
seen_order h order = subst (IsStrictlySortedBy (slice_cmp nat_cmp)) (sym (ids_seen h.twins)) order

pub with_same : (h : Holding) (t : Twin) → TwinsInOrder h.twins → twin_at t.id (state_of h) ≡ Some t → with_twin t (state_of h) ≡ state_of h
with_same h t order there =
    ap (λ (ts : List Twin). record { models = h.models; twins = ts; links = (state_of h).links })
    (same-with (λ (u : Twin). u.id) C c_total t (state_of h).twins (seen_order h order) (twin_there (state_of h) t.id t there).1)

-- ---- the twins of a model
module _ (h : Holding) (model : Identifier) where
  of_its : (t : values.Twin) → Contains (of_model model h.twins) t → (x : Held) × Contains h.twins x × (dtmi_text model ≡ dtmi_text t.model) × (x.twin ≡ t)
  of_its t c =
      let x = from_contains (λ (g : Held). g.twin) (filter (is_twin_of model) h.twins) t c in
      let f = filter_down (is_twin_of model) h.twins x.0 x.1 in
      (x.0, f.0, same_spelling (dtmi_text model) (dtmi_text x.0.twin.model) f.1 ∙ ap (λ (u : values.Twin). dtmi_text u.model) x.2, x.2)

  to_its : (x : Held) → Contains h.twins x → dtmi_text model ≡ dtmi_text x.twin.model → Contains (of_model model h.twins) x.twin
  to_its x c same =
      contains_map (λ (g : Held). g.twin) (filter (is_twin_of model) h.twins) x
      (filter_up (is_twin_of model) h.twins x c (ap (λ (q : List ℕ). is_eq (C (dtmi_text model) q)) (sym same) ∙ ap is_eq (alike (dtmi_text model))))

  one_stands : (i : Interface) → Some i ≡ interface_of (state_of h) model → TwinsInOrder h.twins → AllByRecursion IsHeldTwin h.twins → (t : values.Twin) → Contains (of_model model h.twins) t → StandsLive h i t
  one_stands i live order held t c =
      let x = of_its t c in
      record {
        model = sym (at_text model t.model (set_of (state_of h)) x.2) ∙ sym live;
        own = in_found (λ (j : Interface). j.id) dtmi_text (dtmi_text model) (set_of (state_of h)) i (sym live);
        there = twin_stands (state_of h) (twin_view t) (seen_order h order) (subst (λ (u : values.Twin). Contains (state_of h).twins (twin_view u)) x.3 (contains_map twin_of h.twins x.0 x.1));
        ordered = order;
        kept = subst (λ (u : values.Twin). IsKeptTwin (twin_view u)) x.3 (all_at IsHeldTwin h.twins x.0 held x.1).kept;
      }

  pub all_stand : (i : Interface) → Some i ≡ interface_of (state_of h) model → TwinsInOrder h.twins → AllByRecursion IsHeldTwin h.twins → AllByRecursion (StandsLive h i) (of_model model h.twins)
  all_stand i live order held = all_from (StandsLive h i) (of_model model h.twins) (one_stands i live order held)

  ids_of_its : (hs : List Held) → map (λ (t : values.Twin). t.id) (map (λ (g : Held). g.twin) hs) ≡ map id_of hs
  ids_of_its [] = refl
  ids_of_its (g ∷ gs) = ap (λ (ids : List (List ℕ)). g.twin.id ∷ ids) (ids_of_its gs)

  -- the first of them that does not fit is the least
  pub model_least : (i : Interface) → Some i ≡ interface_of (state_of h) model → TwinsInOrder h.twins → (o : Option values.Twin) → IsFirstOf (λ (t : values.Twin). Misfits (state_of h) (twin_view t)) (of_model model h.twins) o
      → IsLeastOf (λ a b. slice_cmp nat_cmp a.id b.id) (MisfitsOf h model) o
  model_least i live order o first =
      least_same (λ (a b : values.Twin). slice_cmp nat_cmp a.id b.id) (λ (t : values.Twin). Contains (of_model model h.twins) t × Misfits (state_of h) (twin_view t)) (MisfitsOf h model)
      (λ t both. (subst (λ (p : Option Interface). IsSome p) live refl, both.0, both.1)) (λ t its. (its.1, its.2)) o
      (first_least C c_total (λ (t : values.Twin). t.id) (λ (t : values.Twin). Misfits (state_of h) (twin_view t)) (of_model model h.twins)
      (subst (IsStrictlySortedBy (slice_cmp nat_cmp)) (sym (ids_of_its (filter (is_twin_of model) h.twins))) (sorted_passing C c_total id_of (is_twin_of model) h.twins order)) o first)

-- ---- the models so far, and one more
contains_left : {X : Type 0} (xs ys : List X) (x : X) → Contains xs x → Contains (xs ++ ys) x
contains_left [] ys x c = absurd (not_in_none x c)
contains_left (z ∷ xs) ys x c = elim (uncons z xs x c) [ inl same ↦ subst (Contains (z ∷ xs ++ ys)) same (contains_head z (xs ++ ys)) | inr d ↦ contains_tail z (xs ++ ys) x (contains_left xs ys x d) ]

contains_last : {X : Type 0} (xs : List X) (x : X) → Contains (xs ++ x ∷ []) x
contains_last [] x = contains_head x []
contains_last (z ∷ xs) x = contains_tail z (xs ++ x ∷ []) x (contains_last xs x)

module _ (h : Holding) (us : List Uploaded) (n : ℕ) (u : Uploaded) (within : n < length us) (is : u ≡ slice_index_or us n u) where
  next : take (n + 1) us ≡ take n us ++ u ∷ []
  next = take-more us n u within is

  with_next : (t : values.Twin) → MisfitsAmong h (take n us) t ⊎ MisfitsOf h u.interface.id t → MisfitsAmong h (take (n + 1) us) t
  with_next t (inl (v, c, its)) = (v, subst (λ (vs : List Uploaded). Contains vs v) (sym next) (contains_left (take n us) (u ∷ []) v c), its)
  with_next t (inr its) = (u, subst (λ (vs : List Uploaded). Contains vs u) (sym next) (contains_last (take n us) u), its)

  from_next : (t : values.Twin) → MisfitsAmong h (take (n + 1) us) t → MisfitsAmong h (take n us) t ⊎ MisfitsOf h u.interface.id t
  from_next t (v, c, its) =
      elim (contains_append (take n us) (u ∷ []) v (subst (λ (vs : List Uploaded). Contains vs v) next c)) [
        | inl d ↦ inl (v, d, its)
        | inr d ↦ elim (uncons u [] v d) [ inl same ↦ inr (subst (λ (x : Uploaded). MisfitsOf h x.interface.id t) (sym same) its) | inr e ↦ absurd (not_in_none v e) ]
      ]

  pub next_least : (least found : Option values.Twin) → IsLeastOf (λ a b. slice_cmp nat_cmp a.id b.id) (MisfitsAmong h (take n us)) least → IsLeastOf (λ a b. slice_cmp nat_cmp a.id b.id) (MisfitsOf h u.interface.id) found
      → IsLeastOf (λ a b. slice_cmp nat_cmp a.id b.id) (MisfitsAmong h (take (n + 1) us)) (lesser (λ a b. slice_cmp nat_cmp a.id b.id) least found)
  next_least least found so_far new =
      least_same (λ (a b : values.Twin). slice_cmp nat_cmp a.id b.id) (λ (t : values.Twin). MisfitsAmong h (take n us) t ⊎ MisfitsOf h u.interface.id t) (MisfitsAmong h (take (n + 1) us)) with_next from_next (lesser (λ (a b : values.Twin). slice_cmp nat_cmp a.id b.id) least found)
      (lesser_least C c_total (λ (t : values.Twin). t.id) (MisfitsAmong h (take n us)) (MisfitsOf h u.interface.id) least found so_far new)

-- ---- one twin
module _ (h : Holding) (i : Interface) (t : values.Twin) (stands : StandsLive h i t) where
  abbrev s : State
  s = state_of h

  same : with_twin (twin_view t) s ≡ s
  same = with_same h (twin_view t) stands.ordered stands.there

  pub unfit : (FitsModel (set_of s) i (twin_view t) → ⊥) → IsTrue true ↔ Misfits s (twin_view t)
  unfit unlike = (λ on. inl (λ typed. unlike (typed i stands.model)), λ bad. refl)

  typed : FitsModel (set_of s) i (twin_view t) → TwinIsTyped s (twin_view t)
  typed fits = λ j live. subst (λ (x : Interface). FitsModel (set_of s) x (twin_view t)) (same_Some i j (sym stands.model ∙ live)) fits

  pub by_ends : FitsModel (set_of s) i (twin_view t) → (o : Option (Edge Stored)) → IsLeastIll (with_twin (twin_view t) s) t.id o → IsTrue (is_some o) ↔ Misfits s (twin_view t)
  by_ends fits None none = (
    λ on. absurd (true≢false (sym on)),
    λ bad. elim bad [
      | inl unlike ↦ absurd (unlike (typed fits))
      | inr (l, c, ends, ill) ↦ absurd (subst (λ (x : State). (k : Link) → WouldBeIll x t.id k → ⊥) same none l (record { there = c; ends = ends; ill = ill }))
    ],
  )
  by_ends fits (Some e) least = (
    λ on. let w = subst (λ (x : State). WouldBeIll x t.id (link_of e)) same least.0 in inr (link_of e, w.there, w.ends, w.ill),
    λ bad. refl,
  )

-- ---- models that come
module _ (p : Identifier) where
  abbrev IsOther : Interface → Type 0
  IsOther i = is_eq (id_cmp p i.id) ≡ false

  others : (set : List Interface) → interface_at p set ≡ None → AllByRecursion IsOther set
  others [] none = tt
  others (i ∷ set) none =
      elim (is_eq (id_cmp p i.id)) as (λ b. is_eq (id_cmp p i.id) ≡ b → cond b (Some i) (interface_at p set) ≡ None → IsOther i × AllByRecursion IsOther set) [
        | true ↦ λ e h. absurd (none-some i (sym h))
        | false ↦ λ e h. (e, others set h)
      ] refl none

  not_among : (set : List Interface) → AllByRecursion IsOther set → interface_at p set ≡ None
  not_among [] all = refl
  not_among (i ∷ set) all = ap (λ b. cond b (Some i) (interface_at p set)) all.0 ∙ not_among set all.1

  came : (us : List Uploaded) (set : List Interface) (i : Interface) → AllByRecursion IsOther set → interface_at p (with_uploads us set) ≡ Some i → (u : Uploaded) × Contains us u × (dtmi_text u.interface.id ≡ dtmi_text p)
  came [] set i all found = absurd (none-some i (sym (not_among set all) ∙ found))
  came (u ∷ us) set i all found =
      elim (is_eq (id_cmp p u.interface.id)) as (λ b. is_eq (id_cmp p u.interface.id) ≡ b → (v : Uploaded) × Contains (u ∷ us) v × (dtmi_text v.interface.id ≡ dtmi_text p)) [
        | true ↦ λ e. (u, contains_head u us, sym (same_spelling (dtmi_text p) (dtmi_text u.interface.id) e))
        | false ↦ λ e.
            let more = came us (with_interface u.interface set) i (all-with (λ (j : Interface). j.id) id_cmp IsOther u.interface set e all) found in
            (more.0, contains_tail u us more.0 more.1, more.2)
      ] refl

interface_absent : (id : Identifier) (ms : List Model) → model_at id ms ≡ None → interface_at id (interfaces_of ms) ≡ None
interface_absent id [] none = refl
interface_absent id (m ∷ ms) none =
    elim (is_eq (id_cmp id m.interface.id)) as (λ b. cond b (Some m) (model_at id ms) ≡ None → cond b (Some m.interface) (interface_at id (interfaces_of ms)) ≡ None) [
      | true ↦ λ h. absurd (none-some m (sym h))
      | false ↦ λ h. interface_absent id ms h
    ] none

live_some : (o : Option Interface) → is_some o ≡ true → (i : Interface) × (o ≡ Some i)
live_some None h = absurd (true≢false (sym h))
live_some (Some i) h = (i, refl)

frozen_none : (o : Option Interface) → is_some o ≡ false → o ≡ None
frozen_none None h = refl
frozen_none (Some i) h = absurd (true≢false h)

some_live : (o : Option Interface) → IsSome o → is_some o ≡ true
some_live None h = h
some_live (Some i) h = refl

module _ (h : Holding) (old : State) (us : List Uploaded) (lent : after_uploads old us ≡ state_of h) (new : AreNew old.models us) where
  would_not : (t : values.Twin) → MisfitsAmong h us t → WouldNotFit old us (twin_view t)
  would_not t (u, c, its) =
      let x = of_its h u.interface.id t its.1 in
      let absent : interface_at u.interface.id (set_of old) ≡ None = interface_absent u.interface.id old.models (all_at (λ (v : Uploaded). model_at v.interface.id old.models ≡ None) us u new c) in
      record {
        there = subst (λ (z : State). Contains z.twins (twin_view t)) (sym lent) (subst (λ (v : values.Twin). Contains (state_of h).twins (twin_view v)) x.3 (contains_map twin_of h.twins x.0 x.1));
        before = ap (λ (o : Option Interface). is_some o) (sym (at_text u.interface.id t.model (set_of old) x.2) ∙ absent);
        after = subst (λ (z : State). is_live z (twin_view t) ≡ true) (sym lent) (ap (λ (o : Option Interface). is_some o) (sym (at_text u.interface.id t.model (set_of (state_of h)) x.2)) ∙ some_live (interface_of (state_of h) u.interface.id) its.0);
        ill = subst (λ (z : State). Misfits z (twin_view t)) (sym lent) its.2;
      }

  held : (w : Twin) → WouldNotFit old us w → (t : values.Twin) × MisfitsAmong h us t × (twin_view t ≡ w)
  held w would =
      let x = from_contains twin_of h.twins w (subst (λ (z : State). Contains z.twins w) lent would.there) in
      let now = live_some (interface_of (after_uploads old us) w.model) would.after in
      let u = came w.model us (set_of old) now.0 (others w.model (set_of old) (frozen_none (interface_of old w.model) would.before)) (sym (ap (interface_at w.model) (interfaces_with us old.models)) ∙ now.1) in
      let spelled : dtmi_text u.0.interface.id ≡ dtmi_text x.0.twin.model = u.2 ∙ ap (λ (z : Twin). dtmi_text z.model) (sym x.2) in (
        x.0.twin,
        (
          u.0,
          u.1,
          (
            subst (λ (o : Option Interface). IsSome o) (sym (at_text u.0.interface.id w.model (set_of (state_of h)) u.2 ∙ subst (λ (z : State). interface_of z w.model ≡ Some now.0) lent now.1)) refl,
            to_its h u.0.interface.id x.0 x.1 spelled,
            subst (λ (z : Twin). Misfits (state_of h) z) (sym x.2) (subst (λ (z : State). Misfits z w) lent would.ill),
          ),
        ),
        x.2,
      )

  pub misfit_told : (o : Option values.Twin) → IsLeastOf (λ a b. slice_cmp nat_cmp a.id b.id) (MisfitsAmong h us) o → IsLeastMisfit old us (option_map (λ (t : values.Twin). t.id) o)
  misfit_told None none = λ r (t, would, rest, is). let x = held t would in none x.0 x.1
  misfit_told (Some t) least = (
    twin_view t,
    would_not t least.0,
    (λ other would less. let x = held other would in least.1 x.0 x.1 (subst (λ (z : Twin). IsTrue (is_lt (slice_cmp nat_cmp z.id t.id))) (sym x.2) less)),
    refl,
  )

pub some_copied : {X : Type 0} (o : Option (Bor X)) → is_some (option_copied o) ≡ is_some o
some_copied None = refl
some_copied (Some x) = refl
