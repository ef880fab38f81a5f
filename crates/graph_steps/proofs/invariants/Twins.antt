-- Twins by their ids, where one comes, takes the place of another, or goes.
use Rattle.std.proofs.Common.{◌≡◌, ℕ, List, [], ◌∷◌, map, Bool, true, false, cond, bytes_eq, Option, Some, None, refl, sym, ap, ◌∙◌, subst, is_eq}
use Rattle.std.specs.Prelude.{Contains, IsSome}
use Rattle.std.specs.Ordering.{nat_cmp}
use Rattle.std.specs.Cmp.Lexicographic.{slice_cmp}
use Rattle.std.specs.List.{find}
use Rattle.std.specs.List.Sorted.{IsStrictlySortedBy}
use Rattle.std.specs.Map.{lookup}
use Rattle.std.specs.BTreeMap.{is_at}
use Rattle.std.proofs.lemmas.Cmp.{eq_by_cmp_equiv}
use Rattle.std.proofs.lemmas.Map.Lookups.{exact_bytes}
use Rattle.std.proofs.lemmas.Slice.Eq.{bytes_eq-Decides}
use Rattle.ordered_table.proofs.Flat.{C, c_total}
use Rattle.model_life.proofs.resolution.ByKey.{in_contained}
use Rattle.graph_steps.specs.States.{State, Twin, twin_at, keyed_twins, with_twin, without_twin}
use Rattle.graph_steps.proofs.invariants.Lists.{found_passes}
use Rattle.graph_steps.proofs.invariants.Keyed.{tests, itself, at-with, at-without, sorted-with, sorted-without}

abbrev pub InOrder : List Twin → Type 0
InOrder ts = IsStrictlySortedBy (slice_cmp nat_cmp) (map (λ t. t.id) ts)

-- Texts that differ do so for both tests.
pub apart : (a b : List ℕ) → bytes_eq a b ≡ false → is_eq (C a b) ≡ false
apart a b e = (eq_by_cmp_equiv c_total).symm a b ∙ tests b a ∙ e

found_twin : (id : List ℕ) (ts : List Twin) → find (λ (t : Twin). bytes_eq t.id id) ts ≡ lookup (is_at (C id)) (keyed_twins ts)
found_twin id [] = refl
found_twin id (t ∷ ts) =
    ap (λ b. cond b (Some t) (find (λ (u : Twin). bytes_eq u.id id) ts)) (sym (tests id t.id)) ∙ ap (λ o. cond (is_eq (C id t.id)) (Some t) o) (found_twin id ts)

-- ---- what a twin is found by
pub twin_there : (s : State) (id : List ℕ) (t : Twin) → twin_at id s ≡ Some t → (t.id ≡ id) × Contains s.twins t
twin_there s id t h = let f = found_passes (λ (u : Twin). bytes_eq u.id id) s.twins t h in ((bytes_eq-Decides t.id id).0 f.0, f.1)

pub twin_stands : (s : State) (t : Twin) → InOrder s.twins → Contains s.twins t → twin_at t.id s ≡ Some t
twin_stands s t sorted c = found_twin t.id s.twins ∙ in_contained (λ (u : Twin). u.id) (λ x. x) s.twins t sorted c

-- ---- one that comes
pub twin_with : (t : Twin) (s : State) (id : List ℕ) → twin_at id (with_twin t s) ≡ cond (is_eq (C id t.id)) (Some t) (twin_at id s)
twin_with t s id =
    found_twin id (with_twin t s).twins
    ∙ at-with (λ (u : Twin). u.id) C c_total exact_bytes t s.twins id
    ∙ ap (λ o. cond (is_eq (C id t.id)) (Some t) o) (sym (found_twin id s.twins))

pub twin_own : (t : Twin) (s : State) → twin_at t.id (with_twin t s) ≡ Some t
twin_own t s = twin_with t s t.id ∙ ap (λ b. cond b (Some t) (twin_at t.id s)) (itself t.id)

pub twin_else : (t : Twin) (s : State) (id : List ℕ) → is_eq (C id t.id) ≡ false → twin_at id (with_twin t s) ≡ twin_at id s
twin_else t s id other = twin_with t s id ∙ ap (λ b. cond b (Some t) (twin_at id s)) other

some_either : (b : Bool) (t : Twin) (o : Option Twin) → IsSome o → IsSome (cond b (Some t) o)
some_either true t o h = refl
some_either false t o h = h

pub still_there : (t : Twin) (s : State) (id : List ℕ) → IsSome (twin_at id s) → IsSome (twin_at id (with_twin t s))
still_there t s id h = subst (λ (o : Option Twin). IsSome o) (sym (twin_with t s id)) (some_either (is_eq (C id t.id)) t (twin_at id s) h)

pub in-order-with : (t : Twin) (s : State) → InOrder s.twins → InOrder (with_twin t s).twins
in-order-with t s sorted = sorted-with (λ (u : Twin). u.id) C c_total exact_bytes t s.twins sorted

-- ---- one that goes
pub twin_without : (k : List ℕ) (s : State) → InOrder s.twins → (id : List ℕ) → twin_at id (without_twin k s) ≡ cond (is_eq (C id k)) None (twin_at id s)
twin_without k s sorted id =
    found_twin id (without_twin k s).twins
    ∙ at-without (λ (u : Twin). u.id) C c_total k s.twins sorted id
    ∙ ap (λ o. cond (is_eq (C id k)) None o) (sym (found_twin id s.twins))

pub in-order-without : (k : List ℕ) (s : State) → InOrder s.twins → InOrder (without_twin k s).twins
in-order-without k s sorted = sorted-without (λ (u : Twin). u.id) C c_total (is_at (C k)) s.twins sorted
