-- A patch of which no path begins with `$` leaves the members whose keys do.
use Rattle.std.proofs.Common.{◌≡◌, ℕ, ◌+◌, List, [], ◌∷◌, Bool, true, false, cond, bytes_eq, Option, Some, None, Ok, refl, sym, ap, ◌∙◌}
use Rattle.std.specs.Prelude.{option_and_then}
use Rattle.std.specs.Option.{option_map}
use Rattle.std.specs.List.{AllByRecursion}
use Rattle.std.proofs.lemmas.Slice.Eq.{bytes_eq-Decides}
use Rattle.std.proofs.lemmas.Option.{same_Some, none-some}
use Rattle.json_decimal.specs.Number.{Number}
use Rattle.json_tree.specs.Values.{Json, null, truth, number, text, array, object, Members}
use Rattle.json_tree.specs.Members.{value_at, value_in}
use Rattle.twin_patch.specs.Objects.{value_under, with_member, without_member, sorted_value}
use Rattle.twin_patch.specs.Operations.{Change, add, replace, remove, Operation}
use Rattle.twin_patch.specs.Patched.{edited, changed_value, applied, applied_at, go_on, patched_from}
use Rattle.graph_steps.proofs.invariants.Members.{value-with, value-without}

-- ---- one change
put_kept : (q key : List ℕ) (v : Json) (ms : Members Number) → bytes_eq key q ≡ false → value_at q (with_member key v ms) ≡ value_at q ms
put_kept q key v ms other = value-with q key v ms ∙ ap (λ b. cond b (Some v) (value_at q ms)) other

edited_kept : (q : List ℕ) (change : Change) (key : List ℕ) (ms ns : Members Number) → bytes_eq key q ≡ false → edited change key ms ≡ Some ns → value_at q ns ≡ value_at q ms
edited_kept q (add v) key ms ns other h = ap (value_at q) (sym (same_Some (with_member key (sorted_value v) ms) ns h)) ∙ put_kept q key (sorted_value v) ms other
edited_kept q (replace v) key ms ns other h = by (value_under key ms) h
  where
    by : (found : Option Json) → option_map (λ old. with_member key (sorted_value v) ms) found ≡ Some ns → value_at q ns ≡ value_at q ms
    by None e = absurd (none-some ns e)
    by (Some old) e = ap (value_at q) (sym (same_Some (with_member key (sorted_value v) ms) ns e)) ∙ put_kept q key (sorted_value v) ms other
edited_kept q remove key ms ns other h = by (value_under key ms) h
  where
    by : (found : Option Json) → option_map (λ old. without_member key ms) found ≡ Some ns → value_at q ns ≡ value_at q ms
    by None e = absurd (none-some ns e)
    by (Some old) e = ap (value_at q) (sym (same_Some (without_member key ms) ns e)) ∙ value-without q key ms other

changed_kept : (q : List ℕ) (change : Change) (key : List ℕ) (keys : List (List ℕ)) (v w : Json) → bytes_eq key q ≡ false → changed_value change key keys v ≡ Some w → value_in q w ≡ value_in q v
changed_kept q change key [] (object ms) w other h = by (edited change key ms) refl h
  where
    by : (found : Option (Members Number)) → edited change key ms ≡ found → option_map object found ≡ Some w → value_in q w ≡ value_at q ms
    by None is e = absurd (none-some w e)
    by (Some ns) is e = ap (value_in q) (sym (same_Some (object ns) w e)) ∙ edited_kept q change key ms ns other is
changed_kept q change key (next ∷ keys) (object ms) w other h = by (value_under key ms) h
  where
    below : (found : Option Json) → option_map (λ new. object (with_member key new ms)) found ≡ Some w → value_in q w ≡ value_at q ms
    below None e = absurd (none-some w e)
    below (Some new) e = ap (value_in q) (sym (same_Some (object (with_member key new ms)) w e)) ∙ put_kept q key new ms other

    by : (found : Option Json) → option_and_then (λ part. option_map (λ new. object (with_member key new ms)) (changed_value change next keys part)) found ≡ Some w → value_in q w ≡ value_at q ms
    by None e = absurd (none-some w e)
    by (Some part) e = below (changed_value change next keys part) e
changed_kept q change key [] null w other h = absurd (none-some w h)
changed_kept q change key [] (truth b) w other h = absurd (none-some w h)
changed_kept q change key [] (number n) w other h = absurd (none-some w h)
changed_kept q change key [] (text t) w other h = absurd (none-some w h)
changed_kept q change key [] (array vs) w other h = absurd (none-some w h)
changed_kept q change key (next ∷ keys) null w other h = absurd (none-some w h)
changed_kept q change key (next ∷ keys) (truth b) w other h = absurd (none-some w h)
changed_kept q change key (next ∷ keys) (number n) w other h = absurd (none-some w h)
changed_kept q change key (next ∷ keys) (text t) w other h = absurd (none-some w h)
changed_kept q change key (next ∷ keys) (array vs) w other h = absurd (none-some w h)

-- ---- operations
-- No path begins with a part that begins with `$`.
abbrev pub IsPlain : Operation → Type 0
IsPlain o = (first : List ℕ) (rest : List (List ℕ)) → o.path ≡ (36 ∷ first) ∷ rest → ⊥

differs : (b : Bool) → (b ≡ true → ⊥) → b ≡ false
differs true h = absurd (h refl)
differs false h = refl

applied_kept : (q : List ℕ) (change : Change) (path : List (List ℕ)) (v w : Json) → ((first : List ℕ) (rest : List (List ℕ)) → path ≡ (36 ∷ first) ∷ rest → ⊥) → applied_at change path v ≡ Some w
    → value_in (36 ∷ q) w ≡ value_in (36 ∷ q) v
applied_kept q change [] v w plain h = absurd (none-some w h)
applied_kept q change (key ∷ keys) v w plain h =
    changed_kept (36 ∷ q) change key keys v w (differs (bytes_eq key (36 ∷ q)) (λ e. plain q keys (ap (λ (k : List ℕ). k ∷ keys) ((bytes_eq-Decides key (36 ∷ q)).0 e)))) h

pub patched_kept : (q : List ℕ) (at : ℕ) (os : List Operation) (v w : Json) → AllByRecursion IsPlain os → patched_from at os v ≡ Ok w → value_in (36 ∷ q) w ≡ value_in (36 ∷ q) v
patched_kept q at [] v w plain h = let same : v ≡ w = cc in ap (value_in (36 ∷ q)) (sym same)
patched_kept q at (o ∷ os) v w plain h = step (applied o v) refl h (λ x e. patched_kept q (at + 1) os x w plain.1 e)
  where
    step : (found : Option Json) → applied o v ≡ found → go_on at found (patched_from (at + 1) os) ≡ Ok w → ((x : Json) → patched_from (at + 1) os x ≡ Ok w → value_in (36 ∷ q) w ≡ value_in (36 ∷ q) x) → value_in (36 ∷ q) w ≡ value_in (36 ∷ q) v
    step None is e rest = absurd cc
    step (Some x) is e rest = rest x e ∙ applied_kept q o.change o.path v x plain.0 is
