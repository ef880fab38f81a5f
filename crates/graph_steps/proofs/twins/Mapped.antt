-- The twins of a table as other values with the same ids: a change of the list, a look-up and a filter of it are the same on
-- these.
use Rattle.std.proofs.Common.{◌≡◌, ℕ, List, [], ◌∷◌, map, Bool, true, false, cond, Some, refl, sym, ap, ◌∙◌, Less, Equal, Greater}
use Rattle.std.specs.Prelude.{bytes_eq}
use Rattle.std.specs.Option.{option_map}
use Rattle.std.specs.Ordering.{match_ordering}
use Rattle.std.specs.List.{filter, find}
use Rattle.std.specs.Map.{remove_entry, values_of}
use Rattle.std.specs.BTreeMap.{is_at, insert_entry}
use Rattle.ordered_table.proofs.Flat.{C}
use Rattle.graph_steps.specs.declared.twins.held.Held.{Held}
use Rattle.graph_steps.specs.twins.Held.{id_of, twins_by_id, held_at, with_held, without_held}
use Rattle.graph_steps.proofs.twins.Keyed.{keyed_by, values-keyed}

-- a filter of other values
pub filter-map : {A B : Type 0} (f : A → B) (p : B → Bool) (xs : List A) → map f (filter (λ x. p (f x)) xs) ≡ filter p (map f xs)
filter-map f p [] = refl
filter-map f p (x ∷ xs) =
    elim (p (f x)) as (λ b. map f (cond b (x ∷ filter (λ y. p (f y)) xs) (filter (λ y. p (f y)) xs)) ≡ cond b (f x ∷ filter p (map f xs)) (filter p (map f xs))) [
      | true ↦ ap (λ ys. f x ∷ ys) (filter-map f p xs)
      | false ↦ filter-map f p xs
    ]

module _ {T : Type 0} (key : T → List ℕ) (f : Held → T) (same : (h : Held) → key (f h) ≡ id_of h) where
  bare : (hs : List Held) → map f (values_of (twins_by_id hs)) ≡ values_of (keyed_by key (map f hs))
  bare hs = ap (map f) (values-keyed id_of hs) ∙ sym (values-keyed key (map f hs))

  inserted : (k : List ℕ) (h : Held) (hs : List Held) → map f (values_of (insert_entry C (twins_by_id hs) k h)) ≡ values_of (insert_entry C (keyed_by key (map f hs)) k (f h))
  inserted k h [] = refl
  inserted k h (j ∷ js) =
      ap (λ i. map f (values_of (match_ordering (C k i) ((k, h) ∷ (id_of j, j) ∷ twins_by_id js) ((id_of j, h) ∷ twins_by_id js) ((id_of j, j) ∷ insert_entry C (twins_by_id js) k h)))) (sym (same j))
      ∙ elim (C k (key (f j))) as (λ o. map f (values_of (match_ordering o ((k, h) ∷ (id_of j, j) ∷ twins_by_id js) ((id_of j, h) ∷ twins_by_id js) ((id_of j, j) ∷ insert_entry C (twins_by_id js) k h)))
      ≡ values_of (match_ordering o ((k, f h) ∷ (key (f j), f j) ∷ keyed_by key (map f js)) ((key (f j), f h) ∷ keyed_by key (map f js)) ((key (f j), f j) ∷ insert_entry C (keyed_by key (map f js)) k (f h)))) [
        | Less ↦ ap (λ ts. f h ∷ f j ∷ ts) (bare js)
        | Equal ↦ ap (λ ts. f h ∷ ts) (bare js)
        | Greater ↦ ap (λ ts. f j ∷ ts) (inserted k h js)
      ]

  -- with one at its place
  pub map-with_held : (h : Held) (hs : List Held) → map f (with_held h hs) ≡ values_of (insert_entry C (keyed_by key (map f hs)) (key (f h)) (f h))
  map-with_held h hs = inserted (id_of h) h hs ∙ ap (λ k. values_of (insert_entry C (keyed_by key (map f hs)) k (f h))) (sym (same h))

  removed : (test : List ℕ → Bool) (hs : List Held) → map f (values_of (remove_entry test (twins_by_id hs))) ≡ values_of (remove_entry test (keyed_by key (map f hs)))
  removed test [] = refl
  removed test (j ∷ js) =
      ap (λ i. map f (values_of (cond (test i) (twins_by_id js) ((id_of j, j) ∷ remove_entry test (twins_by_id js))))) (sym (same j))
      ∙ elim (test (key (f j))) as (λ b. map f (values_of (cond b (twins_by_id js) ((id_of j, j) ∷ remove_entry test (twins_by_id js)))) ≡ values_of (cond b (keyed_by key (map f js)) ((key (f j), f j) ∷ remove_entry test (keyed_by key (map f js))))) [
        | true ↦ bare js
        | false ↦ ap (λ ts. f j ∷ ts) (removed test js)
      ]

  -- without the one with an id
  pub map-without_held : (id : List ℕ) (hs : List Held) → map f (without_held id hs) ≡ values_of (remove_entry (is_at (C id)) (keyed_by key (map f hs)))
  map-without_held id hs = removed (is_at (C id)) hs

  -- the one with an id
  pub map-held_at : (id : List ℕ) (hs : List Held) → option_map f (held_at id hs) ≡ find (λ t. bytes_eq (key t) id) (map f hs)
  map-held_at id [] = refl
  map-held_at id (j ∷ js) =
      ap (λ i. option_map f (cond (bytes_eq i id) (Some j) (held_at id js))) (sym (same j))
      ∙ elim (bytes_eq (key (f j)) id) as (λ b. option_map f (cond b (Some j) (held_at id js)) ≡ cond b (Some (f j)) (find (λ t. bytes_eq (key t) id) (map f js))) [
        | true ↦ refl
        | false ↦ map-held_at id js
      ]

  -- the ids
  pub ids-map : (hs : List Held) → map key (map f hs) ≡ map id_of hs
  ids-map [] = refl
  ids-map (j ∷ js) = ap (λ k. k ∷ map key (map f js)) (same j) ∙ ap (λ ks. id_of j ∷ ks) (ids-map js)
