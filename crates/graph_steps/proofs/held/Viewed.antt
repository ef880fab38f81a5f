-- Look-ups and changes of what a machine holds are those of its state.
use Rattle.std.proofs.Common.{◌≡◌, ℕ, ◌+◌, List, [], ◌∷◌, map, length, sum, Bool, true, false, cond, Option, Some, None, IfSome, refl, sym, ap, ◌∙◌, subst, Ordering, Less, Equal, Greater}
use Rattle.std.specs.Prelude.{bytes_eq}
use Rattle.std.specs.Option.{option_map}
use Rattle.std.specs.List.{AllByRecursion, filter, find, sum_by}
use Rattle.std.specs.Map.{lookup, remove_entry, values_of}
use Rattle.std.specs.BTreeMap.{is_at, insert_entry}
use Rattle.std.specs.Ordering.{match_ordering}
use Rattle.std.proofs.lemmas.List.Sums.{sum_by-cons}
use Rattle.ordered_table.proofs.Flat.{C}
use Rattle.rel_graph.specs.Edges.{key_cmp, key, edge_at, with_edge, without_edge}
use Rattle.rel_graph.specs.declared.edge.Edge.{Edge}
use Rattle.graph_steps.specs.twins.Held as table
use Rattle.graph_steps.specs.declared.twins.held.Held.{Held}
use Rattle.graph_steps.specs.LinkAsks.{link_at, with_link, after_drop_rel}
use Rattle.graph_steps.specs.States.{State, Twin, Link, set_of, interface_of, twin_at, twin_text, link_text, graph_bytes, with_twin, without_twin}
use Rattle.graph_steps.specs.bodies.Bodies.{IsModelIn}
use Rattle.graph_steps.specs.bodies.Kept.{twin_view, IsKeptTwin, IsKeptLink}
use Rattle.dt_base.specs.names.Grammar.{Identifier}
use Rattle.dtdl_terms.specs.declared.interface.Interface.{Interface}
use Rattle.dtdl_terms.specs.declared.resolved.Resolved.{Resolved}
use Rattle.extend_resolve.specs.Breaches.{BreaksNoRule}
use Rattle.model_life.specs.resolution.Resolving.{HoldsRight, IsResolved, entry_at}
use Rattle.model_life.proofs.resolution.Changes.{all_map}
use Rattle.std.proofs.lemmas.Option.{IfSome_then, same_Some}
use Rattle.graph_steps.proofs.invariants.Edges.{edge_there}
use Rattle.graph_steps.proofs.invariants.Keyed.{entries, values-entries}
use Rattle.graph_steps.proofs.invariants.Lists.{all_at, found_passes}
use Rattle.graph_steps.specs.held.Held.{Holding, holding, twin_of, link_of, state_of, IsHeldTwin, IsHeldLink, IsHeldRight}
use Rattle.graph_steps.specs.declared.held.stored.Stored.{Stored}

-- ---- lists
module _ {X Y : Type 0} (f : X → Y) where
  pub find-map : (p : Y → Bool) (xs : List X) → find p (map f xs) ≡ option_map f (find (λ x. p (f x)) xs)
  find-map p [] = refl
  find-map p (x ∷ xs) =
      ap (cond (p (f x)) (Some (f x))) (find-map p xs)
      ∙ (elim (p (f x)) as (λ b. cond b (Some (f x)) (option_map f (find (λ y. p (f y)) xs)) ≡ option_map f (cond b (Some x) (find (λ y. p (f y)) xs))) [ true ↦ refl | false ↦ refl ])

  pub filter-map : (p : Y → Bool) (xs : List X) → filter p (map f xs) ≡ map f (filter (λ x. p (f x)) xs)
  filter-map p [] = refl
  filter-map p (x ∷ xs) =
      ap (λ ys. cond (p (f x)) (f x ∷ ys) ys) (filter-map p xs)
      ∙ (elim (p (f x)) as (λ b. cond b (f x ∷ map f (filter (λ y. p (f y)) xs)) (map f (filter (λ y. p (f y)) xs)) ≡ map f (cond b (x ∷ filter (λ y. p (f y)) xs) (filter (λ y. p (f y)) xs))) [ true ↦ refl | false ↦ refl ])

-- things that keep their keys
module _ {K X Y : Type 0} (own : X → K) (seen : Y → K) (f : X → Y) (same : (x : X) → seen (f x) ≡ own x) where
  pub map-without : (test : K → Bool) (xs : List X) → map f (values_of (remove_entry test (entries own xs))) ≡ values_of (remove_entry test (entries seen (map f xs)))
  map-without test [] = refl
  map-without test (x ∷ xs) =
      (elim (test (own x)) as (λ b. map f (values_of (cond b (entries own xs) ((own x, x) ∷ remove_entry test (entries own xs)))) ≡ values_of (cond b (entries seen (map f xs)) ((seen (f x), f x) ∷ remove_entry test (entries seen (map f xs))))) [
        | true ↦ ap (map f) (values-entries own xs) ∙ sym (values-entries seen (map f xs))
        | false ↦ ap (λ ys. f x ∷ ys) (map-without test xs)
      ])
      ∙ ap (λ k. values_of (cond (test k) (entries seen (map f xs)) ((seen (f x), f x) ∷ remove_entry test (entries seen (map f xs))))) (sym (same x))

  pub lookup-map : (test : K → Bool) (xs : List X) → lookup test (entries seen (map f xs)) ≡ option_map f (lookup test (entries own xs))
  lookup-map test [] = refl
  lookup-map test (x ∷ xs) =
      ap (λ k. cond (test k) (Some (f x)) (lookup test (entries seen (map f xs)))) (same x)
      ∙ ap (cond (test (own x)) (Some (f x))) (lookup-map test xs)
      ∙ (elim (test (own x)) as (λ b. cond b (Some (f x)) (option_map f (lookup test (entries own xs))) ≡ option_map f (cond b (Some x) (lookup test (entries own xs)))) [ true ↦ refl | false ↦ refl ])

  plain : (xs : List X) → map f (values_of (entries own xs)) ≡ values_of (entries seen (map f xs))
  plain xs = ap (map f) (values-entries own xs) ∙ sym (values-entries seen (map f xs))

  pub map-with : (R : K → K → Ordering) (x : X) (xs : List X) → map f (values_of (insert_entry R (entries own xs) (own x) x)) ≡ values_of (insert_entry R (entries seen (map f xs)) (seen (f x)) (f x))
  map-with R x [] = refl
  map-with R x (y ∷ ys) =
      (elim (R (own x) (own y)) as (λ o. map f (values_of (match_ordering o ((own x, x) ∷ (own y, y) ∷ entries own ys) ((own y, x) ∷ entries own ys) ((own y, y) ∷ insert_entry R (entries own ys) (own x) x)))
      ≡ values_of (match_ordering o ((seen (f x), f x) ∷ (seen (f y), f y) ∷ entries seen (map f ys)) ((seen (f y), f x) ∷ entries seen (map f ys)) ((seen (f y), f y) ∷ insert_entry R (entries seen (map f ys)) (seen (f x)) (f x)))) [
        | Less ↦ ap (λ zs. f x ∷ f y ∷ zs) (plain ys)
        | Equal ↦ ap (λ zs. f x ∷ zs) (plain ys)
        | Greater ↦ ap (λ zs. f y ∷ zs) (map-with R x ys)
      ])
      ∙ ap (λ o. values_of (match_ordering o ((seen (f x), f x) ∷ (seen (f y), f y) ∷ entries seen (map f ys)) ((seen (f y), f x) ∷ entries seen (map f ys)) ((seen (f y), f y) ∷ insert_entry R (entries seen (map f ys)) (seen (f x)) (f x))))
      (ap (λ k. R k (own y)) (sym (same x)) ∙ ap (λ k. R (seen (f x)) k) (sym (same y)))

-- sizes
sized : {X Y : Type 0} (size : X → ℕ) (g : Y → ℕ) (f : X → Y) (xs : List X) → AllByRecursion (λ x. size x ≡ g (f x)) xs → sum_by size xs ≡ sum (map g (map f xs))
sized size g f [] all = refl
sized size g f (x ∷ xs) all =
    sum_by-cons size x xs ∙ ap (λ n. n + sum_by size xs) all.0 ∙ ap (λ n. g (f x) + n) (sized size g f xs all.1) ∙ sym (sum_by-cons (λ (n : ℕ). n) (g (f x)) (map g (map f xs)))

-- ---- twins
pub held_seen : (h : Holding) (id : List ℕ) → twin_at id (state_of h) ≡ option_map twin_of (table.held_at id h.twins)
held_seen h id = find-map twin_of (λ (t : Twin). bytes_eq t.id id) h.twins

pub held_right : (id : List ℕ) (hs : List Held) → AllByRecursion IsHeldTwin hs → IfSome (table.held_at id hs) IsHeldTwin
held_right id hs all = by (table.held_at id hs) refl
  where
    by : (o : Option Held) → table.held_at id hs ≡ o → IfSome o IsHeldTwin
    by None e = tt
    by (Some h) e = all_at IsHeldTwin hs h all (found_passes (λ (g : Held). bytes_eq g.twin.id id) hs h e).1

twice : (o : Option Held) → option_map twin_of o ≡ option_map twin_view (option_map (λ (h : Held). h.twin) o)
twice None = refl
twice (Some h) = refl

pub twin_seen : (h : Holding) (id : List ℕ) → twin_at id (state_of h) ≡ option_map twin_view (table.held_twin_at id h.twins)
twin_seen h id = held_seen h id ∙ twice (table.held_at id h.twins)

twin_right : (o : Option Held) → IfSome o IsHeldTwin → IfSome (option_map (λ (h : Held). h.twin) o) (λ t. IsKeptTwin (twin_view t))
twin_right None right = tt
twin_right (Some h) right = right.kept

pub twin_kept : (id : List ℕ) (hs : List Held) → AllByRecursion IsHeldTwin hs → IfSome (table.held_twin_at id hs) (λ t. IsKeptTwin (twin_view t))
twin_kept id hs all = twin_right (table.held_at id hs) (held_right id hs all)

pub twins_without : (id : List ℕ) (h : Holding) → state_of (holding h.models (table.without_held id h.twins) h.links) ≡ without_twin id (state_of h)
twins_without id h =
    ap (λ (ts : List Twin). record { models = h.models; twins = ts; links = map link_of h.links })
    (map-without table.id_of (λ (t : Twin). t.id) twin_of (λ g. refl) (is_at (C id)) h.twins)

pub twins_with : (x : Held) (h : Holding) → state_of (holding h.models (table.with_held x h.twins) h.links) ≡ with_twin (twin_of x) (state_of h)
twins_with x h =
    ap (λ (ts : List Twin). record { models = h.models; twins = ts; links = map link_of h.links })
    (map-with table.id_of (λ (t : Twin). t.id) twin_of (λ g. refl) C x h.twins)

-- ---- relationships
pub link_seen : (h : Holding) (source id : List ℕ) → link_at source id (state_of h) ≡ option_map link_of (edge_at source id h.links)
link_seen h source id = lookup-map key key link_of (λ e. refl) (is_at (key_cmp (source, id))) h.links

pub link_right : (source id : List ℕ) (es : List (Edge Stored)) → AllByRecursion IsHeldLink es → IfSome (edge_at source id es) IsHeldLink
link_right source id es all = by (edge_at source id es) refl
  where
    by : (o : Option (Edge Stored)) → edge_at source id es ≡ o → IfSome o IsHeldLink
    by None e = tt
    by (Some l) e = all_at IsHeldLink es l all (edge_there source id es l e).2

pub link_kept : (source id : List ℕ) (es : List (Edge Stored)) → AllByRecursion IsHeldLink es → IfSome (edge_at source id es) (λ e. IsKeptLink (link_of e))
link_kept source id es all = IfSome_then (edge_at source id es) (link_right source id es all) (λ e right. right.kept)

pub link_size : (source id : List ℕ) (es : List (Edge Stored)) → AllByRecursion IsHeldLink es → IfSome (edge_at source id es) (λ e. e.payload.bytes ≡ length (link_text (link_of e)))
link_size source id es all = IfSome_then (edge_at source id es) (link_right source id es all) (λ e right. right.size)

pub links_without : (source id : List ℕ) (h : Holding) → state_of (holding h.models h.twins (without_edge source id h.links)) ≡ after_drop_rel (state_of h) source id
links_without source id h =
    ap (λ (ls : List Link). record { models = h.models; twins = map twin_of h.twins; links = ls })
    (map-without key key link_of (λ e. refl) (is_at (key_cmp (source, id))) h.links)

pub links_with : (e : Edge Stored) (h : Holding) → state_of (holding h.models h.twins (with_edge e h.links)) ≡ with_link (link_of e) (state_of h)
links_with e h =
    ap (λ (ls : List Link). record { models = h.models; twins = map twin_of h.twins; links = ls })
    (map-with key key link_of (λ x. refl) key_cmp e h.links)

-- ---- sizes of all
pub bytes_held : (h : Holding) (n : ℕ) → IsHeldRight h n → table.total_bytes h.twins + n ≡ graph_bytes (state_of h)
bytes_held h n right =
    let twins = sized (λ (g : Held). g.bytes) (λ (t : Twin). length (twin_text t)) twin_of h.twins (all_map IsHeldTwin (λ (g : Held). g.bytes ≡ length (twin_text (twin_of g))) h.twins (λ g k. k.size) right.twins) in
    let links = sized (λ (e : Edge Stored). e.payload.bytes) (λ (l : Link). length (link_text l)) link_of h.links (all_map IsHeldLink (λ (e : Edge Stored). e.payload.bytes ≡ length (link_text (link_of e))) h.links (λ e k. k.size) right.links) in
    ap (λ m. m + n) twins ∙ ap (λ m. sum (map (λ (t : Twin). length (twin_text t)) (map twin_of h.twins)) + m) (right.sum ∙ links)

-- ---- what is resolved
pub model_in : (s : State) (rs : List (Identifier × Resolved)) (i : Interface) (r : Resolved) → BreaksNoRule (set_of s) → interface_of s i.id ≡ Some i → HoldsRight (set_of s) rs → entry_at i.id rs ≡ Some r → IsModelIn s i r
model_in s rs i r rules there right held =
    let found = right i.id r held in
    record {
      rules = rules;
      there = there;
      resolved = subst (λ (j : Interface). IsResolved (set_of s) j r) (same_Some found.0 i (sym found.1 ∙ there)) found.2;
    }
