-- The least edge of a vertex: the lesser of the first out of it and the first into it.
use Rattle.std.proofs.Common.{◌≡◌, ℕ, List, [], ◌∷◌, map, Bool, true, false, cond, ◌||◌, bytes_eq, Option, Some, None, IfSome, refl, sym, ap, ◌∙◌, Less}
use Rattle.std.specs.Prelude.{slice_get}
use Rattle.std.specs.Ordering.{is_lt, ordering_reverse}
use Rattle.std.specs.List.{AllByRecursion, find}
use Rattle.std.proofs.lemmas.Map.Keys.{sorted_head, sorted_tail}
use Rattle.rel_graph.specs.Edges.{key_cmp, key, EdgesInOrder, is_from, is_into, out_of, into_of}
use Rattle.rel_graph.specs.declared.edge.Edge.{Edge}
use Rattle.rel_graph.proofs.Tallies.{keys_total}
use Rattle.graph_steps.proofs.invariants.Keyed.{tests}
use Rattle.graph_machine.specs.Machinery.Least.{least_of}
use Rattle.graph_machine.proofs.Ascending.{all_filter, all_unmapped}

module _ {P : Type 0} where
  -- the vertex is an end of the edge
  abbrev ends : List ℕ → Edge P → Bool
  ends id x = bytes_eq x.source id || bytes_eq x.target id

  abbrev After : Edge P → Edge P → Type 0
  After e b = key_cmp (key e) (key b) ≡ Less

  first_after : (e : Edge P) (es : List (Edge P)) → AllByRecursion (After e) es → IfSome (slice_get es 0) (After e)
  first_after e [] all = tt
  first_after e (x ∷ xs) all = all.0

  not_less : (e b : Edge P) → After e b → is_lt (key_cmp (key b) (key e)) ≡ false
  not_less e b h = ap is_lt (keys_total.antisymm (key b) (key e)) ∙ ap (λ o. is_lt (ordering_reverse o)) h

  before_into : (e : Edge P) (o : Option (Edge P)) → IfSome o (After e) → Some e ≡ least_of (Some e) o
  before_into e None h = refl
  before_into e (Some b) h = ap (λ t. Some (cond t b e)) (sym (not_less e b h))

  before_out : (e : Edge P) (o : Option (Edge P)) → IfSome o (After e) → Some e ≡ least_of o (Some e)
  before_out e None h = refl
  before_out e (Some a) h = ap (λ o. Some (cond (is_lt o) e a)) (sym h)

  pub least_first : (id : List ℕ) (es : List (Edge P)) → EdgesInOrder es
      → find (ends id) es ≡ least_of (slice_get (out_of id es) 0) (slice_get (into_of id es) 0)
  least_first id [] o = refl
  least_first id (e ∷ es) o =
      let later = all_unmapped key (λ k. key_cmp (key e) k ≡ Less) es (sorted_head key_cmp (key e) (map key es) o) in
      let rest = least_first id es (sorted_tail key_cmp (key e) (map key es) o) in
      ap (λ b. cond (b || bytes_eq e.target id) (Some e) (find (ends id) es)) (sym (tests id e.source))
      ∙ ap (λ b. cond (is_from id e || b) (Some e) (find (ends id) es)) (sym (tests id e.target))
      ∙ by (is_from id e) (is_into id e) later rest
    where
      by : (a b : Bool) → AllByRecursion (After e) es → find (ends id) es ≡ least_of (slice_get (out_of id es) 0) (slice_get (into_of id es) 0)
          → cond (a || b) (Some e) (find (ends id) es) ≡ least_of (slice_get (cond a (e ∷ out_of id es) (out_of id es)) 0) (slice_get (cond b (e ∷ into_of id es) (into_of id es)) 0)
      by true true later rest = elim (is_lt (key_cmp (key e) (key e))) as (λ t. Some e ≡ Some (cond t e e)) [ true ↦ refl | false ↦ refl ]
      by true false later rest = before_into e (slice_get (into_of id es) 0) (first_after e (into_of id es) (all_filter (After e) (is_into id) es later))
      by false true later rest = before_out e (slice_get (out_of id es) 0) (first_after e (out_of id es) (all_filter (After e) (is_from id) es later))
      by false false later rest = rest
