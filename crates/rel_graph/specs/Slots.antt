-- How the fields of the edges hang together: each edge lies in a slot, to which the two orders lead.
use Rattle.std.specs.Prelude.{◌≡◌, ℕ, List, Bool, false, Option, Some, None, cond, length, IsSomeAnd}
use Rattle.std.specs.Option.{unwrap_or}
use Rattle.std.specs.declared.cmp.Ordering.{Ordering}
use Rattle.std.specs.Ordering.{is_eq}
use Rattle.std.specs.List.{filter_map, count_by}
use Rattle.std.specs.List.Sorted.{IsStrictlySortedBy}
use Rattle.std.specs.Map.{lookup, keys_of, values_of}
use Rattle.std.specs.BTreeMap.{is_at}
use Rattle.ordered_table.specs.Rows.{pair_cmp}
use Rattle.rel_graph.specs.declared.edge.Edge.{Edge}
use Rattle.rel_graph.specs.Edges.{key_cmp, key, is_into, is_named}

-- the order by target, source and id
abbrev pub link_cmp : List ℕ × (List ℕ × List ℕ) → List ℕ × (List ℕ × List ℕ) → Ordering
link_cmp = pair_cmp key_cmp

-- what is counted under two texts
abbrev pub tally : List ((List ℕ × List ℕ) × ℕ) → List ℕ × List ℕ → ℕ
tally counts q = unwrap_or (lookup (is_at (key_cmp q)) counts) 0

-- 1 at one key, and 0 at each other
abbrev pub one_at : List ℕ × List ℕ → List ℕ × List ℕ → ℕ
one_at k q = cond (is_eq (key_cmp q k)) 1 0

module _ {P : Type 0} where
  -- where the second order has an edge
  abbrev pub link : Edge P → List ℕ × (List ℕ × List ℕ)
  link e = (e.target, key e)

  -- the edges in these slots, where `at` says what a slot has
  abbrev pub edges_at : (ℕ → Option (Edge P)) → List ℕ → List (Edge P)
  edges_at at slots = filter_map at slots

  -- an edge with this key
  abbrev pub HasKey : Option (Edge P) → List ℕ × List ℕ → Type 0
  HasKey edge k = IsSomeAnd edge (λ e. key e ≡ k)

  -- an edge to this target
  abbrev pub leads_to : List ℕ → Option (Edge P) → Bool
  leads_to target None = false
  leads_to target (Some e) = is_into target e

  -- the slot, where its edge leads to this target
  abbrev pub slot_to : List ℕ → (ℕ → Option (Edge P)) → Option ℕ → Option ℕ
  slot_to target at None = None
  slot_to target at (Some slot) = cond (leads_to target (at slot)) (Some slot) None

  -- Each key of the first order leads to the slot of the edge with this key. The second order has the same slot there,
  -- under each target to which this edge leads, and no other. The counts are those of the edges.
  pub record IsKept (at : ℕ → Option (Edge P)) (order : List ((List ℕ × List ℕ) × ℕ)) (links : List ((List ℕ × (List ℕ × List ℕ)) × ℕ)) (counts : List ((List ℕ × List ℕ) × ℕ)) (len : ℕ) : Type 0 where
    pub sorted : IsStrictlySortedBy key_cmp (keys_of order)
    pub stands : (q : List ℕ × List ℕ) (slot : ℕ) → lookup (is_at (key_cmp q)) order ≡ Some slot → HasKey (at slot) q
    pub linked : (target : List ℕ) (q : List ℕ × List ℕ) → lookup (is_at (link_cmp (target, q))) links ≡ slot_to target at (lookup (is_at (key_cmp q)) order)
    pub tallied : (q : List ℕ × List ℕ) → tally counts q ≡ count_by (is_named q) (edges_at at (values_of order))
    pub counted : len ≡ length (edges_at at (values_of order))
