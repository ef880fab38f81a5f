-- The keys of rows ascend.
use Rattle.std.proofs.Common.{◌≡◌, ℕ, ◌+◌, List, [], ◌∷◌, ◌++◌, map, length, Bool, true, false, Option, Some, None, refl, sym, ap, ◌∙◌, Ordering, Less, Equal, Greater, arith, if◌then◌else◌}
use Rattle.std.specs.Prelude.{bytes_eq, ◌&&◌}
use Rattle.std.specs.Ordering.{ordering_then}
use Rattle.std.specs.List.{AllByRecursion, filter, flat_map}
use Rattle.std.proofs.lemmas.Cmp.{tied_itself}
use Rattle.std.proofs.lemmas.List.{length-append}
use Rattle.query_terms.specs.Queries.{Asked}
use Rattle.query_terms.specs.declared.query.Join.{Join}
use Rattle.rel_graph.specs.Edges.{key_cmp, key}
use Rattle.graph_steps.specs.Conditions.{Element, Row, bound_to, twin, link}
use Rattle.graph_steps.specs.QueryAsks.{all_rows, bound, join_all, join_rows, joined_row, kept_rows, link_row, links_of, row_passes, twin_row}
use Rattle.graph_steps.specs.States.{State, Twin, Link, twin_at}
use Rattle.graph_steps.specs.Typed.{WellTyped}
use Rattle.query_eval.proofs.Lists.{all_flat, all_mapped, all_pass, all_weaker, each}
use Rattle.query_eval.proofs.Ordered.{C, c_total, same_text, sorted_filtered}
use Rattle.graph_answers.proofs.rows.Ascending.{AreBefore, Ascends, IsBefore, Key, ascends_flat, ascends_mapped, ascends_none, ascends_one, begun, decided, key_order}

abbrev pub key_of : Row → Key
key_of row = row.key

abbrev pub RowsAscend : List Row → Type 0
RowsAscend rows = Ascends key_order key_of rows

abbrev RowsBefore : List Row → List Row → Type 0
RowsBefore xs ys = AreBefore key_order key_of xs ys

-- ---- the source
first_before : (o p : Ordering) → ordering_then o p ≡ Less → ordering_then o (ordering_then p Equal) ≡ Less
first_before Less p h = refl
first_before Equal Less h = refl
first_before Equal Equal h = absurd cc
first_before Equal Greater h = absurd cc
first_before Greater p h = absurd cc

alone : (a b : List ℕ) → C a b ≡ Less → key_order (a ∷ []) (b ∷ []) ≡ Less
alone a b h = ap (λ o. ordering_then o Equal) h

pair : (a b c d : List ℕ) → ordering_then (C a c) (C b d) ≡ Less → key_order (a ∷ b ∷ []) (c ∷ d ∷ []) ≡ Less
pair a b c d h = first_before (C a c) (C b d) h

twins_ascend : (s : State) → WellTyped s → (alias : Option (List ℕ)) → RowsAscend (map (twin_row alias) s.twins)
twins_ascend s w alias =
    ascends_mapped key_order key_of C (λ (t : Twin). t.id) (λ t. Unit {0}) (twin_row alias) (λ t u p q less. alone t.id u.id less)
    s.twins (each (λ t. Unit {0}) (λ t. tt) s.twins) w.twins

links_ascend : (s : State) → WellTyped s → (alias : Option (List ℕ)) → RowsAscend (map (link_row alias) s.links)
links_ascend s w alias =
    ascends_mapped key_order key_of key_cmp key (λ l. Unit {0}) (link_row alias) (λ l m p q less. pair l.source l.id m.source m.id less)
    s.links (each (λ l. Unit {0}) (λ l. tt) s.links) w.links

abbrev IsLong : ℕ → Row → Type 0
IsLong n row = length row.key ≡ n

-- ---- what is joined to one row
both_first : (a b : Bool) → (a && b) ≡ true → a ≡ true
both_first true b h = refl
both_first false b h = h

-- of two relationships out of one twin the one with the lesser id
id_before : (id : List ℕ) (l m : Link) → l.source ≡ id → m.source ≡ id → key_cmp (key l) (key m) ≡ Less → C l.id m.id ≡ Less
id_before id l m p q less =
    let same : C l.source m.source ≡ Equal = ap (λ a. C a m.source) p ∙ ap (C id) q ∙ tied_itself c_total id in
    sym (ap (λ o. ordering_then o (C l.id m.id)) same) ∙ less

module _ (s : State) (w : WellTyped s) (j : Join) where
  abbrev with_link : Row → Link → List Row
  with_link row l = joined_row j row l (twin_at l.target s)

  abbrev from_row : Row → List Row
  from_row row = flat_map (with_link row) (links_of s j.name (bound_to j.from row.bound))

  one_row : (row : Row) (l : Link) (o : Option Twin) → RowsAscend (joined_row j row l o)
  one_row row l None = ascends_none key_order key_of
  one_row row l (Some t) = ascends_one key_order key_of (record { key = row.key ++ l.id ∷ t.id ∷ []; bound = row.bound ++ bound j.rel (link l) ∷ bound (Some j.target) (twin t) ∷ [] })

  apart_rows : (row : Row) (l m : Link) (o u : Option Twin) → C l.id m.id ≡ Less → RowsBefore (joined_row j row l o) (joined_row j row m u)
  apart_rows row l m None u h = tt
  apart_rows row l m (Some t) None h = (tt, tt)
  apart_rows row l m (Some t) (Some u) h =
      ((begun row.key (l.id ∷ t.id ∷ []) (m.id ∷ u.id ∷ []) ∙ ap (λ o. ordering_then o (key_order (t.id ∷ []) (u.id ∷ []))) h, tt), tt)

  along_ascends : (row : Row) (o : Option Element) → RowsAscend (flat_map (with_link row) (links_of s j.name o))
  along_ascends row None = ascends_none key_order key_of
  along_ascends row (Some (link l)) = ascends_none key_order key_of
  along_ascends row (Some (twin t)) =
      ascends_flat key_order key_of key_cmp key (λ l. l.source ≡ t.id) (with_link row)
      (λ l m p q less. apart_rows row l m (twin_at l.target s) (twin_at m.target s) (id_before t.id l m p q less))
      (filter (λ l. bytes_eq l.source t.id && bytes_eq l.name j.name) s.links)
      (all_weaker (λ l. (bytes_eq l.source t.id && bytes_eq l.name j.name) ≡ true) (λ l. l.source ≡ t.id)
      (λ l h. same_text l.source t.id (both_first (bytes_eq l.source t.id) (bytes_eq l.name j.name) h))
      (filter (λ l. bytes_eq l.source t.id && bytes_eq l.name j.name) s.links) (all_pass (λ l. bytes_eq l.source t.id && bytes_eq l.name j.name) s.links))
      (sorted_filtered key_cmp key (λ l. bytes_eq l.source t.id && bytes_eq l.name j.name) s.links w.links)
      (each (λ l. RowsAscend (with_link row l)) (λ l. one_row row l (twin_at l.target s)) (filter (λ l. bytes_eq l.source t.id && bytes_eq l.name j.name) s.links))

  -- ---- its key grows
  abbrev Grows : Row → Row → Type 0
  Grows row y = (a b : List ℕ) × (y.key ≡ row.key ++ a ∷ b ∷ [])

  joined_grows : (row : Row) (l : Link) (o : Option Twin) → AllByRecursion (Grows row) (joined_row j row l o)
  joined_grows row l None = tt
  joined_grows row l (Some t) = ((l.id, t.id, refl), tt)

  row_grows : (row : Row) → AllByRecursion (Grows row) (from_row row)
  row_grows row =
      all_flat (Grows row) (with_link row) (links_of s j.name (bound_to j.from row.bound))
      (each (λ l. AllByRecursion (Grows row) (with_link row l)) (λ l. joined_grows row l (twin_at l.target s)) (links_of s j.name (bound_to j.from row.bound)))

  row_long : (n : ℕ) (row y : Row) → IsLong n row → Grows row y → IsLong (n + 2) y
  row_long n row y long (a, b, is) = ap length is ∙ length-append row.key (a ∷ b ∷ []) ∙ omega (arith, long)

  join_long : (n : ℕ) (rows : List Row) → AllByRecursion (IsLong n) rows → AllByRecursion (IsLong (n + 2)) (join_rows s j rows)
  join_long n rows long =
      all_flat (IsLong (n + 2)) from_row rows
      (all_weaker (IsLong n) (λ row. AllByRecursion (IsLong (n + 2)) (from_row row))
      (λ row l. all_weaker (Grows row) (IsLong (n + 2)) (λ y g. row_long n row y l g) (from_row row) (row_grows row)) rows long)

  -- ---- what is joined to rows in order
  rows_apart : (n : ℕ) (x y : Row) → IsLong n x → IsLong n y → key_order x.key y.key ≡ Less → RowsBefore (from_row x) (from_row y)
  rows_apart n x y p q less =
      all_weaker (Grows x) (λ t. AllByRecursion (IsBefore key_order key_of t) (from_row y))
      (λ t g. all_weaker (Grows y) (IsBefore key_order key_of t)
      (λ u h. ap (λ k. key_order k u.key) g.2 ∙ ap (key_order (x.key ++ g.0 ∷ g.1 ∷ [])) h.2 ∙ decided x.key y.key (g.0 ∷ g.1 ∷ []) (h.0 ∷ h.1 ∷ []) (p ∙ sym q) less)
      (from_row y) (row_grows y)) (from_row x) (row_grows x)

  join_ascends : (n : ℕ) (rows : List Row) → AllByRecursion (IsLong n) rows → RowsAscend rows → RowsAscend (join_rows s j rows)
  join_ascends n rows long o =
      ascends_flat key_order key_of key_order key_of (IsLong n) from_row (rows_apart n) rows long o
      (each (λ row. RowsAscend (from_row row)) (λ row. along_ascends row (bound_to j.from row.bound)) rows)

module _ (s : State) (w : WellTyped s) where
  all_ascend : (js : List Join) (n : ℕ) (rows : List Row) → AllByRecursion (IsLong n) rows → RowsAscend rows → RowsAscend (join_all s js rows)
  all_ascend [] n rows long o = o
  all_ascend (j ∷ js) n rows long o = all_ascend js (n + 2) (join_rows s j rows) (join_long s w j n rows long) (join_ascends s w j n rows long o)

  pub rows_ascend : (q : Asked) → RowsAscend (all_rows s q)
  rows_ascend q =
      elim q.relationships as (λ b. RowsAscend (if b then map (link_row q.alias) s.links else join_all s q.joins (map (twin_row q.alias) s.twins))) [
        | true ↦ links_ascend s w q.alias
        | false ↦ all_ascend q.joins 1 (map (twin_row q.alias) s.twins) (all_mapped (IsLong 1) (twin_row q.alias) s.twins (each (λ t. IsLong 1 (twin_row q.alias t)) (λ t. refl) s.twins)) (twins_ascend s w q.alias)
      ]

  pub kept_ascend : (q : Asked) → RowsAscend (kept_rows s q)
  kept_ascend q = sorted_filtered key_order key_of (row_passes s q.where_) (all_rows s q) (rows_ascend q)
