-- The rows of a query are the tuples that meet it.
use Rattle.std.proofs.Common.{◌≡◌, ℕ, ◌↔◌, List, [], ◌∷◌, ◌++◌, map, Bool, true, false, Option, Some, None, refl, sym, ap, ◌∙◌, subst, append_assoc, if◌then◌else◌}
use Rattle.std.specs.Prelude.{bytes_eq, ◌&&◌, Contains}
use Rattle.std.specs.List.{AllByRecursion, filter, flat_map}
use Rattle.std.proofs.lemmas.List.{append-nil}
use Rattle.query_terms.specs.Conditions.{Condition}
use Rattle.query_terms.specs.Queries.{Asked}
use Rattle.query_terms.specs.declared.query.Join.{Join}
use Rattle.graph_steps.specs.Conditions.{Element, Row, bound_to, twin, link}
use Rattle.graph_steps.specs.QueryAsks.{all_rows, bound, join_all, join_rows, joined_row, kept_rows, link_row, links_of, row_passes, twin_row}
use Rattle.graph_steps.specs.States.{State, Twin, Link, twin_at}
use Rattle.graph_steps.specs.Typed.{WellTyped}
use Rattle.graph_answers.specs.Rows.{Fulfils, IsLinkRow, IsRow, IsRowOver, IsTwinRow, Joined, MeetsJoin, MeetsJoins, all_bound_by, bound_by, joined_ids}
use Rattle.query_eval.proofs.Lists.{all_both, all_filtered, all_flat, all_mapped, all_pass, all_weaker}
use Rattle.query_eval.proofs.Ordered.{found_id, same_bytes, same_text}
use Rattle.graph_answers.proofs.rows.Standing.{each_stands, found_stands, of_standing, standing_found, stands_filtered, stands_flat, stands_mapped, stands_alone}

-- ---- one join
abbrev grown : Join → Row → Joined → Row
grown j row found = record { key = row.key ++ found.rel.id ∷ found.target.id ∷ []; bound = row.bound ++ bound_by j found }

both_true : (a b : Bool) → a ≡ true → b ≡ true → (a && b) ≡ true
both_true a b p q = ap (λ c. c && b) p ∙ q

first_true : (a b : Bool) → (a && b) ≡ true → a ≡ true
first_true true b h = refl
first_true false b h = h

second_true : (a b : Bool) → (a && b) ≡ true → b ≡ true
second_true true b h = h
second_true false b h = absurd cc

module _ (s : State) (w : WellTyped s) (j : Join) where
  abbrev with_link : Row → Link → List Row
  with_link row l = joined_row j row l (twin_at l.target s)

  abbrev from_row : Row → List Row
  from_row row = flat_map (with_link row) (links_of s j.name (bound_to j.from row.bound))

  -- what is found stands among the rows
  meets_stands : (rows : List Row) (row : Row) (found : Joined) → Contains rows row → MeetsJoin s row.bound j found → Contains (join_rows s j rows) (grown j row found)
  meets_stands rows row found at m = stands_flat from_row (grown j row found) rows row at in_row
    where
      tests : (bytes_eq found.rel.source m.source.id && bytes_eq found.rel.name j.name) ≡ true
      tests = both_true (bytes_eq found.rel.source m.source.id) (bytes_eq found.rel.name j.name)
          (ap (λ a. bytes_eq a m.source.id) m.leaves ∙ same_bytes m.source.id)
          (ap (λ a. bytes_eq a j.name) m.named ∙ same_bytes j.name)

      among : Contains (links_of s j.name (bound_to j.from row.bound)) found.rel
      among = subst (λ o. Contains (links_of s j.name o) found.rel) (sym m.bound)
          (stands_filtered (λ l. bytes_eq l.source m.source.id && bytes_eq l.name j.name) s.links found.rel m.stands tests)

      target : twin_at found.rel.target s ≡ Some found.target
      target = ap (λ a. twin_at a s) m.leads ∙ standing_found (λ (t : Twin). t.id) s.twins found.target w.twins m.there

      in_row : Contains (from_row row) (grown j row found)
      in_row = stands_flat (with_link row) (grown j row found) (links_of s j.name (bound_to j.from row.bound)) found.rel among
          (subst (λ o. Contains (joined_row j row found.rel o) (grown j row found)) (sym target) (stands_alone (grown j row found)))

  -- ---- and what stands there is found
  abbrev IsGrown : List Row → Row → Type 0
  IsGrown rows y = (row : Row) × (found : Joined) × Contains rows row × MeetsJoin s row.bound j found × (y ≡ grown j row found)

  abbrev IsAlong : Row → Row → Type 0
  IsAlong row y = (found : Joined) × MeetsJoin s row.bound j found × (y ≡ grown j row found)

  abbrev IsOut : Option Element → Link → Type 0
  IsOut o l = Contains s.links l × (l.name ≡ j.name) × (source : Twin) × (o ≡ Some (twin source)) × (l.source ≡ source.id)

  links_out : (o : Option Element) → AllByRecursion (IsOut o) (links_of s j.name o)
  links_out None = tt
  links_out (Some (link l)) = tt
  links_out (Some (twin t)) =
      all_both (Contains s.links) (λ l. (bytes_eq l.source t.id && bytes_eq l.name j.name) ≡ true) (IsOut (Some (twin t)))
      (λ l at h. (at, same_text l.name j.name (second_true (bytes_eq l.source t.id) (bytes_eq l.name j.name) h), t, refl, same_text l.source t.id (first_true (bytes_eq l.source t.id) (bytes_eq l.name j.name) h)))
      (filter (λ l. bytes_eq l.source t.id && bytes_eq l.name j.name) s.links)
      (all_filtered (Contains s.links) (λ l. bytes_eq l.source t.id && bytes_eq l.name j.name) s.links (each_stands s.links))
      (all_pass (λ l. bytes_eq l.source t.id && bytes_eq l.name j.name) s.links)

  one_along : (row : Row) (l : Link) → IsOut (bound_to j.from row.bound) l → (o : Option Twin) → twin_at l.target s ≡ o → AllByRecursion (IsAlong row) (joined_row j row l o)
  one_along row l out None is = tt
  one_along row l out (Some t) is = (
    (
      record { rel = l; target = t },
      record {
        stands = out.0;
        named = out.1;
        source = out.2;
        bound = out.3;
        leaves = out.4;
        there = found_stands (λ (u : Twin). u.id) l.target t s.twins is;
        leads = sym (found_id (λ (u : Twin). u.id) l.target t s.twins is);
      },
      refl,
    ),
    tt,
  )

  row_along : (row : Row) → AllByRecursion (IsAlong row) (from_row row)
  row_along row =
      all_flat (IsAlong row) (with_link row) (links_of s j.name (bound_to j.from row.bound))
      (all_weaker (IsOut (bound_to j.from row.bound)) (λ l. AllByRecursion (IsAlong row) (with_link row l))
      (λ l out. one_along row l out (twin_at l.target s) refl)
      (links_of s j.name (bound_to j.from row.bound)) (links_out (bound_to j.from row.bound)))

  rows_grown : (rows : List Row) → AllByRecursion (IsGrown rows) (join_rows s j rows)
  rows_grown rows =
      all_flat (IsGrown rows) from_row rows
      (all_weaker (Contains rows) (λ row. AllByRecursion (IsGrown rows) (from_row row))
      (λ row at. all_weaker (IsAlong row) (IsGrown rows) (λ y a. (row, a.0, at, a.1, a.2)) (from_row row) (row_along row))
      rows (each_stands rows))

-- ---- one join after another
abbrev all_grown : List Join → Row → List Joined → Row
all_grown js row found = record { key = row.key ++ joined_ids found; bound = row.bound ++ all_bound_by js found }

one_more : (j : Join) (js : List Join) (row : Row) (found : Joined) (more : List Joined) → all_grown js (grown j row found) more ≡ all_grown (j ∷ js) row (found ∷ more)
one_more j js row found more =
    ap (λ ids. record { key = ids; bound = (row.bound ++ bound_by j found) ++ all_bound_by js more }) (append_assoc row.key (found.rel.id ∷ found.target.id ∷ []) (joined_ids more))
    ∙ ap (λ bs. record { key = row.key ++ joined_ids (found ∷ more); bound = bs }) (append_assoc row.bound (bound_by j found) (all_bound_by js more))

no_more : (row : Row) → record { key = row.key ++ []; bound = row.bound ++ [] } ≡ row
no_more row = ap (λ ids. record { key = ids; bound = row.bound ++ [] }) (append-nil row.key) ∙ ap (λ bs. record { key = row.key; bound = bs }) (append-nil row.bound)

module _ (s : State) (w : WellTyped s) where
  pub all_stand : (js : List Join) (found : List Joined) (rows : List Row) (row : Row) → Contains rows row → MeetsJoins s row.bound js found → Contains (join_all s js rows) (all_grown js row found)
  all_stand [] [] rows row at m = subst (Contains rows) (sym (no_more row)) at
  all_stand [] (found ∷ more) rows row at m = absurd m
  all_stand (j ∷ js) [] rows row at m = absurd m
  all_stand (j ∷ js) (found ∷ more) rows row at m =
      subst (Contains (join_all s js (join_rows s j rows))) (one_more j js row found more)
      (all_stand js more (join_rows s j rows) (grown j row found) (meets_stands s w j rows row found at m.0) m.1)

  abbrev IsAllGrown : List Join → List Row → Row → Type 0
  IsAllGrown js rows y = (row : Row) × (found : List Joined) × Contains rows row × MeetsJoins s row.bound js found × (y ≡ all_grown js row found)

  all_meet : (js : List Join) (rows : List Row) → AllByRecursion (IsAllGrown js rows) (join_all s js rows)
  all_meet [] rows = all_weaker (Contains rows) (IsAllGrown [] rows) (λ row at. (row, [], at, tt, sym (no_more row))) rows (each_stands rows)
  all_meet (j ∷ js) rows =
      all_weaker (IsAllGrown js (join_rows s j rows)) (IsAllGrown (j ∷ js) rows) (λ y g. before y g) (join_all s js (join_rows s j rows)) (all_meet js (join_rows s j rows))
    where
      before : (y : Row) → IsAllGrown js (join_rows s j rows) y → IsAllGrown (j ∷ js) rows y
      before y (mid, more, at, m, is) =
          let one = of_standing (IsGrown s w j rows) (join_rows s j rows) mid (rows_grown s w j rows) at in (
            one.0,
            one.1 ∷ more,
            one.2,
            (one.3, subst (λ bs. MeetsJoins s bs js more) (ap (λ r. r.bound) one.4) m),
            is ∙ ap (λ r. all_grown js r more) one.4 ∙ one_more j js one.0 one.1 more,
          )

-- ---- rows of twins and of relationships
module _ (s : State) (w : WellTyped s) (q : Asked) where
  abbrev of_twins : List Row
  of_twins = join_all s q.joins (map (twin_row q.alias) s.twins)

  abbrev of_links : List Row
  of_links = map (link_row q.alias) s.links

  abbrev IsTwinStart : Row → Type 0
  IsTwinStart row = (t : Twin) × Contains s.twins t × (row ≡ twin_row q.alias t)

  starts : AllByRecursion IsTwinStart (map (twin_row q.alias) s.twins)
  starts = all_mapped IsTwinStart (twin_row q.alias) s.twins (all_weaker (Contains s.twins) (λ t. IsTwinStart (twin_row q.alias t)) (λ t at. (t, at, refl)) s.twins (each_stands s.twins))

  is_twin_row : (row : Row) → IsAllGrown s w q.joins (map (twin_row q.alias) s.twins) row → IsTwinRow s q row
  is_twin_row row (first, found, at, m, is) =
      let start = of_standing IsTwinStart (map (twin_row q.alias) s.twins) first starts at in
      let whole : row ≡ all_grown q.joins (twin_row q.alias start.0) found = is ∙ ap (λ r. all_grown q.joins r found) start.2 in
      record {
        first = start.0;
        joined = found;
        stands = start.1;
        meets = subst (λ bs. MeetsJoins s bs q.joins found) (ap (λ r. r.bound) start.2) m;
        key = ap (λ r. r.key) whole;
        bindings = ap (λ r. r.bound) whole;
      }

  twin_row_stands : (row : Row) → IsTwinRow s q row → Contains of_twins row
  twin_row_stands row r =
      subst (Contains of_twins)
      (ap (λ ids. record { key = ids; bound = bound q.alias (twin r.first) ∷ all_bound_by q.joins r.joined }) (sym r.key)
      ∙ ap (λ bs. record { key = row.key; bound = bs }) (sym r.bindings))
      (all_stand s w q.joins r.joined (map (twin_row q.alias) s.twins) (twin_row q.alias r.first) (stands_mapped (twin_row q.alias) s.twins r.first r.stands) r.meets)

  each_link_row : AllByRecursion (IsLinkRow s q) of_links
  each_link_row =
      all_mapped (IsLinkRow s q) (link_row q.alias) s.links
      (all_weaker (Contains s.links) (λ l. IsLinkRow s q (link_row q.alias l)) (λ l at. record { rel = l; stands = at; key = refl; bindings = refl }) s.links (each_stands s.links))

  link_row_stands : (row : Row) → IsLinkRow s q row → Contains of_links row
  link_row_stands row r =
      subst (Contains of_links)
      (ap (λ ids. record { key = ids; bound = bound q.alias (link r.rel) ∷ [] }) (sym r.key) ∙ ap (λ bs. record { key = row.key; bound = bs }) (sym r.bindings))
      (stands_mapped (link_row q.alias) s.links r.rel r.stands)

  pub rows_are : (row : Row) → Contains (all_rows s q) row ↔ IsRow s q row
  rows_are row =
      elim q.relationships as (λ b. Contains (if b then of_links else of_twins) row ↔ IsRowOver b s q row) [
        | true ↦ (λ at. of_standing (IsLinkRow s q) of_links row each_link_row at, link_row_stands row)
        | false ↦ (λ at. is_twin_row row (of_standing (IsAllGrown s w q.joins (map (twin_row q.alias) s.twins)) of_twins row (all_meet s w q.joins (map (twin_row q.alias) s.twins)) at), twin_row_stands row)
      ]

  -- ---- those that are kept
  passes : (c : Option Condition) (row : Row) → (row_passes s c row ≡ true) ↔ Fulfils s c row
  passes None row = (λ h. tt, λ f. refl)
  passes (Some c) row = (λ h. h, λ f. f)

  each_kept : AllByRecursion (λ row. Contains (all_rows s q) row × (row_passes s q.where_ row ≡ true)) (kept_rows s q)
  each_kept =
      all_both (Contains (all_rows s q)) (λ row. row_passes s q.where_ row ≡ true) (λ row. Contains (all_rows s q) row × (row_passes s q.where_ row ≡ true))
      (λ row at h. (at, h)) (kept_rows s q)
      (all_filtered (Contains (all_rows s q)) (row_passes s q.where_) (all_rows s q) (each_stands (all_rows s q)))
      (all_pass (row_passes s q.where_) (all_rows s q))

  pub kept_are : (row : Row) → Contains (kept_rows s q) row ↔ (IsRow s q row × Fulfils s q.where_ row)
  kept_are row = (
    λ at. let both = of_standing (λ r. Contains (all_rows s q) r × (row_passes s q.where_ r ≡ true)) (kept_rows s q) row each_kept at in
        ((rows_are row).0 both.0, (passes q.where_ row).0 both.1),
    λ h. stands_filtered (row_passes s q.where_) (all_rows s q) row ((rows_are row).1 h.0) ((passes q.where_ row).1 h.1),
  )
