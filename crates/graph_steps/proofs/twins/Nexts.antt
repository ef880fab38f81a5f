-- The first row with ids past a model, and what it says of the twins.
use Rattle.std.proofs.Common.{◌≡◌, ℕ, ◌<◌, List, [], ◌∷◌, Bool, true, false, true≢false, ◌&&◌, cond, Option, Some, None, length, unwrap_or, refl, sym, ap, ◌∙◌, subst, Ordering, Less, Equal, Greater, is_eq, ⊎_elim, arith}
use Rattle.std.specs.Option.{is_some, MatchOption}
use Rattle.std.specs.Ordering.{is_lt}
use Rattle.std.specs.List.{filter, find, AllByRecursion}
use Rattle.std.specs.List.Sorted.{IsStrictlySortedBy}
use Rattle.std.specs.Map.{lookup, keys_of, values_of}
use Rattle.std.specs.BTreeMap.{is_at}
use Rattle.std.proofs.lemmas.Bool.{cases_Bool, and_from}
use Rattle.std.proofs.lemmas.Cmp.{tied_itself, alike_right, eq_by_cmp_equiv}
use Rattle.std.proofs.lemmas.Option.{same_Some, none-some}
use Rattle.std.proofs.lemmas.Map.{lookup-none}
use Rattle.std.proofs.lemmas.Map.Keys.{sorted_tail, IsDistinct-from_sorted}
use Rattle.std.proofs.lemmas.Map.Entries.{lookup_head, lookup_tail, none_past_head, none_below_head}
use Rattle.ordered_table.proofs.Flat.{C, c_total}
use Rattle.ordered_table.proofs.Ordered.{unlike}
use Rattle.ordered_table.proofs.Kept.{all_by_lookups}
use Rattle.dt_base.specs.names.Grammar.{Identifier, id_cmp}
use Rattle.graph_steps.specs.declared.twins.held.Held.{Held}
use Rattle.graph_steps.specs.twins.Held.{comes_after, model_past, HasNoModelPast, IsNextModel}
use Rattle.graph_steps.specs.twins.Machinery.Rows.{Rows, ids_of, has_ids, first_full, full_past, HasNoIdsPast, IsNextRow}
use Rattle.graph_steps.specs.twins.Machinery.Keeping.{held_under, is_there_of, KeepsTwins}
use Rattle.graph_steps.proofs.twins.Rows.{models_total}
use Rattle.graph_steps.proofs.twins.Listed.{counted-of_model}

abbrev Ids : Type 0
Ids = List (List ℕ × Unit {0})

-- ---- rows with ids
no_ids : (ids : Ids) → has_ids ids ≡ false → ids ≡ []
no_ids [] h = refl
no_ids (i ∷ is) h = absurd (true≢false h)

some_ids : (ids : Ids) → has_ids ids ≡ true → 0 < length ids
some_ids [] h = absurd (true≢false (sym h))
some_ids (i ∷ is) h = omega arith

-- models that tie come after the same
comes_tied : (after : Option Identifier) (k m : Identifier) → is_eq (id_cmp k m) ≡ true → comes_after after k ≡ comes_after after m
comes_tied None k m h = refl
comes_tied (Some a) k m h = ap is_lt (alike_right models_total k m a (unlike (id_cmp k m) h))

module _ (after : Option Identifier) where
  -- the row is past the model and has ids
  abbrev serves : Identifier × Ids → Bool
  serves row = comes_after after row.0 && has_ids row.1

  found-filtered : (rows : Rows) → full_past after rows ≡ find serves rows
  found-filtered [] = refl
  found-filtered (r ∷ rs) =
      elim (comes_after after r.0) as (λ b. first_full (cond b (r ∷ filter (λ (x : Identifier × Ids). comes_after after x.0) rs) (filter (λ (x : Identifier × Ids). comes_after after x.0) rs)) ≡ cond (b && has_ids r.1) (Some r) (find serves rs)) [
        | true ↦ ap (cond (has_ids r.1) (Some r)) (found-filtered rs)
        | false ↦ found-filtered rs
      ]

  -- a row that does not serve, and the ids under a model past this one
  passed : (r : Identifier × Ids) (rs : Rows) (k : Identifier) → serves r ≡ false → comes_after after k ≡ true → ids_of k rs ≡ [] → ids_of k (r ∷ rs) ≡ []
  passed r rs k idle past rest =
      ⊎_elim
      (λ t. ap (λ o. unwrap_or o []) (lookup_head (is_at (id_cmp k)) r rs t)
      ∙ ⊎_elim
      (λ some. absurd (true≢false (sym (and_from (comes_after after r.0) (has_ids r.1) (sym (comes_tied after k r.0 t) ∙ past) some) ∙ idle)))
      (λ none. no_ids r.1 none)
      (cases_Bool (has_ids r.1)))
      (λ t. ap (λ o. unwrap_or o []) (lookup_tail (is_at (id_cmp k)) r rs t) ∙ rest)
      (cases_Bool (is_eq (id_cmp k r.0)))

  none_serves : (rows : Rows) → find serves rows ≡ None → HasNoIdsPast after rows
  none_serves [] h = λ k past. refl
  none_serves (r ∷ rs) h =
      ⊎_elim
      (λ t. absurd (none-some r (sym h ∙ ap (λ b. cond b (Some r) (find serves rs)) t)))
      (λ t. λ k past. passed r rs k t past (none_serves rs (sym (ap (λ b. cond b (Some r) (find serves rs)) t) ∙ h) k past))
      (cases_Bool (serves r))

  pub none-past : (rows : Rows) → full_past after rows ≡ None → HasNoIdsPast after rows
  none-past rows h = none_serves rows (sym (found-filtered rows) ∙ h)

  -- the first row that serves
  record IsFirst (rows : Rows) (m : Identifier) (ids : Ids) : Type 0 where
    served : serves (m, ids) ≡ true
    looked : lookup (is_at (id_cmp m)) rows ≡ Some ids
    least : (k : Identifier) → comes_after after k ≡ true → is_lt (id_cmp k m) ≡ true → ids_of k rows ≡ []

  is_less : (o : Ordering) → is_lt o ≡ true → o ≡ Less
  is_less Less h = refl
  is_less Equal h = absurd (true≢false (sym h))
  is_less Greater h = absurd (true≢false (sym h))

  first_serves : (rows : Rows) (m : Identifier) (ids : Ids) → IsStrictlySortedBy id_cmp (keys_of rows) → find serves rows ≡ Some (m, ids) → IsFirst rows m ids
  first_serves [] m ids s h = absurd (none-some (m, ids) h)
  first_serves (r ∷ rs) m ids s h =
      ⊎_elim
      (λ t. let same : r ≡ (m, ids) = same_Some r (m, ids) (sym (ap (λ b. cond b (Some r) (find serves rs)) t) ∙ h) in
      subst (λ (x : Identifier × Ids). IsFirst (r ∷ rs) x.0 x.1) same record {
        served = t;
        looked = lookup_head (is_at (id_cmp r.0)) r rs (ap is_eq (tied_itself models_total r.0));
        least = λ k past less. ap (λ o. unwrap_or o []) (lookup-none (is_at (id_cmp k)) (r ∷ rs) (none_below_head models_total k r rs s (is_less (id_cmp k r.0) less)));
      })
      (λ t. let rest = first_serves rs m ids (sorted_tail id_cmp r.0 (keys_of rs) s) (sym (ap (λ b. cond b (Some r) (find serves rs)) t) ∙ h) in
      record {
        served = rest.served;
        looked =
            ⊎_elim
            (λ e. absurd (none-some ids (sym (lookup-none (is_at (id_cmp m)) rs (none_past_head (eq_by_cmp_equiv models_total) m r rs (IsDistinct-from_sorted id_cmp _ s) e)) ∙ rest.looked)))
            (λ e. lookup_tail (is_at (id_cmp m)) r rs e ∙ rest.looked)
            (cases_Bool (is_eq (id_cmp m r.0)));
        least = λ k past less. passed r rs k t past (rest.least k past less);
      })
      (cases_Bool (serves r))

  left_true : (a b : Bool) → (a && b) ≡ true → a ≡ true
  left_true true b h = refl
  left_true false b h = absurd (true≢false (sym h))

  right_true : (a b : Bool) → (a && b) ≡ true → b ≡ true
  right_true true b h = h
  right_true false b h = absurd (true≢false (sym h))

  pub first-past : (rows : Rows) (m : Identifier) (ids : Ids) (number : ℕ) → IsStrictlySortedBy id_cmp (keys_of rows) → full_past after rows ≡ Some (m, ids)
      → number ≡ length ids → IsStrictlySortedBy C (keys_of ids) → IsNextRow after rows m number
  first-past rows m ids number s h counted ordered =
      let first = first_serves rows m ids s (sym (found-filtered rows) ∙ h) in
      let here : ids_of m rows ≡ ids = ap (λ o. unwrap_or o []) first.looked in
      record {
        past = left_true (comes_after after m) (has_ids ids) first.served;
        least = first.least;
        counted = counted ∙ ap length (sym here);
        some = subst (λ n. 0 < n) (sym counted) (some_ids ids (right_true (comes_after after m) (has_ids ids) first.served));
        ordered = subst (λ (is : Ids). IsStrictlySortedBy C (keys_of is)) (sym here) ordered;
      }

-- ---- what rows say of the twins
all_values : (P : Held → Type 0) (es : List (List ℕ × Held)) → AllByRecursion (λ e. P e.1) es → AllByRecursion P (values_of es)
all_values P [] a = tt
all_values P (e ∷ es) a = (a.0, all_values P es a.1)

module _ (entries : List (List ℕ × Held)) (rows : Rows) (len bytes : ℕ) (kept : KeepsTwins entries rows len bytes) (hs : List Held) (seen : values_of entries ≡ hs) (after : Option Identifier) where
  -- the model of a twin has ids
  listed : (q : List ℕ) (h : Held) → held_under entries q ≡ Some h → ids_of h.twin.model rows ≡ [] → ⊥
  listed q h there none =
      true≢false
      (sym (kept.indexed h.twin.model q ∙ ap (is_there_of h.twin.model) there ∙ ap is_eq (tied_itself models_total h.twin.model))
      ∙ ap (λ (is : Ids). is_some (lookup (is_at (C q)) is)) none)

  all_twins : (P : Held → Type 0) → ((q : List ℕ) (h : Held) → held_under entries q ≡ Some h → P h) → AllByRecursion P hs
  all_twins P f = subst (AllByRecursion P) seen (all_values P entries (all_by_lookups c_total (λ q h. P h) entries kept.sorted f))

  pub no-model-past : HasNoIdsPast after rows → HasNoModelPast after hs
  no-model-past none = all_twins (λ h. model_past after h ≡ false) (λ q h there.
      ⊎_elim
      (λ t. absurd (listed q h there (none h.twin.model t)))
      (λ t. t)
      (cases_Bool (model_past after h)))

  pub next-model : (m : Identifier) (number : ℕ) → IsNextRow after rows m number → IsNextModel after hs m number
  next-model m number next = record {
    past = next.past;
    least = all_twins (λ h. model_past after h ≡ true → is_lt (id_cmp h.twin.model m) ≡ false) (λ q h there past.
        ⊎_elim
        (λ t. absurd (listed q h there (next.least h.twin.model past t)))
        (λ t. t)
        (cases_Bool (is_lt (id_cmp h.twin.model m))));
    counted = next.counted ∙ counted-of_model entries rows len bytes kept m next.ordered hs seen;
    some = next.some;
  }

  -- the same of a row that may be
  pub next-models : {T : Type 0} (r : Option T) (model : T → Identifier) (number : T → ℕ) → MatchOption r (HasNoIdsPast after rows) (λ next. IsNextRow after rows (model next) (number next))
      → MatchOption r (HasNoModelPast after hs) (λ next. IsNextModel after hs (model next) (number next))
  next-models None model number h = no-model-past h
  next-models (Some next) model number h = next-model (model next) (number next) h
