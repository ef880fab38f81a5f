-- The ids under the models, after a row was made, written over or given up, or an id went to another model.
use Rattle.std.proofs.Common.{◌≡◌, ℕ, List, [], ◌∷◌, Bool, true, false, cond, ◌&&◌, Option, Some, None, unwrap_or, refl, sym, ap, ◌∙◌, Equal, is_eq, true≢false}
use Rattle.std.specs.Option.{is_some}
use Rattle.std.specs.Cmp.{IsTotalOrder}
use Rattle.std.specs.Map.{lookup}
use Rattle.std.specs.BTreeMap.{is_at}
use Rattle.std.proofs.lemmas.Cmp.{nat_list_cmp_total, on_total, eq_by_cmp_equiv}
use Rattle.std.proofs.lemmas.Map.Lookups.{exact_bytes}
use Rattle.ordered_table.proofs.Flat.{C}
use Rattle.ordered_table.proofs.Ordered.{unlike}
use Rattle.dt_base.specs.names.Grammar.{Identifier, dtmi_text, id_cmp}
use Rattle.graph_steps.specs.twins.Machinery.Rows.{Rows, ids_of, holds_id}

pub models_total : IsTotalOrder id_cmp
models_total = on_total dtmi_text nat_list_cmp_total

-- look-ups at two identifiers that tie
lookup-tied : {X : Type 0} (m k : Identifier) (es : List (Identifier × X)) → id_cmp m k ≡ Equal → lookup (is_at (id_cmp m)) es ≡ lookup (is_at (id_cmp k)) es
lookup-tied m k [] h = refl
lookup-tied m k (e ∷ es) h =
    ap (λ r. cond (is_eq r) (Some e.1) (lookup (is_at (id_cmp m)) es)) (models_total.congr m k e.0 h)
    ∙ ap (cond (is_eq (id_cmp k e.0)) (Some e.1)) (lookup-tied m k es h)

ids-tied : (m k : Identifier) (rows : Rows) → is_eq (id_cmp m k) ≡ true → ids_of k rows ≡ ids_of m rows
ids-tied m k rows h = ap (λ o. unwrap_or o []) (sym (lookup-tied m k rows (unlike (id_cmp m k) h)))

spread : {X : Type 0} (b : Bool) (o p : Option (List X)) → unwrap_or (cond b o p) [] ≡ cond b (unwrap_or o []) (unwrap_or p [])
spread true o p = refl
spread false o p = refl

module _ (rows rows' : Rows) (model : Identifier) where
  module _ (row : Option (List (List ℕ × Unit {0}))) (changed : (m : Identifier) → lookup (is_at (id_cmp m)) rows' ≡ cond (is_eq (id_cmp m model)) row (lookup (is_at (id_cmp m)) rows)) where
    ids-changed : (m : Identifier) → ids_of m rows' ≡ cond (is_eq (id_cmp m model)) (unwrap_or row []) (ids_of m rows)
    ids-changed m = ap (λ o. unwrap_or o []) (changed m) ∙ spread (is_eq (id_cmp m model)) row (lookup (is_at (id_cmp m)) rows)

    -- a row as it was, or one without ids for none
    pub ids-same : unwrap_or row [] ≡ ids_of model rows → (m : Identifier) → ids_of m rows' ≡ ids_of m rows
    ids-same same m =
        ids-changed m
        ∙ elim (is_eq (id_cmp m model)) as (λ b. is_eq (id_cmp m model) ≡ b → cond b (unwrap_or row []) (ids_of m rows) ≡ ids_of m rows) [
          | true ↦ λ h. same ∙ ids-tied m model rows h
          | false ↦ λ h. refl
        ] refl

  -- a row in which one id came or went
  pub has-changed : (row : List (List ℕ × Unit {0})) (id : List ℕ) (b : Bool) → ((m : Identifier) → lookup (is_at (id_cmp m)) rows' ≡ cond (is_eq (id_cmp m model)) (Some row) (lookup (is_at (id_cmp m)) rows))
      → ((q : List ℕ) → is_some (lookup (is_at (C q)) row) ≡ cond (is_eq (C q id)) b (holds_id model q rows))
      → (m : Identifier) (q : List ℕ) → holds_id m q rows' ≡ cond (is_eq (id_cmp m model) && is_eq (C q id)) b (holds_id m q rows)
  has-changed row id b changed inner m q =
      ap (λ ids. is_some (lookup (is_at (C q)) ids)) (ids-changed (Some row) changed m)
      ∙ elim (is_eq (id_cmp m model)) as (λ t. is_eq (id_cmp m model) ≡ t → is_some (lookup (is_at (C q)) (cond t row (ids_of m rows))) ≡ cond (t && is_eq (C q id)) b (holds_id m q rows)) [
        | true ↦ λ h. inner q ∙ ap (λ ids. cond (is_eq (C q id)) b (is_some (lookup (is_at (C q)) ids))) (ids-tied m model rows h)
        | false ↦ λ h. refl
      ] refl

-- no id goes from where there is no row
nothing : (t b : Bool) → b ≡ false → b ≡ cond t false b
nothing true b h = h
nothing false b h = refl

pub has-none : (rows : Rows) (model : Identifier) (id : List ℕ) → lookup (is_at (id_cmp model)) rows ≡ None
    → (m : Identifier) (q : List ℕ) → holds_id m q rows ≡ cond (is_eq (id_cmp m model) && is_eq (C q id)) false (holds_id m q rows)
has-none rows model id none m q =
    elim (is_eq (id_cmp m model)) as (λ t. is_eq (id_cmp m model) ≡ t → holds_id m q rows ≡ cond (t && is_eq (C q id)) false (holds_id m q rows)) [
      | true ↦ λ h. nothing (is_eq (C q id)) (holds_id m q rows)
          (ap (λ ids. is_some (lookup (is_at (C q)) ids)) (sym (ids-tied m model rows h) ∙ ap (λ o. unwrap_or o []) none))
      | false ↦ λ h. refl
    ] refl

-- whether there is an entry, after one at a key came or went
pub some_put : (b : Bool) (o : Option (Unit {0})) → is_some (cond b (Some tt) o) ≡ cond b true (is_some o)
some_put true o = refl
some_put false o = refl

pub some_taken : (b : Bool) (o : Option (Unit {0})) → is_some (cond b None o) ≡ cond b false (is_some o)
some_taken true o = refl
some_taken false o = refl

-- ---- an id that was under one model alone, once it is under another
of_same : (m from to : Identifier) → is_eq (id_cmp from to) ≡ true → is_eq (id_cmp m from) ≡ is_eq (id_cmp m to)
of_same m from to h =
    (eq_by_cmp_equiv models_total).symm m from ∙ ap is_eq (models_total.congr from to m (unlike (id_cmp from to) h)) ∙ (eq_by_cmp_equiv models_total).symm to m

not_both : (m from to : Identifier) → is_eq (id_cmp from to) ≡ false → is_eq (id_cmp m to) ≡ true → is_eq (id_cmp m from) ≡ true → ⊥
not_both m from to h p q = true≢false (sym p ∙ ap is_eq (models_total.congr m from to (unlike (id_cmp m from) q)) ∙ h)

here : (t s h : Bool) → (s ≡ true → h ≡ t) → h ≡ cond s t h
here t true h x = x refl
here t false h x = refl

in_and_out : (f t s h : Bool) → (t ≡ true → f ≡ true → ⊥) → (s ≡ true → h ≡ f) → cond (f && s) false (cond (t && s) true h) ≡ cond s t h
in_and_out true true true h x y = absurd (x refl refl)
in_and_out true false true h x y = refl
in_and_out false true true h x y = refl
in_and_out false false true h x y = y refl
in_and_out true true false h x y = refl
in_and_out true false false h x y = refl
in_and_out false true false h x y = refl
in_and_out false false false h x y = refl

module _ (rows : Rows) (id : List ℕ) (from to : Identifier) (alone : (m : Identifier) → holds_id m id rows ≡ is_eq (id_cmp m from)) where
  at_id : (m : Identifier) (q : List ℕ) → is_eq (C q id) ≡ true → holds_id m q rows ≡ is_eq (id_cmp m from)
  at_id m q t = ap (λ k. holds_id m k rows) (exact_bytes q id (unlike (C q id) t)) ∙ alone m

  -- the same model
  pub shifted-same : is_eq (id_cmp from to) ≡ true → (m : Identifier) (q : List ℕ) → holds_id m q rows ≡ cond (is_eq (C q id)) (is_eq (id_cmp m to)) (holds_id m q rows)
  shifted-same same m q = here (is_eq (id_cmp m to)) (is_eq (C q id)) (holds_id m q rows) (λ t. at_id m q t ∙ of_same m from to same)

  -- another, under which it came before it left
  pub shifted-moves : is_eq (id_cmp from to) ≡ false → (rows1 rows2 : Rows)
      → ((m : Identifier) (q : List ℕ) → holds_id m q rows1 ≡ cond (is_eq (id_cmp m to) && is_eq (C q id)) true (holds_id m q rows))
      → ((m : Identifier) (q : List ℕ) → holds_id m q rows2 ≡ cond (is_eq (id_cmp m from) && is_eq (C q id)) false (holds_id m q rows1))
      → (m : Identifier) (q : List ℕ) → holds_id m q rows2 ≡ cond (is_eq (C q id)) (is_eq (id_cmp m to)) (holds_id m q rows)
  shifted-moves other rows1 rows2 entered leaves m q =
      leaves m q
      ∙ ap (cond (is_eq (id_cmp m from) && is_eq (C q id)) false) (entered m q)
      ∙ in_and_out (is_eq (id_cmp m from)) (is_eq (id_cmp m to)) (is_eq (C q id)) (holds_id m q rows) (not_both m from to other) (at_id m q)
