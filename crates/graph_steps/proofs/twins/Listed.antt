-- The twins that the ids of a model lead to are the twins of the model.
use Rattle.std.proofs.Common.{◌≡◌, ℕ, List, [], ◌∷◌, map, Bool, true, false, true≢false, cond, Option, Some, None, length, refl, sym, ap, ◌∙◌, subst}
use Rattle.std.specs.Option.{option_map, is_some}
use Rattle.std.specs.List.{cons_option, filter, AllByRecursion}
use Rattle.std.specs.List.Sorted.{IsStrictlySortedBy}
use Rattle.std.specs.Map.{lookup, keys_of, values_of}
use Rattle.std.specs.BTreeMap.{is_at}
use Rattle.std.proofs.lemmas.Cmp.{eq_by_cmp_equiv}
use Rattle.std.proofs.lemmas.List.{length-map}
use Rattle.std.proofs.lemmas.Map.Keys.{IsDistinct-from_sorted}
use Rattle.std.proofs.lemmas.Map.Lookups.{exact_bytes}
use Rattle.std.proofs.lemmas.Map.Entries.{lookup-filter-values, option_filter}
use Rattle.dt_base.specs.names.Grammar.{Identifier}
use Rattle.ordered_table.proofs.Flat.{C, c_total}
use Rattle.ordered_table.proofs.Kept.{same_by_lookups, sorted-filter, all_by_lookups}
use Rattle.graph_steps.specs.declared.twins.held.Held.{Held}
use Rattle.graph_steps.specs.twins.Held.{is_twin_of, of_model}
use Rattle.graph_steps.specs.twins.Machinery.Rows.{Rows, ids_of}
use Rattle.graph_steps.specs.twins.Machinery.Keeping.{held_under, twins_under, is_there_of, KeepsTwins}

-- the keys of entries, without their values
abbrev blank : List (List ℕ × Held) → List (List ℕ × Unit {0})
blank es = map (λ e. (e.0, tt)) es

keys-blank : (es : List (List ℕ × Held)) → keys_of (blank es) ≡ keys_of es
keys-blank [] = refl
keys-blank (e ∷ es) = ap (λ ks. e.0 ∷ ks) (keys-blank es)

lookup-blank : (test : List ℕ → Bool) (es : List (List ℕ × Held)) → is_some (lookup test (blank es)) ≡ is_some (lookup test es)
lookup-blank test [] = refl
lookup-blank test (e ∷ es) =
    elim (test e.0) as (λ b. is_some (cond b (Some tt) (lookup test (blank es))) ≡ is_some (cond b (Some e.1) (lookup test es))) [
      | true ↦ refl
      | false ↦ lookup-blank test es
    ]

-- entries without values are told apart by whether they are there
same_some : (o p : Option (Unit {0})) → is_some o ≡ is_some p → o ≡ p
same_some None None h = refl
same_some None (Some x) h = absurd (true≢false (sym h))
same_some (Some x) None h = absurd (true≢false h)
same_some (Some x) (Some y) h = refl

there_filtered : (m : Identifier) (o : Option Held) → is_some (option_filter (is_twin_of m) o) ≡ is_there_of m o
there_filtered m None = refl
there_filtered m (Some h) = elim (is_twin_of m h) as (λ b. is_some (cond b (Some h) None) ≡ b) [
  | true ↦ refl
  | false ↦ refl
]

-- ids of some of the entries lead to these
leads : (entries part : List (List ℕ × Held)) → AllByRecursion (λ e. held_under entries e.0 ≡ Some e.1) part → twins_under entries (blank part) ≡ map (λ (h : Held). h.twin) (values_of part)
leads entries [] a = refl
leads entries (e ∷ es) a =
    ap (λ o. cons_option (option_map (λ (h : Held). h.twin) o) (twins_under entries (blank es))) a.0
    ∙ ap (λ ts. e.1.twin ∷ ts) (leads entries es a.1)

all_filtered : (entries es : List (List ℕ × Held)) (p : Held → Bool) → AllByRecursion (λ e. held_under entries e.0 ≡ Some e.1) es → AllByRecursion (λ e. held_under entries e.0 ≡ Some e.1) (filter (λ e. p e.1) es)
all_filtered entries [] p a = tt
all_filtered entries (e ∷ es) p a = elim (p e.1) as (λ b. AllByRecursion (λ x. held_under entries x.0 ≡ Some x.1) (cond b (e ∷ filter (λ x. p x.1) es) (filter (λ x. p x.1) es))) [
  | true ↦ (a.0, all_filtered entries es p a.1)
  | false ↦ all_filtered entries es p a.1
]

values-filter : (p : Held → Bool) (es : List (List ℕ × Held)) → values_of (filter (λ e. p e.1) es) ≡ filter p (values_of es)
values-filter p [] = refl
values-filter p (e ∷ es) = elim (p e.1) as (λ b. values_of (cond b (e ∷ filter (λ x. p x.1) es) (filter (λ x. p x.1) es)) ≡ cond b (e.1 ∷ filter p (values_of es)) (filter p (values_of es))) [
  | true ↦ ap (λ hs. e.1 ∷ hs) (values-filter p es)
  | false ↦ values-filter p es
]

module _ (entries : List (List ℕ × Held)) (rows : Rows) (len bytes : ℕ) (kept : KeepsTwins entries rows len bytes) (model : Identifier) (ordered : IsStrictlySortedBy C (keys_of (ids_of model rows))) where
  abbrev part : List (List ℕ × Held)
  part = filter (λ e. is_twin_of model e.1) entries

  sorted_part : IsStrictlySortedBy C (keys_of (blank part))
  sorted_part = subst (IsStrictlySortedBy C) (sym (keys-blank part)) (sorted-filter C (λ e. is_twin_of model e.1) entries kept.sorted)

  ids_there : ids_of model rows ≡ blank part
  ids_there =
      same_by_lookups c_total exact_bytes (ids_of model rows) (blank part) ordered sorted_part
      (λ q. same_some (lookup (is_at (C q)) (ids_of model rows)) (lookup (is_at (C q)) (blank part))
      (kept.indexed model q
      ∙ sym (there_filtered model (held_under entries q))
      ∙ ap is_some (sym (lookup-filter-values (eq_by_cmp_equiv c_total) (is_twin_of model) q entries (IsDistinct-from_sorted C (keys_of entries) kept.sorted)))
      ∙ sym (lookup-blank (is_at (C q)) part)))

  all_there : AllByRecursion (λ e. held_under entries e.0 ≡ Some e.1) entries
  all_there = all_by_lookups c_total (λ q h. held_under entries q ≡ Some h) entries kept.sorted (λ q h i. i)

  pub listed-of_model : (hs : List Held) → values_of entries ≡ hs → twins_under entries (ids_of model rows) ≡ of_model model hs
  listed-of_model hs seen =
      ap (twins_under entries) ids_there
      ∙ leads entries part (all_filtered entries entries (is_twin_of model) all_there)
      ∙ ap (map (λ (h : Held). h.twin)) (values-filter (is_twin_of model) entries ∙ ap (filter (is_twin_of model)) seen)

  -- as many as the ids
  pub counted-of_model : (hs : List Held) → values_of entries ≡ hs → length (ids_of model rows) ≡ length (of_model model hs)
  counted-of_model hs seen =
      ap length ids_there
      ∙ length-map part (λ (e : List ℕ × Held). (e.0, tt))
      ∙ sym (length-map part (λ (e : List ℕ × Held). e.1))
      ∙ ap length (values-filter (is_twin_of model) entries ∙ ap (filter (is_twin_of model)) seen)
      ∙ sym (length-map (filter (is_twin_of model) hs) (λ (h : Held). h.twin))
