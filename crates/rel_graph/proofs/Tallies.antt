-- The keys of the orders, and counts that change at one key.
use Rattle.std.proofs.Common.{◌≡◌, ℕ, ◌+◌, ◌-◌, ◌≤◌, List, Bool, true, false, cond, Option, Some, None, refl, sym, ap, ◌∙◌, subst, nat_cmp, is_eq, arith}
use Rattle.std.specs.Option.{unwrap_or, IsSome}
use Rattle.std.specs.Cmp.{IsTotalOrder}
use Rattle.std.specs.Cmp.Lexicographic.{slice_cmp}
use Rattle.std.specs.List.Sorted.{IsStrictlySortedBy}
use Rattle.std.specs.Map.{lookup, remove_entry, set_value, keys_of}
use Rattle.std.specs.BTreeMap.{is_at, insert_entry}
use Rattle.std.proofs.lemmas.Cmp.{nat_list_cmp_total}
use Rattle.std.proofs.lemmas.Map.Lookups.{CmpEqualImpliesEq, exact_bytes, exact_pairs}
use Rattle.ordered_table.proofs.Ordered.{pairs_total, lookup-insert, unlike}
use Rattle.ordered_table.proofs.Kept.{lookup-set, lookup-removed}
use Rattle.rel_graph.specs.Edges.{key_cmp}
use Rattle.rel_graph.specs.Slots.{link_cmp, tally, one_at}

pub exact_keys : CmpEqualImpliesEq key_cmp
exact_keys = exact_pairs (slice_cmp nat_cmp) (slice_cmp nat_cmp) exact_bytes exact_bytes

pub keys_total : IsTotalOrder key_cmp
keys_total = pairs_total (slice_cmp nat_cmp) nat_list_cmp_total

pub links_total : IsTotalOrder link_cmp
links_total = pairs_total key_cmp keys_total

-- two keys that tie are one
pub same_key : (q k : List ℕ × List ℕ) → is_eq (key_cmp q k) ≡ true → q ≡ k
same_key q k h = exact_keys q k (unlike (key_cmp q k) h)

-- at the key itself, and elsewhere
raised : (b : Bool) (m x y : ℕ) → x ≡ cond b m y → (b ≡ true → m ≡ y + 1) → x ≡ y + cond b 1 0
raised true m x y e h = e ∙ h refl
raised false m x y e h = omega arith

lowered : (b : Bool) (m x y : ℕ) → x ≡ cond b m y → (b ≡ true → m ≡ y - 1) → x ≡ y - cond b 1 0
lowered true m x y e h = e ∙ h refl
lowered false m x y e h = omega arith

spread : (b : Bool) (o : Option ℕ) (n : ℕ) → unwrap_or (cond b (Some n) o) 0 ≡ cond b n (unwrap_or o 0)
spread true o n = refl
spread false o n = refl

spread_none : (b : Bool) (o : Option ℕ) → unwrap_or (cond b None o) 0 ≡ cond b 0 (unwrap_or o 0)
spread_none true o = refl
spread_none false o = refl

here : (k q : List ℕ × List ℕ) (old : List ((List ℕ × List ℕ) × ℕ)) → is_eq (key_cmp q k) ≡ true → tally old k ≡ tally old q
here k q old t = ap (tally old) (sym (same_key q k t))

pub tally-more : (k : List ℕ × List ℕ) (n : ℕ) (old new : List ((List ℕ × List ℕ) × ℕ)) → n ≡ tally old k → new ≡ insert_entry key_cmp old k (n + 1) → (q : List ℕ × List ℕ) → tally new q ≡ tally old q + one_at k q
tally-more k n old new m e q =
    raised (is_eq (key_cmp q k)) (n + 1) (tally new q) (tally old q)
    (ap (λ es. tally es q) e ∙ ap (λ o. unwrap_or o 0) (lookup-insert keys_total q k (n + 1) old) ∙ spread (is_eq (key_cmp q k)) (lookup (is_at (key_cmp q)) old) (n + 1))
    (λ t. ap (λ x. x + 1) (m ∙ here k q old t))

pub tally-gone : (k : List ℕ × List ℕ) (old new : List ((List ℕ × List ℕ) × ℕ)) → IsStrictlySortedBy key_cmp (keys_of old) → tally old k ≤ 1 → new ≡ remove_entry (is_at (key_cmp k)) old → (q : List ℕ × List ℕ) → tally new q ≡ tally old q - one_at k q
tally-gone k old new s m e q =
    lowered (is_eq (key_cmp q k)) 0 (tally new q) (tally old q)
    (ap (λ es. tally es q) e ∙ ap (λ o. unwrap_or o 0) (lookup-removed keys_total q k old s) ∙ spread_none (is_eq (key_cmp q k)) (lookup (is_at (key_cmp q)) old))
    (λ t. let same = here k q old t in omega arith)

is_there : (o : Option ℕ) → 1 ≤ unwrap_or o 0 → IsSome o
is_there None h = absurd (omega arith)
is_there (Some n) h = refl

pub tally-set : (k : List ℕ × List ℕ) (old new : List ((List ℕ × List ℕ) × ℕ)) → 1 ≤ tally old k → new ≡ set_value (is_at (key_cmp k)) old (tally old k - 1) → (q : List ℕ × List ℕ) → tally new q ≡ tally old q - one_at k q
tally-set k old new m e q =
    lowered (is_eq (key_cmp q k)) (tally old k - 1) (tally new q) (tally old q)
    (ap (λ es. tally es q) e ∙ ap (λ o. unwrap_or o 0) (lookup-set keys_total q k (tally old k - 1) old (is_there (lookup (is_at (key_cmp k)) old) m)) ∙ spread (is_eq (key_cmp q k)) (lookup (is_at (key_cmp q)) old) (tally old k - 1))
    (λ t. ap (λ x. x - 1) (here k q old t))

pub tally-raised : (k : List ℕ × List ℕ) (n : ℕ) (old new : List ((List ℕ × List ℕ) × ℕ)) → n ≡ tally old k → 1 ≤ n → new ≡ set_value (is_at (key_cmp k)) old (n + 1) → (q : List ℕ × List ℕ) → tally new q ≡ tally old q + one_at k q
tally-raised k n old new m l e q =
    raised (is_eq (key_cmp q k)) (n + 1) (tally new q) (tally old q)
    (ap (λ es. tally es q) e ∙ ap (λ o. unwrap_or o 0) (lookup-set keys_total q k (n + 1) old (is_there (lookup (is_at (key_cmp k)) old) (subst (λ x. 1 ≤ x) m l))) ∙ spread (is_eq (key_cmp q k)) (lookup (is_at (key_cmp q)) old) (n + 1))
    (λ t. ap (λ x. x + 1) (m ∙ here k q old t))
