-- What is held, as entries come and go, and how many contents it has.
use Rattle.std.proofs.Common.{◌≡◌, ℕ, suc, ◌+◌, ◌-◌, ◌^◌, ◌<◌, ◌≤◌, ◌⊎◌, inl, inr, min, List, [], ◌∷◌, map, Bool, true, false, cond, length, Some, None, refl, sym, ap, ◌∙◌, subst, is_eq, arith, lit<}
use Rattle.std.specs.Prelude.{unwrap_or}
use Rattle.std.specs.Option.{option_map}
use Rattle.std.specs.List.{sum_by}
use Rattle.std.specs.List.Sorted.{IsStrictlySortedBy}
use Rattle.std.specs.Map.{lookup, keys_of, values_of, remove_entry}
use Rattle.std.specs.BTreeMap.{is_at, insert_entry}
use Rattle.std.proofs.lemmas.List.Sums.{sum_by-cons}
use Rattle.std.proofs.lemmas.Map.Entries.{sum_by-insert_entry, sum_by-remove_entry}
use Rattle.std.proofs.lemmas.Option.{same_Some, none-some}
use Rattle.dt_base.specs.names.Grammar.{Identifier, dtmi_text, id_cmp}
use Rattle.dtdl_terms.specs.Sets.{interface_at}
use Rattle.dtdl_terms.specs.declared.interface.Interface.{Interface}
use Rattle.dtdl_terms.specs.declared.resolved.Resolved.{Resolved}
use Rattle.model_life.specs.resolution.Resolving.{IsResolved, entry_at, HoldsRight, held_contents, contents_held, HoldsLittle}
use Rattle.model_life.specs.resolution.Machinery.Counting.{IsCounted}
use Rattle.extend_resolve.proofs.Within.{at_most}
use Rattle.model_life.proofs.resolution.ByKey.{C, same_spelling, alike, lookup-insert}
use Rattle.model_life.proofs.resolution.Changes.{ids_total}

abbrev pub Entries : Type 0
Entries = List (Identifier × Resolved)

-- ---- what is held is right
pub none_right : (set : List Interface) → HoldsRight set []
none_right set id r held = absurd (none-some r held)

pub put_right : (set : List Interface) (key : Identifier) (i : Interface) (r : Resolved) (old new : Entries) → interface_at key set ≡ Some i → IsResolved set i r → new ≡ insert_entry id_cmp old key r → HoldsRight set old → HoldsRight set new
put_right set key i r old new found resolved is right q s held =
    let put : entry_at q new ≡ cond (is_eq (id_cmp q key)) (Some r) (entry_at q old) = ap (entry_at q) is ∙ lookup-insert dtmi_text (dtmi_text q) key r old in
    elim (is_eq (id_cmp q key)) as (λ b. is_eq (id_cmp q key) ≡ b → cond b (Some r) (entry_at q old) ≡ Some s → (j : Interface) × (interface_at q set ≡ Some j) × IsResolved set j s) [
      | true ↦ λ e h.
          let same : interface_at q set ≡ Some i = ap (λ t. lookup (λ (k : Identifier). is_eq (C t (dtmi_text k))) (map (λ (j : Interface). (j.id, j)) set)) (same_spelling (dtmi_text q) (dtmi_text key) e) ∙ found in
          (i, same, subst (IsResolved set i) (same_Some r s h) resolved)
      | false ↦ λ e h. right q s h
    ] refl (sym put ∙ held)

pub put_there : (key : Identifier) (r : Resolved) (old new : Entries) → new ≡ insert_entry id_cmp old key r → entry_at key new ≡ Some r
put_there key r old new is =
    ap (entry_at key) is ∙ lookup-insert dtmi_text (dtmi_text key) key r old ∙ ap (λ b. cond b (Some r) (entry_at key old)) (ap is_eq (alike (dtmi_text key)))

-- ---- how many contents
pub none_counted : (table : Entries) → table ≡ [] → IsCounted table 0
none_counted table is = subst (λ t. IsCounted t 0) (sym is) (inl (omega arith, omega arith))

pub little_from : (table : Entries) (held : ℕ) → IsCounted table held → HoldsLittle table
little_from table held (inl (low, most)) = inl (omega (arith, low, most))
little_from table held (inr (one, over)) = inr one

summed : (old new : Entries) (key : Identifier) (r : Resolved) → IsStrictlySortedBy id_cmp (keys_of old) → entry_at key old ≡ None → new ≡ insert_entry id_cmp old key r → contents_held new ≡ contents_held old + held_contents r
summed old new key r sorted absent is =
    let a = sum_by-insert_entry held_contents ids_total old key r sorted in
    let b : unwrap_or (option_map held_contents (entry_at key old)) 0 ≡ 0 = ap (λ o. unwrap_or (option_map held_contents o) 0) absent in
    let e : contents_held new ≡ sum_by held_contents (values_of (insert_entry id_cmp old key r)) = ap contents_held is in
    omega (arith, a, b, e)

small_exact : (s n m : ℕ) → n ≡ min s m → n < m → n ≡ s
small_exact s n m is low = omega (arith, is, low)

exact : (s n : ℕ) → n ≡ min s (2 ^ 64 - 1) → n ≤ 100000 → n ≡ s
exact s n is low = let fits : 100000 < 2 ^ 64 - 1 = lit< tt in small_exact s n (2 ^ 64 - 1) is (omega (arith, low, fits))

small_sum : (a b n m : ℕ) → n ≡ min (a + b) m → n < m → n ≡ a + b
small_sum a b n m is low = omega (arith, is, low)

pub exact_sum : (a b n : ℕ) → n ≡ min (a + b) (2 ^ 64 - 1) → n ≤ 100000 → n ≡ a + b
exact_sum a b n is low = let fits : 100000 < 2 ^ 64 - 1 = lit< tt in small_sum a b n (2 ^ 64 - 1) is (omega (arith, low, fits))

capped_low : (a b n m : ℕ) → n ≡ min (a + b) m → 100000 < m → a + b ≤ 100000 → n ≡ a + b
capped_low a b n m is fits low = omega (arith, is, fits, low)

alone : (new : Entries) (key : Identifier) (r : Resolved) → new ≡ insert_entry id_cmp [] key r → (contents_held new ≡ held_contents r) × (length new ≡ 1)
alone new key r is =
    let one : contents_held ((key, r) ∷ []) ≡ held_contents r + sum_by held_contents [] = sum_by-cons held_contents r [] in
    let none : sum_by held_contents [] ≡ 0 = refl in
    let e : contents_held new ≡ contents_held ((key, r) ∷ []) = ap contents_held is in
    (omega (arith, one, none, e), ap length is)

-- one more entry, with as many contents as `n` says
pub put_counted : (mid new : Entries) (key : Identifier) (r : Resolved) (held n sum : ℕ) → IsStrictlySortedBy id_cmp (keys_of mid) → entry_at key mid ≡ None → new ≡ insert_entry id_cmp mid key r → n ≡ min (held_contents r) (2 ^ 64 - 1) → sum ≡ min (held + n) (2 ^ 64 - 1)
    → (held + n ≤ 100000) ⊎ (mid ≡ []) → IsCounted mid held → IsCounted new sum
put_counted mid new key r held n sum sorted absent is size total (inl room) (inl (low, most)) =
    let whole : n ≡ held_contents r = exact (held_contents r) n size (omega (arith, room)) in
    let fits : 100000 < 2 ^ 64 - 1 = lit< tt in
    let all : sum ≡ held + n = capped_low held n sum (2 ^ 64 - 1) total fits room in
    let more = summed mid new key r sorted absent is in
    inl (omega (arith, whole, all, more, low), omega (arith, all, room))
put_counted mid new key r held n sum sorted absent is size total (inl room) (inr (one, over)) = absurd (omega (arith, room, over))
put_counted mid new key r held n sum sorted absent is size total (inr none) counted =
    let own = alone new key r (is ∙ ap (λ t. insert_entry id_cmp t key r) none) in
    by own.0 own.1 (at_most 100000 sum)
  where
    by : contents_held new ≡ held_contents r → length new ≡ 1 → (sum ≤ 100000) ⊎ (suc 100000 ≤ sum) → IsCounted new sum
    by contents long (inl low) =
        let all : sum ≡ held + n = exact_sum held n sum total low in
        let whole : n ≡ held_contents r = exact (held_contents r) n size (omega (arith, all, low)) in
        inl (omega (arith, contents, whole, all), low)
    by contents long (inr over) = inr (omega (arith, long), omega (arith, over))

-- one entry less
less : (a b h n m : ℕ) → a + b ≤ h → n ≡ min b m → a ≤ h - n
less a b h n m low is = omega (arith, low, is)

one_left : (test : Identifier → Bool) (table : Entries) (r : Resolved) → length table ≤ 1 → lookup test table ≡ Some r → remove_entry test table ≡ []
one_left test [] r one found = absurd (none-some r found)
one_left test (e ∷ []) r one found =
    elim (test e.0) as (λ b. cond b (Some e.1) None ≡ Some r → cond b [] (e ∷ []) ≡ []) [
      | true ↦ λ h. refl
      | false ↦ λ h. absurd (none-some r h)
    ] found
one_left test (e ∷ f ∷ es) r one found = absurd (omega (arith, one))

pub taken_counted : (id : Identifier) (old new : Entries) (r : Resolved) (held n : ℕ) → entry_at id old ≡ Some r → new ≡ remove_entry (is_at (id_cmp id)) old → n ≡ min (held_contents r) (2 ^ 64 - 1) → IsCounted old held → IsCounted new (held - n)
taken_counted id old new r held n found is size (inl (low, most)) =
    let a = sum_by-remove_entry held_contents (is_at (id_cmp id)) old in
    let b : unwrap_or (option_map held_contents (entry_at id old)) 0 ≡ held_contents r = ap (λ o. unwrap_or (option_map held_contents o) 0) found in
    let e : contents_held new ≡ sum_by held_contents (values_of (remove_entry (is_at (id_cmp id)) old)) = ap contents_held is in
    inl (less (contents_held new) (held_contents r) held n (2 ^ 64 - 1) (omega (arith, a, b, e, low)) size, omega (arith, most))
taken_counted id old new r held n found is size (inr (one, over)) = by (held - n) (is ∙ one_left (is_at (id_cmp id)) old r one found) (at_most 100000 (held - n))
  where
    by : (k : ℕ) → new ≡ [] → (k ≤ 100000) ⊎ (suc 100000 ≤ k) → IsCounted new k
    by k none (inl low) = subst (λ t. IsCounted t k) (sym none) (inl (omega arith, low))
    by k none (inr high) = subst (λ t. IsCounted t k) (sym none) (inr (omega arith, omega (arith, high)))
