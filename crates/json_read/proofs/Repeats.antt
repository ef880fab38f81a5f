-- Keys that stand twice in one object.
use Rattle.std.proofs.Common.{◌≡◌, ℕ, zero, suc, ◌+◌, ◌<◌, ◌⊎◌, inl, inr, List, [], ◌∷◌, ◌++◌, length, map, take, get_or, Bool, true, false, cond, ◌||◌, bytes_eq, Some, refl, sym, ap, ◌∙◌, append_assoc, append-nil, arith, true≢false}
use Rattle.std.proofs.lemmas.List.{take_more, map_push, get_or-take, length-take, length-map}
use Rattle.std.proofs.lemmas.Slice.Eq.{bytes_eq-Decides}
use Rattle.std.proofs.lemmas.Bool.{or_cases}
use Rattle.json_tree.specs.declared.tree.Member.{Member}
use Rattle.json_tree.specs.Values.{Value, object, Members, no_members, member}
use Rattle.json_tree.specs.Places.{member_at}
use Rattle.json_read.specs.Faults.{RepeatsKey}
use Rattle.json_tree.specs.View.{members_view}
use Rattle.json_read.specs.Machinery.Ways.{has_key, repeat_at}
use Rattle.json_tree.specs.Buckets.{bucket_of, IsUsed, HasPut}
use Rattle.json_tree.specs.declared.buckets.Buckets.{Buckets}

neither : (a b : Bool) → (a || b) ≡ false → (a ≡ false) × (b ≡ false)
neither true b e = absurd cc
neither false b e = (refl, e)

or_assoc : (a b c : Bool) → (a || (b || c)) ≡ ((a || b) || c)
or_assoc true b c = refl
or_assoc false b c = refl

or_nothing : (a : Bool) → (a || false) ≡ a
or_nothing true = refl
or_nothing false = refl

as_or : (a b : Bool) → cond a true b ≡ (b || a)
as_or true true = refl
as_or true false = refl
as_or false true = refl
as_or false false = refl

has_key-push : (seen : List (List ℕ)) (k q : List ℕ) → has_key (seen ++ k ∷ []) q ≡ (has_key seen q || bytes_eq k q)
has_key-push [] k q = or_nothing (bytes_eq k q)
has_key-push (l ∷ seen) k q = ap (λ (b : Bool). bytes_eq l q || b) (has_key-push seen k q) ∙ or_assoc (bytes_eq l q) (has_key seen q) (bytes_eq k q)

-- one more key in a set
pub has_key-more : (ms : List Member) (i : ℕ) (m : Member) (q : List ℕ) → i < length ms → m ≡ get_or ms i m
    → has_key (map (λ x. x.key) (take (i + 1) ms)) q ≡ cond (bytes_eq m.key q) true (has_key (map (λ x. x.key) (take i ms)) q)
has_key-more ms i m q lt e =
    let more : take (i + 1) ms ≡ take i ms ++ m ∷ [] = take_more ms i m lt ∙ ap (λ (x : Member). take i ms ++ x ∷ []) (sym e) in
    let keys : map (λ (x : Member). x.key) (take (i + 1) ms) ≡ map (λ (x : Member). x.key) (take i ms) ++ m.key ∷ [] =
    ap (λ (xs : List Member). map (λ (x : Member). x.key) xs) more ∙ map_push (λ (x : Member). x.key) (take i ms) m in
    ap (λ (ks : List (List ℕ)). has_key ks q) keys ∙ has_key-push (map (λ (x : Member). x.key) (take i ms)) m.key q ∙ sym (as_or (bytes_eq m.key q) (has_key (map (λ (x : Member). x.key) (take i ms)) q))

-- one more key in its bucket
pub used-more : (ms : List Member) (i : ℕ) (m : Member) (old new : Buckets) → i < length ms → m ≡ get_or ms i m
    → ((q : List ℕ) → has_key (map (λ x. x.key) (take i ms)) q ≡ true → IsUsed old q) → HasPut old new m.key
    → (q : List ℕ) → has_key (map (λ x. x.key) (take (i + 1) ms)) q ≡ true → IsUsed new q
used-more ms i m old new lt e used put q h =
    elim (bytes_eq m.key q) as (λ b. bytes_eq m.key q ≡ b → cond b true (has_key (map (λ (x : Member). x.key) (take i ms)) q) ≡ true → IsUsed new q) [
      | true ↦ λ same _. (put q).1 (inr (ap bucket_of (sym ((bytes_eq-Decides m.key q).0 same))))
      | false ↦ λ _ before. (put q).1 (inl (used q before))
    ] refl (sym (has_key-more ms i m q lt e) ∙ h)

-- no key that was seen is in a bucket that is not used
pub not-seen : (ms : List Member) (i : ℕ) (buckets : Buckets) (q : List ℕ) → ((k : List ℕ) → has_key (map (λ x. x.key) (take i ms)) k ≡ true → IsUsed buckets k)
    → (IsUsed buckets q → ⊥) → has_key (map (λ x. x.key) (take i ms)) q ≡ false
not-seen ms i buckets q used free =
    elim (has_key (map (λ (x : Member). x.key) (take i ms)) q) as (λ b. has_key (map (λ (x : Member). x.key) (take i ms)) q ≡ b → has_key (map (λ (x : Member). x.key) (take i ms)) q ≡ false) [
      | true ↦ λ e. absurd (free (used q e))
      | false ↦ λ e. e
    ] refl

-- what it means that a key was seen
seen_at : (ks : List (List ℕ)) (q : List ℕ) → has_key ks q ≡ true → (j : ℕ) × (j < length ks) × (get_or ks j [] ≡ q)
seen_at [] q e = absurd cc
seen_at (k ∷ ks) q e = elim (or_cases (bytes_eq k q) (has_key ks q) e) [
  | inl h ↦ (0, omega arith, (bytes_eq-Decides k q).0 h)
  | inr h ↦ (let r = seen_at ks q h in let lt = r.1 in (suc r.0, omega (arith, lt), r.2))
]

unseen_at : (ks : List (List ℕ)) (q : List ℕ) → has_key ks q ≡ false → (j : ℕ) → j < length ks → get_or ks j [] ≡ q → ⊥
unseen_at [] q e j lt same = absurd (omega (arith, lt))
unseen_at (k ∷ ks) q e zero lt same = let h = neither (bytes_eq k q) (has_key ks q) e in true≢false (sym ((bytes_eq-Decides k q).1 same) ∙ h.0)
unseen_at (k ∷ ks) q e (suc j) lt same = let h = neither (bytes_eq k q) (has_key ks q) e in unseen_at ks q h.1 j (omega (arith, lt)) same

-- the keys before the first that stands twice, and that one
new_step : (b : Bool) (seen ks : List (List ℕ)) (k : List ℕ) (i : ℕ) → has_key seen k ≡ b → i < cond b 0 (suc (repeat_at (seen ++ k ∷ []) ks))
    → ((j : ℕ) → j < repeat_at (seen ++ k ∷ []) ks → has_key ((seen ++ k ∷ []) ++ take j ks) (get_or ks j []) ≡ false)
    → has_key (seen ++ take i (k ∷ ks)) (get_or (k ∷ ks) i []) ≡ false
new_step true seen ks k i e lt rec = absurd (omega (arith, lt))
new_step false seen ks k zero e lt rec = rw append-nil e
new_step false seen ks k (suc i) e lt rec = rw append_assoc at (rec i (omega (arith, lt)))

is_new : (seen ks : List (List ℕ)) (i : ℕ) → i < repeat_at seen ks → has_key (seen ++ take i ks) (get_or ks i []) ≡ false
is_new seen [] i lt = absurd (omega (arith, lt))
is_new seen (k ∷ ks) i lt = new_step (has_key seen k) seen ks k i refl lt (λ j l. is_new (seen ++ k ∷ []) ks j l)

old_step : (b : Bool) (seen ks : List (List ℕ)) (k : List ℕ) → has_key seen k ≡ b → cond b 0 (suc (repeat_at (seen ++ k ∷ []) ks)) < suc (length ks)
    → (repeat_at (seen ++ k ∷ []) ks < length ks → has_key ((seen ++ k ∷ []) ++ take (repeat_at (seen ++ k ∷ []) ks) ks) (get_or ks (repeat_at (seen ++ k ∷ []) ks) []) ≡ true)
    → has_key (seen ++ take (cond b 0 (suc (repeat_at (seen ++ k ∷ []) ks))) (k ∷ ks)) (get_or (k ∷ ks) (cond b 0 (suc (repeat_at (seen ++ k ∷ []) ks))) []) ≡ true
old_step true seen ks k e lt rec = rw append-nil e
old_step false seen ks k e lt rec = rw append_assoc at (rec (omega (arith, lt)))

is_old : (seen ks : List (List ℕ)) → repeat_at seen ks < length ks → has_key (seen ++ take (repeat_at seen ks) ks) (get_or ks (repeat_at seen ks) []) ≡ true
is_old seen [] lt = absurd (omega (arith, lt))
is_old seen (k ∷ ks) lt = old_step (has_key seen k) seen ks k refl lt (λ l. is_old (seen ++ k ∷ []) ks l)

-- ---- of an object
abbrev keys_of : {N : Type 0} → Members N → List (List ℕ)
keys_of no_members = []
keys_of (member k v ms) = k ∷ keys_of ms

keys_of-view : (ms : List Member) → keys_of (members_view ms) ≡ map (λ m. m.key) ms
keys_of-view [] = refl
keys_of-view (m ∷ ms) = ap (λ (ks : List (List ℕ)). m.key ∷ ks) (keys_of-view ms)

key_at : {N : Type 0} (ms : Members N) (i : ℕ) (key : List ℕ) (v : Value N) → member_at ms i ≡ Some (key, v) → (i < length (keys_of ms)) × (get_or (keys_of ms) i [] ≡ key)
key_at no_members i key v e = absurd cc
key_at {N} (member k w ms) zero key v e = let f : (k, w) ≡ (key, v) = cc in let same : k ≡ key = ap (λ (m : List ℕ × Value N). m.0) f in (omega arith, same)
key_at (member k w ms) (suc i) key v e = let r = key_at ms i key v e in let lt = r.0 in (omega (arith, lt), r.1)

at_key : {N : Type 0} (ms : Members N) (i : ℕ) → i < length (keys_of ms) → (v : Value N) × (member_at ms i ≡ Some (get_or (keys_of ms) i [], v))
at_key no_members i lt = absurd (omega (arith, lt))
at_key (member k w ms) zero lt = (w, refl)
at_key (member k w ms) (suc i) lt = at_key ms i (omega (arith, lt))

no_repeat : {N : Type 0} (ms : Members N) (i : ℕ) → i < repeat_at [] (keys_of ms) → RepeatsKey (object ms) i → ⊥
no_repeat ms i lt (key, v, w, j, e, less, f) =
    let a = key_at ms i key v e in
    let b = key_at ms j key w f in
    let p = a.0 in
    let q = b.0 in
    let within : j < length (take i (keys_of ms)) = omega (arith, length-take {A = List ℕ}, p, q, less) in
    unseen_at (take i (keys_of ms)) (get_or (keys_of ms) i []) (is_new [] (keys_of ms) i lt) j within
    (get_or-take i (keys_of ms) j [] less ∙ b.1 ∙ sym a.1)

repeats : {N : Type 0} (ms : Members N) (i : ℕ) → i ≡ repeat_at [] (keys_of ms) → i < length (keys_of ms) → RepeatsKey (object ms) i
repeats ms i same lt =
    let old : has_key (take i (keys_of ms)) (get_or (keys_of ms) i []) ≡ true = rw same (is_old [] (keys_of ms) (omega (arith, lt, same))) in
    let s = seen_at (take i (keys_of ms)) (get_or (keys_of ms) i []) old in
    let inside = s.1 in
    let less : s.0 < i = omega (arith, length-take {A = List ℕ}, inside) in
    let a = at_key ms i lt in
    let b = at_key ms s.0 (omega (arith, less, lt)) in
    let key : get_or (keys_of ms) s.0 [] ≡ get_or (keys_of ms) i [] = sym (get_or-take i (keys_of ms) s.0 [] less) ∙ s.2 in
    (get_or (keys_of ms) i [], a.0, b.0, s.0, a.1, less, b.1 ∙ ap (λ (q : List ℕ). Some (q, b.0)) key)

pub member_new_key : (ms : List Member) (i : ℕ) → i < repeat_at [] (map (λ m. m.key) ms) → RepeatsKey (object (members_view ms)) i → ⊥
member_new_key ms i lt = no_repeat (members_view ms) i (rw (keys_of-view ms) lt)

pub member_old_key : (ms : List Member) (i : ℕ) → i ≡ repeat_at [] (map (λ m. m.key) ms) → i < length ms → RepeatsKey (object (members_view ms)) i
member_old_key ms i same lt =
    let count : length (map (λ (m : Member). m.key) ms) ≡ length ms = length-map ms (λ (m : Member). m.key) in
    repeats (members_view ms) i (rw (keys_of-view ms) same) (rw (keys_of-view ms) (omega (arith, count, lt)))
