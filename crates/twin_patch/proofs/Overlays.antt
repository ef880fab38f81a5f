-- Changes kept beside members: what a key has, and how one change more and the taking of a value show.
use Rattle.std.proofs.Common.{◌≡◌, ℕ, zero, suc, List, [], ◌∷◌, map, Bool, true, false, cond, Option, Some, None, refl, sym, ap, ap₂, ◌∙◌, subst}
use Rattle.std.specs.Prelude.{bytes_eq, ◌&&◌}
use Rattle.std.specs.Option.{option_map}
use Rattle.std.specs.Ordering.{match_ordering, is_eq, is_lt}
use Rattle.std.specs.Map.{lookup, remove_entry}
use Rattle.std.specs.BTreeMap.{insert_entry, is_at}
use Rattle.std.specs.declared.cmp.Ordering.{Ordering}
use Rattle.std.specs.declared.cmp.Ordering.TheVariants.{Less, Equal, Greater}
use Rattle.std.proofs.lemmas.Map.Text.{is_eq-slice_cmp}
use Rattle.json_decimal.specs.Number.{Number}
use Rattle.json_tree.specs.Values.{Json, null, Members, no_members, member}
use Rattle.twin_patch.specs.Objects.{value_under, with_member, without_member}
use Rattle.twin_patch.specs.Machinery.Orders.{compared_keys, IsBeforeAll, AreInOrder, KeysRise, is_before_all, rises, IsFoundAt, put_at}
use Rattle.twin_patch.specs.Machinery.Drafts.{put_entry, overlaid}
use Rattle.twin_patch.proofs.Found.{turned_back}
use Rattle.twin_patch.proofs.Ordered.{before_with, before_later, before_without}
use Rattle.twin_patch.proofs.Edits.{equal_keys, same_test, greater_test, none_before}
use Rattle.twin_patch.proofs.Moved.{equal}

-- rising keys
pub rise_of : (ms : Members Number) → AreInOrder ms → KeysRise ms
rise_of no_members o = tt
rise_of (member k v ms) o = (o.0, rise_of ms o.2)

-- the same as a test
both_true : (a b : Bool) → a && b ≡ true → (a ≡ true) × (b ≡ true)
both_true true b h = (refl, h)
both_true false b h = absurd cc

less_by : (o : Ordering) → is_lt o ≡ true → o ≡ Less
less_by Less h = refl
less_by Equal h = absurd cc
less_by Greater h = absurd cc

before_by : (k : List ℕ) (ms : Members Number) → is_before_all k ms ≡ true → IsBeforeAll k ms
before_by k no_members h = tt
before_by k (member q w ms) h = let p = both_true (is_lt (compared_keys k q)) (is_before_all k ms) h in (less_by (compared_keys k q) p.0, before_by k ms p.1)

pub rise_by : (ms : Members Number) → rises ms ≡ true → KeysRise ms
rise_by no_members h = tt
rise_by (member k v ms) h = let p = both_true (is_before_all k ms) (rises ms) h in (before_by k ms p.0, rise_by ms p.1)

before_test : (k : List ℕ) (ms : Members Number) → IsBeforeAll k ms → is_before_all k ms ≡ true
before_test k no_members h = refl
before_test k (member q w ms) h = rw (h.0, before_test k ms h.1) refl

pub rise_test : (ms : Members Number) → KeysRise ms → rises ms ≡ true
rise_test no_members h = refl
rise_test (member k v ms) h = rw (before_test k ms h.0, rise_test ms h.1) refl

before_put : (k : List ℕ) (ms : Members Number) (at : ℕ) (v : Json) → IsBeforeAll k ms → IsBeforeAll k (put_at at v ms)
before_put k no_members at v h = tt
before_put k (member q w ms) zero v h = h
before_put k (member q w ms) (suc at) v h = (h.0, before_put k ms at v h.1)

pub rise_put : (ms : Members Number) (at : ℕ) (v : Json) → KeysRise ms → KeysRise (put_at at v ms)
rise_put no_members at v o = tt
rise_put (member k w ms) zero v o = o
rise_put (member k w ms) (suc at) v o = (before_put k ms at v o.0, rise_put ms at v o.1)

rise_with : (key : List ℕ) (v : Json) (ms : Members Number) → KeysRise ms → KeysRise (with_member key v ms)
rise_with key v no_members o = (tt, tt)
rise_with key v (member k w ms) o = step (compared_keys key k) refl (rise_with key v ms o.1) where
  step : (r : Ordering) → compared_keys key k ≡ r → KeysRise (with_member key v ms) → KeysRise (match_ordering r (member key v (member k w ms)) (member k v ms) (member k w (with_member key v ms)))
  step Less e behind = ((e, before_later key k ms e o.0), o)
  step Equal e behind = o
  step Greater e behind = (before_with k key v ms (turned_back key k e) o.0, behind)

rise_without : (key : List ℕ) (ms : Members Number) → KeysRise ms → KeysRise (without_member key ms)
rise_without key no_members o = tt
rise_without key (member k w ms) o = step (bytes_eq k key) (rise_without key ms o.1) where
  step : (b : Bool) → KeysRise (without_member key ms) → KeysRise (cond b ms (member k w (without_member key ms)))
  step true behind = o.1
  step false behind = (before_without k key ms o.0, behind)

rise_entry : (key : List ℕ) (x : Option Json) (ms : Members Number) → KeysRise ms → KeysRise (put_entry key x ms)
rise_entry key (Some v) ms o = rise_with key v ms o
rise_entry key None ms o = rise_without key ms o

pub overlay_rise : {X : Type 0} (f : X → Option Json) (es : List (List ℕ × X)) (ms : Members Number) → KeysRise ms → KeysRise (overlaid f es ms)
overlay_rise f [] ms o = o
overlay_rise f (e ∷ es) ms o = rise_entry e.0 (f e.1) (overlaid f es ms) (overlay_rise f es ms o)

-- what a key has once another is set
differ : (a b key : List ℕ) → (a ≡ b → ⊥) → bytes_eq a key ≡ true → bytes_eq b key ≡ true → ⊥
differ a b key h p q = h (equal a key p ∙ sym (equal b key q))

swap : (a b key : List ℕ) (x y rest : Option Json) → (a ≡ b → ⊥) → cond (bytes_eq b key) y (cond (bytes_eq a key) x rest) ≡ cond (bytes_eq a key) x (cond (bytes_eq b key) y rest)
swap a b key x y rest h = step (bytes_eq a key) (bytes_eq b key) refl refl where
  step : (p q : Bool) → bytes_eq a key ≡ p → bytes_eq b key ≡ q → cond q y (cond p x rest) ≡ cond p x (cond q y rest)
  step true true e f = absurd (differ a b key h e f)
  step true false e f = refl
  step false true e f = refl
  step false false e f = refl

again : (b : Bool) (x y rest : Option Json) → cond b x (cond b y rest) ≡ cond b x rest
again true x y rest = refl
again false x y rest = refl

pub same_by : (a b : List ℕ) → compared_keys a b ≡ Equal → a ≡ b
same_by a b e = equal a b (sym (is_eq-slice_cmp a b) ∙ ap is_eq e)

apart : (a b : List ℕ) → compared_keys a b ≡ Greater → a ≡ b → ⊥
apart a b e same = let f : Equal ≡ Greater = sym (equal_keys a b same) ∙ e in absurd cc

unlike : (a b : List ℕ) → bytes_eq a b ≡ false → b ≡ a → ⊥
unlike a b e same = let f : true ≡ false = sym (same_test b a same) ∙ e in absurd cc

-- a member under the same key as another
overwritten : (key k q : List ℕ) (x y rest : Option Json) → k ≡ q → cond (bytes_eq k key) x rest ≡ cond (bytes_eq k key) x (cond (bytes_eq q key) y rest)
overwritten key k q x y rest same = sym (again (bytes_eq k key) x y rest) ∙ ap (λ (p : List ℕ). cond (bytes_eq k key) x (cond (bytes_eq p key) y rest)) same

with_under : (key k : List ℕ) (v : Json) (ms : Members Number) → value_under key (with_member k v ms) ≡ cond (bytes_eq k key) (Some v) (value_under key ms)
with_under key k v no_members = refl
with_under key k v (member q w ms) = step (compared_keys k q) refl (with_under key k v ms) where
  step : (o : Ordering) → compared_keys k q ≡ o → value_under key (with_member k v ms) ≡ cond (bytes_eq k key) (Some v) (value_under key ms)
      → value_under key (match_ordering o (member k v (member q w ms)) (member q v ms) (member q w (with_member k v ms))) ≡ cond (bytes_eq k key) (Some v) (cond (bytes_eq q key) (Some w) (value_under key ms))
  step Less e behind = refl
  step Equal e behind =
      let same = same_by k q e in
      ap (λ (p : List ℕ). cond (bytes_eq p key) (Some v) (value_under key ms)) (sym same) ∙ overwritten key k q (Some v) (Some w) (value_under key ms) same
  step Greater e behind = ap (λ rest. cond (bytes_eq q key) (Some w) rest) behind ∙ swap k q key (Some v) (Some w) (value_under key ms) (apart k q e)

abbrev none : Option Json
none = None

nothing : (b : Bool) → none ≡ cond b none none
nothing true = refl
nothing false = refl

without_under : (key k : List ℕ) (ms : Members Number) → KeysRise ms → value_under key (without_member k ms) ≡ cond (bytes_eq k key) None (value_under key ms)
without_under key k no_members o = nothing (bytes_eq k key)
without_under key k (member q w ms) o = step (bytes_eq q k) refl (without_under key k ms o.1) where
  gone : (b : Bool) → bytes_eq k key ≡ b → q ≡ k → value_under key ms ≡ cond b None (cond b (Some w) (value_under key ms))
  gone true e same = none_before ms key (subst (λ p. IsBeforeAll p ms) (same ∙ equal k key e) o.0)
  gone false e same = refl

  step : (b : Bool) → bytes_eq q k ≡ b → value_under key (without_member k ms) ≡ cond (bytes_eq k key) None (value_under key ms)
      → value_under key (cond b ms (member q w (without_member k ms))) ≡ cond (bytes_eq k key) None (cond (bytes_eq q key) (Some w) (value_under key ms))
  step true e behind =
      let same = equal q k e in
      gone (bytes_eq k key) refl same ∙ ap (λ (p : List ℕ). cond (bytes_eq k key) None (cond (bytes_eq p key) (Some w) (value_under key ms))) (sym same)
  step false e behind = ap (λ rest. cond (bytes_eq q key) (Some w) rest) behind ∙ swap k q key None (Some w) (value_under key ms) (unlike q k e)

entry_under : (key k : List ℕ) (x : Option Json) (ms : Members Number) → KeysRise ms → value_under key (put_entry k x ms) ≡ cond (bytes_eq k key) x (value_under key ms)
entry_under key k (Some v) ms o = with_under key k v ms
entry_under key k None ms o = without_under key k ms o

-- members with rising keys are equal where each key has the same
some_value : (v : Json) → Some v ≡ None → ⊥
some_value v e = absurd cc

own : (k : List ℕ) (v : Json) (ms : Members Number) → value_under k (member k v ms) ≡ Some v
own k v ms = rw (same_test k k refl) refl

none_left : (ms : Members Number) → ((key : List ℕ) → value_under key ms ≡ None) → ms ≡ no_members
none_left no_members h = refl
none_left (member k v ms) h = absurd (some_value v (sym (own k v ms) ∙ h k))

pub same_members : (ms ns : Members Number) → KeysRise ms → KeysRise ns → ((key : List ℕ) → value_under key ms ≡ value_under key ns) → ms ≡ ns
same_members no_members ns o p h = sym (none_left ns (λ key. sym (h key)))
same_members (member k v ms) no_members o p h = none_left (member k v ms) h
same_members (member k v ms) (member q w ns) o p h = step (compared_keys k q) refl (same_members ms ns o.1 p.1) where
  behind : (key : List ℕ) (b : Bool) → bytes_eq k key ≡ b → k ≡ q → cond b (Some v) (value_under key ms) ≡ cond b (Some w) (value_under key ns) → value_under key ms ≡ value_under key ns
  behind key true e same f =
      let is = equal k key e in
      none_before ms key (subst (λ x. IsBeforeAll x ms) is o.0) ∙ sym (none_before ns key (subst (λ x. IsBeforeAll x ns) (sym same ∙ is) p.0))
  behind key false e same f = f

  tests : (key : List ℕ) → k ≡ q → cond (bytes_eq k key) (Some v) (value_under key ms) ≡ cond (bytes_eq k key) (Some w) (value_under key ns)
  tests key same = h key ∙ ap (λ (x : List ℕ). cond (bytes_eq x key) (Some w) (value_under key ns)) (sym same)

  value : k ≡ q → v ≡ w
  value same =
      let f : Some v ≡ Some w = sym (own k v ms) ∙ h k ∙ ap (λ (x : List ℕ). value_under x (member q w ns)) same ∙ own q w ns in cc

  step : (r : Ordering) → compared_keys k q ≡ r → (((key : List ℕ) → value_under key ms ≡ value_under key ns) → ms ≡ ns) → member k v ms ≡ member q w ns
  step Less e more = absurd (some_value v (sym (own k v ms) ∙ h k ∙ none_before (member q w ns) k (e, before_later k q ns e p.0)))
  step Greater e more =
      let back = turned_back k q e in
      absurd (some_value w (sym (own q w ns) ∙ sym (h q) ∙ none_before (member k v ms) q (back, before_later q k ms back o.0)))
  step Equal e more =
      let same = same_by k q e in
      let rest = more (λ key. behind key (bytes_eq k key) refl same (tests key same)) in
      ap₂ (λ (x : List ℕ) (y : Json). member x y ms) same (value same) ∙ ap (λ (zs : Members Number). member q w zs) rest

-- one change more
inserted_under : {X : Type 0} (f : X → Option Json) (key k : List ℕ) (x : X) (es : List (List ℕ × X)) (ms : Members Number) → KeysRise ms
    → value_under key (overlaid f (insert_entry compared_keys es k x) ms) ≡ cond (bytes_eq k key) (f x) (value_under key (overlaid f es ms))
inserted_under f key k x [] ms o = entry_under key k (f x) ms o
inserted_under {X} f key k x (e ∷ es) ms o = step (compared_keys k e.0) refl (inserted_under f key k x es ms o) where
  all : value_under key (overlaid f (e ∷ es) ms) ≡ cond (bytes_eq e.0 key) (f e.1) (value_under key (overlaid f es ms))
  all = entry_under key e.0 (f e.1) (overlaid f es ms) (overlay_rise f es ms o)

  step : (r : Ordering) → compared_keys k e.0 ≡ r → value_under key (overlaid f (insert_entry compared_keys es k x) ms) ≡ cond (bytes_eq k key) (f x) (value_under key (overlaid f es ms))
      → value_under key (overlaid f (match_ordering r ((k, x) ∷ e ∷ es) ((e.0, x) ∷ es) (e ∷ insert_entry compared_keys es k x)) ms) ≡ cond (bytes_eq k key) (f x) (value_under key (overlaid f (e ∷ es) ms))
  step Less is later = entry_under key k (f x) (overlaid f (e ∷ es) ms) (overlay_rise f (e ∷ es) ms o)
  step Equal is later =
      let same = same_by k e.0 is in
      entry_under key e.0 (f x) (overlaid f es ms) (overlay_rise f es ms o)
      ∙ ap (λ (p : List ℕ). cond (bytes_eq p key) (f x) (value_under key (overlaid f es ms))) (sym same)
      ∙ overwritten key k e.0 (f x) (f e.1) (value_under key (overlaid f es ms)) same ∙ ap (λ rest. cond (bytes_eq k key) (f x) rest) (sym all)
  step Greater is later =
      entry_under key e.0 (f e.1) (overlaid f (insert_entry compared_keys es k x) ms) (overlay_rise f (insert_entry compared_keys es k x) ms o)
      ∙ ap (λ rest. cond (bytes_eq e.0 key) (f e.1) rest) later ∙ swap k e.0 key (f x) (f e.1) (value_under key (overlaid f es ms)) (apart k e.0 is)
      ∙ ap (λ rest. cond (bytes_eq k key) (f x) rest) (sym all)

pub inserted_entry : {X : Type 0} (f : X → Option Json) (k : List ℕ) (x : X) (es : List (List ℕ × X)) (ms : Members Number) → KeysRise ms
    → overlaid f (insert_entry compared_keys es k x) ms ≡ put_entry k (f x) (overlaid f es ms)
inserted_entry f k x es ms o =
    let rise = overlay_rise f es ms o in
    same_members _ _ (overlay_rise f (insert_entry compared_keys es k x) ms o) (rise_entry k (f x) (overlaid f es ms) rise)
    (λ key. inserted_under f key k x es ms o ∙ sym (entry_under key k (f x) (overlaid f es ms) rise))

-- members that differ under one key alone are the same once that key is set
pub set_same : (k : List ℕ) (v : Json) (ms ns : Members Number) → KeysRise ms → KeysRise ns → ((key : List ℕ) → bytes_eq k key ≡ false → value_under key ms ≡ value_under key ns)
    → with_member k v ms ≡ with_member k v ns
set_same k v ms ns o p h = same_members _ _ (rise_with k v ms o) (rise_with k v ns p) (λ key. with_under key k v ms ∙ step key (bytes_eq k key) refl ∙ sym (with_under key k v ns)) where
  step : (key : List ℕ) (b : Bool) → bytes_eq k key ≡ b → cond b (Some v) (value_under key ms) ≡ cond b (Some v) (value_under key ns)
  step key true e = refl
  step key false e = h key e

base_under : {X : Type 0} (f : X → Option Json) (key : List ℕ) (es : List (List ℕ × X)) (ms ns : Members Number) → KeysRise ms → KeysRise ns → value_under key ms ≡ value_under key ns
    → value_under key (overlaid f es ms) ≡ value_under key (overlaid f es ns)
base_under f key [] ms ns o p h = h
base_under f key (e ∷ es) ms ns o p h =
    entry_under key e.0 (f e.1) (overlaid f es ms) (overlay_rise f es ms o) ∙ ap (λ rest. cond (bytes_eq e.0 key) (f e.1) rest) (base_under f key es ms ns o p h)
    ∙ sym (entry_under key e.0 (f e.1) (overlaid f es ns) (overlay_rise f es ns p))

removed_under : {X : Type 0} (f : X → Option Json) (key k : List ℕ) (es : List (List ℕ × X)) (ms : Members Number) → KeysRise ms → bytes_eq k key ≡ false
    → value_under key (overlaid f (remove_entry (is_at (compared_keys k)) es) ms) ≡ value_under key (overlaid f es ms)
removed_under f key k [] ms o h = refl
removed_under f key k (e ∷ es) ms o h = step (is_at (compared_keys k) e.0) refl (removed_under f key k es ms o h) where
  all : value_under key (overlaid f (e ∷ es) ms) ≡ cond (bytes_eq e.0 key) (f e.1) (value_under key (overlaid f es ms))
  all = entry_under key e.0 (f e.1) (overlaid f es ms) (overlay_rise f es ms o)

  step : (b : Bool) → is_at (compared_keys k) e.0 ≡ b → value_under key (overlaid f (remove_entry (is_at (compared_keys k)) es) ms) ≡ value_under key (overlaid f es ms)
      → value_under key (overlaid f (cond b es (e ∷ remove_entry (is_at (compared_keys k)) es)) ms) ≡ value_under key (overlaid f (e ∷ es) ms)
  step true is later =
      let same = equal k e.0 (sym (is_eq-slice_cmp k e.0) ∙ is) in
      sym (all ∙ ap (λ b. cond b (f e.1) (value_under key (overlaid f es ms))) (ap (λ (p : List ℕ). bytes_eq p key) (sym same) ∙ h))
  step false is later =
      entry_under key e.0 (f e.1) (overlaid f (remove_entry (is_at (compared_keys k)) es) ms) (overlay_rise f (remove_entry (is_at (compared_keys k)) es) ms o)
      ∙ ap (λ rest. cond (bytes_eq e.0 key) (f e.1) rest) later ∙ sym all

pub set_after_removal : {X : Type 0} (f : X → Option Json) (k : List ℕ) (v : Json) (es : List (List ℕ × X)) (ms : Members Number) → KeysRise ms
    → with_member k v (overlaid f (remove_entry (is_at (compared_keys k)) es) ms) ≡ with_member k v (overlaid f es ms)
set_after_removal f k v es ms o =
    set_same k v _ _ (overlay_rise f (remove_entry (is_at (compared_keys k)) es) ms o) (overlay_rise f es ms o) (λ key h. removed_under f key k es ms o h)

pub set_after_base : {X : Type 0} (f : X → Option Json) (k : List ℕ) (v : Json) (es : List (List ℕ × X)) (ms ns : Members Number) → KeysRise ms → KeysRise ns
    → ((key : List ℕ) → bytes_eq k key ≡ false → value_under key ms ≡ value_under key ns) → with_member k v (overlaid f es ms) ≡ with_member k v (overlaid f es ns)
set_after_base f k v es ms ns o p h = set_same k v _ _ (overlay_rise f es ms o) (overlay_rise f es ns p) (λ key is. base_under f key es ms ns o p (h key is))

pub put_others : (k key : List ℕ) (ms : Members Number) (at : ℕ) (v : Json) → IsFoundAt k ms at → bytes_eq k key ≡ false → value_under key (put_at at v ms) ≡ value_under key ms
put_others k key no_members at v found h = absurd found
put_others k key (member q w ms) zero v found h = let other : bytes_eq q key ≡ false = ap (λ (p : List ℕ). bytes_eq p key) (sym found) ∙ h in rw other refl
put_others k key (member q w ms) (suc at) v found h = ap (λ rest. cond (bytes_eq q key) (Some w) rest) (put_others k key ms at v found.1 h)

-- what a key has: its change, or else what it had
abbrev pub found_or : {X : Type 0} → (X → Option Json) → Option X → Option Json → Option Json
found_or f None had = had
found_or f (Some x) had = f x

either_way : (a b : List ℕ) → bytes_eq a b ≡ bytes_eq b a
either_way a b = step (bytes_eq a b) (bytes_eq b a) refl refl where
  step : (p q : Bool) → bytes_eq a b ≡ p → bytes_eq b a ≡ q → p ≡ q
  step true true e f = refl
  step false false e f = refl
  step true false e f = sym (same_test a b (equal a b e)) ∙ f
  step false true e f = sym e ∙ same_test b a (equal b a f)

pub looked_up : {X : Type 0} (f : X → Option Json) (key : List ℕ) (es : List (List ℕ × X)) (ms : Members Number) → KeysRise ms
    → value_under key (overlaid f es ms) ≡ found_or f (lookup (is_at (compared_keys key)) es) (value_under key ms)
looked_up f key [] ms o = refl
looked_up f key (e ∷ es) ms o =
    entry_under key e.0 (f e.1) (overlaid f es ms) (overlay_rise f es ms o)
    ∙ ap (λ b. cond b (f e.1) (value_under key (overlaid f es ms))) (either_way e.0 key ∙ sym (is_eq-slice_cmp key e.0))
    ∙ step (is_at (compared_keys key) e.0) (looked_up f key es ms o) where
      step : (b : Bool) → value_under key (overlaid f es ms) ≡ found_or f (lookup (is_at (compared_keys key)) es) (value_under key ms)
          → cond b (f e.1) (value_under key (overlaid f es ms)) ≡ found_or f (cond b (Some e.1) (lookup (is_at (compared_keys key)) es)) (value_under key ms)
      step true later = refl
      step false later = later
