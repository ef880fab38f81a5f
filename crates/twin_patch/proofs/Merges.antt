-- Changes beside members, merged from the front.
use Rattle.std.proofs.Common.{◌≡◌, ℕ, List, [], ◌∷◌, ◌++◌, map, Bool, true, false, cond, Option, Some, None, refl, sym, ap, ◌∙◌, subst}
use Rattle.std.specs.Prelude.{bytes_eq}
use Rattle.std.specs.Option.{option_map}
use Rattle.std.specs.Ordering.{match_ordering}
use Rattle.std.specs.Map.{keys_of}
use Rattle.std.specs.List.Sorted.{IsStrictlySortedBy}
use Rattle.std.specs.declared.cmp.Ordering.{Ordering}
use Rattle.std.specs.declared.cmp.Ordering.TheVariants.{Less, Equal, Greater}
use Rattle.std.proofs.lemmas.Cmp.{nat_list_cmp_total}
use Rattle.json_decimal.specs.Number.{Number}
use Rattle.json_tree.specs.Values.{Json, Members, no_members, member}
use Rattle.json_tree.specs.View.{view, members_view}
use Rattle.json_tree.specs.declared.tree.Member.{Member}
use Rattle.twin_patch.specs.Objects.{with_member, without_member}
use Rattle.twin_patch.specs.Machinery.Orders.{compared_keys, IsBeforeAll}
use Rattle.twin_patch.specs.Machinery.Drafts.{put_entry, overlaid, itself, members_behind, front, AreAfter}
use Rattle.twin_patch.proofs.Found.{turned}
use Rattle.twin_patch.proofs.Ordered.{before_with, before_without}
use Rattle.twin_patch.proofs.Edits.{equal_keys, same_test, greater_test, lesser_test}

-- changes that were seen as values beforehand
pub fused : {X : Type 0} (f : X → Option Json) (es : List (List ℕ × X)) (ms : Members Number) → overlaid itself (map (λ (e : List ℕ × X). (e.0, f e.1)) es) ms ≡ overlaid f es ms
fused f [] ms = refl
fused f (e ∷ es) ms = ap (λ rest. put_entry e.0 (f e.1) rest) (fused f es ms)

-- a member before all changes stays in front
entry_passes : (m q : List ℕ) (w : Json) (x : Option Json) (ms : Members Number) → compared_keys m q ≡ Less → put_entry q x (member m w ms) ≡ member m w (put_entry q x ms)
entry_passes m q w (Some v) ms h = rw (turned m q h) refl
entry_passes m q w None ms h = rw (greater_test q m (turned m q h)) refl

pub member_passes : {X : Type 0} (f : X → Option Json) (m : List ℕ) (w : Json) (es : List (List ℕ × X)) (ms : Members Number) → AreAfter m es → overlaid f es (member m w ms) ≡ member m w (overlaid f es ms)
member_passes f m w [] ms h = refl
member_passes f m w (e ∷ es) ms h = ap (λ rest. put_entry e.0 (f e.1) rest) (member_passes f m w es ms h.1) ∙ entry_passes m e.0 w (f e.1) (overlaid f es ms) h.0

pub after_later : {X : Type 0} (m k : List ℕ) (es : List (List ℕ × X)) → compared_keys m k ≡ Less → AreAfter k es → AreAfter m es
after_later m k [] h after = tt
after_later m k (e ∷ es) h after = (nat_list_cmp_total.trans m k e.0 h after.0, after_later m k es h after.1)

-- a key before members and changes
before_overlay : {X : Type 0} (f : X → Option Json) (k : List ℕ) (es : List (List ℕ × X)) (ms : Members Number) → IsBeforeAll k ms → AreAfter k es → IsBeforeAll k (overlaid f es ms)
before_overlay f k [] ms h after = h
before_overlay f k (e ∷ es) ms h after = step (f e.1) (before_overlay f k es ms h after.1) where
  step : (x : Option Json) → IsBeforeAll k (overlaid f es ms) → IsBeforeAll k (put_entry e.0 x (overlaid f es ms))
  step (Some v) members_behind = before_with k e.0 v (overlaid f es ms) after.0 members_behind
  step None members_behind = before_without k e.0 (overlaid f es ms) members_behind

without_none : (k : List ℕ) (ms : Members Number) → IsBeforeAll k ms → without_member k ms ≡ ms
without_none k no_members h = refl
without_none k (member q w ms) h = rw (lesser_test k q h.0) (ap (λ rest. member q w rest) (without_none k ms h.1))

entry_front : (k : List ℕ) (x : Option Json) (ms : Members Number) → IsBeforeAll k ms → put_entry k x ms ≡ front k x ms
entry_front k (Some v) no_members h = refl
entry_front k (Some v) (member q w ms) h = rw h.0 refl
entry_front k None ms h = without_none k ms h

own_entry : (k : List ℕ) (x : Option Json) (w : Json) (ms : Members Number) → put_entry k x (member k w ms) ≡ front k x ms
own_entry k (Some v) w ms = rw (equal_keys k k refl) refl
own_entry k None w ms = rw (same_test k k refl) refl

-- the change of a key that no member in front has, and of one that the first has
pub next_entry : {X : Type 0} (f : X → Option Json) (k : List ℕ) (x : X) (es : List (List ℕ × X)) (ms : Members Number) → IsBeforeAll k ms → AreAfter k es
    → overlaid f ((k, x) ∷ es) ms ≡ front k (f x) (overlaid f es ms)
next_entry f k x es ms h after = entry_front k (f x) (overlaid f es ms) (before_overlay f k es ms h after)

pub next_own : {X : Type 0} (f : X → Option Json) (k : List ℕ) (x : X) (w : Json) (es : List (List ℕ × X)) (ms : Members Number) → AreAfter k es
    → overlaid f ((k, x) ∷ es) (member k w ms) ≡ front k (f x) (overlaid f es ms)
next_own f k x w es ms after = ap (λ rest. put_entry k (f x) rest) (member_passes f k w es ms after) ∙ own_entry k (f x) w (overlaid f es ms)

pub order_split : {X : Type 0} (k : List ℕ) (x : X) (es : List (List ℕ × X)) → IsStrictlySortedBy compared_keys (keys_of ((k, x) ∷ es)) → AreAfter k es × IsStrictlySortedBy compared_keys (keys_of es)
unfolding IsStrictlySortedBy
order_split k x es h = h

-- members behind those of a list
pub behind_one : (out : List Member) (m : Member) (ms : Members Number) → members_behind (out ++ m ∷ []) ms ≡ members_behind out (member m.key (view m.value) ms)
behind_one [] m ms = refl
behind_one (n ∷ out) m ms = ap (λ rest. member n.key (view n.value) rest) (behind_one out m ms)

pub behind_all : (out rest : List Member) → members_view (out ++ rest) ≡ members_behind out (members_view rest)
behind_all [] rest = refl
behind_all (n ∷ out) rest = ap (λ more. member n.key (view n.value) more) (behind_all out rest)
