-- The position of a key among members, and what stands there.
use Rattle.std.proofs.Common.{◌≡◌, ℕ, zero, suc, ◌<◌, ◌≤◌, List, [], ◌∷◌, length, get_or, Bool, true, false, Option, Some, None, refl, sym, ap, ◌∙◌, subst, arith}
use Rattle.std.proofs.Math.ListN.{set}
use Rattle.std.specs.List.{insert, remove}
use Rattle.std.specs.Prelude.{bytes_eq}
use Rattle.std.specs.Ordering.{nat_cmp, is_eq, ordering_reverse, match_ordering}
use Rattle.std.specs.declared.cmp.Ordering.{Ordering}
use Rattle.std.specs.declared.cmp.Ordering.TheVariants.{Less, Equal, Greater}
use Rattle.std.proofs.lemmas.Map.Text.{is_eq-slice_cmp}
use Rattle.std.proofs.lemmas.Cmp.{nat_list_cmp_total}
use Rattle.json_tree.specs.Values.{Json, Members, no_members, member}
use Rattle.json_tree.specs.View.{view, member_view, members_view}
use Rattle.json_tree.specs.Places.{member_at}
use Rattle.json_tree.specs.declared.tree.Member.{Member}
use Rattle.json_decimal.specs.Number.{Number}
use Rattle.twin_patch.specs.Objects.{value_under, with_member, without_member}
use Rattle.twin_patch.specs.Machinery.Orders.{compared_keys, IsBeforeAll, IsFoundAt, IsMissingAt, put_at}
use Rattle.twin_patch.proofs.Found.{turned_back}

reflexive : (o : Ordering) → o ≡ ordering_reverse o → o ≡ Equal
reflexive Less e = absurd cc
reflexive Equal e = refl
reflexive Greater e = absurd cc

pub equal_keys : (a b : List ℕ) → a ≡ b → compared_keys a b ≡ Equal
equal_keys a b e = subst (λ x. compared_keys a x ≡ Equal) e (reflexive (compared_keys a a) (nat_list_cmp_total.antisymm a a))

-- a key is its own, and no lesser or greater one is
pub same_test : (a b : List ℕ) → a ≡ b → bytes_eq b a ≡ true
same_test a b e = sym (is_eq-slice_cmp b a) ∙ ap is_eq (equal_keys b a (sym e))

pub greater_test : (key k : List ℕ) → compared_keys key k ≡ Greater → bytes_eq k key ≡ false
greater_test key k h = sym (is_eq-slice_cmp k key) ∙ ap is_eq (turned_back key k h)

pub lesser_test : (key k : List ℕ) → compared_keys key k ≡ Less → bytes_eq k key ≡ false
lesser_test key k h = sym (is_eq-slice_cmp k key) ∙ ap is_eq (nat_list_cmp_total.antisymm k key ∙ ap ordering_reverse h)

-- what stands at the position is what the map has
pub value_found : (ms : Members Number) (key : List ℕ) (at : ℕ) → IsFoundAt key ms at → (v : Json) × (value_under key ms ≡ Some v) × (member_at ms at ≡ Some (key, v))
value_found no_members key at h = absurd h
value_found (member k w ms) key zero h = (w, rw (same_test key k h) refl, ap (λ x. Some (x, w)) (sym h))
value_found (member k w ms) key (suc at) h = let r = value_found ms key at h.1 in (r.0, rw (greater_test key k h.0) r.1, r.2)

pub none_before : (ms : Members Number) (key : List ℕ) → IsBeforeAll key ms → value_under key ms ≡ None
none_before no_members key h = refl
none_before (member k w ms) key h = rw (lesser_test key k h.0) (none_before ms key h.1)

pub value_missing : (ms : Members Number) (key : List ℕ) (at : ℕ) → IsMissingAt key ms at → value_under key ms ≡ None
value_missing no_members key at h = refl
value_missing (member k w ms) key zero h = none_before (member k w ms) key h
value_missing (member k w ms) key (suc at) h = rw (greater_test key k h.0) (value_missing ms key at h.1)

-- a member with another value, and the value that stood there
pub set_value : (ms : List Member) (at : ℕ) (old new : Member) → at < length ms → old ≡ get_or ms at old → new.key ≡ old.key
    → members_view (set ms at new) ≡ put_at at (view new.value) (members_view ms)
set_value [] at old new lt is same = absurd (omega (arith, lt))
set_value (m ∷ ms) zero old new lt is same = ap (λ k. member k (view new.value) (members_view ms)) (same ∙ ap (λ (n : Member). n.key) is)
set_value (m ∷ ms) (suc at) old new lt is same = ap (λ rest. member m.key (view m.value) rest) (set_value ms at old new (omega (arith, lt)) is same)

pub value_at : (ms : List Member) (at : ℕ) (m : Member) → at < length ms → m ≡ get_or ms at m → member_at (members_view ms) at ≡ Some (m.key, view m.value)
value_at [] at m lt is = absurd (omega (arith, lt))
value_at (n ∷ ms) zero m lt is = ap (λ (x : Member). Some (x.key, view x.value)) (sym is)
value_at (n ∷ ms) (suc at) m lt is = value_at ms at m (omega (arith, lt)) is
