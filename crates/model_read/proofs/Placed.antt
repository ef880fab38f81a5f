-- Where parts stand: the entries of a list and the members of an object, by their positions.
use Rattle.std.proofs.Common.{◌≡◌, ℕ, ◌+◌, ◌<◌, List, ◌∷◌, length, drop, get_or, Bool, true, false, ◌⊎◌, inl, inr, Some, cond, sym, ap, ◌∙◌, arith, bytes_eq, true≢false}
use Rattle.std.proofs.lemmas.List.{drop_more}
use Rattle.std.proofs.lemmas.Slice.Eq.{bytes_eq-Decides}
use Rattle.json_tree.specs.Values.{Json}
use Rattle.json_tree.specs.Places.{member_at}
use Rattle.json_tree.specs.View.{view, member_view, members_view}
use Rattle.json_tree.specs.declared.tree.Member.{Member}
use Rattle.json_tree.specs.Members.{value_at}
use Rattle.json_tree.proofs.Parts.{member_part}
use Rattle.model_read.specs.Uploads.{IsNew, HasOrdinal}

lt-or-eq : (j i : ℕ) → j < i + 1 → (j < i) ⊎ (j ≡ i)
lt-or-eq j i h = grind arith

first_value : (key : List ℕ) (m : Member) (ms : List Member) → bytes_eq m.key key ≡ true → value_at key (members_view (m ∷ ms)) ≡ Some (view m.value)
first_value key m ms same = ap (λ (b : Bool). cond b (Some (view m.value)) (value_at key (members_view ms))) same

at_position : (ms : List Member) (i : ℕ) (m : Member) → i < length ms → m ≡ get_or ms i m → drop i ms ≡ m ∷ drop (i + 1) ms
at_position ms i m within is = drop_more ms i m within ∙ ap (λ (x : Member). x ∷ drop (i + 1) ms) (sym is)

later_value : (key : List ℕ) (m : Member) (ms : List Member) → bytes_eq m.key key ≡ false
    → value_at key (members_view (m ∷ ms)) ≡ value_at key (members_view ms)
later_value key m ms other = ap (λ (b : Bool). cond b (Some (view m.value)) (value_at key (members_view ms))) other

-- a member without the key is skipped
pub skip_member : (ms : List Member) (i : ℕ) (m : Member) (key : List ℕ) → i < length ms → m ≡ get_or ms i m → bytes_eq m.key key ≡ false
    → value_at key (members_view (drop i ms)) ≡ value_at key (members_view ms) → value_at key (members_view (drop (i + 1) ms)) ≡ value_at key (members_view ms)
skip_member ms i m key within is other before =
    sym (later_value key m (drop (i + 1) ms) other)
    ∙ (ap (λ (ns : List Member). value_at key (members_view ns)) (sym (at_position ms i m within is)) ∙ before)

same_key : (m n : List ℕ × Json) → Some m ≡ Some n → bytes_eq m.0 n.0 ≡ true
same_key m n e =
    let same : m ≡ n = cc in
    (bytes_eq-Decides m.0 n.0).1 (ap (λ (p : List ℕ × Json). p.0) same)

-- no member so far has the key, nor has the next
pub new_more : (ms : List Member) (i : ℕ) (m : Member) (key : List ℕ) → i < length ms → m ≡ get_or ms i m → bytes_eq m.key key ≡ false
    → IsNew key (members_view ms) i → IsNew key (members_view ms) (i + 1)
new_more ms i m key within is other before j w less part = elim (lt-or-eq j i (omega arith)) [
  | inl lower ↦ before j w lower part
  | inr same ↦
      true≢false (sym (same_key (member_view m) (key, w) (sym (member_part ms i m within is) ∙ (ap (member_at (members_view ms)) (sym same) ∙ part))) ∙ other)
]

-- the first member with the key, behind those without
pub ordinal_found : (ms : List Member) (i : ℕ) (m : Member) (key : List ℕ) → i < length ms → m ≡ get_or ms i m → bytes_eq m.key key ≡ true
    → value_at key (members_view (drop i ms)) ≡ value_at key (members_view ms) → IsNew key (members_view ms) i → HasOrdinal key (members_view ms) (Some i)
ordinal_found ms i m key within is tested before new =
    let same : m.key ≡ key = (bytes_eq-Decides m.key key).0 tested in
    let part = member_part ms i m within is in (
      view m.value,
      part ∙ ap (λ (k : List ℕ). Some (k, view m.value)) same,
      sym before ∙ (ap (λ (ns : List Member). value_at key (members_view ns)) (at_position ms i m within is) ∙ first_value key m (drop (i + 1) ms) tested),
      new,
    )
