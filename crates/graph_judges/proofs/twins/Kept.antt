-- A twin of which one component that it has gets other values.
use Rattle.std.proofs.Common.{◌≡◌, ℕ, zero, suc, ◌<◌, slice_index_or, arith, List, [], ◌∷◌, Bool, true, false, cond, codes, bytes_eq, Some, IsSome, refl, sym, ◌∙◌, subst, Ordering, Less, Equal, Greater, true≢false}
use Rattle.std.specs.Prelude.{All}
use Rattle.std.specs.Ordering.{match_ordering}
use Rattle.std.proofs.lemmas.Slice.Eq.{bytes_eq-Decides}
use Rattle.json_decimal.specs.Number.{Number}
use Rattle.json_tree.specs.Values.{Json, object, Members, no_members, member, LacksKey, HasDistinctKeys, MembersHaveDistinctKeys}
use Rattle.json_tree.specs.View.{view}
use Rattle.json_tree.specs.declared.tree.Tree.{Tree}
use Rattle.json_tree.specs.Members.{members_in, value_at}
use Rattle.twin_patch.specs.Objects.{with_member, sorted_value}
use Rattle.twin_patch.specs.Operations.{change_of, BringsDistinctKeys}
use Rattle.twin_patch.specs.declared.patch.Op.{Op}
use Rattle.twin_patch.specs.declared.patch.OpKind.TheVariants as kinds
use Rattle.twin_patch.specs.declared.patch.Patch.{Patch}
use Rattle.twin_patch.specs.Machinery.Orders.{compared_keys, AreInOrder}
use Rattle.twin_patch.proofs.Ordered.{with_order}
use Rattle.twin_value.specs.Twins.{picked, joined_members, any_key, with_metadata, without_metadata}
use Rattle.graph_steps.specs.States.{Twin}
use Rattle.graph_steps.specs.Typed.{AllKeys}
use Rattle.graph_steps.specs.TwinAsks.{component_at, with_part}
use Rattle.graph_steps.specs.bodies.Kept.{IsKeptTwin, IsKeptPart}
use Rattle.graph_steps.proofs.bodies.Keys.{AllValues, order_sorted, sorted_in_order, members_in_order, members_distinct, keys_weaker, lacks_joined, lacks_picked, distinct_joined, distinct_picked, distinct_right, distinct_values}

-- ---- what is patched
abbrev pub patch_of : List ℕ → Tree → Patch
patch_of key value = record { ops = record { kind = kinds.Replace value; path = key ∷ [] } ∷ [] }

pub one_brings : (patch : Patch) (key : List ℕ) (value : Tree) → patch ≡ patch_of key value → HasDistinctKeys (view value) → All (λ (op : Op). BringsDistinctKeys (change_of op.kind)) patch.ops
one_brings patch key value same distinct = subst (λ (p : Patch). All (λ (op : Op). BringsDistinctKeys (change_of op.kind)) p.ops) (sym same) (λ k d low. one k d low)
  where
    one : (k : ℕ) (d : Op) → k < 1 → BringsDistinctKeys (change_of (slice_index_or (patch_of key value).ops k d).kind)
    one zero d low = distinct
    one (suc k) d low = absurd (omega (arith, low))

-- ---- keys
module _ (key : List ℕ) where
  lacks_left : (ms ns : Members Number) → LacksKey key (joined_members ms ns) → LacksKey key ms
  lacks_left no_members ns h = tt
  lacks_left (member k v ms) ns h = (h.0, lacks_left ms ns h.1)

  lacks_right : (ms ns : Members Number) → LacksKey key (joined_members ms ns) → LacksKey key ns
  lacks_right no_members ns h = h
  lacks_right (member k v ms) ns h = lacks_right ms ns h.1

  lacks_any : (f : Json → Json) (ms : Members Number) → LacksKey key (picked any_key f ms) → LacksKey key ms
  lacks_any f no_members h = tt
  lacks_any f (member k v ms) h = (h.0, lacks_any f ms h.1)

  -- A key that is there is none that is lacking.
  other_than : (name : List ℕ) (ms : Members Number) → IsSome (value_at name ms) → LacksKey key ms → key ≡ name → ⊥
  other_than name no_members h lacks same = true≢false (sym h)
  other_than name (member k v ms) h lacks same = by (bytes_eq k name) refl h (λ g. other_than name ms g lacks.1 same)
    where
      by : (b : Bool) → bytes_eq k name ≡ b → IsSome (cond b (Some v) (value_at name ms)) → (IsSome (value_at name ms) → ⊥) → ⊥
      by true e g later = lacks.0 (same ∙ sym ((bytes_eq-Decides k name).0 e))
      by false e g later = later g

  lacks_with : (k : List ℕ) (v : Json) (ms : Members Number) → (key ≡ k → ⊥) → LacksKey key ms → LacksKey key (with_member k v ms)
  lacks_with k v no_members other h = (other, tt)
  lacks_with k v (member q w ms) other h = step (compared_keys k q) (lacks_with k v ms other h.1)
    where
      step : (o : Ordering) → LacksKey key (with_member k v ms) → LacksKey key (match_ordering o (member k v (member q w ms)) (member q v ms) (member q w (with_member k v ms)))
      step Less later = (other, h)
      step Equal later = h
      step Greater later = (h.0, later)

all_lack : (ms ns : Members Number) → MembersHaveDistinctKeys (joined_members ms ns) → AllKeys (λ key. LacksKey key ns) ms
all_lack no_members ns d = tt
all_lack (member k v ms) ns d = (lacks_right k ms ns d.0, all_lack ms ns d.2)

left_distinct : (ms ns : Members Number) → MembersHaveDistinctKeys (joined_members ms ns) → MembersHaveDistinctKeys ms
left_distinct no_members ns d = tt
left_distinct (member k v ms) ns d = (lacks_left k ms ns d.0, d.1, left_distinct ms ns d.2)

values_with : (P : Json → Type 0) (k : List ℕ) (v : Json) (ms : Members Number) → P v → AllValues P ms → AllValues P (with_member k v ms)
values_with P k v no_members h all = (h, tt)
values_with P k v (member q w ms) h all = step (compared_keys k q) (values_with P k v ms h all.1)
  where
    step : (o : Ordering) → AllValues P (with_member k v ms) → AllValues P (match_ordering o (member k v (member q w ms)) (member q v ms) (member q w (with_member k v ms)))
    step Less later = (h, all)
    step Equal later = (h, all.1)
    step Greater later = (all.0, later)

-- ---- the twin stays one that can be printed
module _ (t : Twin) (name : List ℕ) (v : Json) (kept : IsKeptTwin t) (part : IsKeptPart (sorted_value (without_metadata v))) (there : IsSome (component_at name t)) where
  abbrev vs : Members Number
  vs = members_in t.values

  abbrev ps : Members Number
  ps = members_in t.parts

  abbrev qs : Members Number
  qs = with_member name (sorted_value (without_metadata v)) ps

  rest : MembersHaveDistinctKeys (joined_members vs (picked any_key with_metadata ps))
  rest = kept.distinct.2.2

  order : AreInOrder qs
  order = with_order name (sorted_value (without_metadata v)) ps (sorted_in_order (sorted_value (without_metadata v)) part.sorted) (members_in_order t.parts (sorted_in_order t.parts kept.parts))

  still_lacks : (key : List ℕ) → LacksKey key (picked any_key with_metadata ps) → LacksKey key (picked any_key with_metadata qs)
  still_lacks key h =
      let lacks = lacks_any key with_metadata ps h in
      lacks_picked any_key with_metadata key qs (lacks_with key name (sorted_value (without_metadata v)) ps (other_than key name ps there lacks) lacks)

  rest_lacks : (key : List ℕ) → LacksKey key (joined_members vs (picked any_key with_metadata ps)) → LacksKey key (joined_members vs (picked any_key with_metadata qs))
  rest_lacks key h = lacks_joined key vs (picked any_key with_metadata qs) (lacks_left key vs (picked any_key with_metadata ps) h) (still_lacks key (lacks_right key vs (picked any_key with_metadata ps) h))

  rest_distinct : MembersHaveDistinctKeys (joined_members vs (picked any_key with_metadata qs))
  rest_distinct =
      distinct_joined vs (picked any_key with_metadata qs) (left_distinct vs (picked any_key with_metadata ps) rest)
      (distinct_picked any_key with_metadata qs (members_distinct qs order)
      (values_with (λ (w : Json). HasDistinctKeys (with_metadata w)) name (sorted_value (without_metadata v)) ps part.distinct (distinct_values with_metadata ps (distinct_right vs (picked any_key with_metadata ps) rest))))
      (keys_weaker (λ key. LacksKey key (picked any_key with_metadata ps)) (λ key. LacksKey key (picked any_key with_metadata qs)) still_lacks vs (all_lack vs (picked any_key with_metadata ps) rest))

  pub kept_with : IsKeptTwin (with_part name v t)
  kept_with = record {
    values = kept.values;
    parts = order_sorted (object qs) order;
    distinct = (
      (kept.distinct.0.0, rest_lacks (codes "$dtId") kept.distinct.0.1),
      tt,
      (rest_lacks (codes "$metadata") kept.distinct.2.0, kept.distinct.2.1, rest_distinct),
    );
  }
