-- What a patch makes of a value (RFC 6902, sections 3 to 5), objects being finite maps.
use Rattle.std.specs.Prelude.{◌≡◌, ℕ, ◌+◌, List, [], ◌∷◌, Option, Some, None, Result, Ok, Err, option_and_then}
use Rattle.std.specs.Option.{option_map}
use Rattle.json_decimal.specs.Number.{Number}
use Rattle.json_tree.specs.Values.{Json, null, truth, number, text, array, object, Members}
use Rattle.json_tree.specs.View.{view}
use Rattle.json_tree.specs.declared.tree.Tree.{Tree}
use Rattle.twin_patch.specs.Objects.{value_under, with_member, without_member, sorted_value}
use Rattle.twin_patch.specs.Operations.{Change, add, replace, remove, Operation}
use Rattle.twin_patch.specs.declared.application.ApplyEnd.{ApplyEnd}
use Rattle.twin_patch.specs.declared.application.ApplyEnd.TheVariants.{NoTarget, OutOfMemory}

-- The members after a change of the one under a key: `add` sets it, `replace` and `remove` need it.
abbrev pub edited : Change → List ℕ → Members Number → Option (Members Number)
edited (add v) key ms = Some (with_member key (sorted_value v) ms)
edited (replace v) key ms = option_map (λ old. with_member key (sorted_value v) ms) (value_under key ms)
edited remove key ms = option_map (λ old. without_member key ms) (value_under key ms)

-- A value after a change at the path that begins with this key: each key but the last leads to a member that is there,
-- and the change is made in an object.
abbrev pub changed_value : Change → List ℕ → List (List ℕ) → Json → Option Json
changed_value change key [] (object ms) = option_map object (edited change key ms)
changed_value change key (next ∷ keys) (object ms) =
    option_and_then (λ part. option_map (λ new. object (with_member key new ms)) (changed_value change next keys part)) (value_under key ms)
changed_value change key keys null = None
changed_value change key keys (truth b) = None
changed_value change key keys (number n) = None
changed_value change key keys (text bytes) = None
changed_value change key keys (array vs) = None

-- A value after an operation; None where its need is not met. A path without parts ends at no member.
abbrev pub applied_at : Change → List (List ℕ) → Json → Option Json
applied_at change [] v = None
applied_at change (key ∷ keys) v = changed_value change key keys v

abbrev pub applied : Operation → Json → Option Json
applied o v = applied_at o.change o.path v

-- A value after all operations, one after another, or the position of the first whose need is not met, counted from `at`.
abbrev pub go_on : ℕ → Option Json → (Json → Result Json ℕ) → Result Json ℕ
go_on at None rest = Err at
go_on at (Some v) rest = rest v

abbrev pub patched_from : ℕ → List Operation → Json → Result Json ℕ
patched_from at [] v = Ok v
patched_from at (o ∷ os) v = go_on at (applied o v) (patched_from (at + 1) os)

-- What a patch makes of a value: the patched value, sorted at every depth, or the index of the first operation whose need
-- is not met.
abbrev pub patched : List Operation → Json → Result Json ℕ
patched os v = patched_from 0 os (sorted_value v)

-- What `apply` answers.
abbrev pub GivesPatched : Result Tree ApplyEnd → Result Json ℕ → Type 0
GivesPatched (Ok tree) r = r ≡ Ok (view tree)
GivesPatched (Err (NoTarget index)) r = r ≡ Err index
GivesPatched (Err OutOfMemory) r = Unit {0}
