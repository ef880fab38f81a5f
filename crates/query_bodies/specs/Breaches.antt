-- The breaches of the value of a query's body: it has to be an object, to have `query`, and to give the kinds of value that its
-- keys ask for (this project's own).
use Rattle.std.specs.Prelude.{◌≡◌, ℕ, ◌⊎◌, List, [], ◌∷◌, Bool, true, false, Some, None, codes}
use Rattle.json_tree.specs.Values.{Json, null, truth, number, text, array, object}
use Rattle.json_tree.specs.Places.{member_at}
use Rattle.json_tree.specs.Members.{members_in, text_in}
use Rattle.twin_value.specs.Breaches.{Lacks}
use Rattle.twin_value.specs.Fits.{is_object}
use Rattle.twin_value.specs.declared.code.BodyCode.{BodyCode}
use Rattle.twin_value.specs.declared.code.BodyCode.TheVariants as code

abbrev pub is_text_or_null : Json → Bool
is_text_or_null null = true
is_text_or_null (truth b) = false
is_text_or_null (number n) = false
is_text_or_null (text bytes) = true
is_text_or_null (array vs) = false
is_text_or_null (object ms) = false

-- The value of a member with this key is of another kind than the key asks for. Other keys ask for nothing.
abbrev pub IsWrong : List ℕ → Json → Type 0
IsWrong key v = ((key ≡ codes "query") × (text_in v ≡ None)) ⊎ ((key ≡ codes "continuationToken") × (is_text_or_null v ≡ false))

-- The member at this position is.
abbrev pub IsWrongAt : Json → ℕ → Type 0
IsWrongAt v i = (key : List ℕ) × (part : Json) × (member_at (members_in v) i ≡ Some (key, part)) × IsWrong key part

-- A code stands at a place of the value.
abbrev pub IsQueryBreach : Json → List ℕ → BodyCode → Type 0
IsQueryBreach v [] code.WrongKind = is_object v ≡ false
IsQueryBreach v [] code.MissingKey = Lacks (codes "query") v
IsQueryBreach v (i ∷ []) code.WrongKind = IsWrongAt v i
IsQueryBreach v place other = ⊥
