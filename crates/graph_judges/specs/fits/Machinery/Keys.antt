-- The keys of an object's members.
use Rattle.std.specs.Prelude.{◌≡◌, ℕ, List, [], ◌∷◌}
use Rattle.json_decimal.specs.Number.{Number}
use Rattle.json_tree.specs.Values.{Members, no_members, member}
use Rattle.json_tree.specs.View.{view}
use Rattle.json_tree.specs.Members.{members_in}
use Rattle.twin_value.specs.declared.twin.Twin.{Twin}

abbrev pub keys_in : Members Number → List (List ℕ)
keys_in no_members = []
keys_in (member key v ms) = key ∷ keys_in ms

-- Two twins have values of the same names, and components of the same names.
abbrev pub HaveSameNames : Twin → Twin → Type 0
HaveSameNames t u = (keys_in (members_in (view t.values)) ≡ keys_in (members_in (view u.values))) × (keys_in (members_in (view t.parts)) ≡ keys_in (members_in (view u.parts)))
