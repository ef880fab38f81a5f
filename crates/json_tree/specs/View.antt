-- The JSON value that a `Tree` stands for.
use Rattle.std.specs.Prelude.{ℕ, List, map}
use Rattle.json_decimal.specs.Number.{Number}
use Rattle.json_decimal.specs.Decimals.{number_of}
use Rattle.json_tree.specs.Values.{Json, null, truth, number, text, array, object, Elements, Members, elements_of, members_of}
use Rattle.json_tree.specs.declared.tree.Tree.{Tree, fold-Tree}
use Rattle.json_tree.specs.declared.tree.Tree.TheOpen.{Tree-F}
use Rattle.json_tree.specs.declared.tree.Member.{Member, Member-F}

-- one level, with each value inside already seen
abbrev pub tree_step : Tree-F Json (List ℕ × Json) → Json
tree_step Tree-F.Null = null
tree_step (Tree-F.Bool b) = truth b
tree_step (Tree-F.Number d) = number (number_of d)
tree_step (Tree-F.Text t) = text t
tree_step (Tree-F.List vs) = array (elements_of vs)
tree_step (Tree-F.Members ms) = object (members_of ms)

abbrev pub member_step : Member-F Json (List ℕ × Json) → List ℕ × Json
member_step m = (m.key, m.value)

abbrev pub view : Tree → Json
view = fold-Tree Json (List ℕ × Json) tree_step member_step

-- a member is its key and its value
abbrev pub member_view : Member → List ℕ × Json
member_view m = (m.key, view m.value)

abbrev pub elements_view : List Tree → Elements Number
elements_view vs = elements_of (map view vs)

abbrev pub members_view : List Member → Members Number
members_view ms = members_of (map member_view ms)
