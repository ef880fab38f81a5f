-- The members of twins and relationships, as they are printed, without printing them.
use Rattle.std.specs.Prelude.{ℕ, List, Option, Some, None, bytes_eq, codes, if◌then◌else◌}
use Rattle.std.specs.Option.{option_map}
use Rattle.json_tree.specs.Values.{Json}
use Rattle.json_tree.specs.Members.{value_in}
use Rattle.graph_steps.specs.States.{Twin, Link, part_value}

abbrev pub otherwise : Option Json → Option Json → Option Json
otherwise None v = v
otherwise (Some w) v = Some w

-- A property of a twin, or a component.
abbrev pub content_in : List ℕ → Twin → Option Json
content_in name t = otherwise (value_in name t.values) (option_map part_value (value_in name t.parts))

-- An identifier or the name in a relationship.
abbrev pub member_text_of : List ℕ → Link → Option (List ℕ)
member_text_of name l =
    if bytes_eq name (codes "$relationshipId") then Some l.id
    else (if bytes_eq name (codes "$relationshipName") then Some l.name
    else (if bytes_eq name (codes "$sourceId") then Some l.source
    else (if bytes_eq name (codes "$targetId") then Some l.target
    else None)))
