-- The parts of an element behind its type.
use Rattle.std.specs.Prelude.{ℕ, List, ◌∷◌, Option, codes}
use Rattle.std.specs.Option.{option_map}
use Rattle.json_tree.specs.Values.{Json, text}
use Rattle.dtdl_terms.specs.declared.common.Common.{Common}
use Rattle.canon_text.specs.Canonical.{localized_value}

-- The comment, the description and the display name, before what an element has of its own.
abbrev pub remark_parts : Common → List (List ℕ × Option Json) → List (List ℕ × Option Json)
remark_parts c own =
    (codes "comment", option_map text c.comment)
    ∷ (codes "description", localized_value c.description)
    ∷ (codes "displayName", localized_value c.display_name)
    ∷ own
