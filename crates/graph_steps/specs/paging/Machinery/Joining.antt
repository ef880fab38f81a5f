-- What stands between the ids of a token, and before the rows of a page.
use Rattle.std.specs.Prelude.{ℕ, zero, suc, List, [], ◌∷◌, Option, Some, None, codes}
use Rattle.json_tree.specs.Values.{Json, text}

-- what comes before an id, where so many ids stand before it
abbrev pub separator : ℕ → List ℕ
separator zero = []
separator (suc n) = 47 ∷ []

-- the members before the rows
abbrev pub opening : Option (List ℕ) → List (List ℕ × Json)
opening None = []
opening (Some token) = (codes "continuationToken", text token) ∷ []
