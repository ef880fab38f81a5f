-- How the pages of a query follow one another.
use Rattle.std.specs.Prelude.{◌≡◌, ℕ, ◌++◌, ◌∷◌, [], List, Option, Some, None, slice_get}
use Rattle.json_tree.specs.Values.{Json}
use Rattle.query_terms.specs.Queries.{Asked}
use Rattle.graph_steps.specs.Pages.{on_page, token, token_of}
use Rattle.graph_steps.specs.States.{State}
use Rattle.query_eval.specs.Entries.{entries_past}

-- A page is followed by what is past the key of its hundredth entry, and the token is of that key.
pub record IsFollowed (s : State) (q : Asked) (after : Option (List (List ℕ))) : Type 0 where
  pub last : List (List ℕ) × Json
  pub hundredth : slice_get (entries_past s q after) 99 ≡ Some last
  pub rest : entries_past s q after ≡ on_page (entries_past s q after) ++ entries_past s q (Some last.0)
  pub given : token (entries_past s q after) ≡ Some (token_of last.0)

-- A page is the last one: it has all entries, and no token is given.
pub record IsLast (s : State) (q : Asked) (after : Option (List (List ℕ))) : Type 0 where
  pub whole : on_page (entries_past s q after) ≡ entries_past s q after
  pub ends : token (entries_past s q after) ≡ None

-- Pages that are asked for one after another, the first past a key, where one is given, and each later one past the key of the
-- hundredth entry of the page before it, which is the one that its token names; the last has no token.
abbrev pub ArePages : State → Asked → Option (List (List ℕ)) → List (List (List (List ℕ) × Json)) → Type 0
ArePages s q after [] = ⊥
ArePages s q after (page ∷ []) = (page ≡ on_page (entries_past s q after)) × (token (entries_past s q after) ≡ None)
ArePages s q after (page ∷ next ∷ more) =
    (page ≡ on_page (entries_past s q after))
    × (last : List (List ℕ) × Json) × (slice_get page 99 ≡ Some last) × (token (entries_past s q after) ≡ Some (token_of last.0))
    × ArePages s q (Some last.0) (next ∷ more)
