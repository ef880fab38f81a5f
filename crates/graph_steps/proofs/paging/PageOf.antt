-- The page of entries is that of their rows and their token.
use Rattle.std.proofs.Common.{◌≡◌, ℕ, List, [], ◌∷◌, ◌++◌, map, Option, Some, None, codes, refl}
use Rattle.json_tree.specs.Values.{Json, object, array, elements_of, members_of}
use Rattle.graph_steps.specs.Pages.{on_page, page_value, token}
use Rattle.graph_steps.specs.paging.Rows.{page_of}
use Rattle.graph_steps.specs.paging.Machinery.Joining.{opening}

by_token : (entries : List (List (List ℕ) × Json)) (o : Option (List ℕ)) → token entries ≡ o → page_of (token entries) (map (λ e. e.1) (on_page entries)) ≡ page_value entries
by_token entries None h = rw h refl
by_token entries (Some t) h = rw h refl

pub page-same : (entries : List (List (List ℕ) × Json)) → page_of (token entries) (map (λ e. e.1) (on_page entries)) ≡ page_value entries
page-same entries = by_token entries (token entries) refl

pub page-members : (next : Option (List ℕ)) (rows : List Json) → object (members_of (opening next ++ (codes "value", array (elements_of rows)) ∷ [])) ≡ page_of next rows
page-members None rows = refl
page-members (Some token) rows = refl
