-- A page is decided by the first 101 entries.
use Rattle.std.proofs.Common.{◌≡◌, ℕ, List, [], ◌∷◌, map, take, drop, length, get_or, Option, Some, None, ◌+◌, ◌-◌, ◌≤◌, ◌<◌, refl, sym, ap, ◌∙◌, arith}
use Rattle.std.specs.Option.{option_map}
use Rattle.std.specs.Prelude.{slice_get}
use Rattle.std.proofs.lemmas.Option.{slice_get-get_or}
use Rattle.std.proofs.Math.ListN.{drop_of_length-le}
use Rattle.std.proofs.lemmas.List.{drop-take, length-drop, length-take, length-map, get_or-take, get_or-map}
use Rattle.std.proofs.lemmas.Grind.{common_steps}
use Rattle.json_tree.specs.Values.{Json}
use Rattle.graph_steps.specs.Pages.{on_page, last_key, token, token_of, page_value}
use Rattle.graph_steps.specs.paging.Rows.{page_of}
use Rattle.graph_steps.proofs.paging.PageOf.{page-same}

abbrev Entries : Type 0
Entries = List (List (List ℕ) × Json)

-- the token of a page, by what follows it
abbrev token_by : Entries → Entries → Option (List ℕ)
token_by [] page = None
token_by (e ∷ es) page = option_map token_of (last_key page)

by_rest : (entries rest : Entries) → drop 100 entries ≡ rest → token entries ≡ token_by (drop 100 entries) (on_page entries)
by_rest entries [] h = rw h refl
by_rest entries (e ∷ es) h = rw h refl

by_first : (rest page : Entries) → token_by (take 1 rest) page ≡ token_by rest page
by_first [] page = refl
by_first (e ∷ es) page = refl

front : {X : Type 0} (n m : ℕ) (xs : List X) → take n (take (n + m) xs) ≡ take n xs
front n m xs = grind (arith, common_steps)

pub token-cut : (entries : Entries) → token (take 101 entries) ≡ token entries
token-cut entries =
    by_rest (take 101 entries) (drop 100 (take 101 entries)) refl
    ∙ ap (λ rest. token_by rest (on_page (take 101 entries))) (drop-take 100 1 entries)
    ∙ by_first (drop 100 entries) (on_page (take 101 entries))
    ∙ ap (token_by (drop 100 entries)) (front 100 1 entries)
    ∙ sym (by_rest entries (drop 100 entries) refl)

pub page-cut : (entries : Entries) → page_value (take 101 entries) ≡ page_value entries
page-cut entries =
    sym (page-same (take 101 entries))
    ∙ ap (λ t. page_of t (map (λ e. e.1) (on_page (take 101 entries)))) (token-cut entries)
    ∙ ap (λ es. page_of (token entries) (map (λ e. e.1) es)) (front 100 1 entries)
    ∙ page-same entries

-- ---- the token, by how many entries there are
no_rest : {X : Type 0} (n : ℕ) (xs : List X) → length xs ≤ n → drop n xs ≡ []
no_rest n xs few = drop_of_length-le xs few

some_rest : {X : Type 0} (n : ℕ) (xs : List X) → n + 1 ≤ length xs → 1 ≤ length (drop n xs)
some_rest n xs many = let long = length-drop n xs in omega arith

taken_length : {X : Type 0} (n : ℕ) (xs : List X) → n + 1 ≤ length xs → length (take (n + 1) xs) ≡ n + 1
taken_length n xs many = let long = length-take (n + 1) xs in omega arith

taken_at : {X : Type 0} (n : ℕ) (xs : List X) (d : X) → n + 1 ≤ length xs → get_or (take (n + 1) xs) n d ≡ get_or xs n d
taken_at n xs d many = get_or-take (n + 1) xs n d (omega arith)

last : {X : Type 0} (n : ℕ) (xs : List X) (d : X) → n + 1 ≤ length xs → slice_get (take (n + 1) xs) (length (take (n + 1) xs) - 1) ≡ Some (get_or xs n d)
last n xs d many =
    let long : length (take (n + 1) xs) ≡ n + 1 = taken_length n xs many in
    let at : length (take (n + 1) xs) - 1 ≡ n = omega arith in
    ap (slice_get (take (n + 1) xs)) at ∙ slice_get-get_or (take (n + 1) xs) n d (omega arith) ∙ ap (λ x. Some x) (taken_at n xs d many)

followed : (rest page : Entries) → 1 ≤ length rest → token_by rest page ≡ option_map token_of (last_key page)
followed [] page some = absurd (omega arith)
followed (e ∷ es) page some = refl

token-none : (entries : Entries) → length entries ≤ 100 → token entries ≡ None
token-none entries few = by_rest entries (drop 100 entries) refl ∙ ap (λ rest. token_by rest (on_page entries)) (no_rest 100 entries few)

token-some : (entries : Entries) (d : List (List ℕ) × Json) → 101 ≤ length entries → token entries ≡ Some (token_of (get_or entries 99 d).0)
token-some entries d many =
    by_rest entries (drop 100 entries) refl
    ∙ followed (drop 100 entries) (on_page entries) (some_rest 100 entries many)
    ∙ ap (λ o. option_map token_of (option_map (λ (e : List (List ℕ) × Json). e.0) o)) (last 99 entries d (omega arith))

module _ {X : Type 0} (entry : X → List (List ℕ) × Json) where
  pub none-past : (xs : List X) → length xs < 101 → token (map entry xs) ≡ None
  none-past xs few =
      let same : length (map entry xs) ≡ length xs = length-map xs entry in
      token-none (map entry xs) (omega arith)

  pub some-past : (xs : List X) (x : X) → 101 ≤ length xs → x ≡ get_or xs 99 x → token (map entry xs) ≡ Some (token_of (entry x).0)
  some-past xs x many is =
      let same : length (map entry xs) ≡ length xs = length-map xs entry in
      token-some (map entry xs) (entry x) (omega arith)
      ∙ ap (λ (e : List (List ℕ) × Json). Some (token_of e.0)) (get_or-map entry xs 99 x (entry x) (omega arith) ∙ ap entry (sym is))
