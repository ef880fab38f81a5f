-- What stands between the slashes of a path of the table: its words and its parts.
use Rattle.std.proofs.Common.{◌≡◌, ◌≢◌, ℕ, List, [], ◌∷◌, ◌++◌, Bool, true, false, get_or, refl, sym, ap, ◌∙◌, append-nil, arith}
use Rattle.std.specs.Prelude.{◌==◌, codes, cond}
use Rattle.std.proofs.lemmas.Bool.Decides.{nat_tests}
use Rattle.std.specs.List.{All, AllByRecursion, slice_split}
use Rattle.std.proofs.lemmas.List.Elements.{All-nil, All-cons}
use Rattle.std.proofs.lemmas.List.Splits.{slice_split_none, slice_split_at}
use Rattle.graph_routes.specs.Parts.{part_at}
use Rattle.graph_routes.specs.Paths.{ConsistsOf, Matches, Piece, part, pieces, slash, word}
use Rattle.graph_routes.specs.declared.route.Route.{Route}
use Rattle.graph_routes.specs.declared.route.Route.TheVariants as route

abbrev is_slash : ℕ → Bool
is_slash b = b == 47

abbrev between : List ℕ → List (List ℕ)
between path = slice_split is_slash path

no_slash : (b : ℕ) → b ≢ slash → is_slash b ≡ false
no_slash b other = by (is_slash b) refl
  where
    by : (v : Bool) → is_slash b ≡ v → is_slash b ≡ false
    by true e = let same : b ≡ slash = grind (arith, nat_tests) in absurd (other same)
    by false e = e

pub none_is_slash : (text : List ℕ) → AllByRecursion (λ b. b ≢ slash) text → All (λ b. is_slash b ≡ false) text
none_is_slash [] h = All-nil (λ b. is_slash b ≡ false)
none_is_slash (b ∷ text) h = All-cons (λ b. is_slash b ≡ false) b text (no_slash b h.0) (none_is_slash text h.1)

-- The words and parts of a path, in their order.
abbrev filled : List Piece → List (List ℕ) → List (List ℕ)
filled [] parts = []
filled (word text ∷ ps) parts = text ∷ filled ps parts
filled (part ∷ ps) [] = []
filled (part ∷ ps) (text ∷ parts) = text ∷ filled ps parts

-- No word has a slash.
abbrev AreWhole : List Piece → Type 0
AreWhole [] = Unit {0}
AreWhole (word text ∷ ps) = All (λ b. is_slash b ≡ false) text × AreWhole ps
AreWhole (part ∷ ps) = AreWhole ps

behind : (ps : List Piece) (parts : List (List ℕ)) (front path : List ℕ) → AreWhole ps → All (λ b. is_slash b ≡ false) front → ConsistsOf ps parts path → between (front ++ path) ≡ front ∷ filled ps parts
behind [] parts front path whole none (no_parts, e) =
    ap (λ (p : List ℕ). between (front ++ p)) e ∙ ap between (append-nil front) ∙ slice_split_none is_slash front none
behind (word text ∷ ps) parts front path whole none (rest, e, more) =
    ap (λ (p : List ℕ). between (front ++ p)) e ∙ slice_split_at is_slash front slash (text ++ rest) none refl
    ∙ ap (λ (l : List (List ℕ)). front ∷ l) (behind ps parts text rest whole.1 whole.0 more)
behind (part ∷ ps) parts front path whole none (text, texts, rest, is, one, e, more) =
    ap (λ (p : List ℕ). between (front ++ p)) e ∙ slice_split_at is_slash front slash (text ++ rest) none refl
    ∙ ap (λ (l : List (List ℕ)). front ∷ l) (behind ps texts text rest whole (none_is_slash text one.one) more)
    ∙ ap (λ (l : List (List ℕ)). front ∷ filled (part ∷ ps) l) (sym is)

-- a text without slashes, as it is computed
abbrev lacks : List ℕ → Bool
lacks [] = true
lacks (b ∷ text) = cond (is_slash b) false (lacks text)

whole_word : (text : List ℕ) → lacks text ≡ true → All (λ b. is_slash b ≡ false) text
whole_word [] e = All-nil (λ b. is_slash b ≡ false)
whole_word (b ∷ text) e = by (is_slash b) refl e (whole_word text)
  where
    by : (v : Bool) → is_slash b ≡ v → cond v false (lacks text) ≡ true → (lacks text ≡ true → All (λ c. is_slash c ≡ false) text) → All (λ c. is_slash c ≡ false) (b ∷ text)
    by true is h rest = absurd cc
    by false is h rest = All-cons (λ c. is_slash c ≡ false) b text is (rest h)

words_whole : (r : Route) → AreWhole (pieces r)
words_whole route.Models = (whole_word (codes "models") refl, tt)
words_whole route.Model = (whole_word (codes "models") refl, tt)
words_whole route.Canon = (whole_word (codes "canon") refl, tt)
words_whole route.Twin = (whole_word (codes "digitaltwins") refl, tt)
words_whole route.Component = (whole_word (codes "digitaltwins") refl, (whole_word (codes "components") refl, tt))
words_whole route.Relationships = (whole_word (codes "digitaltwins") refl, (whole_word (codes "relationships") refl, tt))
words_whole route.Relationship = (whole_word (codes "digitaltwins") refl, (whole_word (codes "relationships") refl, tt))
words_whole route.IncomingRelationships = (whole_word (codes "digitaltwins") refl, (whole_word (codes "incomingrelationships") refl, tt))
words_whole route.Query = (whole_word (codes "query") refl, tt)

pub cut : (r : Route) (parts : List (List ℕ)) (path : List ℕ) → Matches r parts path → between path ≡ [] ∷ filled (pieces r) parts
cut r parts path m = behind (pieces r) parts [] path (words_whole r) (All-nil (λ b. is_slash b ≡ false)) m

-- Two times the words of the path are there, once its parts.
first : (r : Route) (parts : List (List ℕ)) (path : List ℕ) → Matches r parts path → part_at 0 parts ≡ get_or (filled (pieces r) parts) 1 []
first route.Models parts path (rest, e, (none, is)) = ap (part_at 0) none
first route.Model parts path (rest, e, (text, texts, more, is, one, h, k)) = ap (part_at 0) is ∙ ap (λ (l : List (List ℕ)). get_or (filled (pieces route.Model) l) 1 []) (sym is)
first route.Canon parts path (rest, e, (none, is)) = ap (part_at 0) none
first route.Twin parts path (rest, e, (text, texts, more, is, one, h, k)) = ap (part_at 0) is ∙ ap (λ (l : List (List ℕ)). get_or (filled (pieces route.Twin) l) 1 []) (sym is)
first route.Component parts path (rest, e, (text, texts, more, is, one, h, k)) = ap (part_at 0) is ∙ ap (λ (l : List (List ℕ)). get_or (filled (pieces route.Component) l) 1 []) (sym is)
first route.Relationships parts path (rest, e, (text, texts, more, is, one, h, k)) = ap (part_at 0) is ∙ ap (λ (l : List (List ℕ)). get_or (filled (pieces route.Relationships) l) 1 []) (sym is)
first route.Relationship parts path (rest, e, (text, texts, more, is, one, h, k)) = ap (part_at 0) is ∙ ap (λ (l : List (List ℕ)). get_or (filled (pieces route.Relationship) l) 1 []) (sym is)
first route.IncomingRelationships parts path (rest, e, (text, texts, more, is, one, h, k)) =
    ap (part_at 0) is ∙ ap (λ (l : List (List ℕ)). get_or (filled (pieces route.IncomingRelationships) l) 1 []) (sym is)
first route.Query parts path (rest, e, (none, is)) = ap (part_at 0) none

pub first_between : (r : Route) (parts : List (List ℕ)) (path : List ℕ) → Matches r parts path → part_at 0 parts ≡ get_or (between path) 2 []
first_between r parts path m = first r parts path m ∙ ap (λ (l : List (List ℕ)). get_or l 2 []) (sym (cut r parts path m))

second : (r : Route) (parts : List (List ℕ)) (path : List ℕ) → Matches r parts path → part_at 1 parts ≡ get_or (filled (pieces r) parts) 3 []
second route.Models parts path (rest, e, (none, is)) = ap (part_at 1) none
second route.Model parts path (rest, e, (text, texts, more, is, one, h, (none, g))) =
    ap (part_at 1) is ∙ ap (λ (l : List (List ℕ)). part_at 1 (text ∷ l)) none ∙ ap (λ (l : List (List ℕ)). get_or (filled (pieces route.Model) l) 3 []) (sym (is ∙ ap (λ (l : List (List ℕ)). text ∷ l) none))
second route.Canon parts path (rest, e, (none, is)) = ap (part_at 1) none
second route.Twin parts path (rest, e, (text, texts, more, is, one, h, (none, g))) =
    ap (part_at 1) is ∙ ap (λ (l : List (List ℕ)). part_at 1 (text ∷ l)) none ∙ ap (λ (l : List (List ℕ)). get_or (filled (pieces route.Twin) l) 3 []) (sym (is ∙ ap (λ (l : List (List ℕ)). text ∷ l) none))
second route.Component parts path (rest, e, (text, texts, more, is, one, h, (rest2, g, (text2, texts2, more2, is2, two, f, k)))) =
    let both = is ∙ ap (λ (l : List (List ℕ)). text ∷ l) is2 in
    ap (part_at 1) both ∙ ap (λ (l : List (List ℕ)). get_or (filled (pieces route.Component) l) 3 []) (sym both)
second route.Relationships parts path (rest, e, (text, texts, more, is, one, h, (rest2, g, (none, k)))) =
    let both = is ∙ ap (λ (l : List (List ℕ)). text ∷ l) none in
    ap (part_at 1) both ∙ ap (λ (l : List (List ℕ)). get_or (filled (pieces route.Relationships) l) 3 []) (sym both)
second route.Relationship parts path (rest, e, (text, texts, more, is, one, h, (rest2, g, (text2, texts2, more2, is2, two, f, k)))) =
    let both = is ∙ ap (λ (l : List (List ℕ)). text ∷ l) is2 in
    ap (part_at 1) both ∙ ap (λ (l : List (List ℕ)). get_or (filled (pieces route.Relationship) l) 3 []) (sym both)
second route.IncomingRelationships parts path (rest, e, (text, texts, more, is, one, h, (rest2, g, (none, k)))) =
    let both = is ∙ ap (λ (l : List (List ℕ)). text ∷ l) none in
    ap (part_at 1) both ∙ ap (λ (l : List (List ℕ)). get_or (filled (pieces route.IncomingRelationships) l) 3 []) (sym both)
second route.Query parts path (rest, e, (none, is)) = ap (part_at 1) none

pub second_between : (r : Route) (parts : List (List ℕ)) (path : List ℕ) → Matches r parts path → part_at 1 parts ≡ get_or (between path) 4 []
second_between r parts path m = second r parts path m ∙ ap (λ (l : List (List ℕ)). get_or l 4 []) (sym (cut r parts path m))
