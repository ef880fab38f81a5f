-- Which path of the table the router finds: the one that the path's pieces fit.
use Rattle.std.proofs.Common.{◌≡◌, ℕ, ◌<◌, List, [], ◌∷◌, ◌++◌, drop, get_or, Option, Some, None, Bool, true, false, cond, refl, sym, ap, subst, ◌∙◌, arith, nat_eq, ltb, ◌&&◌, append-nil, ◌⊎◌, inl, inr, lit<}
use Rattle.std.specs.Prelude.{codes}
use Rattle.std.proofs.lemmas.Bool.Decides.{nat_tests}
use Rattle.std.specs.List.{starts_with}
use Rattle.matchit.specs.Rows.{Rows, prepend, ends, rows_of, param_token}
use Rattle.matchit.specs.Seek.{or_else, first, has_slash}
use Rattle.matchit.specs.Level.{IsText}
use Rattle.matchit.specs.Router.{RouteOf, rename}
use Rattle.matchit.proofs.SeekLemmas.{first-prefix, seek-empty, or_else-none}
use Rattle.matchit.proofs.OnLiterals.{matchit_on_literals}
use Rattle.graph_routes.specs.Paths.{slash, IsPathPart, Matches}
use Rattle.graph_routes.specs.Machinery.Rows.{row, table}
use Rattle.graph_routes.specs.declared.route.Route.{Route}
use Rattle.graph_routes.specs.declared.route.Route.TheVariants as route
use Rattle.graph_routes.proofs.Walks.{branch, either, word_found, end_found, NoSlash, cut, parted, behind, part_ends, part_goes_on, part_stops, part_missing, last_part_ends, last_part_stops}

-- ---- the rows with numbers in place of the paths
abbrev pub numbers : List Route
numbers = route.Canon ∷ route.Component ∷ route.IncomingRelationships ∷ route.Relationship ∷ route.Relationships ∷ route.Twin ∷ route.Model ∷ route.Models ∷ route.Query ∷ []

abbrev pub number_of : Route → ℕ
number_of route.Canon = 0
number_of route.Component = 1
number_of route.IncomingRelationships = 2
number_of route.Relationship = 3
number_of route.Relationships = 4
number_of route.Twin = 5
number_of route.Model = 6
number_of route.Models = 7
number_of route.Query = 8

abbrev pub entry : List ℕ → List ℕ → List (ℕ × ℕ) → Route → RouteOf Route
entry pattern text names r = (row pattern text names r).1

-- What the router says of a path.
abbrev pub entry_of : Route → RouteOf Route
entry_of route.Canon = entry (codes "/canon") (codes "/canon") [] route.Canon
entry_of route.Component = entry (codes "/digitaltwins/" ++ param_token ∷ (codes "/components/" ++ param_token ∷ [])) (codes "/digitaltwins/{id}/components/{name}") ((15, 17) ∷ (31, 35) ∷ []) route.Component
entry_of route.IncomingRelationships = entry (codes "/digitaltwins/" ++ param_token ∷ codes "/incomingrelationships") (codes "/digitaltwins/{id}/incomingrelationships") ((15, 17) ∷ []) route.IncomingRelationships
entry_of route.Relationship = entry (codes "/digitaltwins/" ++ param_token ∷ (codes "/relationships/" ++ param_token ∷ [])) (codes "/digitaltwins/{id}/relationships/{rid}") ((15, 17) ∷ (34, 37) ∷ []) route.Relationship
entry_of route.Relationships = entry (codes "/digitaltwins/" ++ param_token ∷ codes "/relationships") (codes "/digitaltwins/{id}/relationships") ((15, 17) ∷ []) route.Relationships
entry_of route.Twin = entry (codes "/digitaltwins/" ++ param_token ∷ []) (codes "/digitaltwins/{id}") ((15, 17) ∷ []) route.Twin
entry_of route.Model = entry (codes "/models/" ++ param_token ∷ []) (codes "/models/{id}") ((9, 11) ∷ []) route.Model
entry_of route.Models = entry (codes "/models") (codes "/models") [] route.Models
entry_of route.Query = entry (codes "/query") (codes "/query") [] route.Query

abbrev pub numbered : ℕ → RouteOf Route
numbered n = entry_of (get_or numbers n route.Query)

-- ---- the rows, by their words
abbrev pub relationship_rows : Rows
relationship_rows = prepend (slash ∷ []) (prepend (param_token ∷ []) (ends (Some 3))) ++ (([], 4) ∷ [])

abbrev pub twin_rows : Rows
twin_rows =
    prepend (codes "components/") (prepend (param_token ∷ []) (ends (Some 1)))
    ++ (prepend (codes "incomingrelationships") (([], 2) ∷ [])
    ++ (prepend (codes "relationships") relationship_rows ++ []))

abbrev pub model_rows : Rows
model_rows = prepend (slash ∷ []) (prepend (param_token ∷ []) (ends (Some 6))) ++ (([], 7) ∷ [])

abbrev pub behind_twins : Rows
behind_twins = prepend (param_token ∷ []) (rows_of (behind twin_rows ∷ []) ++ ends (Some 5))

abbrev pub root_rows : Rows
root_rows =
    prepend (codes "canon") (([], 0) ∷ [])
    ++ (prepend (codes "digitaltwins/") behind_twins
    ++ (prepend (codes "models") model_rows
    ++ (prepend (codes "query") (([], 8) ∷ []) ++ [])))

abbrev pub all_rows : Rows
all_rows = prepend (slash ∷ []) root_rows

pub table_is : table ≡ rename numbered all_rows
unfolding table
table_is = refl

-- ---- what they come to
abbrev pub is_bytes : List ℕ → Bool
is_bytes [] = true
is_bytes (b ∷ bs) = ltb b 256 && is_bytes bs

pub text_of : (bs : List ℕ) → is_bytes bs ≡ true → IsText bs
text_of [] e = tt
text_of (b ∷ bs) e = by (ltb b 256) refl e (text_of bs)
  where
    by : (v : Bool) → ltb b 256 ≡ v → (v && is_bytes bs) ≡ true → (is_bytes bs ≡ true → IsText bs) → (b < 256) × IsText bs
    by true q h more = (grind (arith, nat_tests), more h)
    by false q h more = cc

pub behind-text : (xs ys : List ℕ) → IsText (xs ++ ys) → IsText ys
behind-text [] ys t = t
behind-text (x ∷ xs) ys t = behind-text xs ys t.1

abbrev pub if_word : List ℕ → List ℕ → Option ℕ → Option ℕ
if_word w p found = cond (starts_with nat_eq p w) found None

pub relationship_rows-first : (p : List ℕ) → first relationship_rows p ≡ or_else (if_word (slash ∷ []) p (first (prepend (param_token ∷ []) (ends (Some 3))) (drop 1 p))) (first (([], 4) ∷ []) p)
relationship_rows-first p = branch slash [] (prepend (param_token ∷ []) (ends (Some 3))) (([], 4) ∷ []) p (text_of (slash ∷ []) refl) refl refl refl

pub model_rows-first : (p : List ℕ) → first model_rows p ≡ or_else (if_word (slash ∷ []) p (first (prepend (param_token ∷ []) (ends (Some 6))) (drop 1 p))) (first (([], 7) ∷ []) p)
model_rows-first p = branch slash [] (prepend (param_token ∷ []) (ends (Some 6))) (([], 7) ∷ []) p (text_of (slash ∷ []) refl) refl refl refl

pub twin_rows-first : (p : List ℕ) → first twin_rows p ≡
    or_else (if_word (codes "components/") p (first (prepend (param_token ∷ []) (ends (Some 1))) (drop 11 p)))
    (or_else (if_word (codes "incomingrelationships") p (first (([], 2) ∷ []) (drop 21 p)))
    (or_else (if_word (codes "relationships") p (first relationship_rows (drop 13 p))) None))
unfolding matchit_on_literals
twin_rows-first p =
    branch 99 (codes "omponents/") (prepend (param_token ∷ []) (ends (Some 1))) (prepend (codes "incomingrelationships") (([], 2) ∷ []) ++ (prepend (codes "relationships") relationship_rows ++ [])) p (text_of (codes "components/") refl) refl refl refl
    ∙ ap (or_else (if_word (codes "components/") p (first (prepend (param_token ∷ []) (ends (Some 1))) (drop 11 p))))
    (branch 105 (codes "ncomingrelationships") (([], 2) ∷ []) (prepend (codes "relationships") relationship_rows ++ []) p (text_of (codes "incomingrelationships") refl) refl refl refl
    ∙ ap (or_else (if_word (codes "incomingrelationships") p (first (([], 2) ∷ []) (drop 21 p))))
    (branch 114 (codes "elationships") relationship_rows [] p (text_of (codes "relationships") refl) refl refl refl
    ∙ ap (or_else (if_word (codes "relationships") p (first relationship_rows (drop 13 p)))) (seek-empty 0 p)))

pub root_rows-first : (p : List ℕ) → first root_rows p ≡
    or_else (if_word (codes "canon") p (first (([], 0) ∷ []) (drop 5 p)))
    (or_else (if_word (codes "digitaltwins/") p (first behind_twins (drop 13 p)))
    (or_else (if_word (codes "models") p (first model_rows (drop 6 p)))
    (or_else (if_word (codes "query") p (first (([], 8) ∷ []) (drop 5 p))) None)))
root_rows-first p =
    branch 99 (codes "anon") (([], 0) ∷ []) (prepend (codes "digitaltwins/") behind_twins ++ (prepend (codes "models") model_rows ++ (prepend (codes "query") (([], 8) ∷ []) ++ []))) p (text_of (codes "canon") refl) refl refl refl
    ∙ ap (or_else (if_word (codes "canon") p (first (([], 0) ∷ []) (drop 5 p))))
    (branch 100 (codes "igitaltwins/") behind_twins (prepend (codes "models") model_rows ++ (prepend (codes "query") (([], 8) ∷ []) ++ [])) p (text_of (codes "digitaltwins/") refl) refl refl refl
    ∙ ap (or_else (if_word (codes "digitaltwins/") p (first behind_twins (drop 13 p))))
    (branch 109 (codes "odels") model_rows (prepend (codes "query") (([], 8) ∷ []) ++ []) p (text_of (codes "models") refl) refl refl refl
    ∙ ap (or_else (if_word (codes "models") p (first model_rows (drop 6 p))))
    (branch 113 (codes "uery") (([], 8) ∷ []) [] p (text_of (codes "query") refl) refl refl refl
    ∙ ap (or_else (if_word (codes "query") p (first (([], 8) ∷ []) (drop 5 p)))) (seek-empty 0 p))))

-- ---- what is found fits
-- A last part, and a part with more behind it.
part_of : (b : ℕ) (t : List ℕ) → NoSlash (b ∷ t) → IsPathPart (b ∷ t)
part_of b t n = record { some = λ e. cc; one = n }

pub last_part : (key : ℕ) (p : List ℕ) (k : ℕ) → IsText p → first (prepend (param_token ∷ []) (ends (Some key))) p ≡ Some k → IsPathPart p × (key ≡ k)
last_part key [] k t e = let none = part_missing (ends (Some key)) in cc
last_part key (b ∷ p) k t e = by (parted (b ∷ p))
  where
    by : NoSlash (b ∷ p) ⊎ ((s : List ℕ) × (rest : List ℕ) × NoSlash s × (b ∷ p ≡ s ++ slash ∷ rest)) → IsPathPart (b ∷ p) × (key ≡ k)
    by (inl n) = let h = last_part_ends (Some key) b p t.0 n in (part_of b p n, cc)
    by (inr (s, rest, n, is)) =
        let more : has_slash (b ∷ p) ≡ true = ap has_slash is ∙ (cut s rest n).1 in
        let h = last_part_stops (Some key) b p t.0 more in
        cc

-- What a part of a twin's path leaves: nothing, or the rest from a slash on.
pub data TwinPart (p : List ℕ) (k : ℕ) : Type 0 where
  whole : IsPathPart p → 5 ≡ k → TwinPart p k
  front : (t rest : List ℕ) → IsPathPart t → p ≡ t ++ slash ∷ rest → first (prepend (slash ∷ []) twin_rows) (slash ∷ rest) ≡ Some k → TwinPart p k

pub twin_part : (p : List ℕ) (k : ℕ) → IsText p → first behind_twins p ≡ Some k → TwinPart p k
twin_part [] k t e = let none = part_missing (rows_of (behind twin_rows ∷ []) ++ ends (Some 5)) in cc
twin_part (b ∷ p) k t e = by (parted (b ∷ p))
  where
    by : NoSlash (b ∷ p) ⊎ ((s : List ℕ) × (rest : List ℕ) × NoSlash s × (b ∷ p ≡ s ++ slash ∷ rest)) → TwinPart (b ∷ p) k
    by (inl n) = let h = part_ends twin_rows (Some 5) b p (lit< tt) t.0 n in whole (part_of b p n) cc
    by (inr ([], rest, n, is)) =
        let h = part_stops twin_rows (Some 5) rest (lit< tt) in
        let g : first behind_twins (slash ∷ rest) ≡ Some k = subst (λ (q : List ℕ). first behind_twins q ≡ Some k) is e in
        cc
    by (inr (c ∷ s, rest, n, is)) =
        let same : b ≡ c = cc in
        let l : c < 256 = subst (λ (n : ℕ). n < 256) same t.0 in
        let g : first behind_twins ((c ∷ s) ++ slash ∷ rest) ≡ Some k = subst (λ (q : List ℕ). first behind_twins q ≡ Some k) is e in
        front (c ∷ s) rest (part_of c s n) is (sym (part_goes_on twin_rows (Some 5) c s rest (lit< tt) l n) ∙ g)

-- What was found by its number.
abbrev pub Fits : ℕ → List ℕ → Type 0
Fits k path = (parts : List (List ℕ)) × Matches (get_or numbers k route.Query) parts path

-- What words leave of the path behind its first slash.
pub model_fits : (p : List ℕ) (k : ℕ) → IsText p → first model_rows p ≡ Some k → Fits k (slash ∷ (codes "models" ++ p))
model_fits p k t e = by (either (if_word (slash ∷ []) p (first (prepend (param_token ∷ []) (ends (Some 6))) (drop 1 p))) (first (([], 7) ∷ []) p) k (sym (model_rows-first p) ∙ e))
  where
    by : (if_word (slash ∷ []) p (first (prepend (param_token ∷ []) (ends (Some 6))) (drop 1 p)) ≡ Some k) ⊎ (first (([], 7) ∷ []) p ≡ Some k) → Fits k (slash ∷ (codes "models" ++ p))
    by (inl h) =
        let w = word_found (slash ∷ []) p (first (prepend (param_token ∷ []) (ends (Some 6))) (drop 1 p)) k h in
        let g = last_part 6 (drop 1 p) k (behind-text (slash ∷ []) (drop 1 p) (subst IsText w.0 t)) w.1 in
        subst (λ (n : ℕ). Fits n (slash ∷ (codes "models" ++ p))) g.1
        (drop 1 p ∷ [], (p, refl, (drop 1 p, [], [], refl, g.0, w.0 ∙ ap (λ r. slash ∷ r) (sym (append-nil (drop 1 p))), (refl, refl))))
    by (inr h) =
        let w = end_found 7 p k h in
        subst (λ (n : ℕ). Fits n (slash ∷ (codes "models" ++ p))) w.1 ([], (p, refl, (refl, w.0)))

-- A path below a twin, with the twin's part.
abbrev pub BelowTwin : ℕ → List ℕ → List ℕ → Type 0
BelowTwin k t p = Fits k (slash ∷ (codes "digitaltwins" ++ slash ∷ (t ++ slash ∷ p)))

pub relationship_fits : (p : List ℕ) (k : ℕ) (s : List ℕ) → IsPathPart s → IsText p → first relationship_rows p ≡ Some k → BelowTwin k s (codes "relationships" ++ p)
relationship_fits p k s part t e = by (either (if_word (slash ∷ []) p (first (prepend (param_token ∷ []) (ends (Some 3))) (drop 1 p))) (first (([], 4) ∷ []) p) k (sym (relationship_rows-first p) ∙ e))
  where
    by : (if_word (slash ∷ []) p (first (prepend (param_token ∷ []) (ends (Some 3))) (drop 1 p)) ≡ Some k) ⊎ (first (([], 4) ∷ []) p ≡ Some k) → BelowTwin k s (codes "relationships" ++ p)
    by (inl h) =
        let w = word_found (slash ∷ []) p (first (prepend (param_token ∷ []) (ends (Some 3))) (drop 1 p)) k h in
        let g = last_part 3 (drop 1 p) k (behind-text (slash ∷ []) (drop 1 p) (subst IsText w.0 t)) w.1 in
        let rest = slash ∷ (codes "relationships" ++ p) in
        subst (λ (n : ℕ). BelowTwin n s (codes "relationships" ++ p)) g.1 (
          s ∷ drop 1 p ∷ [],
          (
            slash ∷ (s ++ rest),
            refl,
            (
              s,
              drop 1 p ∷ [],
              rest,
              refl,
              part,
              refl,
              (p, refl, (drop 1 p, [], [], refl, g.0, w.0 ∙ ap (λ r. slash ∷ r) (sym (append-nil (drop 1 p))), (refl, refl))),
            ),
          ),
        )
    by (inr h) =
        let w = end_found 4 p k h in
        let rest = slash ∷ (codes "relationships" ++ p) in
        subst (λ (n : ℕ). BelowTwin n s (codes "relationships" ++ p)) w.1
        (s ∷ [], (slash ∷ (s ++ rest), refl, (s, [], rest, refl, part, refl, (p, refl, (refl, w.0)))))

pub below_twin_fits : (p : List ℕ) (k : ℕ) (s : List ℕ) → IsPathPart s → IsText p → first twin_rows p ≡ Some k → BelowTwin k s p
below_twin_fits p k s part t e = by (either _ _ k (sym (twin_rows-first p) ∙ e))
  where
    incoming : (if_word (codes "incomingrelationships") p (first (([], 2) ∷ []) (drop 21 p)) ≡ Some k)
        ⊎ (or_else (if_word (codes "relationships") p (first relationship_rows (drop 13 p))) None ≡ Some k) → BelowTwin k s p
    incoming (inl h) =
        let w = word_found (codes "incomingrelationships") p (first (([], 2) ∷ []) (drop 21 p)) k h in
        let g = end_found 2 (drop 21 p) k w.1 in
        subst (λ (n : ℕ). BelowTwin n s p) g.1
        (s ∷ [], (slash ∷ (s ++ slash ∷ p), refl, (s, [], slash ∷ p, refl, part, refl, (drop 21 p, ap (λ r. slash ∷ r) w.0, (refl, g.0)))))
    incoming (inr h) =
        let w = word_found (codes "relationships") p (first relationship_rows (drop 13 p)) k (sym (or_else-none (if_word (codes "relationships") p (first relationship_rows (drop 13 p)))) ∙ h) in
        let g = relationship_fits (drop 13 p) k s part (behind-text (codes "relationships") (drop 13 p) (subst IsText w.0 t)) w.1 in
        subst (λ (q : List ℕ). BelowTwin k s q) (sym w.0) g

    by : (if_word (codes "components/") p (first (prepend (param_token ∷ []) (ends (Some 1))) (drop 11 p)) ≡ Some k)
        ⊎ (or_else (if_word (codes "incomingrelationships") p (first (([], 2) ∷ []) (drop 21 p))) (or_else (if_word (codes "relationships") p (first relationship_rows (drop 13 p))) None) ≡ Some k) → BelowTwin k s p
    by (inl h) =
        let w = word_found (codes "components/") p (first (prepend (param_token ∷ []) (ends (Some 1))) (drop 11 p)) k h in
        let g = last_part 1 (drop 11 p) k (behind-text (codes "components/") (drop 11 p) (subst IsText w.0 t)) w.1 in
        let name = drop 11 p in
        subst (λ (n : ℕ). BelowTwin n s p) g.1 (
          s ∷ name ∷ [],
          (
            slash ∷ (s ++ slash ∷ p),
            refl,
            (
              s,
              name ∷ [],
              slash ∷ p,
              refl,
              part,
              refl,
              (slash ∷ name, ap (λ r. slash ∷ r) w.0, (name, [], [], refl, g.0, ap (λ r. slash ∷ r) (sym (append-nil name)), (refl, refl))),
            ),
          ),
        )
    by (inr h) = incoming (either _ _ k h)

pub twin_fits : (p : List ℕ) (k : ℕ) → IsText p → first behind_twins p ≡ Some k → Fits k (slash ∷ (codes "digitaltwins/" ++ p))
twin_fits p k t e = by (twin_part p k t e)
  where
    by : TwinPart p k → Fits k (slash ∷ (codes "digitaltwins/" ++ p))
    by (whole part is) =
        subst (λ (n : ℕ). Fits n (slash ∷ (codes "digitaltwins/" ++ p))) is
        (p ∷ [], (slash ∷ p, refl, (p, [], [], refl, part, ap (λ r. slash ∷ r) (sym (append-nil p)), (refl, refl))))
    by (front s rest part is h) =
        let w = word_found (slash ∷ []) (slash ∷ rest) (first twin_rows rest) k (sym (first-prefix (slash ∷ []) twin_rows (slash ∷ rest) (text_of (slash ∷ []) refl)) ∙ h) in
        let b = below_twin_fits rest k s part (behind-text (slash ∷ []) rest (behind-text s (slash ∷ rest) (subst IsText is t))) w.1 in
        subst (λ (q : List ℕ). Fits k (slash ∷ (codes "digitaltwins/" ++ q))) (sym is) b

-- The path behind its first slash.
pub behind_slash : (p : List ℕ) (k : ℕ) → IsText p → first root_rows p ≡ Some k → Fits k (slash ∷ p)
behind_slash p k t e = by (either _ _ k (sym (root_rows-first p) ∙ e))
  where
    models : (if_word (codes "models") p (first model_rows (drop 6 p)) ≡ Some k) ⊎ (or_else (if_word (codes "query") p (first (([], 8) ∷ []) (drop 5 p))) None ≡ Some k) → Fits k (slash ∷ p)
    models (inl h) =
        let w = word_found (codes "models") p (first model_rows (drop 6 p)) k h in
        subst (λ (q : List ℕ). Fits k (slash ∷ q)) (sym w.0) (model_fits (drop 6 p) k (behind-text (codes "models") (drop 6 p) (subst IsText w.0 t)) w.1)
    models (inr h) =
        let w = word_found (codes "query") p (first (([], 8) ∷ []) (drop 5 p)) k (sym (or_else-none (if_word (codes "query") p (first (([], 8) ∷ []) (drop 5 p)))) ∙ h) in
        let g = end_found 8 (drop 5 p) k w.1 in
        subst (λ (n : ℕ). Fits n (slash ∷ p)) g.1 ([], (drop 5 p, ap (λ r. slash ∷ r) w.0, (refl, g.0)))

    twins : (if_word (codes "digitaltwins/") p (first behind_twins (drop 13 p)) ≡ Some k)
        ⊎ (or_else (if_word (codes "models") p (first model_rows (drop 6 p))) (or_else (if_word (codes "query") p (first (([], 8) ∷ []) (drop 5 p))) None) ≡ Some k) → Fits k (slash ∷ p)
    twins (inl h) =
        let w = word_found (codes "digitaltwins/") p (first behind_twins (drop 13 p)) k h in
        subst (λ (q : List ℕ). Fits k (slash ∷ q)) (sym w.0) (twin_fits (drop 13 p) k (behind-text (codes "digitaltwins/") (drop 13 p) (subst IsText w.0 t)) w.1)
    twins (inr h) = models (either _ _ k h)

    by : (if_word (codes "canon") p (first (([], 0) ∷ []) (drop 5 p)) ≡ Some k)
        ⊎ (or_else (if_word (codes "digitaltwins/") p (first behind_twins (drop 13 p))) (or_else (if_word (codes "models") p (first model_rows (drop 6 p))) (or_else (if_word (codes "query") p (first (([], 8) ∷ []) (drop 5 p))) None)) ≡ Some k) → Fits k (slash ∷ p)
    by (inl h) =
        let w = word_found (codes "canon") p (first (([], 0) ∷ []) (drop 5 p)) k h in
        let g = end_found 0 (drop 5 p) k w.1 in
        subst (λ (n : ℕ). Fits n (slash ∷ p)) g.1 ([], (drop 5 p, ap (λ r. slash ∷ r) w.0, (refl, g.0)))
    by (inr h) = twins (either _ _ k h)

pub number_fits : (path : List ℕ) (k : ℕ) → IsText path → first all_rows path ≡ Some k → Fits k path
number_fits path k t e =
    let w = word_found (slash ∷ []) path (first root_rows (drop 1 path)) k (sym (first-prefix (slash ∷ []) root_rows path (text_of (slash ∷ []) refl)) ∙ e) in
    subst (λ (q : List ℕ). Fits k q) (sym w.0) (behind_slash (drop 1 path) k (behind-text (slash ∷ []) (drop 1 path) (subst IsText w.0 t)) w.1)
