-- The router finds each path of the table, and a path is at most one of them.
use Rattle.std.proofs.Common.{◌≡◌, ℕ, suc, ◌<◌, List, [], ◌∷◌, ◌++◌, get_or, Option, Some, None, refl, sym, ap, subst, ◌∙◌, append-nil, lit<}
use Rattle.std.specs.Prelude.{codes}
use Rattle.matchit.specs.Rows.{prepend, ends, param_token}
use Rattle.matchit.specs.Seek.{or_else, first}
use Rattle.matchit.specs.Level.{IsText}
use Rattle.matchit.specs.Router.{RouteOf, map_key}
use Rattle.matchit.proofs.SeekLemmas.{first-prefix, or_else-none}
use Rattle.matchit.proofs.RenameLemmas.{first-rename}
use Rattle.matchit.proofs.OnLiterals.{matchit_on_literals}
use Rattle.graph_routes.specs.Paths.{slash, IsPathPart, Matches}
use Rattle.graph_routes.specs.Machinery.Rows.{table}
use Rattle.graph_routes.specs.declared.route.Route.{Route}
use Rattle.graph_routes.specs.declared.route.Route.TheVariants as route
use Rattle.graph_routes.proofs.Walks.{part_ends, part_goes_on, last_part_ends}
use Rattle.graph_routes.proofs.Sought.{numbers, number_of, entry_of, numbered, relationship_rows, twin_rows, model_rows, behind_twins, root_rows, all_rows, table_is, text_of, behind-text, relationship_rows-first, model_rows-first, twin_rows-first, root_rows-first, number_fits}

-- The bytes of a text from its bounds, each of them told.
pub bytes_of : (bs : List ℕ) → ((i : ℕ) → get_or bs i 0 < 256) → IsText bs
bytes_of [] h = tt
bytes_of (b ∷ bs) h = (h 0, bytes_of bs (λ i. h (suc i)))

-- ---- parts
last_part_hit : (key : ℕ) (s : List ℕ) → IsPathPart s → IsText (s ++ []) → first (prepend (param_token ∷ []) (ends (Some key))) (s ++ []) ≡ Some key
last_part_hit key [] h t = absurd (h.some refl)
last_part_hit key (b ∷ s) h t = rw (append-nil s) (last_part_ends (Some key) b s t.0 h.one)

whole_hit : (s : List ℕ) → IsPathPart s → IsText (s ++ []) → first behind_twins (s ++ []) ≡ Some 5
whole_hit [] h t = absurd (h.some refl)
whole_hit (b ∷ s) h t = rw (append-nil s) (part_ends twin_rows (Some 5) b s (lit< tt) t.0 h.one)

front_hit : (s q : List ℕ) → IsPathPart s → IsText (s ++ slash ∷ q) → first behind_twins (s ++ slash ∷ q) ≡ first twin_rows q
front_hit [] q h t = absurd (h.some refl)
front_hit (b ∷ s) q h t = part_goes_on twin_rows (Some 5) b s q (lit< tt) t.0 h.one ∙ first-prefix (slash ∷ []) twin_rows (slash ∷ q) (text_of (slash ∷ []) refl)

-- ---- words
root_hit : (p : List ℕ) → first all_rows (slash ∷ p) ≡ first root_rows p
root_hit p = first-prefix (slash ∷ []) root_rows (slash ∷ p) (text_of (slash ∷ []) refl)

models_hit : (q : List ℕ) → first all_rows (slash ∷ (codes "models" ++ q)) ≡ first model_rows q
models_hit q = root_hit (codes "models" ++ q) ∙ root_rows-first (codes "models" ++ q) ∙ or_else-none (first model_rows q)

twins_hit : (q : List ℕ) → first all_rows (slash ∷ (codes "digitaltwins" ++ slash ∷ q)) ≡ first behind_twins q
twins_hit q = root_hit (codes "digitaltwins/" ++ q) ∙ root_rows-first (codes "digitaltwins/" ++ q) ∙ or_else-none (first behind_twins q)

-- A part below the models, and a last part below a twin.
below_models : (s : List ℕ) → IsPathPart s → IsText (s ++ []) → first all_rows (slash ∷ (codes "models" ++ slash ∷ (s ++ []))) ≡ Some 6
below_models s h t =
    let e = last_part_hit 6 s h t in
    models_hit (slash ∷ (s ++ [])) ∙ model_rows-first (slash ∷ (s ++ [])) ∙ ap (λ x. or_else x (first (([], 7) ∷ []) (slash ∷ (s ++ [])))) e

component_hit : (s : List ℕ) → IsPathPart s → IsText (s ++ []) → first twin_rows (codes "components" ++ slash ∷ (s ++ [])) ≡ Some 1
component_hit s h t = twin_rows-first (codes "components/" ++ (s ++ [])) ∙ or_else-none (first (prepend (param_token ∷ []) (ends (Some 1))) (s ++ [])) ∙ last_part_hit 1 s h t

relationship_hit : (s : List ℕ) → IsPathPart s → IsText (s ++ []) → first twin_rows (codes "relationships" ++ slash ∷ (s ++ [])) ≡ Some 3
relationship_hit s h t =
    let e = last_part_hit 3 s h t in
    twin_rows-first (codes "relationships/" ++ (s ++ [])) ∙ or_else-none (first relationship_rows (slash ∷ (s ++ [])))
    ∙ relationship_rows-first (slash ∷ (s ++ [])) ∙ ap (λ x. or_else x (first (([], 4) ∷ []) (slash ∷ (s ++ [])))) e

below_twin : (s q : List ℕ) (k : ℕ) → IsPathPart s → IsText (s ++ slash ∷ q) → first twin_rows q ≡ Some k → first all_rows (slash ∷ (codes "digitaltwins" ++ slash ∷ (s ++ slash ∷ q))) ≡ Some k
below_twin s q k h t e = twins_hit (s ++ slash ∷ q) ∙ front_hit s q h t ∙ e

-- ---- the paths
abbrev pub Hits : Route → List ℕ → Type 0
Hits r path = first all_rows path ≡ Some (number_of r)

pub number_hits : (r : Route) (parts : List (List ℕ)) (path : List ℕ) → IsText path → Matches r parts path → Hits r path
unfolding matchit_on_literals
number_hits route.Models parts path t (rest, e, (none, f)) =
    subst (Hits route.Models) (sym (e ∙ ap (λ (q : List ℕ). slash ∷ (codes "models" ++ q)) f)) refl
number_hits route.Canon parts path t (rest, e, (none, f)) =
    subst (Hits route.Canon) (sym (e ∙ ap (λ (q : List ℕ). slash ∷ (codes "canon" ++ q)) f)) refl
number_hits route.Query parts path t (rest, e, (none, f)) =
    subst (Hits route.Query) (sym (e ∙ ap (λ (q : List ℕ). slash ∷ (codes "query" ++ q)) f)) refl
number_hits route.Model parts path t (rest, e, (s, more, last, is, h, f, (none, g))) =
    let whole : path ≡ slash ∷ (codes "models" ++ slash ∷ (s ++ [])) = e ∙ ap (λ (q : List ℕ). slash ∷ (codes "models" ++ q)) (f ∙ ap (λ (q : List ℕ). slash ∷ (s ++ q)) g) in
    subst (Hits route.Model) (sym whole) (below_models s h (behind-text (codes "/models/") (s ++ []) (subst IsText whole t)))
number_hits route.Twin parts path t (rest, e, (s, more, last, is, h, f, (none, g))) =
    let whole : path ≡ slash ∷ (codes "digitaltwins" ++ slash ∷ (s ++ [])) = e ∙ ap (λ (q : List ℕ). slash ∷ (codes "digitaltwins" ++ q)) (f ∙ ap (λ (q : List ℕ). slash ∷ (s ++ q)) g) in
    subst (Hits route.Twin) (sym whole) (twins_hit (s ++ []) ∙ whole_hit s h (behind-text (codes "/digitaltwins/") (s ++ []) (subst IsText whole t)))
number_hits route.Relationships parts path t (rest, e, (s, more, behind_it, is, h, f, (last, g, (none, i)))) =
    let whole : path ≡ slash ∷ (codes "digitaltwins" ++ slash ∷ (s ++ slash ∷ codes "relationships")) = e ∙ ap (λ (q : List ℕ). slash ∷ (codes "digitaltwins" ++ q)) (f ∙ ap (λ (q : List ℕ). slash ∷ (s ++ q)) (g ∙ ap (λ (q : List ℕ). slash ∷ (codes "relationships" ++ q)) i)) in
    subst (Hits route.Relationships) (sym whole) (below_twin s (codes "relationships") 4 h (behind-text (codes "/digitaltwins/") (s ++ slash ∷ codes "relationships") (subst IsText whole t)) refl)
number_hits route.IncomingRelationships parts path t (rest, e, (s, more, behind_it, is, h, f, (last, g, (none, i)))) =
    let whole : path ≡ slash ∷ (codes "digitaltwins" ++ slash ∷ (s ++ slash ∷ codes "incomingrelationships")) = e ∙ ap (λ (q : List ℕ). slash ∷ (codes "digitaltwins" ++ q)) (f ∙ ap (λ (q : List ℕ). slash ∷ (s ++ q)) (g ∙ ap (λ (q : List ℕ). slash ∷ (codes "incomingrelationships" ++ q)) i)) in
    subst (Hits route.IncomingRelationships) (sym whole) (below_twin s (codes "incomingrelationships") 2 h (behind-text (codes "/digitaltwins/") (s ++ slash ∷ codes "incomingrelationships") (subst IsText whole t)) refl)
number_hits route.Component parts path t (rest, e, (s, more, behind_it, is, h, f, (last, g, (name, others, after, what, i, j, (none, m))))) =
    let below : List ℕ = codes "components" ++ slash ∷ (name ++ []) in
    let whole : path ≡ slash ∷ (codes "digitaltwins" ++ slash ∷ (s ++ slash ∷ below)) = e ∙ ap (λ (q : List ℕ). slash ∷ (codes "digitaltwins" ++ q)) (f ∙ ap (λ (q : List ℕ). slash ∷ (s ++ q)) (g ∙ ap (λ (q : List ℕ). slash ∷ (codes "components" ++ q)) (j ∙ ap (λ (q : List ℕ). slash ∷ (name ++ q)) m))) in
    let bytes = behind-text (codes "/digitaltwins/") (s ++ slash ∷ below) (subst IsText whole t) in
    subst (Hits route.Component) (sym whole) (below_twin s below 1 h bytes (component_hit name i (behind-text (codes "/components/") (name ++ []) (behind-text s (slash ∷ below) bytes))))
number_hits route.Relationship parts path t (rest, e, (s, more, behind_it, is, h, f, (last, g, (name, others, after, what, i, j, (none, m))))) =
    let below : List ℕ = codes "relationships" ++ slash ∷ (name ++ []) in
    let whole : path ≡ slash ∷ (codes "digitaltwins" ++ slash ∷ (s ++ slash ∷ below)) = e ∙ ap (λ (q : List ℕ). slash ∷ (codes "digitaltwins" ++ q)) (f ∙ ap (λ (q : List ℕ). slash ∷ (s ++ q)) (g ∙ ap (λ (q : List ℕ). slash ∷ (codes "relationships" ++ q)) (j ∙ ap (λ (q : List ℕ). slash ∷ (name ++ q)) m))) in
    let bytes = behind-text (codes "/digitaltwins/") (s ++ slash ∷ below) (subst IsText whole t) in
    subst (Hits route.Relationship) (sym whole) (below_twin s below 3 h bytes (relationship_hit name i (behind-text (codes "/relationships/") (name ++ []) (behind-text s (slash ∷ below) bytes))))

-- ---- what the router says
entry-value : (r : Route) → (entry_of r).value ≡ r
entry-value route.Models = refl
entry-value route.Model = refl
entry-value route.Canon = refl
entry-value route.Twin = refl
entry-value route.Component = refl
entry-value route.Relationships = refl
entry-value route.Relationship = refl
entry-value route.IncomingRelationships = refl
entry-value route.Query = refl

number-back : (r : Route) → get_or numbers (number_of r) route.Query ≡ r
number-back route.Models = refl
number-back route.Model = refl
number-back route.Canon = refl
number-back route.Twin = refl
number-back route.Component = refl
number-back route.Relationships = refl
number-back route.Relationship = refl
number-back route.IncomingRelationships = refl
number-back route.Query = refl

pub record IsFound (e : RouteOf Route) (path : List ℕ) : Type 0 where
  pub parts : List (List ℕ)
  pub matches : Matches e.value parts path
  pub entry : e ≡ entry_of e.value

pub found_fits : (path : List ℕ) (e : RouteOf Route) → IsText path → first table path ≡ Some e → IsFound e path
found_fits path e t h = by (first all_rows path) refl (sym (ap (λ r. first r path) table_is ∙ first-rename numbered all_rows path) ∙ h)
  where
    by : (found : Option ℕ) → first all_rows path ≡ found → map_key numbered found ≡ Some e → IsFound e path
    by None q g = cc
    by (Some k) q g =
        let is : numbered k ≡ e = cc in
        let value : e.value ≡ get_or numbers k route.Query = ap (λ (x : RouteOf Route). x.value) (sym is) ∙ entry-value (get_or numbers k route.Query) in
        let fits = number_fits path k t q in
        record {
          parts = fits.0;
          matches = subst (λ (r : Route). Matches r fits.0 path) (sym value) fits.1;
          entry = sym is ∙ ap entry_of (sym value);
        }

pub missing_fits_none : (path : List ℕ) (r : Route) (parts : List (List ℕ)) → IsText path → first table path ≡ None → Matches r parts path → ⊥
missing_fits_none path r parts t h m =
    let hit = number_hits r parts path t m in
    let none : map_key numbered (first all_rows path) ≡ None = sym (ap (λ r. first r path) table_is ∙ first-rename numbered all_rows path) ∙ h in
    let some : map_key numbered (Some (number_of r)) ≡ None = subst (λ (x : Option ℕ). map_key numbered x ≡ None) hit none in
    cc

pub one_match_of_bytes : (r s : Route) (parts others : List (List ℕ)) (path : List ℕ) → IsText path → Matches r parts path → Matches s others path → r ≡ s
one_match_of_bytes r s parts others path t m n =
    let a = number_hits r parts path t m in
    let b = number_hits s others path t n in
    let same : number_of r ≡ number_of s = cc in
    sym (number-back r) ∙ ap (λ (k : ℕ). get_or numbers k route.Query) same ∙ number-back s
