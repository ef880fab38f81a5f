-- The relationships that decide pages, and the pages that they decide.
use Rattle.std.proofs.Common.{◌≡◌, ◌≤◌, ℕ, zero, suc, Bor, List, [], ◌∷◌, ◌++◌, map, take, length, Bool, true, Option, Some, None, refl, sym, ap, ◌∙◌, subst}
use Rattle.std.proofs.Math.Seq.{take-append_seam}
use Rattle.std.proofs.lemmas.List.{append-nil, length-map}
use Rattle.std.proofs.lemmas.List.{take_all}
use Rattle.std.specs.List.{AllByRecursion, filter}
use Rattle.json_tree.specs.Values.{Json}
use Rattle.json_tree.specs.View.{view}
use Rattle.rel_graph.specs.Edges.{out_of, into_of, is_from, is_into}
use Rattle.rel_graph.specs.declared.edge.Edge.{Edge}
use Rattle.graph_steps.specs.ListAsks.{is_link_called, out_links, into_links}
use Rattle.graph_steps.specs.Pages.{on_page, page_value}
use Rattle.graph_steps.specs.States.{Link, link_value}
use Rattle.graph_steps.specs.bodies.Kept.{IsKeptLink}
use Rattle.graph_steps.specs.paging.Rows as rows
use Rattle.graph_steps.proofs.paging.Cut.{page-cut}
use Rattle.graph_steps.proofs.paging.Links.{map-out_of, map-into_of, map-out_past, map-into_past, map-called}
use Rattle.graph_steps.specs.held.Held.{Holding, state_of, link_of, IsHeldLink}
use Rattle.graph_machine.specs.Machinery.Listings.{raw_out, raw_into}
use Rattle.graph_steps.specs.declared.held.stored.Stored.{Stored}
use Rattle.graph_machine.proofs.Ascending.{all_weaker, all_filter, all_unmapped}

-- ---- lists
pub map-take : {X Y : Type 0} (f : X → Y) (n : ℕ) (xs : List X) → map f (take n xs) ≡ take n (map f xs)
map-take f zero xs = refl
map-take f (suc n) [] = refl
map-take f (suc n) (x ∷ xs) = ap (λ ys. f x ∷ ys) (map-take f n xs)

pub map-both : {X Y Z : Type 0} (f : X → Y) (g : Y → Z) (xs : List X) → map g (map f xs) ≡ map (λ x. g (f x)) xs
map-both f g [] = refl
map-both f g (x ∷ xs) = ap (λ ys. g (f x) ∷ ys) (map-both f g xs)

all_take : {X : Type 0} (P : X → Type 0) (n : ℕ) (xs : List X) → AllByRecursion P xs → AllByRecursion P (take n xs)
all_take P zero xs all = tt
all_take P (suc n) [] all = tt
all_take P (suc n) (x ∷ xs) all = (all.0, all_take P n xs all.1)

abbrev values : Stored → Json
values p = view p.values

-- ---- what decides a page
called : (name : Option (List ℕ)) (ls : List Link) → filter (rows.is_edge_called name) ls ≡ filter (is_link_called name) ls
called None ls = refl
called (Some name) ls = refl

out_seen : (h : Holding) (source : List ℕ) (past : Option (List ℕ)) → map link_of (raw_out source past h.links) ≡ out_links (state_of h) source past
out_seen h source None = map-out_of values source h.links
out_seen h source (Some id) = map-out_past values source id h.links

into_seen : (h : Holding) (target : List ℕ) (past : Option (List ℕ × List ℕ)) → map link_of (raw_into target past h.links) ≡ into_links (state_of h) target past
into_seen h target None = map-into_of values target h.links
into_seen h target (Some past) = map-into_past values target past h.links

abbrev Firsts : Type 0
Firsts = List (Bor (Edge Stored))

taken : (p : Edge Stored → Bool) (listing : List (Edge Stored)) (first : Firsts) → map (λ (e : Bor (Edge Stored)). e.now) first ≡ take 101 listing → map (λ (e : Bor (Edge Stored)). link_of e.now) first ≡ take 101 (map link_of listing)
taken p listing first is = sym (map-both (λ (e : Bor (Edge Stored)). e.now) link_of first) ∙ ap (map link_of) is ∙ map-take link_of 101 listing

pub decides_out : (h : Holding) (source : List ℕ) (name past : Option (List ℕ)) (first : Firsts)
    → map (λ (e : Bor (Edge Stored)). e.now) first ≡ take 101 (filter (rows.is_edge_called name) (raw_out source past h.links))
    → map (λ (e : Bor (Edge Stored)). link_of e.now) first ≡ take 101 (filter (is_link_called name) (out_links (state_of h) source past))
decides_out h source name past first is =
    taken (rows.is_edge_called name) (filter (rows.is_edge_called name) (raw_out source past h.links)) first is
    ∙ ap (take 101) (map-called values name (raw_out source past h.links) ∙ ap (filter (rows.is_edge_called name)) (out_seen h source past) ∙ called name (out_links (state_of h) source past))

every : {X : Type 0} (xs : List X) → filter (λ x. true) xs ≡ xs
every [] = refl
every (x ∷ xs) = ap (λ ys. x ∷ ys) (every xs)

pub decides_into : (h : Holding) (target : List ℕ) (past : Option (List ℕ × List ℕ)) (first : Firsts)
    → map (λ (e : Bor (Edge Stored)). e.now) first ≡ take 101 (filter (rows.is_edge_called None) (raw_into target past h.links))
    → map (λ (e : Bor (Edge Stored)). link_of e.now) first ≡ take 101 (into_links (state_of h) target past)
decides_into h target past first is =
    taken (rows.is_edge_called None) (filter (rows.is_edge_called None) (raw_into target past h.links)) first is
    ∙ ap (take 101) (ap (map link_of) (every (raw_into target past h.links)) ∙ into_seen h target past)

-- what decides a page can be printed
kept_first : (listing : List (Edge Stored)) (name : Option (List ℕ)) (first : Firsts) → AllByRecursion IsHeldLink listing
    → map (λ (e : Bor (Edge Stored)). e.now) first ≡ take 101 (filter (rows.is_edge_called name) listing) → AllByRecursion (λ (e : Bor (Edge Stored)). IsKeptLink (link_of e.now)) first
kept_first listing name first all is =
    all_unmapped (λ (e : Bor (Edge Stored)). e.now) (λ (e : Edge Stored). IsKeptLink (link_of e)) first
    (subst (AllByRecursion (λ (e : Edge Stored). IsKeptLink (link_of e))) (sym is)
    (all_take (λ (e : Edge Stored). IsKeptLink (link_of e)) 101 (filter (rows.is_edge_called name) listing)
    (all_filter (λ (e : Edge Stored). IsKeptLink (link_of e)) (rows.is_edge_called name) listing (all_weaker IsHeldLink (λ (e : Edge Stored). IsKeptLink (link_of e)) (λ e h. h.kept) listing all))))

raw_out_kept : (source : List ℕ) (past : Option (List ℕ)) (es : List (Edge Stored)) → AllByRecursion IsHeldLink es → AllByRecursion IsHeldLink (raw_out source past es)
raw_out_kept source None es all = all_filter IsHeldLink (is_from source) es all
raw_out_kept source (Some id) es all = all_filter IsHeldLink _ (out_of source es) (all_filter IsHeldLink (is_from source) es all)

raw_into_kept : (target : List ℕ) (past : Option (List ℕ × List ℕ)) (es : List (Edge Stored)) → AllByRecursion IsHeldLink es → AllByRecursion IsHeldLink (raw_into target past es)
raw_into_kept target None es all = all_filter IsHeldLink (is_into target) es all
raw_into_kept target (Some past) es all = all_filter IsHeldLink _ (into_of target es) (all_filter IsHeldLink (is_into target) es all)

pub kept_out : (source : List ℕ) (name past : Option (List ℕ)) (es : List (Edge Stored)) (first : Firsts) → AllByRecursion IsHeldLink es
    → map (λ (e : Bor (Edge Stored)). e.now) first ≡ take 101 (filter (rows.is_edge_called name) (raw_out source past es)) → AllByRecursion (λ (e : Bor (Edge Stored)). IsKeptLink (link_of e.now)) first
kept_out source name past es first all is = kept_first (raw_out source past es) name first (raw_out_kept source past es all) is

pub kept_into : (target : List ℕ) (past : Option (List ℕ × List ℕ)) (es : List (Edge Stored)) (first : Firsts) → AllByRecursion IsHeldLink es
    → map (λ (e : Bor (Edge Stored)). e.now) first ≡ take 101 (filter (rows.is_edge_called None) (raw_into target past es)) → AllByRecursion (λ (e : Bor (Edge Stored)). IsKeptLink (link_of e.now)) first
kept_into target past es first all is = kept_first (raw_into target past es) None first (raw_into_kept target past es all) is

-- ---- the page that they decide
pub page_decided : (entry : Link → List (List ℕ) × Json) (ls : List Link) (first : Firsts) → map (λ (e : Bor (Edge Stored)). link_of e.now) first ≡ take 101 ls
    → page_value (map (λ (e : Bor (Edge Stored)). entry (link_of e.now)) first) ≡ page_value (map entry ls)
page_decided entry ls first is =
    ap page_value (sym (map-both (λ (e : Bor (Edge Stored)). link_of e.now) entry first) ∙ ap (map entry) is ∙ map-take entry 101 ls)
    ∙ page-cut (map entry ls)

pub rows_on_page : (key : Link → List (List ℕ)) (first : Firsts)
    → take 100 (map (λ (e : Bor (Edge Stored)). link_value (link_of e.now)) first) ≡ map (λ (e : List (List ℕ) × Json). e.1) (on_page (map (λ (e : Bor (Edge Stored)). (key (link_of e.now), link_value (link_of e.now))) first))
rows_on_page key first =
    sym (map-take (λ (e : List (List ℕ) × Json). e.1) 100 (map (λ (e : Bor (Edge Stored)). (key (link_of e.now), link_value (link_of e.now))) first)
    ∙ ap (take 100) (map-both (λ (e : Bor (Edge Stored)). (key (link_of e.now), link_value (link_of e.now))) (λ (e : List (List ℕ) × Json). e.1) first))

-- ---- its rows
-- as many as a page has at most were printed, or all
pub first_page : {X Y Z : Type 0} (f : X → Z) (g : Y → Z) (trees : List X) (rest whole : List Y) → map f trees ++ map g rest ≡ map g whole → length trees ≡ 100 → map f trees ≡ take 100 (map g whole)
first_page f g trees rest whole is full =
    sym (take-append_seam (map f trees) (map g rest)) ∙ ap (λ n. take n (map f trees ++ map g rest)) (length-map trees f ∙ full) ∙ ap (take 100) is

pub whole_page : {X Y Z : Type 0} (f : X → Z) (g : Y → Z) (trees : List X) (rest whole : List Y) → map f trees ++ map g rest ≡ map g whole → rest ≡ [] → length trees ≤ 100 → map f trees ≡ take 100 (map g whole)
whole_page f g trees rest whole is none few =
    sym (take_all 100 (map f trees) (subst (λ n. n ≤ 100) (sym (length-map trees f)) few))
    ∙ ap (take 100) (sym (append-nil (map f trees)) ∙ ap (λ r. map f trees ++ map g r) (sym none) ∙ is)
