-- A request is at most one ask, or its bytes decide at most one refusal.
use Rattle.std.proofs.Common.{◌≡◌, ℕ, List, refl, sym, ap, subst, ◌∙◌, inl, inr}
use Rattle.std.specs.Prelude.{codes, bytes_eq, cond}
use Rattle.http_ends.specs.declared.request.Request.{Request}
use Rattle.graph_asks.specs.declared.refusal.Refusal.TheVariants as refusals
use Rattle.graph_routes.specs.Methods.{allow_text, method_text}
use Rattle.graph_routes.specs.Parts.{part_at}
use Rattle.graph_routes.specs.ModelRequests.{AsksModel}
use Rattle.graph_routes.specs.TwinRequests.{AsksPart, AsksTwin}
use Rattle.graph_routes.specs.LinkRequests.{AsksIncoming, AsksLink, AsksLinks}
use Rattle.graph_routes.specs.Prepared.{ArePreparedAlike, Asks, AsksOf, IsPrepared}
use Rattle.graph_routes.specs.declared.method.Method.{Method}
use Rattle.graph_routes.specs.declared.method.Method.TheVariants as method
use Rattle.graph_routes.specs.declared.prepared.Prepared.{Prepared}
use Rattle.graph_routes.specs.declared.route.Route.{Route}
use Rattle.graph_routes.specs.declared.route.Route.TheVariants as route
use Rattle.graph_routes.proofs.OneMatch.{one_match}
use Rattle.graph_routes.proofs.Pieces.{first_between, second_between}
use Rattle.graph_routes.proofs.OneOutcome.{Laws, refused}
use Rattle.graph_routes.proofs.OneModels.{one_of_canon, one_of_model, one_of_models}
use Rattle.graph_routes.proofs.OneTwins.{one_of_part, one_of_twin}
use Rattle.graph_routes.proofs.OneLinks.{one_of_incoming, one_of_link, one_of_links}
use Rattle.graph_routes.proofs.OneQueries.{one_of_query}

-- ---- methods
abbrev spelled_by : List ℕ → Method
spelled_by bytes =
    cond (bytes_eq bytes (codes "DELETE")) method.Delete
    (cond (bytes_eq bytes (codes "GET")) method.Get
    (cond (bytes_eq bytes (codes "PATCH")) method.Patch
    (cond (bytes_eq bytes (codes "POST")) method.Post method.Put)))

spelled_back : (m : Method) → spelled_by (method_text m) ≡ m
spelled_back method.Delete = refl
spelled_back method.Get = refl
spelled_back method.Patch = refl
spelled_back method.Post = refl
spelled_back method.Put = refl

pub one_method : (m n : Method) → method_text m ≡ method_text n → m ≡ n
one_method m n e = sym (spelled_back m) ∙ ap spelled_by e ∙ spelled_back n

-- ---- asks
one_ask : Laws → (r : Route) (m : Method) (parts others : List (List ℕ)) (request : Request) (p q : Prepared) → part_at 0 parts ≡ part_at 0 others → part_at 1 parts ≡ part_at 1 others
    → Asks r m parts request p → Asks r m others request q → ArePreparedAlike p q
one_ask laws route.Models m parts others request p q first second x y = one_of_models laws m request.body p q x y
one_ask laws route.Model m parts others request p q first second x y =
    one_of_model laws m (part_at 0 others) request.body p q (subst (λ (t : List ℕ). AsksModel m t request.body p) first x) y
one_ask laws route.Canon m parts others request p q first second x y = one_of_canon m p q x y
one_ask laws route.Twin m parts others request p q first second x y =
    one_of_twin laws m (part_at 0 others) request.body p q (subst (λ (t : List ℕ). AsksTwin m t request.body p) first x) y
one_ask laws route.Component m parts others request p q first second x y =
    one_of_part laws m (part_at 0 others) (part_at 1 others) request.body p q
    (subst (λ (t : List ℕ). AsksPart m (part_at 0 others) t request.body p) second (subst (λ (t : List ℕ). AsksPart m t (part_at 1 parts) request.body p) first x)) y
one_ask laws route.Relationships m parts others request p q first second x y =
    one_of_links m (part_at 0 others) request.query p q (subst (λ (t : List ℕ). AsksLinks m t request.query p) first x) y
one_ask laws route.Relationship m parts others request p q first second x y =
    one_of_link laws m (part_at 0 others) (part_at 1 others) request.body p q
    (subst (λ (t : List ℕ). AsksLink m (part_at 0 others) t request.body p) second (subst (λ (t : List ℕ). AsksLink m t (part_at 1 parts) request.body p) first x)) y
one_ask laws route.IncomingRelationships m parts others request p q first second x y =
    one_of_incoming m (part_at 0 others) request.query p q (subst (λ (t : List ℕ). AsksIncoming m t request.query p) first x) y
one_ask laws route.Query m parts others request p q first second x y = one_of_query laws m request.body p q x y

one_asked : Laws → (r : Route) (parts others : List (List ℕ)) (request : Request) (p q : Prepared) → part_at 0 parts ≡ part_at 0 others → part_at 1 parts ≡ part_at 1 others
    → AsksOf r parts request p → AsksOf r others request q → ArePreparedAlike p q
one_asked laws r parts others request p q first second (inl (none, x)) (inl (also, y)) = refused (refusals.BadMethod (allow_text r)) (refusals.BadMethod (allow_text r)) p q x y refl
one_asked laws r parts others request p q first second (inl (none, x)) (inr (m, is, y)) = absurd (none m is)
one_asked laws r parts others request p q first second (inr (m, is, x)) (inl (none, y)) = absurd (none m is)
one_asked laws r parts others request p q first second (inr (m, is, x)) (inr (n, has, y)) =
    let one : m ≡ n = one_method m n (sym is.0 ∙ has.0) in
    one_ask laws r n parts others request p q first second (subst (λ (k : Method). Asks r k parts request p) one x) y

pub one_prepared : Laws → (request : Request) (p q : Prepared) → IsPrepared request p → IsPrepared request q → ArePreparedAlike p q
unfolding IsPrepared
one_prepared laws request p q (inl (none, x)) (inl (also, y)) = refused refusals.NoRoute refusals.NoRoute p q x y refl
one_prepared laws request p q (inl (none, x)) (inr (r, parts, m, y)) = absurd (none r parts m)
one_prepared laws request p q (inr (r, parts, m, x)) (inl (none, y)) = absurd (none r parts m)
one_prepared laws request p q (inr (r, parts, m, x)) (inr (s, others, n, y)) =
    let path = request.path in
    let same : s ≡ r = one_match s r others parts path n m in
    let first : part_at 0 parts ≡ part_at 0 others = first_between r parts path m ∙ sym (first_between s others path n) in
    let second : part_at 1 parts ≡ part_at 1 others = second_between r parts path m ∙ sym (second_between s others path n) in
    one_asked laws r parts others request p q first second x (subst (λ (k : Route). AsksOf k others request q) same y)
