-- A path is at most one of the table's.
use Rattle.std.proofs.Common.{◌≡◌, ◌≢◌, ℕ, ◌<◌, List, [], ◌∷◌, ◌++◌, Bool, true, false, cond, refl, ap, ◌∙◌, arith, ltb, map}
use Rattle.std.specs.List.{AllByRecursion}
use Rattle.std.proofs.lemmas.Bool.Decides.{nat_tests}
use Rattle.std.proofs.lemmas.List.{map-append}
use Rattle.matchit.specs.Level.{IsText}
use Rattle.graph_routes.specs.Paths.{Piece, word, part, slash, IsPathPart, ConsistsOf, Matches, pieces}
use Rattle.graph_routes.specs.declared.route.Route.{Route}
use Rattle.graph_routes.specs.declared.route.Route.TheVariants as route
use Rattle.graph_routes.proofs.Hits.{one_match_of_bytes}

-- Any list with what is no byte in it replaced by a byte: words and slashes stay.
abbrev as_byte : ℕ → ℕ
as_byte n = cond (ltb n 256) n 0

abbrev as_text : List ℕ → List ℕ
as_text bs = map as_byte bs

is_byte : (n : ℕ) → as_byte n < 256
is_byte n = by (ltb n 256) refl
  where
    by : (v : Bool) → ltb n 256 ≡ v → cond v n 0 < 256
    by true e = grind (arith, nat_tests)
    by false e = omega arith

is_text : (bs : List ℕ) → IsText (as_text bs)
is_text [] = tt
is_text (b ∷ bs) = (is_byte b, is_text bs)

no_slash : (n : ℕ) → n ≢ slash → as_byte n ≢ slash
no_slash n h = by (ltb n 256) refl
  where
    by : (v : Bool) → ltb n 256 ≡ v → cond v n 0 ≢ slash
    by true e = h
    by false e = λ z. omega (arith, z)

none_slash : (bs : List ℕ) → AllByRecursion (λ b. b ≢ slash) bs → AllByRecursion (λ b. b ≢ slash) (as_text bs)
none_slash [] h = tt
none_slash (b ∷ bs) h = (no_slash b h.0, none_slash bs h.1)

is_part : (bs : List ℕ) → IsPathPart bs → IsPathPart (as_text bs)
is_part [] h = absurd (h.some refl)
is_part (b ∷ bs) h = record { some = λ e. cc; one = none_slash (b ∷ bs) h.one }

-- The words of pieces are bytes.
abbrev AreBytes : List Piece → Type 0
AreBytes [] = Unit {0}
AreBytes (word w ∷ ps) = (as_text w ≡ w) × AreBytes ps
AreBytes (part ∷ ps) = AreBytes ps

consists : (ps : List Piece) (parts : List (List ℕ)) (path : List ℕ) → AreBytes ps → ConsistsOf ps parts path → ConsistsOf ps (map as_text parts) (as_text path)
consists [] parts path b (none, e) = (ap (λ (xs : List (List ℕ)). map as_text xs) none, ap as_text e)
consists (word w ∷ ps) parts path b (rest, e, more) =
    (as_text rest, ap as_text e ∙ ap (λ (x : List ℕ). slash ∷ x) (map-append as_byte w rest ∙ ap (λ (x : List ℕ). x ++ as_text rest) b.0), consists ps parts rest b.1 more)
consists (part ∷ ps) parts path b (text, texts, rest, is, h, e, more) = (
  as_text text,
  map as_text texts,
  as_text rest,
  ap (λ (xs : List (List ℕ)). map as_text xs) is,
  is_part text h,
  ap as_text e ∙ ap (λ (x : List ℕ). slash ∷ x) (map-append as_byte text rest),
  consists ps texts rest b more,
)

are_bytes : (r : Route) → AreBytes (pieces r)
are_bytes route.Models = (refl, tt)
are_bytes route.Model = (refl, tt)
are_bytes route.Canon = (refl, tt)
are_bytes route.Twin = (refl, tt)
are_bytes route.Component = (refl, (refl, tt))
are_bytes route.Relationships = (refl, (refl, tt))
are_bytes route.Relationship = (refl, (refl, tt))
are_bytes route.IncomingRelationships = (refl, (refl, tt))
are_bytes route.Query = (refl, tt)

pub one_match : (r s : Route) (parts others : List (List ℕ)) (path : List ℕ) → Matches r parts path → Matches s others path → r ≡ s
one_match r s parts others path m n =
    one_match_of_bytes r s (map as_text parts) (map as_text others) (as_text path) (is_text path)
    (consists (pieces r) parts path (are_bytes r) m) (consists (pieces s) others path (are_bytes s) n)
