-- What was read of the elements so far, and of one more.
use Rattle.std.proofs.Common.{◌≡◌, ℕ, ◌+◌, ◌<◌, ◌≤◌, List, [], ◌∷◌, ◌++◌, length, take, get_or, refl, sym, ap, subst, ◌∙◌, arith}
use Rattle.std.specs.List.{AllZip, enumerate_from}
use Rattle.std.proofs.lemmas.List.{take_more, length-take-le}
use Rattle.std.proofs.lemmas.Slice.Zip.{all_zipped_more}
use Rattle.json_tree.specs.Values.{Json}
use Rattle.json_tree.specs.View.{view, member_view, elements_view, members_view}
use Rattle.json_tree.specs.declared.tree.Tree.{Tree}
use Rattle.json_tree.specs.declared.tree.Member.{Member}
use Rattle.dtdl_terms.specs.TermViews.{payloads_term, contents_term}
use Rattle.dtdl_terms.specs.declared.schema.Payload.{Payload}
use Rattle.dtdl_terms.specs.declared.content.Content.{Content}
use Rattle.json_tree.specs.Members.{list_of, pairs_of}
use Rattle.local_rules.specs.Declarations.{ArePayloads, AreProperties}

-- ---- loops
-- a relation that grows at the end keeps pace with a loop
pub step : {A X : Type 0} (P : List A → List X → Type 0)
    (more : (ys : List A) (xs : List X) (a : A) (x : X) → P ys xs → P (a ∷ []) (x ∷ []) → P (ys ++ a ∷ []) (xs ++ x ∷ []))
    (ys : List A) (i : ℕ) (a : A) (xs : List X) (x : X) → i < length ys → a ≡ get_or ys i a → P (take i ys) xs → P (a ∷ []) (x ∷ [])
    → P (take (i + 1) ys) (xs ++ x ∷ [])
step P more ys i a xs x within is all one =
    let front : take (i + 1) ys ≡ take i ys ++ a ∷ [] = take_more ys i a within ∙ ap (λ z. take i ys ++ z ∷ []) (sym is) in
    rw front (more (take i ys) xs a x all one)

-- the elements of a list, and one more
listed_more : (ts : List Tree) (t : Tree) → list_of (elements_view (ts ++ t ∷ [])) ≡ list_of (elements_view ts) ++ view t ∷ []
listed_more [] t = refl
listed_more (u ∷ ts) t = ap (λ vs. view u ∷ vs) (listed_more ts t)

-- what each element is, one for one
pub elements_step : {X : Type 0} (R : Json → X → Type 0) (ts : List Tree) (i : ℕ) (t : Tree) (xs : List X) (x : X) → i < length ts → t ≡ get_or ts i t
    → AllZip R (list_of (elements_view (take i ts))) xs → R (view t) x → AllZip R (list_of (elements_view (take (i + 1) ts))) (xs ++ x ∷ [])
elements_step R ts i t xs x within is all one =
    let front : take (i + 1) ts ≡ take i ts ++ t ∷ [] = take_more ts i t within ∙ ap (λ z. take i ts ++ z ∷ []) (sym is) in
    rw (front, listed_more (take i ts) t) (all_zipped_more R (list_of (elements_view (take i ts))) xs (view t) x all one)

-- the members of an object
paired_more : (ms : List Member) (m : Member) → pairs_of (members_view (ms ++ m ∷ [])) ≡ pairs_of (members_view ms) ++ member_view m ∷ []
paired_more [] m = refl
paired_more (n ∷ ms) m = ap (λ vs. member_view n ∷ vs) (paired_more ms m)

pub members_step : {X : Type 0} (R : List ℕ × Json → X → Type 0) (ms : List Member) (i : ℕ) (m : Member) (xs : List X) (x : X) → i < length ms → m ≡ get_or ms i m
    → AllZip R (pairs_of (members_view (take i ms))) xs → R (member_view m) x → AllZip R (pairs_of (members_view (take (i + 1) ms))) (xs ++ x ∷ [])
members_step R ms i m xs x within is all one =
    let front : take (i + 1) ms ≡ take i ms ++ m ∷ [] = take_more ms i m within ∙ ap (λ z. take i ms ++ z ∷ []) (sym is) in
    rw (front, paired_more (take i ms) m) (all_zipped_more R (pairs_of (members_view (take i ms))) xs (member_view m) x all one)

-- the elements beside their positions
counted_more : (n : ℕ) (ts : List Tree) (t : Tree) → enumerate_from n (list_of (elements_view (ts ++ t ∷ [])))
    ≡ enumerate_from n (list_of (elements_view ts)) ++ (n + length ts, view t) ∷ []
counted_more n [] t = let same : n ≡ n + 0 = omega arith in ap (λ (k : ℕ). (k, view t) ∷ []) same
counted_more n (u ∷ ts) t =
    let same : n + 1 + length ts ≡ n + length (u ∷ ts) = omega arith in
    ap (λ (es : List (ℕ × Json)). (n, view u) ∷ es)
    (counted_more (n + 1) ts t ∙ ap (λ (k : ℕ). enumerate_from (n + 1) (list_of (elements_view ts)) ++ (k, view t) ∷ []) same)

pub counted_step : {X : Type 0} (R : ℕ × Json → X → Type 0) (ts : List Tree) (i : ℕ) (t : Tree) (xs : List X) (x : X) → i < length ts → t ≡ get_or ts i t
    → AllZip R (enumerate_from 0 (list_of (elements_view (take i ts)))) xs → R (i, view t) x
    → AllZip R (enumerate_from 0 (list_of (elements_view (take (i + 1) ts)))) (xs ++ x ∷ [])
counted_step R ts i t xs x within is all one =
    let front : take (i + 1) ts ≡ take i ts ++ t ∷ [] = take_more ts i t within ∙ ap (λ z. take i ts ++ z ∷ []) (sym is) in
    let le : i ≤ length ts = omega arith in
    let long = length-take-le i ts le in
    let at : i ≡ 0 + length (take i ts) = omega (arith, long) in
    rw (front, counted_more 0 (take i ts) t)
    (all_zipped_more R (enumerate_from 0 (list_of (elements_view (take i ts)))) xs (0 + length (take i ts), view t) x all (subst (λ (k : ℕ). R (k, view t) x) at one))

-- ---- fields and properties
pub payloads_more : (ts : List Tree) (ps : List Payload) (t : Tree) (p : Payload) → ArePayloads (payloads_term ps) (elements_view ts)
    → ArePayloads (payloads_term (p ∷ [])) (elements_view (t ∷ [])) → ArePayloads (payloads_term (ps ++ p ∷ [])) (elements_view (ts ++ t ∷ []))
payloads_more [] [] t p all one = one
payloads_more [] (q ∷ ps) t p all one = absurd all
payloads_more (u ∷ ts) [] t p all one = absurd all
payloads_more (u ∷ ts) (q ∷ ps) t p all one = (all.0, payloads_more ts ps t p all.1 one)

pub properties_more : (ts : List Tree) (cs : List Content) (t : Tree) (c : Content) → AreProperties (contents_term cs) (elements_view ts)
    → AreProperties (contents_term (c ∷ [])) (elements_view (t ∷ [])) → AreProperties (contents_term (cs ++ c ∷ [])) (elements_view (ts ++ t ∷ []))
properties_more [] [] t c all one = one
properties_more [] (d ∷ cs) t c all one = absurd all
properties_more (u ∷ ts) [] t c all one = absurd all
properties_more (u ∷ ts) (d ∷ cs) t c all one = (all.0, properties_more ts cs t c all.1 one)
