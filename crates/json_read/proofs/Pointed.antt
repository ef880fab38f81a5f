-- Places and pointers in a value as it is held, and as it was spelled.
use Rattle.std.proofs.Common.{◌≡◌, ℕ, inl, inr, List, [], ◌∷◌, ◌++◌, Result, Ok, Err, refl, sym, subst}
use Rattle.std.specs.Result.{IfOk}
use Rattle.json_tree.specs.Values.{Value, Raw, Json, null, truth, number, text, array, object}
use Rattle.json_tree.specs.Grammar.{IsText}
use Rattle.json_tree.specs.Places.{IsPart, StandsAt}
use Rattle.json_read.specs.Faults.{IsDuplicateAt}
use Rattle.json_tree.specs.Pointers.{HasToken, AreReferenceTokens, IsPointerOf}
use Rattle.json_read.specs.Machinery.Leads.{IsHeldAs}
use Rattle.json_read.specs.Machinery.Automaton.{start, gives, reading}
use Rattle.json_read.proofs.Held.{element_spelled, member_spelled, part_held}
use Rattle.json_read.proofs.Duplicates.{repeat_part}
use Rattle.json_read.proofs.Verdicts.{text_of}

pub stands_held : (place : List ℕ) (raw : Raw) (w : Json) → IsHeldAs raw w → (part : Raw) → StandsAt raw place part → (x : Json) × StandsAt w place x
stands_held [] raw w h part e = (w, refl)
stands_held (i ∷ place) raw w h part (mid, p, s) =
    let r = part_held raw w h i mid p in
    let t = stands_held place mid r.0 r.2 part s in
    (t.0, (r.0, r.1, t.1))

no_token : (v w : Json) (i : ℕ) (token : List ℕ) (part : Json) → w ≡ v → (HasToken v i token part → ⊥) → HasToken w i token part → ⊥
no_token v w i token part e no_part t = no_part (subst (λ (x : Json). HasToken x i token part) e t)

token_spelled : (raw : Raw) (w : Json) → IsHeldAs raw w → (i : ℕ) (token : List ℕ) (part : Json) → HasToken w i token part
    → (p : Raw) × HasToken raw i token p × IsHeldAs p part
token_spelled null w h i token part t = absurd (no_token null w i token part h (λ x. x) t)
token_spelled (truth b) w h i token part t = absurd (no_token (truth b) w i token part h (λ x. x) t)
token_spelled (number l) w (n, spelled, inl h) i token part t = absurd (no_token (number n) w i token part h.1 (λ x. x) t)
token_spelled (number l) w (n, spelled, inr h) i token part t = absurd (no_token _ w i token part h.1 (λ x. x) t)
token_spelled (text b) w h i token part t = absurd (no_token (text b) w i token part h (λ x. x) t)
token_spelled (array vs) w (ws, hs, same) i token part t =
    let s : HasToken (array ws) i token part = subst (λ (x : Json). HasToken x i token part) same t in
    let r = element_spelled vs ws hs i part s.0 in
    (r.0, (r.1, s.1), r.2)
token_spelled (object ms) w (ns, hs, same) i token part t =
    let s : HasToken (object ns) i token part = subst (λ (x : Json). HasToken x i token part) same t in
    let r = member_spelled ms ns hs i token part s in
    (r.0, r.1, r.2)

tokens_spelled : (place : List ℕ) (raw : Raw) (w : Json) → IsHeldAs raw w → (tokens : List (List ℕ)) → AreReferenceTokens w place tokens → AreReferenceTokens raw place tokens
tokens_spelled [] raw w h tokens e = e
tokens_spelled (i ∷ place) raw w h tokens (token, part, rest, has, more, e) =
    let r = token_spelled raw w h i token part has in
    (token, r.0, rest, r.1, tokens_spelled place r.0 part r.2 rest more, e)

pub pointer_spelled : (place : List ℕ) (raw : Raw) (w : Json) → IsHeldAs raw w → (p : List ℕ) → IsPointerOf w place p → IsPointerOf raw place p
pointer_spelled place raw w h p (tokens, are, e) = (tokens, tokens_spelled place raw w h tokens are, e)

-- the place of a part below one that stands
stands_part : {N : Type 0} (place : List ℕ) (whole around part : Value N) (i : ℕ) → StandsAt whole place around → IsPart around i part
    → StandsAt whole (place ++ i ∷ []) part
stands_part {N} [] whole around part i e p = (part, subst (λ (v : Value N). IsPart v i part) (sym e) p, refl)
stands_part (j ∷ place) whole around part i (mid, q, s) p = (mid, q, stands_part place mid around part i s p)

-- where a key stands twice, a value stands
pub duplicate_stands : {N : Type 0} (whole : Value N) (place : List ℕ) → IsDuplicateAt whole place → (part : Value N) × StandsAt whole place part
duplicate_stands {N} whole place (parent, i, around, e, s, r) =
    let p = repeat_part around i r in
    (p.0, subst (λ (q : List ℕ). StandsAt whole q p.0) (sym e) (stands_part parent whole around p.0 i s p.1))

-- what stands in the value that the bytes spell stands in the value that is held
pub read_stands : (bytes place : List ℕ) (raw : Raw) (w : Json) → IsHeldAs raw w → reading bytes start 0 ≡ gives raw
    → ((r : Raw) × IsText bytes r × ((part : Raw) × StandsAt r place part)) → (x : Json) × StandsAt w place x
read_stands bytes place raw w held e (r, spelled, (part, s)) =
    stands_held place raw w held part (subst (λ (v : Raw). StandsAt v place part) (sym ((text_of bytes raw e r).0 spelled)) s)

-- a pointer in the value that is held is one in the value that the bytes spell
pub read_pointer : (bytes place : List ℕ) (raw : Raw) (w : Json) → IsHeldAs raw w → reading bytes start 0 ≡ gives raw
    → (p : List ℕ) → IsPointerOf w place p → (r : Raw) × IsText bytes r × IsPointerOf r place p
read_pointer bytes place raw w held e p is = (raw, (text_of bytes raw e raw).1 refl, pointer_spelled place raw w held p is)

pub if_ok : {T E : Type 0} (r : Result T E) (P Q : T → Type 0) → ((x : T) → P x → Q x) → IfOk r P → IfOk r Q
if_ok (Ok x) P Q f p = f x p
if_ok (Err e) P Q f p = tt
