-- A place of a value has one pointer.
use Rattle.std.proofs.Common.{◌≡◌, ℕ, List, [], ◌∷◌, Some, sym, ap, ap₂, ◌∙◌, subst}
use Rattle.json_tree.specs.Values.{Value, null, truth, number, text, array, object}
use Rattle.json_tree.specs.Pointers.{pointer_text, HasToken, AreReferenceTokens, IsPointerOf}

one_token : {N : Type 0} (v : Value N) (i : ℕ) (token other : List ℕ) (part next : Value N) → HasToken v i token part → HasToken v i other next
    → (token ≡ other) × (part ≡ next)
one_token null i token other part next h k = absurd h
one_token (truth b) i token other part next h k = absurd h
one_token (number n) i token other part next h k = absurd h
one_token (text t) i token other part next h k = absurd h
one_token (array vs) i token other part next h k =
    let e : Some part ≡ Some next = sym h.0 ∙ k.0 in
    let same : part ≡ next = cc in
    (h.1 ∙ sym k.1, same)
one_token {N} (object ms) i token other part next h k =
    let e : Some (token, part) ≡ Some (other, next) = sym h ∙ k in
    let f : (token, part) ≡ (other, next) = cc in
    (ap (λ (m : List ℕ × Value N). m.0) f, ap (λ (m : List ℕ × Value N). m.1) f)

one_way : {N : Type 0} (place : List ℕ) (v : Value N) (tokens others : List (List ℕ)) → AreReferenceTokens v place tokens → AreReferenceTokens v place others → tokens ≡ others
one_way [] v tokens others h k = h ∙ sym k
one_way {N} (i ∷ place) v tokens others (token, part, rest, has, are, is) (other, next, more, has2, are2, is2) =
    let same = one_token v i token other part next has has2 in
    let below : rest ≡ more = one_way place part rest more are (subst (λ (w : Value N). AreReferenceTokens w place more) (sym same.1) are2) in
    is ∙ ap₂ (λ (x : List ℕ) (xs : List (List ℕ)). x ∷ xs) same.0 below ∙ sym is2

pub one_pointer : {N : Type 0} (v : Value N) (place one other : List ℕ) → IsPointerOf v place one → IsPointerOf v place other → one ≡ other
one_pointer v place one other h k = h.2 ∙ ap pointer_text (one_way place v h.0 k.0 h.1 k.1) ∙ sym k.2
