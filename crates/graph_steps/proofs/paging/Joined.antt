-- The token of ids with one more.
use Rattle.std.proofs.Common.{◌≡◌, ℕ, zero, suc, ◌+◌, ◌<◌, List, [], ◌∷◌, ◌++◌, length, take, get_or, refl, sym, ap, ◌∙◌, append_assoc, add-one, arith}
use Rattle.std.proofs.Math.Seq.{take-suc}
use Rattle.std.proofs.lemmas.Grind.{common_steps}
use Rattle.graph_steps.specs.Pages.{token_part, token_of}
use Rattle.graph_steps.specs.paging.Machinery.Joining.{separator}

token-push : (ids : List (List ℕ)) (id : List ℕ) → token_of (ids ++ id ∷ []) ≡ token_of ids ++ (separator (length ids) ++ token_part id)
token-push [] id = refl
token-push (x ∷ []) id = refl
token-push (x ∷ y ∷ ys) id =
    ap (λ t. token_part x ++ 47 ∷ t) (token-push (y ∷ ys) id)
    ∙ sym (append_assoc (token_part x) (47 ∷ token_of (y ∷ ys)) (47 ∷ token_part id))

length_taken : (ids : List (List ℕ)) (i : ℕ) → i < length ids → length (take i ids) ≡ i
length_taken ids i within = grind (arith, common_steps)

pub token-more : (ids : List (List ℕ)) (i : ℕ) (d : List ℕ) → i < length ids → token_of (take (i + 1) ids) ≡ (token_of (take i ids) ++ separator i) ++ token_part (get_or ids i d)
token-more ids i d within =
    ap token_of (ap (λ (n : ℕ). take n ids) (add-one i) ∙ take-suc ids i d within)
    ∙ token-push (take i ids) (get_or ids i d)
    ∙ ap (λ n. token_of (take i ids) ++ (separator n ++ token_part (get_or ids i d))) (length_taken ids i within)
    ∙ sym (append_assoc (token_of (take i ids)) (separator i) (token_part (get_or ids i d)))
