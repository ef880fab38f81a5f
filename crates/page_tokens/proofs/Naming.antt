-- Ids are ASCII, and parts of which one names no id name none.
use Rattle.std.proofs.Common.{◌≡◌, ℕ, zero, suc, ◌+◌, ◌<◌, ◌≤◌, List, [], ◌∷◌, ◌++◌, map, true, length, get_or, take, add-one, lit<, ⊎_elim, refl, sym, ap, ◌∙◌, subst, Bor, Option, Some, None, Result, Ok, Err, IfOk, MatchOption, arith}
use Rattle.std.specs.Prelude.{nat_lt}
use Rattle.std.specs.List.{AllPass}
use Rattle.std.specs.Str.{IsUtf8}
use Rattle.std.proofs.lemmas.Bool.{cases_Bool}
use Rattle.std.proofs.lemmas.List.{get_or_past}
use borrow.Author.Tests.{ltb-true}
use Rattle.std.proofs.lemmas.Bool.Decides.{nat_tests}
use Rattle.std.proofs.lemmas.Str.{IsUtf8-from_ascii}
use Rattle.std.proofs.lemmas.List.Elements.{AllZip-push}
use Rattle.std.proofs.Math.Seq.{take-suc}
use Rattle.twin_value.specs.Breaches.{IsTwinId, is_id_byte}
use Rattle.page_tokens.specs.Tokens.{NamesId, NameIds, token_parts, IsPageToken}

pub id_byte_small : (b : ℕ) → is_id_byte b ≡ true → b < 128
id_byte_small b h = grind (arith, nat_tests)

pub small_at : (bytes : List ℕ) (i : ℕ) → AllPass is_id_byte bytes → get_or bytes i 0 < 128
small_at bytes i each =
    ⊎_elim
    (λ t. id_byte_small (get_or bytes i 0) (each i 0 (ltb-true i (length bytes) t)))
    (λ t. let past : length bytes ≤ i = grind (arith, nat_tests) in subst (λ n. n < 128) (sym (get_or_past bytes i 0 past)) (lit< tt))
    (cases_Bool (nat_lt i (length bytes)))

pub id_utf8 : (bytes : List ℕ) → IsTwinId bytes → IsUtf8 bytes
id_utf8 bytes h = IsUtf8-from_ascii bytes (λ i. small_at bytes i h.each)

pub not_named : (parts : List (Bor (List ℕ))) (i : ℕ) (d : Bor (List ℕ)) → i < length parts → ((id : List ℕ) → NamesId (get_or parts i d).now id → ⊥)
    → (ids : List (List ℕ)) → NameIds (map (λ x. x.now) parts) ids → ⊥
not_named [] i d within none ids h = absurd (omega (arith, within))
not_named (x ∷ xs) i d within none [] h = h
not_named (x ∷ xs) zero d within none (y ∷ ys) h = none y h.0
not_named (x ∷ xs) (suc i) d within none (y ∷ ys) h = not_named xs i d (omega (arith, within)) none ys h.1

map-push : (xs : List (Bor (List ℕ))) (y : Bor (List ℕ)) → map (λ x. x.now) (xs ++ y ∷ []) ≡ map (λ x. x.now) xs ++ y.now ∷ []
map-push [] y = refl
map-push (x ∷ xs) y = ap (λ zs. x.now ∷ zs) (map-push xs y)

pub named_more : (parts : List (Bor (List ℕ))) (i : ℕ) (d : Bor (List ℕ)) (ids : List (List ℕ)) (id : List ℕ) → i < length parts
    → NameIds (map (λ x. x.now) (take i parts)) ids → NamesId (get_or parts i d).now id → NameIds (map (λ x. x.now) (take (i + 1) parts)) (ids ++ id ∷ [])
named_more parts i d ids id within h n =
    let longer : take (i + 1) parts ≡ take i parts ++ get_or parts i d ∷ [] = ap (λ (k : ℕ). take k parts) (add-one i) ∙ take-suc parts i d within in
    subst (λ (xs : List (List ℕ)). NameIds xs (ids ++ id ∷ [])) (sym (ap (map (λ (x : Bor (List ℕ)). x.now)) longer ∙ map-push (take i parts) (get_or parts i d)))
    (AllZip-push NamesId (map (λ x. x.now) (take i parts)) ids (get_or parts i d).now id h n)

-- what the parts of a token name the token names
pub told : {V E : Type 0} (items : V → List (List ℕ)) (r : Result (Option V) E) (parts : List (List ℕ)) (token : List ℕ) (count : ℕ) → parts ≡ token_parts token → length (token_parts token) ≡ count
    → IfOk r (λ found. MatchOption found ((ids : List (List ℕ)) → NameIds parts ids → ⊥) (λ v. NameIds parts (items v)))
    → IfOk r (λ found. MatchOption found ((ids : List (List ℕ)) → IsPageToken token count ids → ⊥) (λ v. IsPageToken token count (items v)))
told items (Err e) parts token count same number h = h
told items (Ok None) parts token count same number h = λ ids t. h ids (subst (λ ps. NameIds ps ids) (sym same) t.named)
told items (Ok (Some v)) parts token count same number h = record { number = number; named = subst (λ ps. NameIds ps (items v)) same h }
