-- The elements of arrays, as lists.
use Rattle.std.proofs.Common.{◌≡◌, ◌≢◌, ℕ, zero, suc, ◌+◌, List, [], ◌∷◌, ◌++◌, length, Some, refl, ap, subst, ◌∙◌, arith}
use Rattle.std.specs.List.{AllByRecursion, AllZip, enumerate_from}
use Rattle.json_tree.specs.Values.{Json, elements_of}
use Rattle.json_tree.specs.Places.{element_at}

-- ---- two lists, one behind the other
pub some_append : (vs ws : List Json) → vs ≢ [] → vs ++ ws ≢ []
some_append [] ws some e = some refl
some_append (v ∷ vs) ws some e = cc

pub all_append : {X : Type 0} (P : X → Type 0) (xs ys : List X) → AllByRecursion P xs → AllByRecursion P ys → AllByRecursion P (xs ++ ys)
all_append P [] ys all rest = rest
all_append P (x ∷ xs) ys all rest = (all.0, all_append P xs ys all.1 rest)

pub zipped_append : {A B : Type 0} (R : A → B → Type 0) (xs : List A) (ys : List B) (us : List A) (vs : List B) → AllZip R xs ys → AllZip R us vs
    → AllZip R (xs ++ us) (ys ++ vs)
zipped_append R [] [] us vs all rest = rest
zipped_append R [] (y ∷ ys) us vs all rest = absurd all
zipped_append R (x ∷ xs) [] us vs all rest = absurd all
zipped_append R (x ∷ xs) (y ∷ ys) us vs all rest = (all.0, zipped_append R xs ys us vs all.1 rest)

pub enumerated_append : (n : ℕ) (vs ws : List Json) → enumerate_from n (vs ++ ws) ≡ enumerate_from n vs ++ enumerate_from (n + length vs) ws
enumerated_append n [] ws = let same : n ≡ n + 0 = omega arith in ap (λ (k : ℕ). enumerate_from k ws) same
enumerated_append n (v ∷ vs) ws =
    let same : n + 1 + length vs ≡ n + length (v ∷ vs) = omega arith in
    ap (λ (es : List (ℕ × Json)). (n, v) ∷ es) (enumerated_append (n + 1) vs ws ∙ ap (λ (k : ℕ). enumerate_from (n + 1) vs ++ enumerate_from k ws) same)

-- ---- what holds of each element
pub from_each : (P : Json → Type 0) (vs : List Json) → ((i : ℕ) (v : Json) → element_at (elements_of vs) i ≡ Some v → P v) → AllByRecursion P vs
from_each P [] each = tt
from_each P (v ∷ vs) each = (each zero v refl, from_each P vs (λ i w there. each (suc i) w there))

pub to_each : (P : Json → Type 0) (vs : List Json) (i : ℕ) (v : Json) → AllByRecursion P vs → element_at (elements_of vs) i ≡ Some v → P v
to_each P [] i v all there = absurd cc
to_each P (w ∷ vs) zero v all there = let same : w ≡ v = cc in subst P same all.0
to_each P (w ∷ vs) (suc i) v all there = to_each P vs i v all.1 there
