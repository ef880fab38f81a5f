-- Parts of a list between the elements that pass a test.
use Rattle.std.proofs.Common.{◌≡◌, ℕ, ◌+◌, ◌-◌, ◌<◌, ◌≤◌, Bool, true, false, List, [], ◌∷◌, ◌++◌, length, get_or, take, drop, All, sym, ap, ◌∙◌, take_all, take-append-drop}
use Rattle.std.specs.List.{slice_split}
use Rattle.std.proofs.lemmas.List.{drop_more, take_rest}
use Rattle.std.proofs.lemmas.List.Splits.{slice_split_none, slice_split_at}

pub first_part : {X : Type 0} (p : X → Bool) (xs : List X) (i : ℕ) (d : X) → i < length xs → p (get_or xs i d) ≡ true → All (λ x. p x ≡ false) (take i xs)
    → slice_split p xs ≡ take i xs ∷ slice_split p (take (length xs - (i + 1)) (drop (i + 1) xs))
first_part {X} p xs i d lt e h =
    let rest : take (length xs - (i + 1)) (drop (i + 1) xs) ≡ drop (i + 1) xs = take_rest xs (i + 1) in
    let parts : xs ≡ take i xs ++ get_or xs i d ∷ drop (i + 1) xs = sym (take-append-drop i xs) ∙ ap (λ (zs : List X). take i xs ++ zs) (drop_more xs i d lt) in
    ap (λ (zs : List X). slice_split p zs) parts ∙ slice_split_at p (take i xs) (get_or xs i d) (drop (i + 1) xs) h e
    ∙ ap (λ (zs : List X). take i xs ∷ slice_split p zs) (sym rest)

pub one_part : {X : Type 0} (p : X → Bool) (xs : List X) (i : ℕ) → length xs ≤ i → All (λ x. p x ≡ false) (take i xs) → slice_split p xs ≡ xs ∷ []
one_part p xs i le h = slice_split_none p xs (rw (take_all i xs le) at h)
