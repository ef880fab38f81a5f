-- The index of a list with one more entry, and what it leads to.
use Rattle.std.proofs.Common.{◌≡◌, ℕ, ◌+◌, ◌<◌, ◌≤◌, List, [], ◌∷◌, ◌++◌, length, get_or, map, take, filter_map, Bool, true, false, cond, Option, Some, None, refl, sym, ap, ◌∙◌, subst, arith, bytes_eq}
use Rattle.std.specs.Option.{option_or, is_some, option_to_list}
use Rattle.std.specs.List.{cons_option}
use Rattle.std.specs.List.{position}
use Rattle.std.specs.Prelude.{not}
use Rattle.std.proofs.lemmas.List.Folds.{position_or_len_push}
use Rattle.std.proofs.lemmas.List.Sums.{prefix_len-le-length}
use Rattle.std.proofs.lemmas.List.Elements.{filter_map-append}
use Rattle.std.proofs.lemmas.Slice.Eq.{bytes_eq-Decides}
use Rattle.std.proofs.lemmas.Grind.{common_steps}
use Rattle.std.proofs.lemmas.List.{take_all}

pub position-push : {X : Type 0} (p : X → Bool) (xs : List X) (y : X)
    → position p (xs ++ y ∷ []) ≡ option_or (position p xs) (cond (p y) (Some (length xs)) None)
position-push p xs y = let within = prefix_len-le-length (λ x. not (p x)) xs in grind (arith, common_steps, position_or_len_push p xs y, within)

-- the place of a text that had none, and of one that had one
pub first_put : (old new : Option ℕ) (b : Bool) (at : ℕ) → new ≡ cond b (Some at) old → (b ≡ true → old ≡ None) → new ≡ option_or old (cond b (Some at) None)
first_put None new true at e h = e
first_put None new false at e h = e
first_put (Some k) new true at e h = let off : Some k ≡ None = h refl in cc
first_put (Some k) new false at e h = e

map_more : {X Y : Type 0} (f : X → Y) (xs : List X) (i : ℕ) (x : X) → i < length xs → x ≡ get_or xs i x → map f (take (i + 1) xs) ≡ map f (take i xs) ++ f x ∷ []
map_more f xs i x within is = grind (arith, common_steps)

length_more : {X Y : Type 0} (f : X → Y) (xs : List X) (i : ℕ) → i < length xs → length (map f (take i xs)) ≡ i
length_more f xs i within = grind (arith, common_steps)

pub position_more : {X Y : Type 0} (p : Y → Bool) (f : X → Y) (xs : List X) (i : ℕ) (x : X) → i < length xs → x ≡ get_or xs i x → (old new : Option ℕ)
    → old ≡ position p (map f (take i xs)) → new ≡ option_or old (cond (p (f x)) (Some i) None) → new ≡ position p (map f (take (i + 1) xs))
position_more p f xs i x within is old new before step =
    step
    ∙ ap (λ o. option_or o (cond (p (f x)) (Some i) None)) before
    ∙ ap (λ n. option_or (position p (map f (take i xs))) (cond (p (f x)) (Some n) None)) (sym (length_more f xs i within))
    ∙ sym (position-push p (map f (take i xs)) (f x))
    ∙ ap (λ ys. position p ys) (sym (map_more f xs i x within is))

none_of : (o : Option ℕ) → false ≡ is_some o → o ≡ None
none_of None h = refl
none_of (Some n) h = cc

-- a text that the index lacks
pub absent_text : (got : List ℕ → Option ℕ) (id q : List ℕ) → false ≡ is_some (got id) → bytes_eq id q ≡ true → got q ≡ None
absent_text got id q none same =
    let e : id ≡ q = (bytes_eq-Decides id q).0 same in
    let P : List ℕ → Type 0 = λ t. false ≡ is_some (got t) in
    none_of (got q) (subst P e none)

-- the list of what the entries have, with one more entry
option_list : {Y : Type 0} (o : Option Y) → cons_option o [] ≡ option_to_list o
option_list None = refl
option_list (Some y) = refl

pub fields_more : {X Y Z : Type 0} (h : Y → Option Z) (f : X → Y) (xs : List X) (i : ℕ) (x : X) → i < length xs → x ≡ get_or xs i x
    → filter_map h (map f (take (i + 1) xs)) ≡ filter_map h (map f (take i xs)) ++ option_to_list (h (f x))
fields_more h f xs i x within is =
    ap (λ ys. filter_map h ys) (map_more f xs i x within is)
    ∙ filter_map-append h (map f (take i xs)) (f x ∷ [])
    ∙ ap (λ zs. filter_map h (map f (take i xs)) ++ zs) (option_list (h (f x)))

pub fields_all : {X Y Z : Type 0} (h : Y → Option Z) (f : X → Y) (xs : List X) (i : ℕ) → length xs ≤ i → filter_map h (map f (take i xs)) ≡ filter_map h (map f xs)
fields_all h f xs i past = ap (λ ys. filter_map h (map f ys)) (take_all i xs past)
