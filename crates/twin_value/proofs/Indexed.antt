-- The index of a list with one more item.
use Rattle.std.proofs.Common.{◌≡◌, ℕ, ◌+◌, ◌<◌, List, [], ◌∷◌, ◌++◌, length, get_or, take, Bool, true, false, cond, Option, Some, None, refl, sym, ap, ◌∙◌, subst, bytes_eq}
use Rattle.std.specs.Borrow.{Bor}
use Rattle.std.specs.List.{find}
use Rattle.std.specs.Option.{option_or, option_map, is_some}
use Rattle.std.proofs.lemmas.Slice.Eq.{bytes_eq-Decides}
use Rattle.std.proofs.Math.Seq.{take-suc}
use Rattle.std.proofs.Common.{add-one}

find_step : {X : Type 0} (b : Bool) (x : X) (o : Option X) → cond b (Some x) o ≡ option_or (cond b (Some x) None) o
find_step true x o = refl
find_step false x o = refl

or_or : {X : Type 0} (o p q : Option X) → option_or o (option_or p q) ≡ option_or (option_or o p) q
or_or None p q = refl
or_or (Some x) p q = refl

pub find-push : {X : Type 0} (p : X → Bool) (xs : List X) (y : X) → find p (xs ++ y ∷ []) ≡ option_or (find p xs) (cond (p y) (Some y) None)
find-push p [] y = refl
find-push p (x ∷ xs) y =
    find_step (p x) x (find p (xs ++ y ∷ []))
    ∙ ap (λ o. option_or (cond (p x) (Some x) None) o) (find-push p xs y)
    ∙ or_or (cond (p x) (Some x) None) (find p xs) (cond (p y) (Some y) None)
    ∙ ap (λ o. option_or o (cond (p y) (Some y) None)) (sym (find_step (p x) x (find p xs)))

pub find_more : {X : Type 0} (p : X → Bool) (xs : List X) (i : ℕ) (x : X) → i < length xs → x ≡ get_or xs i x → (old new : Option X)
    → old ≡ find p (take i xs) → new ≡ option_or old (cond (p x) (Some x) None) → new ≡ find p (take (i + 1) xs)
find_more {X} p xs i x within is old new before step =
    step
    ∙ ap (λ (o : Option X). option_or o (cond (p x) (Some x) None)) before
    ∙ sym (find-push p (take i xs) x)
    ∙ ap (find p) (sym (ap (λ (n : ℕ). take n xs) (add-one i) ∙ take-suc xs i x within ∙ ap (λ (y : X). take i xs ++ y ∷ []) (sym is)))

-- the item of a name that had none, and of one that had one
pub first_put : {T : Type 0} (old new : Option (Bor T)) (b : Bool) (item : Bor T) → new ≡ cond b (Some item) old → (b ≡ true → old ≡ None)
    → option_map (λ (x : Bor T). x.now) new ≡ option_or (option_map (λ (x : Bor T). x.now) old) (cond b (Some item.now) None)
first_put {T} None new true item e h = ap (option_map (λ (x : Bor T). x.now)) e
first_put {T} None new false item e h = ap (option_map (λ (x : Bor T). x.now)) e
first_put {T} (Some k) new true item e h = let off : Some k ≡ None = h refl in cc
first_put {T} (Some k) new false item e h = ap (option_map (λ (x : Bor T). x.now)) e

none_of : {X : Type 0} (o : Option X) → false ≡ is_some o → o ≡ None
none_of None h = refl
none_of (Some n) h = cc

some_of : {X : Type 0} (o : Option X) → true ≡ is_some o → (x : X) × (o ≡ Some x)
some_of None h = absurd cc
some_of (Some x) h = (x, refl)

-- a name that the index lacks, and one that it has
pub absent_name : {X : Type 0} (got : List ℕ → Option X) (name q : List ℕ) → false ≡ is_some (got name) → bytes_eq name q ≡ true → got q ≡ None
absent_name {X} got name q none same =
    let e : name ≡ q = (bytes_eq-Decides name q).0 same in
    let P : List ℕ → Type 0 = λ t. false ≡ is_some (got t) in
    none_of (got q) (subst P e none)

pub kept : {X : Type 0} (o : Option X) (x : X) → true ≡ is_some o → o ≡ option_or o (Some x)
kept None x h = absurd cc
kept (Some y) x h = refl

-- ---- the same with what items have
module _ {X V : Type 0} (f : X → V) where
  some_had : (b : Bool) (x : X) → option_map f (cond b (Some x) None) ≡ cond b (Some (f x)) None
  some_had true x = refl
  some_had false x = refl

  or_had : (o p : Option X) → option_map f (option_or o p) ≡ option_or (option_map f o) (option_map f p)
  or_had None p = refl
  or_had (Some x) p = refl

  pub had_more : (p : X → Bool) (xs : List X) (i : ℕ) (x : X) → i < length xs → x ≡ get_or xs i x → (old new : Option V)
      → old ≡ option_map f (find p (take i xs)) → new ≡ option_or old (cond (p x) (Some (f x)) None) → new ≡ option_map f (find p (take (i + 1) xs))
  had_more p xs i x within is old new before step =
      step
      ∙ ap (λ (o : Option V). option_or o (cond (p x) (Some (f x)) None)) before
      ∙ ap (λ (o : Option V). option_or (option_map f (find p (take i xs))) o) (sym (some_had (p x) x))
      ∙ sym (or_had (find p (take i xs)) (cond (p x) (Some x) None))
      ∙ ap (option_map f) (find_more p xs i x within is (find p (take i xs)) (option_or (find p (take i xs)) (cond (p x) (Some x) None)) refl refl)

pub had_put : {V : Type 0} (old new : Option V) (b : Bool) (item : V) → new ≡ cond b (Some item) old → (b ≡ true → old ≡ None) → new ≡ option_or old (cond b (Some item) None)
had_put {V} None new true item e h = e
had_put {V} None new false item e h = e
had_put {V} (Some k) new true item e h = let off : Some k ≡ None = h refl in cc
had_put {V} (Some k) new false item e h = e
