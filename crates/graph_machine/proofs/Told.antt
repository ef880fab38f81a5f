-- What calls that may want memory answer.
use Rattle.std.proofs.Common.{◌≡◌, ℕ, zero, suc, ◌<◌, List, [], ◌∷◌, length, Some, Result, Ok, Err, IfOk, OnErr, sym, subst, arith}
use Rattle.std.specs.Prelude.{slice_get}
use Rattle.std.proofs.lemmas.Option.{none-some}

pub told : {X E : Type 0} (r : Result X E) (x : X) (P : X → Type 0) → IfOk r (λ y. y ≡ x) → P x → IfOk r P
told (Ok y) x P h p = subst P (sym h) p
told (Err e) x P h p = tt

pub weaker : {X E : Type 0} (r : Result X E) (P Q : X → Type 0) → ((x : X) → P x → Q x) → IfOk r P → IfOk r Q
weaker (Ok x) P Q f h = f x h
weaker (Err e) P Q f h = tt

pub after_err : {X E : Type 0} (r : Result X E) (P : Type 0) → P → OnErr r P
after_err (Ok x) P p = tt
after_err (Err e) P p = p

pub within : {X : Type 0} (xs : List X) (k : ℕ) (x : X) → slice_get xs k ≡ Some x → k < length xs
within [] k x is = absurd (none-some x is)
within (y ∷ ys) zero x is = omega arith
within (y ∷ ys) (suc k) x is = let low = within ys k x is in omega (arith, low)

pub any_ok : {X E : Type 0} (r : Result X E) (P : X → Type 0) → ((x : X) → P x) → IfOk r P
any_ok (Ok x) P f = f x
any_ok (Err e) P f = tt
