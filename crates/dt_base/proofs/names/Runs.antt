-- How a walk goes on by one byte.
use Rattle.std.proofs.Common.{◌≡◌, ℕ, ◌+◌, ◌-◌, ◌<◌, ◌≤◌, Bool, true, false, Option, Some, None, List, [], ◌∷◌, ◌++◌, length, get_or, take, refl, sym, ap, ◌∙◌, subst, arith, nat_le}
use Rattle.std.specs.Prelude.{MatchOption}
use Rattle.std.specs.Option.{option_and_then}
use Rattle.std.proofs.lemmas.List.{take_more, length-take}
use Rattle.std.proofs.lemmas.Bool.Decides.{nat_tests}
use Rattle.dt_base.specs.declared.names.walk.State.{State}
use Rattle.dt_base.specs.names.Machinery.Walking.{when, step, need, run, within, Lives}

pub run-append : (p : State) (xs ys : List ℕ) → run p (xs ++ ys) ≡ option_and_then (λ t. run t ys) (run p xs)
run-append p [] ys = refl
run-append p (x ∷ xs) ys =
    elim (step p x) as (λ o. option_and_then (λ t. run t (xs ++ ys)) o ≡ option_and_then (λ t. run t ys) (option_and_then (λ t. run t xs) o))
    [ None ↦ refl | Some q ↦ run-append q xs ys ]

and_then-Some : (o : Option State) → option_and_then (λ t. run t []) o ≡ o
and_then-Some None = refl
and_then-Some (Some p) = refl

pub run-more : (p q : State) (xs : List ℕ) (i : ℕ) → i < length xs → run p (take i xs) ≡ Some q → run p (take (i + 1) xs) ≡ step q (get_or xs i 0)
run-more p q xs i h e =
    ap (run p) (take_more xs i 0 h) ∙ run-append p (take i xs) (get_or xs i 0 ∷ [])
    ∙ ap (option_and_then (λ t. run t (get_or xs i 0 ∷ []))) e ∙ and_then-Some (step q (get_or xs i 0))

-- the state fits, as far as there is one
abbrev Fitting : ℕ → Option State → Type 0
Fitting room o = MatchOption o ⊥ (λ p. need p ≤ room)

when-Some : (b : Bool) (p q : State) → when b p ≡ Some q → (b ≡ true) × (p ≡ q)
when-Some true p q e = (refl, cc)
when-Some false p q e = cc

pub within-Some : (room : ℕ) (o : Option State) (q : State) → within room o ≡ Some q → (o ≡ Some q) × (need q ≤ room)
within-Some room None q e = cc
within-Some room (Some p) q e =
    let w = when-Some (nat_le (need p) room) p q e in
    (ap Some w.1, subst (λ (t : State). need t ≤ room) w.1 (grind (arith, nat_tests, w.0)))

when-None : (b : Bool) (p : State) → when b p ≡ None → b ≡ false
when-None true p e = cc
when-None false p e = refl

pub within-None : (room : ℕ) (o : Option State) → within room o ≡ None → Fitting room o → ⊥
within-None room None e h = h
within-None room (Some p) e h =
    let f = when-None (nat_le (need p) room) p e in grind (arith, nat_tests)

pub Lives-from : (p t : State) (bound : ℕ) (bytes : List ℕ) → run p bytes ≡ Some t → length bytes + need t ≤ bound → Lives p bound bytes
Lives-from p t bound bytes e h = subst (λ (o : Option State). MatchOption o ⊥ (λ q. length bytes + need q ≤ bound)) (sym e) h

-- what the loop keeps up to a byte, it keeps behind it
pub record Goes (start : State) (bound : ℕ) (bytes : List ℕ) (at : ℕ) (next : State) : Type 0 where
  pub here : run start (take (at + 1) bytes) ≡ Some next
  pub fits : at + 1 + need next ≤ bound
  pub lives : Lives start bound (take (at + 1) bytes)

pub goes : (start state next : State) (bound : ℕ) (bytes : List ℕ) (at : ℕ) → at < length bytes → length bytes ≤ bound → run start (take at bytes) ≡ Some state
    → within (bound - at - 1) (step state (get_or bytes at 0)) ≡ Some next → Goes start bound bytes at next
goes start state next bound bytes at inside room here there =
    let w = within-Some _ _ _ there in
    let e = run-more start state bytes at inside here ∙ w.0 in
    let k : at + 1 + need next ≤ bound = omega (arith, w.1) in
    record { here = e; fits = k; lives = Lives-from start next bound (take (at + 1) bytes) e (omega (arith, k, length-take (at + 1) bytes)) }

fitting-from : (o : Option State) (n bound room : ℕ) → n + room ≡ bound → MatchOption o ⊥ (λ p. n + need p ≤ bound) → Fitting room o
fitting-from None n bound room e h = h
fitting-from (Some p) n bound room e h = omega arith

pub stops : (start state : State) (bound : ℕ) (bytes : List ℕ) (at : ℕ) → at < length bytes → length bytes ≤ bound → run start (take at bytes) ≡ Some state
    → within (bound - at - 1) (step state (get_or bytes at 0)) ≡ None → Lives start bound (take (at + 1) bytes) → ⊥
stops start state bound bytes at inside room here there lives =
    let e = run-more start state bytes at inside here in
    let m = subst (λ (o : Option State). MatchOption o ⊥ (λ p. length (take (at + 1) bytes) + need p ≤ bound)) e lives in
    within-None _ _ there (fitting-from _ (length (take (at + 1) bytes)) bound _ (omega (arith, length-take (at + 1) bytes)) m)
