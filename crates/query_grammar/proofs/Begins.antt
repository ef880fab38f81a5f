-- Tokens begin some query exactly where they lead to a state.
use Rattle.std.proofs.Common.{◌≡◌, List, [], ◌∷◌, ◌++◌, map, Option, Some, None, refl, sym, subst}
use Rattle.std.specs.Option.{option_and_then}
use Rattle.query_grammar.specs.declared.state.State.{State}
use Rattle.query_grammar.specs.declared.state.State.TheVariants as states
use Rattle.query_grammar.specs.Phrases.{Placed}
use Rattle.query_grammar.specs.Grammar.{IsQuery}
use Rattle.query_grammar.specs.Machinery.Steps.{step}
use Rattle.query_grammar.specs.Machinery.Remains.{Whole, Remains, Follows}
use Rattle.query_grammar.specs.Machinery.Runs.{state_behind}
use Rattle.query_grammar.proofs.Forward.{forward}
use Rattle.query_grammar.proofs.Backward.{backward}
use Rattle.query_grammar.proofs.Complete.{complete, placed}

same_state : (s u : State) → Some s ≡ Some u → s ≡ u
same_state s u e = cc

through_step : (o : Option State) (ts : List Placed) (u : State) (rest : List Placed) (w : Whole)
    → ((v : State) → state_behind v ts ≡ Some u → Remains v (ts ++ rest) w)
    → option_and_then (λ v. state_behind v ts) o ≡ Some u → Follows o (ts ++ rest) w
through_step None ts u rest w more e = absurd cc
through_step (Some v) ts u rest w more e = more v e

pub through : (ts : List Placed) (s u : State) (rest : List Placed) (w : Whole) → Remains u rest w → state_behind s ts ≡ Some u → Remains s (ts ++ rest) w
through [] s u rest w h e = subst (λ (x : State). Remains x rest w) (sym (same_state s u e)) h
through ((at, t) ∷ ts) s u rest w h e =
    backward s at t (ts ++ rest) w (through_step (step s at t) ts u rest w (λ v f. through ts v u rest w h f) e)

leads_step : (o : Option State) (ts rest : List Placed) (w : Whole)
    → ((v : State) → Remains v (ts ++ rest) w → (u : State) × (state_behind v ts ≡ Some u))
    → Follows o (ts ++ rest) w → (u : State) × (option_and_then (λ v. state_behind v ts) o ≡ Some u)
leads_step None ts rest w more h = absurd h
leads_step (Some v) ts rest w more h = more v h

leads : (ts : List Placed) (s : State) (rest : List Placed) (w : Whole) → Remains s (ts ++ rest) w → (u : State) × (state_behind s ts ≡ Some u)
leads [] s rest w h = (s, refl)
leads ((at, t) ∷ ts) s rest w h =
    leads_step (step s at t) ts rest w (λ v k. leads ts v rest w k) (forward s at t (ts ++ rest) w h)

pub begins : (ts : List Placed) → ((u : State) × (state_behind states.Start ts ≡ Some u)) → (rest : List Placed) × ((w : Whole) × IsQuery (ts ++ rest) w)
begins ts (u, e) =
    let live = complete u in
    (map placed live.rest, (live.whole, through ts states.Start u (map placed live.rest) live.whole live.remains e))

pub begun : (ts : List Placed) → ((rest : List Placed) × ((w : Whole) × IsQuery (ts ++ rest) w)) → (u : State) × (state_behind states.Start ts ≡ Some u)
begun ts (rest, (w, h)) = leads ts states.Start rest w h
