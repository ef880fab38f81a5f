-- What states say of all the tokens that may remain.
use Rattle.std.proofs.Common.{◌≡◌, List, [], ◌∷◌, map, Option, Some, None, sym, ◌∙◌}
use Rattle.std.specs.Option.{option_and_then}
use Rattle.query_grammar.specs.declared.state.State.{State}
use Rattle.query_grammar.specs.declared.state.State.TheVariants as states
use Rattle.query_grammar.specs.Phrases.{Placed}
use Rattle.query_grammar.specs.Grammar.{IsQuery}
use Rattle.query_grammar.specs.Machinery.Steps.{step}
use Rattle.query_grammar.specs.Machinery.Remains.{Whole, Remains, Follows}
use Rattle.query_grammar.specs.Machinery.Runs.{asked_by}
use Rattle.query_grammar.proofs.Forward.{forward}
use Rattle.query_grammar.proofs.Backward.{backward}
use Rattle.query_grammar.proofs.Ends.{ends_forward, ends_backward}
use Rattle.query_grammar.proofs.Complete.{complete, placed}

same_whole : (w v : Whole) → Some w ≡ Some v → w ≡ v
same_whole w v e = cc

forward_behind : (o : Option State) (ts : List Placed) (w : Whole) → ((u : State) → Remains u ts w → asked_by u ts ≡ Some w)
    → Follows o ts w → option_and_then (λ u. asked_by u ts) o ≡ Some w
forward_behind None ts w more h = absurd h
forward_behind (Some u) ts w more h = more u h

run_forward : (ts : List Placed) (s : State) (w : Whole) → Remains s ts w → asked_by s ts ≡ Some w
run_forward [] s w h = ends_forward s w h
run_forward ((at, t) ∷ ts) s w h = forward_behind (step s at t) ts w (λ u k. run_forward ts u w k) (forward s at t ts w h)

backward_behind : (o : Option State) (ts : List Placed) (w : Whole) → ((u : State) → asked_by u ts ≡ Some w → Remains u ts w)
    → option_and_then (λ u. asked_by u ts) o ≡ Some w → Follows o ts w
backward_behind None ts w more e = absurd cc
backward_behind (Some u) ts w more e = more u e

run_backward : (ts : List Placed) (s : State) (w : Whole) → asked_by s ts ≡ Some w → Remains s ts w
run_backward [] s w e = ends_backward s w e
run_backward ((at, t) ∷ ts) s w e = backward s at t ts w (backward_behind (step s at t) ts w (λ u k. run_backward ts u w k) e)

pub one_query : (ts : List Placed) (w v : Whole) → IsQuery ts w → IsQuery ts v → w ≡ v
one_query ts w v h k = same_whole w v (sym (run_forward ts states.Start w h) ∙ run_forward ts states.Start v k)

pub query_forward : (ts : List Placed) (w : Whole) → IsQuery ts w → asked_by states.Start ts ≡ Some w
query_forward ts w h = run_forward ts states.Start w h

pub query_backward : (ts : List Placed) (w : Whole) → asked_by states.Start ts ≡ Some w → IsQuery ts w
query_backward ts w e = run_backward ts states.Start w e

pub goes_on : (s : State) → (ts : List Placed) × ((w : Whole) × Remains s ts w)
goes_on s = let live = complete s in (map placed live.rest, (live.whole, live.remains))
