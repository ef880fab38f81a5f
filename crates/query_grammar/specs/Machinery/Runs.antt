-- Reading all tokens that remain.
use Rattle.std.specs.Prelude.{List, [], ◌∷◌, Option, Some}
use Rattle.std.specs.Option.{option_and_then}
use Rattle.query_grammar.specs.declared.state.State.{State}
use Rattle.query_grammar.specs.Phrases.{Placed}
use Rattle.query_grammar.specs.Machinery.Steps.{step, end}
use Rattle.query_grammar.specs.Machinery.Remains.{Whole}

-- What is asked for, where these are all the tokens that remain; nothing where a step gives no state, or none may end.
abbrev pub asked_by : State → List Placed → Option Whole
asked_by s [] = end s
asked_by s ((at, t) ∷ ts) = option_and_then (λ u. asked_by u ts) (step s at t)

-- The state behind tokens, if each of them may stand where it does.
abbrev pub state_behind : State → List Placed → Option State
state_behind s [] = Some s
state_behind s ((at, t) ∷ ts) = option_and_then (λ u. state_behind u ts) (step s at t)
