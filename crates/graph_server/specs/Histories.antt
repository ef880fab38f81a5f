-- Histories in which every state is well typed.
use Rattle.std.specs.Prelude.{List, [], ◌∷◌}
use Rattle.graph_steps.specs.States.{State}
use Rattle.graph_steps.specs.Typed.{WellTyped}
use Rattle.graph_steps.specs.invariants.Frozen.{FrozenStay}
use Rattle.graph_server.specs.Entries.{Entry, follows_entry}

-- From the first state to the last that the entries lead to each one is well typed, and through each entry the twins that it
-- finds frozen stay as they are, unless the ask drops them.
abbrev pub IsTypedHistory : State → List Entry → Type 0
IsTypedHistory s [] = WellTyped s
IsTypedHistory s (e ∷ es) = WellTyped s × FrozenStay s e.ask (follows_entry s e) × IsTypedHistory (follows_entry s e) es
