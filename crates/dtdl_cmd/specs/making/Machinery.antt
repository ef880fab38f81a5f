-- What contracts of private functions cite.
use Rattle.std.specs.Prelude.{◌≡◌}
use Rattle.graph_asks.specs.declared.ask.Ask.{Ask}
use Rattle.graph_asks.specs.declared.reply.Reply.{Reply}
use Rattle.graph_steps.specs.States.{State}
use Rattle.graph_steps.specs.Steps.{Allows, follows}

-- The graph is asked, and the first state leads to the other.
abbrev pub IsAskedOnce : State → Ask → State → Type 0
IsAskedOnce s ask t = (reply : Reply) × Allows s ask reply × (t ≡ follows s ask reply)
