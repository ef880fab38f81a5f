-- What a step does to twins that it finds frozen.
use Rattle.std.proofs.Common.{◌≡◌, Result, Ok, Err, IfOk, sym, subst}
use Rattle.graph_asks.specs.Answers.{Answer, answer_of}
use Rattle.graph_asks.specs.declared.ask.Ask.{Ask}
use Rattle.graph_asks.specs.declared.reply.Reply.{Reply}
use Rattle.graph_steps.specs.invariants.Frozen.{FrozenStay}
use Rattle.graph_steps.specs.States.{State}
use Rattle.graph_steps.specs.Steps.{Allows, Answers, followed, follows}
use Rattle.graph_steps.specs.Typed.{WellTyped}

-- the law of the definitions
abbrev StayFrozen : Type 0
StayFrozen = (s : State) (ask : Ask) (answer : Answer) → WellTyped s → Answers s ask answer → FrozenStay s ask (followed s ask answer)

pub frozen_by : {E : Type 0} (r : Result Reply E) (s next : State) (ask : Ask) → WellTyped s → StayFrozen → IfOk r (Allows s ask)
    → IfOk r (λ reply. next ≡ follows s ask reply) → IfOk r (λ _. FrozenStay s ask next)
frozen_by (Ok reply) s next ask typed law allowed is = subst (FrozenStay s ask) (sym is) (law s ask (answer_of reply) typed allowed)
frozen_by (Err e) s next ask typed law allowed is = tt
