-- The asks that are answered without memory where they are done.
use Rattle.graph_asks.specs.declared.ask.Ask.{Ask}
use Rattle.graph_asks.specs.declared.ask.Ask.TheVariants as asks

abbrev pub NeedsNoMemory : Ask → Type 0
NeedsNoMemory (asks.Mark id on) = Unit {0}
NeedsNoMemory (asks.DropModel id) = Unit {0}
NeedsNoMemory (asks.DropTwin id) = Unit {0}
NeedsNoMemory (asks.DropRel source id) = Unit {0}
NeedsNoMemory other = ⊥
