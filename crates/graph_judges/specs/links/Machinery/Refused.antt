-- The refusals of a relationship, a few at a time.
use Rattle.std.specs.Prelude.{◌≡◌, ℕ, Option, Result, Ok, Err, MatchOption}
use Rattle.json_tree.specs.Values.{Json}
use Rattle.dtdl_terms.specs.declared.interface.Interface.{Interface}
use Rattle.dtdl_terms.specs.declared.resolved.ResolvedContent.{ResolvedContent}
use Rattle.twin_value.specs.Breaches.{link_called}
use Rattle.graph_asks.specs.declared.refusal.Refusal.{Refusal}
use Rattle.graph_steps.specs.Inherited.{contents}
use Rattle.graph_steps.specs.LinkAsks.{WrongTarget, Multiplicity, LinkFull, with_link, with_payload}
use Rattle.graph_steps.specs.Refusals.{or_refuse}
use Rattle.graph_steps.specs.States.{State, Link, set_of}
use Rattle.graph_steps.specs.TwinAsks.{TwinNotFound}
use Rattle.graph_steps.specs.held.Judged.{Unrefused}

-- The refusal that there may be, or nothing is refused so.
abbrev pub TellsRefusal : (Refusal → Type 0) → Option Refusal → Type 0
TellsRefusal Refuses o = MatchOption o (Unrefused Refuses) Refuses

-- By what is declared of its name.
abbrev pub RefusesDeclared : State → Option ResolvedContent → Link → Refusal → Type 0
RefusesDeclared s c l = or_refuse (WrongTarget s c l.target) (Multiplicity s c l.source l.id l.name)

-- By that, and by the limits.
abbrev pub RefusesDeclaredOrFull : State → Option ResolvedContent → Link → Refusal → Type 0
RefusesDeclaredOrFull s c l = or_refuse (WrongTarget s c l.target) (or_refuse (Multiplicity s c l.source l.id l.name) (LinkFull (with_link l s) l))

-- By its target, and all behind that.
abbrev pub RefusesEnds : State → Interface → Link → Refusal → Type 0
RefusesEnds s i l = or_refuse (TwinNotFound s l.target) (RefusesDeclaredOrFull s (link_called l.name (contents (set_of s) i)) l)

-- The relationship is what a patched body makes of another one.
abbrev pub IsPatched : State → Interface → Link → Result Json ℕ → Link → Type 0
IsPatched s i l (Err index) new = ⊥
IsPatched s i l (Ok v) new = new ≡ with_payload s i v l
