use Rattle.std.proofs.Common.{◌≡◌, ◌∙◌, sym, refl}
use Rattle.graph_asks.specs.declared.ask.Ask.TheVariants as asks
use Rattle.graph_steps.specs.Steps.{Allows, follows}
use Rattle.graph_steps.specs.held.Held.{state_of}
use Rattle.graph_machine.proofs.Links.{link_dropped, no_link_to_drop, had_link}
use Rattle.graph_machine.proofs.Told.{told}
use Rattle.graph_machine.proofs.machine.Machine.drop_link.Goals as goal

pub returns-then-has_link-clause-allowed : goal.returns-then-has_link-clause-allowed
returns-then-has_link-clause-allowed c = link_dropped (state_of c.args.self.now) c.args.source.now c.args.id.now c.requires.there (sym c.has_link.ensures ∙ c.if-has_link.true)

pub returns-clause-allowed : goal.returns-clause-allowed
returns-clause-allowed c =
    told c.link_not_found.result _ (Allows (state_of c.args.self.now) (asks.DropRel c.args.source.now c.args.id.now)) c.link_not_found.ensures
    (no_link_to_drop (state_of c.args.self.now) c.args.source.now c.args.id.now c.requires.there (sym c.has_link.ensures ∙ c.if-has_link.false))

pub returns-clause-follows : goal.returns-clause-follows
returns-clause-follows c =
    told c.link_not_found.result _ (λ reply. state_of c.args.self.now ≡ follows (state_of c.args.self.now) (asks.DropRel c.args.source.now c.args.id.now) reply) c.link_not_found.ensures refl

pub returns-clause-free : goal.returns-clause-free
returns-clause-free c = λ told_done. absurd (had_link (state_of c.args.self.now) c.args.source.now c.args.id.now told_done c.requires.there (sym c.has_link.ensures ∙ c.if-has_link.false))
