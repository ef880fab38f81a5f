use Rattle.std.proofs.Common.{◌∙◌, IfSome, sym, ap, subst}
use Rattle.std.specs.Option.{option_map, option_copied}
use Rattle.graph_asks.specs.Answers.{body}
use Rattle.graph_asks.specs.declared.ask.Ask.TheVariants as asks
use Rattle.graph_steps.specs.bodies.Kept.{IsKeptLink}
use Rattle.graph_steps.specs.Steps.{Allows, Answers}
use Rattle.graph_steps.specs.held.Held.{state_of, link_of}
use Rattle.graph_machine.proofs.Links.{link_found, link_missing}
use Rattle.graph_machine.proofs.Told.{told}
use Rattle.graph_machine.proofs.machine.Machine.rel_of.Goals as goal

pub stored_tree-requires : goal.stored_tree-requires
stored_tree-requires c = subst (λ o. IfSome (option_copied o) (λ e. IsKeptLink (link_of e))) c.in-Some.is c.link.ensures.kept

pub returns-in_ok-stored_tree-in-Some : goal.returns-in_ok-stored_tree-in-Some
returns-in_ok-stored_tree-in-Some c = record {
  allowed = subst (λ v. Answers (state_of c.args.self.now) (asks.GetRel c.args.source.now c.args.id.now) (body v)) (sym c.in_ok-stored_tree-in-Some.ensures)
      (link_found (state_of c.args.self.now) c.args.source.now c.args.id.now (link_of c.in-Some.link.now) c.requires.there (ap (λ o. option_map link_of (option_copied o)) (sym c.in-Some.is) ∙ c.link.ensures.at));
}

pub returns-in-None : goal.returns-in-None
returns-in-None c = record {
  allowed = told c.link_not_found.result _ (Allows (state_of c.args.self.now) (asks.GetRel c.args.source.now c.args.id.now)) c.link_not_found.ensures
      (link_missing (state_of c.args.self.now) c.args.source.now c.args.id.now c.requires.there (ap (λ o. option_map link_of (option_copied o)) (sym c.in-None.is) ∙ c.link.ensures.at));
}
