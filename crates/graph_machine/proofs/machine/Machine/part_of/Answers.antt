use Rattle.std.proofs.Common.{◌∙◌, Bor, sym, ap, subst}
use Rattle.std.specs.Option.{option_map}
use Rattle.json_tree.specs.View.{view}
use Rattle.json_tree.specs.declared.tree.Tree.{Tree}
use Rattle.json_tree.specs.Members.{value_in}
use Rattle.graph_asks.specs.Answers.{body}
use Rattle.graph_asks.specs.declared.ask.Ask.TheVariants as asks
use Rattle.graph_steps.specs.bodies.Kept.{twin_view}
use Rattle.graph_steps.specs.Steps.{Allows, Answers}
use Rattle.graph_steps.specs.held.Held.{state_of}
use Rattle.graph_machine.proofs.Told.{told}
use Rattle.graph_machine.proofs.Twins.{part_found, part_missing}
use Rattle.graph_machine.proofs.machine.Machine.part_of.Goals as goal

pub part_tree-requires : goal.part_tree-requires
part_tree-requires c = c.kept_part.ensures (twin_view c.args.twin.now) c.args.name.now (view c.in-Some.part.now) c.requires.kept
    (ap (λ n. value_in n (view c.args.twin.now.parts)) (sym c.as_str.ensures) ∙ sym c.value_in.ensures ∙ ap (option_map (λ (t : Bor Tree). view t.now)) c.in-Some.is)

pub returns-in_ok-part_tree-in-Some : goal.returns-in_ok-part_tree-in-Some
returns-in_ok-part_tree-in-Some c = record {
  allowed = subst (λ v. Answers (state_of c.args.self.now) (asks.GetPart c.args.id.now c.args.name.now) (body v)) (sym c.in_ok-part_tree-in-Some.ensures)
      (part_found (state_of c.args.self.now) c.args.id.now c.args.name.now (twin_view c.args.twin.now) (view c.in-Some.part.now) c.requires.there
      (ap (λ n. value_in n (view c.args.twin.now.parts)) (sym c.as_str.ensures) ∙ sym c.value_in.ensures ∙ ap (option_map (λ (t : Bor Tree). view t.now)) c.in-Some.is));
}

pub returns-in-None : goal.returns-in-None
returns-in-None c = record {
  allowed = told c.component_not_found.result _ (Allows (state_of c.args.self.now) (asks.GetPart c.args.id.now c.args.name.now)) c.component_not_found.ensures
      (part_missing (state_of c.args.self.now) c.args.id.now c.args.name.now (twin_view c.args.twin.now) c.requires.there
      (ap (λ n. value_in n (view c.args.twin.now.parts)) (sym c.as_str.ensures) ∙ sym c.value_in.ensures ∙ ap (option_map (λ (t : Bor Tree). view t.now)) c.in-None.is));
}
