use Rattle.std.proofs.Common.{◌∙◌, sym, ap}
use Rattle.std.specs.Prelude.{slice_get}
use Rattle.std.specs.List.{find}
use Rattle.std.specs.Option.{option_map, option_copied}
use Rattle.rel_graph.specs.Edges.{out_of}
use Rattle.graph_steps.specs.States.{is_end}
use Rattle.graph_steps.specs.held.Held.{state_of, link_of}
use Rattle.graph_machine.specs.Machinery.Least.{least_of}
use Rattle.graph_machine.proofs.Least.{least_first}
use Rattle.graph_steps.proofs.held.Viewed.{find-map}
use Rattle.graph_machine.proofs.machine.Machine.user_of.Goals as goal

pub returns : goal.returns
returns c =
    let es = c.self.inside.links in
    let id = c.args.id.now in
    ap (option_map link_of)
    (c.least_of.ensures
    ∙ ap (λ o. least_of o (option_copied c.first_of-into.result)) (c.first_of-out.ensures ∙ ap (λ l. slice_get l 0) c.out.ensures)
    ∙ ap (λ o. least_of (slice_get (out_of id es) 0) o) (c.first_of-into.ensures ∙ ap (λ l. slice_get l 0) c.into.ensures)
    ∙ sym (least_first id es c.len-many.ensures.ordered))
    ∙ sym (find-map link_of (is_end id) es)
    ∙ ap (λ g. find (is_end id) (state_of g).links) c.self.view_is
