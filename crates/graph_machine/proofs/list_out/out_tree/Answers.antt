use Rattle.std.proofs.Common.{◌∙◌, [], ◌∷◌}
use Rattle.graph_steps.specs.States.{Link, link_value}
use Rattle.graph_steps.specs.held.Held.{link_of}
use Rattle.graph_machine.proofs.Pages.{rows_on_page}
use Rattle.graph_machine.proofs.Told.{weaker}
use Rattle.graph_machine.proofs.list_out.out_tree.Goals as goal

pub returns : goal.returns
returns c =
    weaker c.page_tree.result _ _ (λ tree h. h _ (c.in_ok-rows.ensures ∙ rows_on_page (λ (l : Link). l.id ∷ []) c.args.first.now) (c.in_ok-next.ensures (λ e. link_value (link_of e)))) c.page_tree.ensures.of_entries
