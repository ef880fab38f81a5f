use Rattle.std.proofs.Common.{◌∙◌, map, ap}
use Rattle.json_tree.specs.View.{view}
use Rattle.graph_asks.specs.Answers.{body}
use Rattle.graph_steps.specs.Pages.{on_page, token}
use Rattle.graph_steps.specs.held.Held.{state_of}
use Rattle.query_eval.specs.Entries.{entries_past}
use Rattle.query_terms.specs.Queries.{asked}
use Rattle.graph_machine.proofs.Told.{weaker}
use Rattle.graph_machine.proofs.machine.Machine.query_page.Goals as goal

pub returns : goal.returns
returns c =
    weaker c.page_tree.result _ _
    (λ tree h. ap (λ v. body v)
    (h (entries_past (state_of c.args.self.now) (asked c.args.query.now) c.args.after.now)
    (ap (map view) c.rows.view_is
    ∙ c.in_ok-rows.ensures.rows
    ∙ ap (λ after. map (λ e. e.1) (on_page (entries_past (state_of c.args.self.now) (asked c.args.query.now) after))) c.ids_of.ensures)
    (c.in_ok-rows.ensures.token ∙ ap (λ after. token (entries_past (state_of c.args.self.now) (asked c.args.query.now) after)) c.ids_of.ensures)))
    c.page_tree.ensures.of_entries
