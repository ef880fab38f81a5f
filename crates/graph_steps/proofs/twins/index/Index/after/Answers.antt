use Rattle.std.proofs.Common.{subst}
use Rattle.std.specs.Option.{option_copied}
use Rattle.graph_steps.specs.twins.Machinery.Rows.{HasNoIdsPast, IsNextRow}
use Rattle.graph_steps.proofs.twins.Nexts.{none-past, first-past}
use Rattle.graph_steps.proofs.twins.index.Index.after.Goals as goal

pub returns-in-Some : goal.returns-in-Some
returns-in-Some c =
    subst (λ rows. IsNextRow (option_copied c.args.model) rows c.in-Some.least.now c.len.result) c.self.view_is
    (first-past (option_copied c.args.model) c.self.inside.rows.entries c.in-Some.least.now c.in-Some.ids.now c.len.result c.self.invariant c.in-Some.ensures c.len.ensures.len c.len.ensures.ordered)

pub returns-in-None : goal.returns-in-None
returns-in-None c =
    subst (HasNoIdsPast (option_copied c.args.model)) c.self.view_is (none-past (option_copied c.args.model) c.self.inside.rows.entries c.in-None.ensures)
