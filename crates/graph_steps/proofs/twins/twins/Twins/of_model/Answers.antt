use Rattle.std.proofs.Common.{ap, ◌∙◌}
use Rattle.graph_steps.specs.twins.Machinery.Keeping.{twins_under}
use Rattle.graph_steps.proofs.twins.Listed.{listed-of_model}
use Rattle.graph_steps.proofs.twins.twins.Twins.of_model.Goals as goal

pub returns : goal.returns
returns c =
    ap (twins_under c.self.inside.twins.entries) c.row.ensures.ids
    ∙ listed-of_model c.self.inside.twins.entries c.self.inside.index c.self.inside.len c.self.inside.bytes c.self.invariant c.args.model.now c.row.ensures.ordered c.args.self.now c.self.view_is
