use Rattle.std.specs.Option.{option_copied}
use Rattle.graph_steps.proofs.twins.Nexts.{next-models}
use Rattle.graph_steps.proofs.twins.twins.Twins.model_after.Goals as goal

pub returns : goal.returns
returns c =
    next-models c.self.inside.twins.entries c.self.inside.index c.self.inside.len c.self.inside.bytes c.self.invariant c.args.self.now c.self.view_is (option_copied c.args.model)
    c.after.result (λ next. next.0.now) (λ next. next.1) c.after.ensures
