use Rattle.std.proofs.Common.{◌∙◌, true, refl}
use Rattle.ordered_table.proofs.Kept.{filter-all}
use Rattle.graph_steps.proofs.twins.ids.Ids.entries.Goals as goal

pub returns-clause-ids : goal.returns-clause-ids
returns-clause-ids c = c.range.ensures.between tt ∙ filter-all (λ _. true) (λ _. refl) c.self.inside.entries.entries ∙ c.self.view_is
