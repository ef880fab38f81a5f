use Rattle.std.proofs.Common.{ap, ◌∙◌}
use Rattle.dtdl_terms.specs.Sets.{keyed}
use Rattle.dtdl_terms.proofs.Keyed.{filter-every}
use Rattle.dtdl_terms.proofs.model_set.ModelSet.entries.Goals as goal

pub returns : goal.returns
returns c = c.range.ensures.between tt ∙ filter-every c.self.inside.interfaces.entries ∙ c.self.invariant.1 ∙ ap keyed c.self.view_is
