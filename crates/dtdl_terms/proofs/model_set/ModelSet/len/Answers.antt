use Rattle.std.proofs.Common.{ap, ◌∙◌}
use Rattle.dtdl_terms.specs.Sets.{keyed}
use Rattle.dtdl_terms.proofs.Keyed.{ordered-keyed}
use Rattle.dtdl_terms.proofs.model_set.ModelSet.len.Goals as goal

pub returns-clause-ordered : goal.returns-clause-ordered
returns-clause-ordered c = ordered-keyed c.self.inside.interfaces.entries c.args.self.now (c.self.invariant.1 ∙ ap keyed c.self.view_is) c.self.invariant.0
