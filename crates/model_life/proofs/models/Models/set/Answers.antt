use Rattle.std.proofs.Common.{sym, ap, ◌∙◌}
use Rattle.model_life.specs.Models.{interfaces_of}
use Rattle.model_life.proofs.Seen.{seen_all}
use Rattle.model_life.proofs.models.Models.set.Goals as goal

pub returns : goal.returns
returns c = sym (seen_all c.self.inside.set c.self.inside.records) ∙ ap interfaces_of c.self.view_is
