use Rattle.std.proofs.Common.{is_some, ap, ◌∙◌}
use Rattle.dtdl_terms.specs.Sets.{interface_at}
use Rattle.model_life.proofs.resolution.Families.{found_some}
use Rattle.model_life.proofs.resolution.found.Found.has.Goals as goal

pub returns : goal.returns
returns c =
    c.contains_key.ensures
    ∙ found_some c.self.inside.by_id.entries c.self.invariant.1 c.args.id.now
    ∙ ap (λ is. is_some (interface_at c.args.id.now is)) c.self.view_is
