use Rattle.std.proofs.Common.{sym, ap, ◌∙◌}
use Rattle.std.specs.Option.{option_map}
use Rattle.model_life.specs.Models.{model_at}
use Rattle.model_life.proofs.Seen.{seen, seen_at}
use Rattle.model_life.proofs.models.Models.get.Goals as goal

pub returns : goal.returns
returns c =
    c.marked.ensures
    ∙ ap (option_map (seen c.self.inside.records)) c.get.ensures
    ∙ sym (seen_at c.args.id.now c.self.inside.set c.self.inside.records)
    ∙ ap (model_at c.args.id.now) c.self.view_is
