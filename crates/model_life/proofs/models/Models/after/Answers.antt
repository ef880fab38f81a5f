use Rattle.std.proofs.Common.{sym, ap, ◌∙◌}
use Rattle.std.specs.Option.{option_map, option_copied}
use Rattle.model_life.specs.Models.{next_model}
use Rattle.model_life.proofs.Seen.{seen, seen_next}
use Rattle.model_life.proofs.models.Models.after.Goals as goal

pub returns : goal.returns
returns c =
    c.marked.ensures
    ∙ ap (option_map (seen c.self.inside.records)) c.after.ensures
    ∙ sym (seen_next (option_copied c.args.id) c.self.inside.set c.self.inside.records)
    ∙ ap (next_model (option_copied c.args.id)) c.self.view_is
