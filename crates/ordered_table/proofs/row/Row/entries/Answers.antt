use Rattle.std.proofs.Common.{◌∙◌, true, refl, ap}
use Rattle.std.specs.List.{cons_option}
use Rattle.ordered_table.proofs.Kept.{filter-all}
use Rattle.ordered_table.proofs.row.Row.entries.Goals as goal

pub returns : goal.returns
returns g c =
    ap (λ only. cons_option only c.range.result) c.lent.ensures
    ∙ ap (cons_option c.self.inside.only) (c.range.ensures.between tt ∙ filter-all (λ _. true) (λ _. refl) c.self.inside.entries.entries)
    ∙ c.self.view_is
