use Rattle.std.proofs.Common.{ap, ◌∙◌}
use Rattle.std.specs.List.{find}
use Rattle.std.specs.Option.{option_map}
use Rattle.twin_value.specs.Named.{is_called}
use Rattle.twin_value.proofs.index.Index.get.Goals as goal

pub returns : goal.returns
returns g c =
    ap (option_map (λ x. x.now)) (c.copied.ensures ∙ c.get.ensures.value)
    ∙ (c.self.invariant c.if-self-le-FEW.false c.args.name.now
    ∙ ap (find (λ x. is_called c.args.name.now (g.T.Keyed.key_of x))) c.self.view_is)
