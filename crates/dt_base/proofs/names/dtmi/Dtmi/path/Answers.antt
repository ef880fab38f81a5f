use Rattle.std.specs.String.{string_bytes}
use Rattle.dt_base.proofs.names.Cuts.{path_value, path_parts}
use Rattle.dt_base.proofs.names.dtmi.Dtmi.path.Goals as goal

pub returns-clause-value : goal.returns-clause-value
returns-clause-value c =
    path_value (string_bytes c.self.inside.text) _ c.self.inside.path_end c.self.inside.version c.args.self.now
    c.self.invariant.from c.as_bytes.ensures.value c.self.view_is

pub returns-clause-parts : goal.returns-clause-parts
returns-clause-parts c =
    path_parts (string_bytes c.self.inside.text) _ c.self.inside.path_end c.self.inside.version c.args.self.now
    c.self.invariant.from c.as_bytes.ensures.value c.self.view_is
