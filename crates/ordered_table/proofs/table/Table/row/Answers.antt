use Rattle.std.proofs.Common.{◌≡◌, Some, None, sym, ap, ◌∙◌}
use Rattle.std.specs.Option.{option_copied}
use Rattle.std.specs.Map.{lookup}
use Rattle.std.specs.BTreeMap.{is_at}
use Rattle.ordered_table.proofs.Flat.{C}
use Rattle.ordered_table.proofs.Ordered.{sorted-flat, row_found, row_missed}
use Rattle.ordered_table.proofs.table.Table.row.Goals as goal

pub returns-in-Some-clause-rest : goal.returns-in-Some-clause-rest
returns-in-Some-clause-rest g c =
    let looked : lookup (is_at (C c.args.at.now)) c.self.inside.rows.entries ≡ Some c.in-Some.row.now = sym c.get.ensures.value ∙ ap option_copied c.in-Some.is in
    c.entries.ensures ∙ row_found g.K.Ord.cmp c.args.at.now c.in-Some.row.now c.self.inside.rows.entries c.args.self.now c.self.invariant.0 c.self.view_is looked

pub returns-in-Some-clause-ordered : goal.returns-in-Some-clause-ordered
returns-in-Some-clause-ordered g c =
    sorted-flat g.K.Ord.cmp c.self.inside.rows.entries c.args.self.now c.self.invariant.0 c.self.invariant.1 c.self.view_is

pub returns-in-None-clause-rest : goal.returns-in-None-clause-rest
returns-in-None-clause-rest g c =
    let looked : lookup (is_at (C c.args.at.now)) c.self.inside.rows.entries ≡ None = sym c.get.ensures.value ∙ ap option_copied c.in-None.is in
    row_missed c.args.at.now c.self.inside.rows.entries c.args.self.now c.self.view_is looked

pub returns-in-None-clause-ordered : goal.returns-in-None-clause-ordered
returns-in-None-clause-ordered g c =
    sorted-flat g.K.Ord.cmp c.self.inside.rows.entries c.args.self.now c.self.invariant.0 c.self.invariant.1 c.self.view_is
