use Rattle.std.proofs.Common.{◌≡◌, Some, None, sym, ap, ◌∙◌}
use Rattle.std.specs.Option.{option_copied}
use Rattle.std.specs.Map.{lookup}
use Rattle.std.specs.BTreeMap.{is_at}
use Rattle.ordered_table.proofs.Flat.{C, found, missed}
use Rattle.ordered_table.proofs.table.Table.get.Goals as goal

pub returns-in-Some : goal.returns-in-Some
returns-in-Some g c =
    let looked : lookup (is_at (C c.args.at.now)) c.self.inside.rows.entries ≡ Some c.in-Some.row.now = sym c.get.ensures.value ∙ ap option_copied c.in-Some.is in
    c.get-in-Some.ensures ∙ found g.K.Ord.cmp c.args.at.now c.args.key.now c.self.inside.rows.entries c.in-Some.row.now c.args.self.now c.self.invariant.0 c.self.view_is looked

pub returns-in-None : goal.returns-in-None
returns-in-None g c =
    let looked : lookup (is_at (C c.args.at.now)) c.self.inside.rows.entries ≡ None = sym c.get.ensures.value ∙ ap option_copied c.in-None.is in
    missed g.K.Ord.cmp c.args.at.now c.args.key.now c.self.inside.rows.entries c.args.self.now c.self.invariant.0 c.self.view_is looked
