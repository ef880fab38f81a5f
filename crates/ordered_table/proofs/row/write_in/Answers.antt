use Rattle.std.proofs.Common.{◌≡◌, sym, ap, ◌∙◌, None}
use Rattle.std.specs.Option.{option_copied_mut}
use Rattle.std.specs.Map.{lookup}
use Rattle.std.specs.BTreeMap.{is_at}
use Rattle.ordered_table.proofs.Ordered.{set-absent}
use Rattle.ordered_table.proofs.row.write_in.Goals as goal

pub returns-in_default-clause-entries : goal.returns-in_default-clause-entries
returns-in_default-clause-entries g c =
    let none : lookup (is_at (g.K.Ord.cmp c.args.key.now)) c.args.entries.now.entries ≡ None = sym c.get_mut.ensures.value ∙ ap option_copied_mut c.in_default.is in
    ap (λ m. m.entries) c.get_mut.follows.holds-at-none
    ∙ sym (set-absent (is_at (g.K.Ord.cmp c.args.key.now)) c.args.entries.now.entries c.args.value none)
