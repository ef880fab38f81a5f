use Rattle.std.proofs.Common.{◌≡◌, Some, None, sym, ap, ◌∙◌, subst}
use Rattle.std.specs.Option.{option_copied_mut}
use Rattle.std.specs.Map.{lookup, set_value, remove_entry}
use Rattle.std.specs.BTreeMap.{is_at}
use Rattle.ordered_table.specs.Rows.{pair_cmp, flat}
use Rattle.ordered_table.proofs.Flat.{C, found, missed, remove-flat, remove-absent}
use Rattle.std.specs.Map.{keys_of, values_of}
use Rattle.std.specs.List.{All}
use Rattle.std.specs.List.Sorted.{IsStrictlySortedBy}
use Rattle.std.proofs.lemmas.Map.Views.{All-values-set_value}
use Rattle.ordered_table.proofs.Ordered.{sorted-flat}
use Rattle.ordered_table.proofs.table.Table.take.Goals as goal

pub returns-in_default-clause-value : goal.returns-in_default-clause-value
returns-in_default-clause-value g c =
    let looked : lookup (is_at (C c.args.at.now)) c.self.inside.rows.entries ≡ None = sym c.get_mut.ensures.value ∙ ap option_copied_mut c.in_default.is in
    missed g.K.Ord.cmp c.args.at.now c.args.key.now c.self.inside.rows.entries c.args.self.now c.self.invariant.0 c.self.view_is looked

pub returns-in_default-clause-entries : goal.returns-in_default-clause-entries
returns-in_default-clause-entries g c =
    let looked : lookup (is_at (C c.args.at.now)) c.self.inside.rows.entries ≡ None = sym c.get_mut.ensures.value ∙ ap option_copied_mut c.in_default.is in
    ap (λ rows. flat rows.entries) (c.get_mut.follows.holds-at-none)
    ∙ sym (remove-absent g.K.Ord.cmp c.args.at.now c.args.key.now c.self.inside.rows.entries looked)
    ∙ ap (remove_entry (is_at (pair_cmp g.K.Ord.cmp (c.args.at.now, c.args.key.now)))) c.self.view_is

pub returns-clause-value : goal.returns-clause-value
returns-clause-value g c =
    let looked : lookup (is_at (C c.args.at.now)) c.self.inside.rows.entries ≡ Some c.in-Some.row.now = sym c.get_mut.ensures.value ∙ ap option_copied_mut c.in-Some.is in
    c.remove-value.ensures.value ∙ found g.K.Ord.cmp c.args.at.now c.args.key.now c.self.inside.rows.entries c.in-Some.row.now c.args.self.now c.self.invariant.0 c.self.view_is looked

pub returns-clause-entries : goal.returns-clause-entries
returns-clause-entries g c =
    let looked : lookup (is_at (C c.args.at.now)) c.self.inside.rows.entries ≡ Some c.in-Some.row.now = sym c.get_mut.ensures.value ∙ ap option_copied_mut c.in-Some.is in
    ap flat ((c.get_mut.follows.holds c.remove-value.new.self).0 ∙ ap (set_value (is_at (C c.args.at.now)) c.self.inside.rows.entries) c.remove-value.ensures.entries)
    ∙ remove-flat g.K.Ord.cmp c.args.at.now c.args.key.now c.in-Some.row.now c.self.inside.rows.entries c.self.invariant.0 looked
    ∙ ap (remove_entry (is_at (pair_cmp g.K.Ord.cmp (c.args.at.now, c.args.key.now)))) c.self.view_is

pub returns-in_default-clause-ordered : goal.returns-in_default-clause-ordered
returns-in_default-clause-ordered g c =
    sorted-flat g.K.Ord.cmp c.self.inside.rows.entries c.args.self.now c.self.invariant.0 c.self.invariant.1 c.self.view_is

pub returns-clause-ordered : goal.returns-clause-ordered
returns-clause-ordered g c =
    sorted-flat g.K.Ord.cmp c.self.inside.rows.entries c.args.self.now c.self.invariant.0 c.self.invariant.1 c.self.view_is

pub invariant_of-self-2 : goal.invariant_of-self-2
invariant_of-self-2 g c =
    let written = c.get_mut.follows.holds c.remove-value.new.self in
    (written.4, subst (λ es. All (λ row. IsStrictlySortedBy g.K.Ord.cmp (keys_of row)) (values_of es)) (sym written.0) (All-values-set_value (is_at (C c.args.at.now)) (λ row. IsStrictlySortedBy g.K.Ord.cmp (keys_of row)) c.self.inside.rows.entries c.remove-value.new.self c.self.invariant.1 c.remove-value.ensures.ordered))
