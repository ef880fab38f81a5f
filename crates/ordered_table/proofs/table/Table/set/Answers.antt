use Rattle.std.proofs.Common.{◌≡◌, ap, ◌∙◌, None, Some, sym, subst}
use Rattle.std.specs.Option.{option_copied_mut}
use Rattle.ordered_table.specs.Rows.{flat, pair_cmp}
use Rattle.std.specs.BTreeMap.{is_at}
use Rattle.ordered_table.proofs.Flat.{C, set-flat, missed}
use Rattle.std.specs.Map.{keys_of, values_of, lookup, set_value}
use Rattle.std.specs.List.{All}
use Rattle.std.specs.List.Sorted.{IsStrictlySortedBy}
use Rattle.std.proofs.lemmas.Map.Views.{All-values-set_value}
use Rattle.ordered_table.proofs.Ordered.{set-absent}
use Rattle.ordered_table.proofs.table.Table.set.Goals as goal

pub invariant_of-self-2 : goal.invariant_of-self-2
invariant_of-self-2 g c =
    let written = c.get_mut.follows.holds c.set.new.self in
    (written.4, subst (λ es. All (λ row. IsStrictlySortedBy g.K.Ord.cmp (keys_of row)) (values_of es)) (sym written.0) (All-values-set_value (is_at (C c.args.at.now)) (λ row. IsStrictlySortedBy g.K.Ord.cmp (keys_of row)) c.self.inside.rows.entries c.set.new.self c.self.invariant.1 c.set.ensures.ordered))

pub returns-in_default : goal.returns-in_default
returns-in_default g c =
    let looked : lookup (is_at (C c.args.at.now)) c.self.inside.rows.entries ≡ None = sym c.get_mut.ensures.value ∙ ap option_copied_mut c.in_default.is in
    ap (λ rows. flat rows.entries) (c.get_mut.follows.holds-at-none)
    ∙ c.self.view_is
    ∙ sym (set-absent (is_at (pair_cmp g.K.Ord.cmp (c.args.at.now, c.args.key.now))) c.args.self.now c.args.value (sym (missed g.K.Ord.cmp c.args.at.now c.args.key.now c.self.inside.rows.entries c.args.self.now c.self.invariant.0 c.self.view_is looked)))

pub returns : goal.returns
returns g c =
    let looked : lookup (is_at (C c.args.at.now)) c.self.inside.rows.entries ≡ Some c.in-Some.row.now = sym c.get_mut.ensures.value ∙ ap option_copied_mut c.in-Some.is in
    ap flat ((c.get_mut.follows.holds c.set.new.self).0 ∙ ap (set_value (is_at (C c.args.at.now)) c.self.inside.rows.entries) c.set.ensures.entries)
    ∙ set-flat g.K.Ord.cmp c.args.at.now c.args.key.now c.args.value c.in-Some.row.now c.self.inside.rows.entries c.self.invariant.0 looked
    ∙ ap (λ es. set_value (is_at (pair_cmp g.K.Ord.cmp (c.args.at.now, c.args.key.now))) es c.args.value) c.self.view_is
