use Rattle.std.proofs.Common.{sym, ap, ◌∙◌, subst}
use Rattle.ordered_table.specs.Rows.{flat}
use Rattle.ordered_table.proofs.Flat.{close-flat}
use Rattle.std.specs.Map.{keys_of, values_of}
use Rattle.std.specs.List.{All}
use Rattle.std.specs.List.Sorted.{IsStrictlySortedBy}
use Rattle.std.proofs.lemmas.Map.Views.{All-map-remove_entry}
use Rattle.ordered_table.proofs.table.Table.close.Goals as goal

pub returns-then-is_hollow : goal.returns-then-is_hollow
returns-then-is_hollow g c =
    ap flat c.give_up.ensures.entries
    ∙ close-flat g.K.Ord.cmp c.args.at.now c.self.inside.rows.entries (c.is_hollow.ensures c.if-is_hollow.true)
    ∙ c.self.view_is

pub invariant_of-self : goal.invariant_of-self
invariant_of-self g c =
    (c.give_up.ensures.ordered, subst (λ es. All (λ row. IsStrictlySortedBy g.K.Ord.cmp (keys_of row)) (values_of es)) (sym c.give_up.ensures.entries) (All-map-remove_entry _ (λ e. e.1) (λ row. IsStrictlySortedBy g.K.Ord.cmp (keys_of row)) c.self.inside.rows.entries c.self.invariant.1))
