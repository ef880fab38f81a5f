use Rattle.std.proofs.Common.{sym, ap, ◌∙◌, subst}
use Rattle.std.specs.Option.{is_some}
use Rattle.std.specs.List.{cons_option}
use Rattle.std.specs.List.Sorted.{IsStrictlySortedBy}
use Rattle.std.specs.Map.{keys_of}
use Rattle.ordered_table.proofs.Ordered.{nil_sorted, one_sorted}
use Rattle.ordered_table.proofs.row.Row.remove.Goals as goal

pub returns-then-is_eq-clause-ordered : goal.returns-then-is_eq-clause-ordered
returns-then-is_eq-clause-ordered g c =
    let empty = c.self.invariant (ap is_some (sym c.take.ensures.value ∙ c.in-Some.is)) in
    subst (λ es. IsStrictlySortedBy g.K.Ord.cmp (keys_of es)) (sym (ap (λ only. cons_option only c.self.inside.entries.entries) c.take.ensures.after ∙ empty)) (nil_sorted g.K.Ord.cmp)

pub returns-clause-ordered : goal.returns-clause-ordered
returns-clause-ordered g c =
    one_sorted g.K.Ord.cmp (c.in-Some.own, c.in-Some.value) c.self.inside.entries.entries (c.self.invariant (ap is_some (sym c.take.ensures.value ∙ c.in-Some.is)))
