use Rattle.std.proofs.Common.{sym, ap, ◌∙◌}
use Rattle.std.specs.Option.{is_some}
use Rattle.std.proofs.lemmas.List.{nil_from_length}
use Rattle.ordered_table.proofs.Ordered.{one_sorted}
use Rattle.ordered_table.proofs.row.Row.insert.Goals as goal

pub returns-then-is_empty-clause-ordered : goal.returns-then-is_empty-clause-ordered
returns-then-is_empty-clause-ordered g c =
    one_sorted g.K.Ord.cmp (c.args.key, c.args.value) c.self.inside.entries.entries (nil_from_length c.self.inside.entries.entries (c.is_empty.ensures.0 c.if-is_empty.true))

pub returns-then-is_eq-clause-ordered : goal.returns-then-is_eq-clause-ordered
returns-then-is_eq-clause-ordered g c =
    one_sorted g.K.Ord.cmp (c.in-Some.own, c.args.value) c.self.inside.entries.entries (c.self.invariant (ap is_some (sym c.take.ensures.value ∙ c.in-Some.is)))

pub returns-in-Err-clause-ordered : goal.returns-in-Err-clause-ordered
returns-in-Err-clause-ordered g c =
    one_sorted g.K.Ord.cmp c.in-Err.failed.value c.insert-2.new.self.entries (c.in-Err.ensures.err ∙ c.self.invariant (ap is_some (sym c.take.ensures.value ∙ c.in-Some.is)))
