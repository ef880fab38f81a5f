use Rattle.json_tree.specs.View.{members_view}
use Rattle.local_faults.proofs.Tabled.{named_measured, unknown_measured}
use Rattle.local_faults.proofs.measures.measure_of_text.Goals as goal

pub returns-in-Some : goal.returns-in-Some
returns-in-Some c = named_measured (members_view c.args.names.now) c.args.table.now c.args.name.now c.in-Some.at c.measure_at.result
    (λ p. let off = c.if-is_primitive.ensures.1 p in cc) (let e = c.in-Some.ensures in cc) c.measure_at.ensures

pub returns-in-None : goal.returns-in-None
returns-in-None c = unknown_measured (members_view c.args.names.now) c.args.table.now c.args.name.now c.least-in-None.result
    (let e = c.in-None.ensures in cc) c.least-in-None.ensures.level c.least-in-None.ensures.reaches
