use Rattle.std.proofs.Common.{map, sym, ◌∙◌}
use Rattle.json_tree.specs.View.{view}
use Rattle.local_rules.proofs.Sameness.{value_compared}
use Rattle.local_rules.proofs.marks.EntryMarks.repeats_value.Goals as goal

pub returns-in-Some : goal.returns-in-Some
returns-in-Some c = c.repeats.ensures ∙ value_compared c.args.self.now.list c.in-Some.comparison (map view c.args.self.now.entries.now) c.args.at (sym c.in-Some.ensures)
