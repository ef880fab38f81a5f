use Rattle.std.proofs.Common.{take, []}
use Rattle.query_grammar.specs.Bindings.{repeats_behind}
use Rattle.query_parse.specs.Machinery.Reached.{LeastOf}
use Rattle.query_parse.proofs.aliases.first_repeat.Given as goal

abbrev pub invariant-names : goal.invariant-names
invariant-names l = LeastOf (repeats_behind [] (take l.position l.names)) l.found
