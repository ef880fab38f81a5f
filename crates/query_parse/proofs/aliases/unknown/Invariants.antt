use Rattle.std.proofs.Common.{take}
use Rattle.query_terms.specs.Queries.{asked}
use Rattle.query_grammar.specs.Bindings.{unbound_uses}
use Rattle.query_parse.specs.Machinery.Reached.{LeastOf}
use Rattle.query_parse.proofs.aliases.unknown.Given as goal

abbrev pub invariant-uses : goal.invariant-uses
invariant-uses l = LeastOf (unbound_uses (asked l.query) l.notes.aliases (take l.used-index l.notes.uses)) l.found
