use Rattle.std.proofs.Common.{List, [], subst}
use Rattle.query_grammar.specs.Phrases.{PlacedName}
use Rattle.query_grammar.specs.Bindings.{repeats_behind}
use Rattle.query_parse.specs.Machinery.Reached.{LeastOf}
use Rattle.query_parse.proofs.aliases.twice.Goals as goal

pub returns : goal.returns
returns c =
    let p = subst (λ (l : List PlacedName). LeastOf (repeats_behind [] l) c.first_repeat.result) c.as_slice.ensures c.first_repeat.ensures in
    let q = subst (λ (l : List PlacedName). LeastOf (repeats_behind [] l) c.first_repeat-2.result) c.as_slice-2.ensures c.first_repeat-2.ensures in
    c.least.ensures _ _ p q
