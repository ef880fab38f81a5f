use Rattle.std.proofs.Common.{ℕ, List, subst}
use Rattle.json_tree.specs.Grammar.{Spells}
use Rattle.json_tree.specs.View.{view}
use Rattle.json_tree.specs.Printing.{printed}
use Rattle.json_read.proofs.laws.one_printed.Goals as goal

pub returns : goal.returns
returns c = λ nests more distinct other same.
    c.one_value.ensures (printed (view c.args.other.now)) (view c.args.one.now) (view c.args.other.now)
    (subst (λ (b : List ℕ). Spells b (view c.args.one.now)) same (c.reads_back.ensures nests distinct))
    (c.reads_back-2.ensures more other)
