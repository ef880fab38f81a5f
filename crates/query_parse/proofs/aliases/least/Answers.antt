use Rattle.std.proofs.Common.{ℕ, ◌++◌, Option, sym, subst}
use Rattle.query_grammar.specs.Bindings.{IsLeastPlace}
use Rattle.query_parse.specs.Machinery.Reached.{LeastOf}
use Rattle.query_parse.proofs.Leasts.{least_both}
use Rattle.query_parse.proofs.aliases.least.Goals as goal

pub returns-in-Some-Some : goal.returns-in-Some-Some
returns-in-Some-Some c = λ xs ys p q.
    subst (λ (n : ℕ). IsLeastPlace (xs ++ ys) n) (sym c.lesser.ensures)
    (least_both xs ys c.in-Some-Some.one c.in-Some-Some.other
    (subst (λ (o : Option ℕ). LeastOf xs o) c.in-Some-Some.is-0 p) (subst (λ (o : Option ℕ). LeastOf ys o) c.in-Some-Some.is-1 q))
