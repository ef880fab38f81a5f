use Rattle.std.proofs.Common.{rules, ◌≡◌, List, [], ◌∷◌, subst, ⊎_elim}
use Rattle.std.proofs.lemmas.Grind.{common_steps}
use Rattle.std.specs.Prelude.{Contains}
use Rattle.one_history.specs.declared.shared.Pass.{Pass}
use Rattle.one_history.specs.Passes.{IsPassOf}
use Rattle.one_history.proofs.Pairs.{one_of_two}
use Rattle.one_history.proofs.tests.close_two.Goals as goal

pub close-requires-clause-own : goal.close-requires-clause-own
close-requires-clause-own g c p h =
    let P : Type 0 = Pass g.row.O.Denot g.row.O-Ask.Denot g.row.O-Reply.Denot in
    let first : P = c.args.first in
    let second : P = c.args.second in
    let items : c.push-2.new.self.items ≡ first ∷ second ∷ [] = search (rules, common_steps) in
    ⊎_elim (λ (e : first ≡ p). subst (λ (z : P). IsPassOf c.args.shared z) e c.requires.own.0) (λ (e : second ≡ p). subst (λ (z : P). IsPassOf c.args.shared z) e c.requires.own.1)
    (one_of_two first second p (subst (λ (z : List P). Contains z p) items h))
