use Rattle.one_history.specs.Passes.{IsPassOf, IsSamePass}
use Rattle.one_history.proofs.tests.add_ones.Given as goal

abbrev pub invariant-loop : goal.invariant-loop
invariant-loop g l = IsPassOf l.shared l.pass × IsSamePass l.initial.pass l.pass
