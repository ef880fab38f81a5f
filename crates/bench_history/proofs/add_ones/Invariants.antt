use Rattle.one_history.specs.Passes.{IsPassOf}
use Rattle.bench_history.proofs.add_ones.Given as goal

abbrev pub invariant-loop : goal.invariant-loop
invariant-loop g l = IsPassOf l.shared l.pass
