use Rattle.std.proofs.Common.{◌≡◌, ◌-◌}
use Rattle.query_grammar.specs.Machinery.Steps.{negations}
use Rattle.query_steps.proofs.building.negated.Given as goal

-- the NOTs that are left lead to the same
abbrev pub invariant-nots : goal.invariant-nots
invariant-nots l = negations (l.nots - l._count) l.built ≡ negations l.nots l.fn.built
