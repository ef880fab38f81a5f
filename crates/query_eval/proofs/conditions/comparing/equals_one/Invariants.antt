use Rattle.std.proofs.Common.{◌≡◌, drop}
use Rattle.graph_steps.specs.Conditions.{equals_one}
use Rattle.query_eval.specs.conditions.Machinery.Plain.{plain_value}
use Rattle.query_eval.proofs.conditions.comparing.equals_one.Given as goal

-- one is still looked for among those that follow
abbrev pub invariant-literals : goal.invariant-literals
invariant-literals l = equals_one l.literals (plain_value l.value) ≡ equals_one (drop l.literal-index l.literals) (plain_value l.value)
