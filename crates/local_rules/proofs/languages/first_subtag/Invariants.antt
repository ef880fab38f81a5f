use Rattle.std.proofs.Common.{◌≡◌, eqb, false, take, All}
use Rattle.local_rules.proofs.languages.first_subtag.Given as goal

-- no byte so far is a hyphen
abbrev pub invariant-loop-at : goal.invariant-loop-at
invariant-loop-at l = All (λ b. eqb b 45 ≡ false) (take l.at l.bytes)
