use Rattle.std.proofs.Common.{◌≡◌, ◌+◌, ◌*◌, drop}
use Rattle.extend_resolve.specs.Machinery.Within.{any_within}
use Rattle.extend_resolve.proofs.ancestry.+reaching.Given as goal

abbrev pub decreases-reaches : goal.decreases-reaches
decreases-reaches l = 3 * l.steps

abbrev pub decreases-any_reaches : goal.decreases-any_reaches
decreases-any_reaches l = 3 * l.steps + 2

abbrev pub decreases-found_reaches : goal.decreases-found_reaches
decreases-found_reaches l = 3 * l.steps + 1

-- one is still looked for from those that follow
abbrev pub invariant-any_reaches-ids : goal.invariant-any_reaches-ids
invariant-any_reaches-ids l = any_within l.set l.ancestor l.fn.steps l.ids ≡ any_within l.set l.ancestor l.fn.steps (drop l.id-index l.ids)
