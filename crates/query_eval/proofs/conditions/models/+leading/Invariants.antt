use Rattle.std.proofs.Common.{◌≡◌, ◌+◌, ◌*◌, drop}
use Rattle.query_eval.specs.conditions.Machinery.Within.{any_leads_within}
use Rattle.query_eval.proofs.conditions.models.+leading.Given as goal

abbrev pub decreases-leads : goal.decreases-leads
decreases-leads l = 3 * l.steps

abbrev pub decreases-any_leads : goal.decreases-any_leads
decreases-any_leads l = 3 * l.steps + 2

abbrev pub decreases-found_leads : goal.decreases-found_leads
decreases-found_leads l = 3 * l.steps + 1

-- one is still looked for from those that follow
abbrev pub invariant-any_leads-ids : goal.invariant-any_leads-ids
invariant-any_leads-ids l = any_leads_within l.set l.named l.fn.steps l.ids ≡ any_leads_within l.set l.named l.fn.steps (drop l.id-index l.ids)
