use Rattle.std.proofs.Common.{take}
use Rattle.std.specs.List.{AllByRecursion}
use Rattle.dtdl_terms.specs.TermViews.{payload_term}
use Rattle.canon_text.specs.Identified.{PayloadIsIdentified}
use Rattle.canon_text.proofs.own_ids.+schemas.Given as goal

abbrev pub invariant-of_payloads-loop-payload : goal.invariant-of_payloads-loop-payload
invariant-of_payloads-loop-payload l = AllByRecursion (λ p. PayloadIsIdentified (payload_term p)) (take l.payload-index l.payloads)
