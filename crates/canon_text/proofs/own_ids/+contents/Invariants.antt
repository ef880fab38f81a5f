use Rattle.std.proofs.Common.{take}
use Rattle.std.specs.List.{AllByRecursion}
use Rattle.dtdl_terms.specs.TermViews.{content_term}
use Rattle.canon_text.specs.Identified.{ContentIsIdentified}
use Rattle.canon_text.proofs.own_ids.+contents.Given as goal

abbrev pub invariant-of_contents-loop-content : goal.invariant-of_contents-loop-content
invariant-of_contents-loop-content l = AllByRecursion (λ c. ContentIsIdentified (content_term c)) (take l.content-index l.contents)
