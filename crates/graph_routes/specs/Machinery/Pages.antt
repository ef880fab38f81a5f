-- Where pages begin, as it is read from a token.
use Rattle.std.specs.Prelude.{ℕ, List, Option}
use Rattle.graph_routes.specs.Parameters.{BeginsPastId, BeginsPastPair}
use Rattle.graph_routes.specs.declared.parameters.Page.{Page}
use Rattle.graph_routes.specs.declared.parameters.Page.TheVariants as pages
use Rattle.graph_routes.specs.declared.parameters.PairPage.{PairPage}
use Rattle.graph_routes.specs.declared.parameters.PairPage.TheVariants as pairs

abbrev pub ReadsPage : Option (List ℕ) → Page → Type 0
ReadsPage token (pages.Past after) = BeginsPastId token after
ReadsPage token pages.BadToken = (after : Option (List ℕ)) → BeginsPastId token after → ⊥

abbrev pub ReadsPairPage : Option (List ℕ) → PairPage → Type 0
ReadsPairPage token (pairs.Past after) = BeginsPastPair token after
ReadsPairPage token pairs.BadToken = (after : Option (List ℕ × List ℕ)) → BeginsPastPair token after → ⊥
