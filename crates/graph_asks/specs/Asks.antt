-- When two asks are one.
use Rattle.std.specs.Prelude.{◌≡◌}
use Rattle.json_tree.specs.View.{view}
use Rattle.query_terms.specs.Queries.{asked}
use Rattle.twin_patch.specs.Operations.{operations_of}
use Rattle.graph_asks.specs.declared.ask.Ask.{Ask}
use Rattle.graph_asks.specs.declared.ask.Ask.TheVariants as asks

-- They are equal, but for where a tree, a patch or a query lies in memory.
abbrev pub AreOneAsk : Ask → Ask → Type 0
AreOneAsk (asks.PutTwin id model body) (asks.PutTwin other another tree) = (id ≡ other) × (model ≡ another) × (view body ≡ view tree)
AreOneAsk (asks.PatchTwin id patch) (asks.PatchTwin other change) = (id ≡ other) × (operations_of patch.ops ≡ operations_of change.ops)
AreOneAsk (asks.PatchPart id name patch) (asks.PatchPart other named change) = (id ≡ other) × (name ≡ named) × (operations_of patch.ops ≡ operations_of change.ops)
AreOneAsk (asks.PutRel source id name target body) (asks.PutRel from other named to tree) =
    (source ≡ from) × (id ≡ other) × (name ≡ named) × (target ≡ to) × (view body ≡ view tree)
AreOneAsk (asks.PatchRel source id patch) (asks.PatchRel from other change) = (source ≡ from) × (id ≡ other) × (operations_of patch.ops ≡ operations_of change.ops)
AreOneAsk (asks.Query query after) (asks.Query other past) = (asked query ≡ asked other) × (after ≡ past)
AreOneAsk ask other = ask ≡ other
