-- Which function copies a refusal, or an ask.
use Rattle.std.specs.Prelude.{ℕ}
use Rattle.graph_asks.specs.declared.refusal.Refusal.{Refusal}
use Rattle.graph_asks.specs.declared.refusal.Refusal.TheVariants as refusals
use Rattle.graph_asks.specs.declared.ask.Ask.{Ask}
use Rattle.graph_asks.specs.declared.ask.Ask.TheVariants as asks

abbrev pub group_of : Refusal → ℕ
group_of refusals.NoRoute = 0
group_of (refusals.BadMethod allow) = 0
group_of refusals.BadHead = 0
group_of refusals.CutOff = 0
group_of refusals.TransferCoding = 0
group_of (refusals.BodyTooLong limit) = 0
group_of (refusals.BadId part) = 0
group_of refusals.BadToken = 0
group_of (refusals.JsonFault at fault) = 0
group_of (refusals.TooManyModels limit) = 1
group_of (refusals.ModelFault at fault) = 1
group_of (refusals.PatchFault fault index) = 1
group_of (refusals.BodyFault at fault) = 1
group_of (refusals.IdDiffers given path) = 1
group_of (refusals.QueryFault fault at) = 1
group_of (refusals.ModelNotFound id) = 1
group_of (refusals.TwinNotFound id) = 1
group_of (refusals.RelationshipNotFound id) = 1
group_of (refusals.ComponentNotFound id) = 1
group_of other = 2

abbrev pub ask_group : Ask → ℕ
ask_group (asks.PutModels models) = 0
ask_group (asks.GetModel id) = 0
ask_group asks.ListModels = 0
ask_group (asks.Mark id on) = 0
ask_group (asks.DropModel id) = 0
ask_group asks.Canon = 0
ask_group (asks.PutTwin id model body) = 0
ask_group (asks.GetTwin id) = 0
ask_group (asks.PatchTwin id patch) = 0
ask_group (asks.DropTwin id) = 0
ask_group other = 1
