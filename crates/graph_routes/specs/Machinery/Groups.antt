-- Which function writes the body of a refusal.
use Rattle.std.specs.Prelude.{ℕ}
use Rattle.graph_asks.specs.declared.refusal.Refusal.{Refusal}
use Rattle.graph_asks.specs.declared.refusal.Refusal.TheVariants as refusals

abbrev pub refusal_group : Refusal → ℕ
refusal_group refusals.NoRoute = 0
refusal_group (refusals.BadMethod allow) = 0
refusal_group refusals.BadHead = 0
refusal_group refusals.CutOff = 0
refusal_group refusals.TransferCoding = 0
refusal_group (refusals.BodyTooLong limit) = 0
refusal_group (refusals.BadId part) = 0
refusal_group refusals.BadToken = 0
refusal_group (refusals.TooManyModels limit) = 0
refusal_group (refusals.JsonFault place fault) = 1
refusal_group (refusals.ModelFault place fault) = 1
refusal_group (refusals.BodyFault place fault) = 1
refusal_group (refusals.QueryFault fault place) = 1
refusal_group (refusals.PatchFault fault index) = 1
refusal_group (refusals.IdDiffers given path) = 1
refusal_group (refusals.TwinInUse id source) = 1
refusal_group (refusals.DoesNotFit id source) = 1
refusal_group other = 2
