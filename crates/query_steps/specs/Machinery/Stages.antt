-- Which part of a query a state stands in. It ties the functions for the parts to the whole step.
use Rattle.query_grammar.specs.declared.state.State.{State}
use Rattle.query_grammar.specs.declared.state.State.TheVariants as states
use Rattle.query_steps.specs.declared.stage.Stage.{Stage}
use Rattle.query_steps.specs.declared.stage.Stage.TheVariants as stages

abbrev pub stage : State → Stage
stage states.Start = stages.Selecting
stage states.Select = stages.Selecting
stage states.CountOpen = stages.Selecting
stage states.CountClose = stages.Selecting
stage states.TopOpen = stages.Selecting
stage states.TopNumber = stages.Selecting
stage (states.TopClose size) = stages.Selecting
stage (states.BehindTop size) = stages.Selecting
stage (states.BehindSelect n p) = stages.Selecting
stage (states.ItemStart n top items) = stages.Items
stage (states.ItemPath n top items path last) = stages.Items
stage (states.ItemField n top items path) = stages.Items
stage (states.ItemAs n top items path) = stages.Items
stage (states.BehindItem n top items) = stages.Items
stage (states.Source n p) = stages.Sourcing
stage (states.RelationshipsAlias n p) = stages.Sourcing
stage (states.BehindRelationships n h) = stages.Sourcing
stage (states.TwinsAlias n p) = stages.Sourcing
stage (states.BehindTwins n h) = stages.Sourcing
stage (states.JoinTarget n h) = stages.Joining
stage (states.JoinRelated n h target) = stages.Joining
stage (states.JoinSource n h target) = stages.Joining
stage (states.JoinDot n h target source) = stages.Joining
stage (states.JoinName n h target source) = stages.Joining
stage (states.JoinAlias n h target source name) = stages.Joining
stage (states.Factor n a) = stages.Operands
stage (states.Operand n a goal) = stages.Operands
stage (states.Path n a goal path) = stages.Paths
stage (states.Field n a goal path) = stages.Paths
stage (states.Behind n a goal operand) = stages.Operands
stage (states.FunctionOpen n a goal) = stages.Lists
stage (states.ListOpen n a operand within) = stages.Lists
stage (states.ListItem n a operand within literals) = stages.Lists
stage (states.BehindListItem n a operand within literals) = stages.Lists
stage (states.BehindFactor n h before built chains room) = stages.Lists
stage (states.ModelOpen n a spot) = stages.Model
stage (states.ModelStart n a spot) = stages.Model
stage (states.ModelComma n a twin) = stages.Model
stage (states.ModelText n a twin) = stages.Model
stage (states.BehindModel n a twin model) = stages.Model
stage (states.Exact n a twin model) = stages.Model
stage (states.ModelClose n a twin model) = stages.Model
