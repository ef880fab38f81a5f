-- The step of the typed graph: for each ask what it is refused for, in order, what it is answered, and the state that
-- follows.
use Rattle.std.specs.Prelude.{◌≡◌, ◌⊎◌}
use Rattle.json_tree.specs.View.{view}
use Rattle.query_terms.specs.Queries.{asked}
use Rattle.twin_patch.specs.Operations.{operations_of}
use Rattle.graph_asks.specs.Answers.{Answer, done, refused, answer_of}
use Rattle.graph_asks.specs.declared.ask.Ask.{Ask}
use Rattle.graph_asks.specs.declared.ask.Ask.TheVariants as asks
use Rattle.graph_asks.specs.declared.refusal.Refusal.{Refusal}
use Rattle.graph_asks.specs.declared.reply.Reply.{Reply}
use Rattle.graph_steps.specs.Refusals.{never}
use Rattle.graph_steps.specs.States.{State, without_twin}
use Rattle.graph_steps.specs.ModelAsks.{RefusesPutModels, ModelNotFound, RefusesDropModel, GivesModel, created_models, listed_models, canonical_models, after_uploads, after_mark, after_drop}
use Rattle.graph_steps.specs.TwinAsks.{TwinNotFound, RefusesPutTwin, RefusesPatchTwin, RefusesDropTwin, RefusesGetPart, RefusesPatchPart, GivesTwin, GivesPart, after_put_twin, after_patch_twin, after_patch_part}
use Rattle.graph_steps.specs.LinkAsks.{LinkNotFound, RefusesPutRel, RefusesPatchRel, GivesLink, after_put_rel, after_patch_rel, after_drop_rel}
use Rattle.graph_steps.specs.ListAsks.{listed_out, listed_in}
use Rattle.graph_steps.specs.QueryAsks.{answer_page}

-- An ask is refused in a state for this.
abbrev pub Refuses : State → Ask → Refusal → Type 0
Refuses s (asks.PutModels models) = RefusesPutModels s models
Refuses s (asks.GetModel id) = ModelNotFound s id
Refuses s asks.ListModels = never
Refuses s (asks.Mark id on) = ModelNotFound s id
Refuses s (asks.DropModel id) = RefusesDropModel s id
Refuses s asks.Canon = never
Refuses s (asks.PutTwin id model tree) = RefusesPutTwin s id model (view tree)
Refuses s (asks.GetTwin id) = TwinNotFound s id
Refuses s (asks.PatchTwin id patch) = RefusesPatchTwin s id (operations_of patch.ops)
Refuses s (asks.DropTwin id) = RefusesDropTwin s id
Refuses s (asks.GetPart id name) = RefusesGetPart s id name
Refuses s (asks.PatchPart id name patch) = RefusesPatchPart s id name (operations_of patch.ops)
Refuses s (asks.PutRel source id name target tree) = RefusesPutRel s source id name target (view tree)
Refuses s (asks.GetRel source id) = LinkNotFound s source id
Refuses s (asks.PatchRel source id patch) = RefusesPatchRel s source id (operations_of patch.ops)
Refuses s (asks.DropRel source id) = LinkNotFound s source id
Refuses s (asks.ListOut source name after) = TwinNotFound s source
Refuses s (asks.ListIn target after) = TwinNotFound s target
Refuses s (asks.Query query after) = never

-- The state after an ask that is not refused. What is not named stays.
abbrev pub changed : State → Ask → State
changed s (asks.PutModels models) = after_uploads s models
changed s (asks.Mark id on) = after_mark s id on
changed s (asks.DropModel id) = after_drop s id
changed s (asks.PutTwin id model tree) = after_put_twin s id model (view tree)
changed s (asks.PatchTwin id patch) = after_patch_twin s id (operations_of patch.ops)
changed s (asks.DropTwin id) = without_twin id s
changed s (asks.PatchPart id name patch) = after_patch_part s id name (operations_of patch.ops)
changed s (asks.PutRel source id name target tree) = after_put_rel s source id name target (view tree)
changed s (asks.PatchRel source id patch) = after_patch_rel s source id (operations_of patch.ops)
changed s (asks.DropRel source id) = after_drop_rel s source id
changed s other = s

-- What an ask that is not refused is answered.
abbrev pub Gives : State → Ask → Answer → Type 0
Gives s (asks.PutModels models) answer = answer ≡ created_models s models
Gives s (asks.GetModel id) answer = GivesModel s id answer
Gives s asks.ListModels answer = answer ≡ listed_models s
Gives s (asks.Mark id on) answer = answer ≡ done
Gives s (asks.DropModel id) answer = answer ≡ done
Gives s asks.Canon answer = answer ≡ canonical_models s
Gives s (asks.PutTwin id model tree) answer = GivesTwin (changed s (asks.PutTwin id model tree)) id answer
Gives s (asks.GetTwin id) answer = GivesTwin s id answer
Gives s (asks.PatchTwin id patch) answer = answer ≡ done
Gives s (asks.DropTwin id) answer = answer ≡ done
Gives s (asks.GetPart id name) answer = GivesPart s id name answer
Gives s (asks.PatchPart id name patch) answer = answer ≡ done
Gives s (asks.PutRel source id name target tree) answer = GivesLink (changed s (asks.PutRel source id name target tree)) source id answer
Gives s (asks.GetRel source id) answer = GivesLink s source id answer
Gives s (asks.PatchRel source id patch) answer = answer ≡ done
Gives s (asks.DropRel source id) answer = answer ≡ done
Gives s (asks.ListOut source name after) answer = answer ≡ listed_out s source name after
Gives s (asks.ListIn target after) answer = answer ≡ listed_in s target after
Gives s (asks.Query query after) answer = answer ≡ answer_page s (asked query) after

-- The answer to an ask in a state: its refusal, or what is given where it has none.
abbrev pub Answers : State → Ask → Answer → Type 0
Answers s ask answer = ((r : Refusal) × Refuses s ask r × (answer ≡ refused r))
    ⊎ (((r : Refusal) → Refuses s ask r → ⊥) × Gives s ask answer)

-- The reply that a state allows to an ask, and the state that follows it: after a refusal the same.
abbrev pub Allows : State → Ask → Reply → Type 0
Allows s ask reply = Answers s ask (answer_of reply)

abbrev pub followed : State → Ask → Answer → State
followed s ask (refused r) = s
followed s ask other = changed s ask

abbrev pub follows : State → Ask → Reply → State
follows s ask reply = followed s ask (answer_of reply)
