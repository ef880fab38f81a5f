-- A sound ask has at most one answer, and asks that are one have one.
use Rattle.std.proofs.Common.{◌≡◌, inl, inr, refl}
use Rattle.json_tree.specs.View.{view}
use Rattle.twin_patch.specs.Operations.{operations_of}
use Rattle.graph_asks.specs.Answers.{Answer, body, created, canon, done, refused}
use Rattle.graph_asks.specs.Asks.{AreOneAsk}
use Rattle.graph_asks.specs.declared.ask.Ask.{Ask}
use Rattle.graph_asks.specs.declared.ask.Ask.TheVariants as asks
use Rattle.graph_steps.specs.Soundness.{IsSoundAsk}
use Rattle.graph_steps.specs.States.{State}
use Rattle.graph_steps.specs.Steps.{Answers, changed, followed}
use Rattle.graph_answers.proofs.Refusals.{given, one_missing, one_never, one_of}
use Rattle.graph_answers.proofs.ModelAnswers.{one_drop_model, one_model, one_put, one_unknown}
use Rattle.graph_answers.proofs.TwinAnswers.{one_drop_twin, one_get_part, one_part, one_patch_part, one_patch_twin, one_put_twin, one_twin}
use Rattle.graph_answers.proofs.LinkAnswers.{one_absent, one_link, one_patch_rel, one_put_rel}
use Rattle.graph_answers.proofs.Alike.{same_step}

one_of_ask : (s : State) (ask : Ask) (a b : Answer) → IsSoundAsk ask → Answers s ask a → Answers s ask b → a ≡ b
one_of_ask s (asks.PutModels models) a b sound h k = one_of _ _ (one_put s models sound) (given _) a b h k
one_of_ask s (asks.GetModel id) a b sound h k = one_of _ _ (one_unknown s id) (one_model s id) a b h k
one_of_ask s asks.ListModels a b sound h k = one_of _ _ one_never (given _) a b h k
one_of_ask s (asks.Mark id on) a b sound h k = one_of _ _ (one_unknown s id) (given _) a b h k
one_of_ask s (asks.DropModel id) a b sound h k = one_of _ _ (one_drop_model s id) (given _) a b h k
one_of_ask s asks.Canon a b sound h k = one_of _ _ one_never (given _) a b h k
one_of_ask s (asks.PutTwin id model tree) a b sound h k = one_of _ _ (one_put_twin s id model (view tree)) (one_twin (changed s (asks.PutTwin id model tree)) id) a b h k
one_of_ask s (asks.GetTwin id) a b sound h k = one_of _ _ (one_missing s id) (one_twin s id) a b h k
one_of_ask s (asks.PatchTwin id patch) a b sound h k = one_of _ _ (one_patch_twin s id (operations_of patch.ops)) (given _) a b h k
one_of_ask s (asks.DropTwin id) a b sound h k = one_of _ _ (one_drop_twin s id) (given _) a b h k
one_of_ask s (asks.GetPart id name) a b sound h k = one_of _ _ (one_get_part s id name) (one_part s id name) a b h k
one_of_ask s (asks.PatchPart id name patch) a b sound h k = one_of _ _ (one_patch_part s id name (operations_of patch.ops)) (given _) a b h k
one_of_ask s (asks.PutRel source id name target tree) a b sound h k =
    one_of _ _ (one_put_rel s source id name target (view tree)) (one_link (changed s (asks.PutRel source id name target tree)) source id) a b h k
one_of_ask s (asks.GetRel source id) a b sound h k = one_of _ _ (one_absent s source id) (one_link s source id) a b h k
one_of_ask s (asks.PatchRel source id patch) a b sound h k = one_of _ _ (one_patch_rel s source id (operations_of patch.ops)) (given _) a b h k
one_of_ask s (asks.DropRel source id) a b sound h k = one_of _ _ (one_absent s source id) (given _) a b h k
one_of_ask s (asks.ListOut source name after) a b sound h k = one_of _ _ (one_missing s source) (given _) a b h k
one_of_ask s (asks.ListIn target after) a b sound h k = one_of _ _ (one_missing s target) (given _) a b h k
one_of_ask s (asks.Query query after) a b sound h k = one_of _ _ one_never (given _) a b h k

moved : (s : State) (ask other : Ask) (b : Answer) → AreOneAsk ask other → Answers s other b → Answers s ask b
moved s ask other b one (inl (r, h, e)) = inl (r, (same_step s ask other one).back r h, e)
moved s ask other b one (inr (none, h)) = inr (λ r k. none r ((same_step s ask other one).there r k), (same_step s ask other one).given b h)

pub one_answer_of : (s : State) (ask other : Ask) (a b : Answer) → IsSoundAsk ask → AreOneAsk ask other → Answers s ask a → Answers s other b → a ≡ b
one_answer_of s ask other a b sound one h k = one_of_ask s ask a b sound h (moved s ask other b one k)

pub one_state_of : (s : State) (ask other : Ask) (a : Answer) → AreOneAsk ask other → followed s ask a ≡ followed s other a
one_state_of s ask other (refused r) one = refl
one_state_of s ask other (body v) one = (same_step s ask other one).one
one_state_of s ask other (created v) one = (same_step s ask other one).one
one_state_of s ask other (canon bytes) one = (same_step s ask other one).one
one_state_of s ask other done one = (same_step s ask other one).one
