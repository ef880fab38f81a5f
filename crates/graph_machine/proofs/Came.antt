-- What PutModels answers and leaves, from what is known of the models.
use Rattle.std.proofs.Common.{◌≡◌, ℕ, List, [], map, Result, Ok, Err, IfOk, OnOk, OnErr, sym, ap, subst}
use Rattle.std.specs.Prelude.{MatchResult}
use Rattle.std.specs.List.{AllByRecursion}
use Rattle.dt_base.specs.names.Grammar.{Identifier}
use Rattle.dtdl_terms.specs.Sets.{InOrder}
use Rattle.dtdl_terms.specs.declared.resolved.Resolved.{Resolved}
use Rattle.dtdl_terms.specs.declared.uploaded.Uploaded.{Uploaded}
use Rattle.json_tree.specs.Values.{array, elements_of}
use Rattle.json_tree.specs.View.{view}
use Rattle.json_tree.specs.declared.tree.Tree.{Tree}
use Rattle.graph_asks.specs.Answers.{created}
use Rattle.graph_asks.specs.declared.ask.Ask.TheVariants as asks
use Rattle.graph_asks.specs.declared.refusal.Refusal.{Refusal}
use Rattle.graph_asks.specs.declared.reply.Reply.{Reply}
use Rattle.graph_asks.specs.declared.reply.Reply.TheVariants as replies
use Rattle.graph_steps.specs.bodies.Bodies.{FailsBy}
use Rattle.graph_steps.specs.declared.bodies.failure.BodyFailure.{BodyFailure}
use Rattle.graph_steps.specs.declared.bodies.failure.BodyFailure.TheVariants as failures
use Rattle.model_life.specs.Models.{Model, interfaces_of, with_new_models}
use Rattle.model_life.specs.Refusals.{AreNew}
use Rattle.model_life.specs.resolution.Resolving.{HoldsRight}
use Rattle.graph_steps.specs.ModelAsks.{mark_value}
use Rattle.graph_steps.specs.Soundness.{IsSoundUpload}
use Rattle.graph_steps.specs.States.{State, set_of}
use Rattle.graph_steps.specs.Steps.{Refuses, changed, Allows, Answers, follows}
use Rattle.graph_steps.specs.held.Held.{Holding, holding, state_of, HoldsTogether}
use Rattle.graph_machine.proofs.Answered.{brought}
use Rattle.graph_machine.proofs.Ascending.{ascend}
use Rattle.graph_machine.proofs.Brought.{failed_allows, failed_follows}
use Rattle.graph_machine.proofs.Kept.{models_kept, same_kept}

-- ---- what stays
pub came_kept : (h : Holding) (rs : List (Identifier × Resolved)) (bytes : ℕ) → HoldsTogether h rs bytes → (us : List Uploaded) → AllByRecursion IsSoundUpload us → {N : Type 0} (end : Result N BodyFailure)
    → MatchResult end (λ _. (r : Refusal) → Refuses (state_of h) (asks.PutModels us) r → ⊥) (FailsBy (Refuses (state_of h) (asks.PutModels us)))
    → (ms : List Model) → OnOk end (ms ≡ with_new_models us h.models) → OnErr end (ms ≡ h.models) → (held : List (Identifier × Resolved)) → HoldsRight (interfaces_of ms) held → HoldsTogether (holding ms h.twins h.links) held bytes
came_kept h rs bytes k us each (Ok n) free ms ok err held right = models_kept h rs bytes k us each free ms ok held right
came_kept h rs bytes k us each (Err e) fails ms ok err held right = same_kept h rs bytes k ms err held right

pub came_changed : (h : Holding) (us : List Uploaded) {N E : Type 0} (end : Result N E) (ms : List Model) → OnOk end (ms ≡ with_new_models us h.models)
    → OnOk end (state_of (holding ms h.twins h.links) ≡ changed (state_of h) (asks.PutModels us))
came_changed h us (Ok n) ms ok = ap (λ (new : List Model). state_of (holding new h.twins h.links)) ok
came_changed h us (Err e) ms ok = tt

pub came_same : (h : Holding) {N E : Type 0} (end : Result N E) (ms : List Model) → OnErr end (ms ≡ h.models) → OnErr end (holding ms h.twins h.links ≡ h)
came_same h (Ok n) ms err = tt
came_same h (Err e) ms err = ap (λ (old : List Model). holding old h.twins h.links) err

pub same_state : {N E : Type 0} (end : Result N E) (now old : Holding) → OnErr end (now ≡ old) → OnErr end (state_of now ≡ state_of old)
same_state (Ok n) now old err = tt
same_state (Err e) now old err = ap state_of err

-- ---- what is answered
module _ {N E : Type 0} (s : State) (us : List Uploaded) (tree : Tree) (end : Result N BodyFailure) (res : Result Reply E) (told : MatchResult end (λ _. res ≡ Ok (replies.Created tree)) (λ failure. IfOk res (λ reply. (r : Refusal) × (failure ≡ failures.Refused r) × (reply ≡ replies.Refused r)))) where
  pub came_allowed : InOrder (set_of s) → view tree ≡ array (elements_of (map mark_value (with_new_models us []))) → IfOk end (λ _. AreNew s.models us)
      → MatchResult end (λ _. (r : Refusal) → Refuses s (asks.PutModels us) r → ⊥) (FailsBy (Refuses s (asks.PutModels us))) → IfOk res (Allows s (asks.PutModels us))
  came_allowed ordered printed new judged = by end told new judged
    where
      by : (e : Result N BodyFailure) → MatchResult e (λ _. res ≡ Ok (replies.Created tree)) (λ failure. IfOk res (λ reply. (r : Refusal) × (failure ≡ failures.Refused r) × (reply ≡ replies.Refused r)))
          → IfOk e (λ _. AreNew s.models us) → MatchResult e (λ _. (r : Refusal) → Refuses s (asks.PutModels us) r → ⊥) (FailsBy (Refuses s (asks.PutModels us))) → IfOk res (Allows s (asks.PutModels us))
      by (Ok n) is new free =
          subst (λ (o : Result Reply E). IfOk o (Allows s (asks.PutModels us))) (sym is)
          (subst (λ v. Answers s (asks.PutModels us) (created v)) (sym printed) (brought s us (ascend s.models ordered) new free))
      by (Err failure) is new fails = failed_allows s (asks.PutModels us) failure fails res is

  pub came_follows : (now : State) → OnOk end (now ≡ changed s (asks.PutModels us)) → OnErr end (now ≡ s)
      → MatchResult end (λ _. (r : Refusal) → Refuses s (asks.PutModels us) r → ⊥) (FailsBy (Refuses s (asks.PutModels us))) → IfOk res (λ reply. now ≡ follows s (asks.PutModels us) reply)
  came_follows now ok err judged = by end told ok err judged
    where
      by : (e : Result N BodyFailure) → MatchResult e (λ _. res ≡ Ok (replies.Created tree)) (λ failure. IfOk res (λ reply. (r : Refusal) × (failure ≡ failures.Refused r) × (reply ≡ replies.Refused r)))
          → OnOk e (now ≡ changed s (asks.PutModels us)) → OnErr e (now ≡ s) → MatchResult e (λ _. (r : Refusal) → Refuses s (asks.PutModels us) r → ⊥) (FailsBy (Refuses s (asks.PutModels us)))
          → IfOk res (λ reply. now ≡ follows s (asks.PutModels us) reply)
      by (Ok n) is ok err free = subst (λ (o : Result Reply E). IfOk o (λ reply. now ≡ follows s (asks.PutModels us) reply)) (sym is) ok
      by (Err failure) is ok err fails = failed_follows s (asks.PutModels us) failure fails now err res is

  pub came_unchanged : {A : Type 0} (now old : A) → OnErr end (now ≡ old) → OnErr res (now ≡ old)
  came_unchanged now old err = by end told err
    where
      each : (r : Result Reply E) → now ≡ old → OnErr r (now ≡ old)
      each (Ok x) same = tt
      each (Err x) same = same

      by : (e : Result N BodyFailure) → MatchResult e (λ _. res ≡ Ok (replies.Created tree)) (λ failure. IfOk res (λ reply. (r : Refusal) × (failure ≡ failures.Refused r) × (reply ≡ replies.Refused r)))
          → OnErr e (now ≡ old) → OnErr res (now ≡ old)
      by (Ok n) is err = subst (λ (o : Result Reply E). OnErr o (now ≡ old)) (sym is) tt
      by (Err failure) is err = each res err
