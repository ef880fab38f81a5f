-- What the asks that bring a twin or a relationship are answered, from what a judge lets come.
use Rattle.std.proofs.Common.{◌≡◌, ℕ, List, cond, is_eq, Some, Result, Ok, Err, IfOk, refl, sym, ap, ◌∙◌, subst, inl, inr}
use Rattle.std.specs.Prelude.{MatchResult}
use Rattle.std.proofs.lemmas.Cmp.{tied_itself}
use Rattle.dt_base.specs.names.Grammar.{Identifier}
use Rattle.json_tree.specs.View.{view}
use Rattle.json_tree.specs.declared.tree.Tree.{Tree}
use Rattle.rel_graph.specs.declared.edge.Edge.{Edge}
use Rattle.rel_graph.specs.Edges.{key}
use Rattle.rel_graph.proofs.Tallies.{keys_total}
use Rattle.twin_patch.specs.declared.patch.Patch.{Patch}
use Rattle.twin_value.specs.declared.twin.Twin.{Twin}
use Rattle.graph_asks.specs.Answers.{body}
use Rattle.graph_asks.specs.declared.ask.Ask.{Ask}
use Rattle.graph_asks.specs.declared.ask.Ask.TheVariants as asks
use Rattle.graph_asks.specs.declared.refusal.Refusal.{Refusal}
use Rattle.graph_asks.specs.declared.reply.Reply.{Reply}
use Rattle.graph_asks.specs.declared.reply.Reply.TheVariants as replies
use Rattle.graph_steps.specs.bodies.Bodies.{FailsBy}
use Rattle.graph_steps.specs.bodies.Kept.{twin_view}
use Rattle.graph_steps.specs.declared.bodies.failure.BodyFailure.{BodyFailure}
use Rattle.graph_steps.specs.declared.bodies.failure.BodyFailure.TheVariants as failures
use Rattle.graph_steps.proofs.invariants.Edges.{edge-with}
use Rattle.graph_steps.proofs.invariants.Twins.{twin_own}
use Rattle.graph_steps.proofs.invariants.Typed.{changed_typed}
use Rattle.graph_steps.specs.LinkAsks.{link_at, with_link}
use Rattle.graph_steps.specs.Soundness.{IsSoundAsk}
use Rattle.graph_steps.specs.States.{State, twin_at, twin_value, link_value, with_twin}
use Rattle.graph_steps.specs.Steps.{Refuses, changed, Allows, follows}
use Rattle.graph_steps.specs.Typed.{WellTyped}
use Rattle.graph_steps.specs.held.Held.{link_of, IsHeldTwin, IsHeldLink}
use Rattle.graph_steps.specs.declared.held.stored.Stored.{Stored}
use Rattle.graph_machine.specs.Machinery.Brought.{BringsTwin, BringsLink}

-- ---- what a judge answers
pub twin_brought : {N : Type 0} (twin : N → Twin) (bytes : N → ℕ) (s : State) (ask : Ask) (id : List ℕ) (res : Result N BodyFailure)
    → MatchResult res (λ n. ((r : Refusal) → Refuses s ask r → ⊥) × (with_twin (twin_view (twin n)) s ≡ changed s ask)) (FailsBy (Refuses s ask))
    → IfOk res (λ n. (twin n).id ≡ id) → IfOk res (λ n. IsHeldTwin (record { twin = twin n; bytes = bytes n }))
    → MatchResult res (λ n. BringsTwin s ask id (twin n) (bytes n)) (FailsBy (Refuses s ask))
twin_brought twin bytes s ask id (Ok n) judged own held = record { free = judged.0; put = judged.1; own = own; held = held }
twin_brought twin bytes s ask id (Err e) judged own held = judged

pub link_brought : {N : Type 0} (edge : N → Edge Stored) (tree : N → Tree) (s : State) (ask : Ask) (source id : List ℕ) (res : Result N BodyFailure)
    → MatchResult res (λ n. ((r : Refusal) → Refuses s ask r → ⊥) × (with_link (link_of (edge n)) s ≡ changed s ask)) (FailsBy (Refuses s ask))
    → IfOk res (λ n. ((edge n).source ≡ source) × ((edge n).id ≡ id)) → IfOk res (λ n. IsHeldLink (edge n)) → IfOk res (λ n. view (tree n) ≡ link_value (link_of (edge n)))
    → MatchResult res (λ n. BringsLink s ask source id (edge n) (tree n)) (FailsBy (Refuses s ask))
link_brought edge tree s ask source id (Ok n) judged own held printed = record { free = judged.0; put = judged.1; from = own.0; own = own.1; held = held; printed = printed }
link_brought edge tree s ask source id (Err e) judged own held printed = judged

pub only_ok : {N E : Type 0} (res : Result N E) (P Q : N → Type 0) (F : E → Type 0) → ((n : N) → P n → Q n) → MatchResult res P F → IfOk res Q
only_ok (Ok n) P Q F f h = f n h
only_ok (Err e) P Q F f h = tt

-- ---- a judge fails
module _ (s : State) (ask : Ask) (failure : BodyFailure) (fails : FailsBy (Refuses s ask) failure) where
  abbrev Told : Reply → Type 0
  Told reply = (r : Refusal) × (failure ≡ failures.Refused r) × (reply ≡ replies.Refused r)

  pub failed_allows : {E : Type 0} (res : Result Reply E) → IfOk res Told → IfOk res (Allows s ask)
  failed_allows (Ok reply) (r, is, e) = subst (Allows s ask) (sym e) (inl (r, subst (FailsBy (Refuses s ask)) is fails, refl))
  failed_allows (Err e) h = tt

  pub failed_follows : {E : Type 0} (now : State) → now ≡ s → (res : Result Reply E) → IfOk res Told → IfOk res (λ reply. now ≡ follows s ask reply)
  failed_follows now same (Ok reply) (r, is, e) = subst (λ (x : Reply). now ≡ follows s ask x) (sym e) same
  failed_follows now same (Err e) h = tt

-- ---- twins
module _ (s : State) (id : List ℕ) (twin : Twin) (bytes : ℕ) where
  pub twin_put : (model : Identifier) (given tree : Tree) → view tree ≡ twin_value (twin_view twin) → BringsTwin s (asks.PutTwin id model given) id twin bytes → Allows s (asks.PutTwin id model given) (replies.Body tree)
  twin_put model given tree printed b =
      let at : twin_at id (with_twin (twin_view twin) s) ≡ Some (twin_view twin) = ap (λ k. twin_at k (with_twin (twin_view twin) s)) (sym b.own) ∙ twin_own (twin_view twin) s in
      inr (b.free, (twin_view twin, subst (λ (x : State). twin_at id x ≡ Some (twin_view twin)) b.put at, ap body printed))

  pub put_typed : (model : Identifier) (given : Tree) → WellTyped s → IsSoundAsk (asks.PutTwin id model given) → BringsTwin s (asks.PutTwin id model given) id twin bytes → WellTyped (with_twin (twin_view twin) s)
  put_typed model given w sound b = subst WellTyped (sym b.put) (changed_typed s (asks.PutTwin id model given) w sound b.free)

  pub twin_patched : (patch : Patch) → BringsTwin s (asks.PatchTwin id patch) id twin bytes → Allows s (asks.PatchTwin id patch) replies.Done
  twin_patched patch b = inr (b.free, refl)

  pub patched_typed : (patch : Patch) → WellTyped s → IsSoundAsk (asks.PatchTwin id patch) → BringsTwin s (asks.PatchTwin id patch) id twin bytes → WellTyped (with_twin (twin_view twin) s)
  patched_typed patch w sound b = subst WellTyped (sym b.put) (changed_typed s (asks.PatchTwin id patch) w sound b.free)

  pub part_patched : (name : List ℕ) (patch : Patch) → BringsTwin s (asks.PatchPart id name patch) id twin bytes → Allows s (asks.PatchPart id name patch) replies.Done
  part_patched name patch b = inr (b.free, refl)

  pub part_typed : (name : List ℕ) (patch : Patch) → WellTyped s → IsSoundAsk (asks.PatchPart id name patch) → BringsTwin s (asks.PatchPart id name patch) id twin bytes → WellTyped (with_twin (twin_view twin) s)
  part_typed name patch w sound b = subst WellTyped (sym b.put) (changed_typed s (asks.PatchPart id name patch) w sound b.free)

-- ---- relationships
module _ (s : State) (source id : List ℕ) (edge : Edge Stored) (tree : Tree) where
  pub link_put : (name target : List ℕ) (given : Tree) → BringsLink s (asks.PutRel source id name target given) source id edge tree → Allows s (asks.PutRel source id name target given) (replies.Body tree)
  link_put name target given b =
      let l = link_of edge in
      let at : link_at source id (with_link l s) ≡ Some l =
      ap (λ k. link_at k id (with_link l s)) (sym b.from) ∙ ap (λ k. link_at edge.source k (with_link l s)) (sym b.own) ∙ edge-with l s.links edge.source edge.id ∙ ap (λ b. cond b (Some l) (link_at edge.source edge.id s)) (ap is_eq (tied_itself keys_total (key edge))) in
      inr (b.free, (l, subst (λ (x : State). link_at source id x ≡ Some l) b.put at, ap body b.printed))

  pub link_typed : (name target : List ℕ) (given : Tree) → WellTyped s → IsSoundAsk (asks.PutRel source id name target given) → BringsLink s (asks.PutRel source id name target given) source id edge tree → WellTyped (with_link (link_of edge) s)
  link_typed name target given w sound b = subst WellTyped (sym b.put) (changed_typed s (asks.PutRel source id name target given) w sound b.free)

  pub link_patched : (patch : Patch) → BringsLink s (asks.PatchRel source id patch) source id edge tree → Allows s (asks.PatchRel source id patch) replies.Done
  link_patched patch b = inr (b.free, refl)

  pub patch_typed : (patch : Patch) → WellTyped s → IsSoundAsk (asks.PatchRel source id patch) → BringsLink s (asks.PatchRel source id patch) source id edge tree → WellTyped (with_link (link_of edge) s)
  patch_typed patch w sound b = subst WellTyped (sym b.put) (changed_typed s (asks.PatchRel source id patch) w sound b.free)
