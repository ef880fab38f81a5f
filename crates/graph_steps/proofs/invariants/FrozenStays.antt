-- Frozen stays frozen.
use Rattle.std.proofs.Common.{◌≡◌, ℕ, inl, inr, List, Bool, true, false, refl, sym, ap, ap₂, ◌∙◌, is_eq, true≢false}
use Rattle.std.specs.Prelude.{Contains}
use Rattle.ordered_table.proofs.Flat.{C}
use Rattle.json_tree.specs.View.{view}
use Rattle.twin_patch.specs.Operations.{operations_of}
use Rattle.graph_asks.specs.Answers.{Answer}
use Rattle.graph_asks.specs.declared.ask.Ask.{Ask}
use Rattle.graph_asks.specs.declared.ask.Ask.TheVariants as asks
use Rattle.graph_asks.specs.declared.refusal.Refusal.{Refusal}
use Rattle.graph_steps.specs.LinkAsks.{after_drop_rel}
use Rattle.graph_steps.specs.States.{State, Twin, is_live, without_twin}
use Rattle.graph_steps.specs.Steps.{Refuses, Answers, changed, followed}
use Rattle.graph_steps.specs.Typed.{WellTyped}
use Rattle.graph_steps.specs.invariants.Frozen.{FrozenStay, StaysFrozen}
use Rattle.graph_steps.proofs.invariants.Followed.{after}
use Rattle.graph_steps.proofs.invariants.Keyed.{one_text}
use Rattle.graph_steps.proofs.invariants.Stays.{Stays, stands_now, same_stays, mark_stays, drop_stays, put_stays, patch_stays, part_stays, other_dropped, own_dropped, put_rel_stays, patch_rel_stays, link_dropped}

module _ (s : State) (w : WellTyped s) (t : Twin) (c : Contains s.twins t) (frozen : is_live s t ≡ false) where
  kept : (ask : Ask) (next : State) → Stays s next t → StaysFrozen s ask next t
  kept ask next st = record { twin = inl st.0; links = λ id. inl (st.1 id); live = λ live. absurd (true≢false (sym live ∙ st.2 ∙ frozen)) }

  twin_goes : (id : List ℕ) (b : Bool) → is_eq (C t.id id) ≡ b → StaysFrozen s (asks.DropTwin id) (without_twin id s) t
  twin_goes id false e = kept (asks.DropTwin id) (without_twin id s) (other_dropped s w t c frozen id e)
  twin_goes id true e = record {
    twin = inr (ap asks.DropTwin (sym (one_text t.id id e)), own_dropped s w t c frozen id e);
    links = λ q. inl refl;
    live = λ live. absurd (true≢false (sym live ∙ frozen));
  }

  link_goes : (source id : List ℕ) → StaysFrozen s (asks.DropRel source id) (after_drop_rel s source id) t
  link_goes source id = record {
    twin = inl (stands_now s w t c frozen);
    links = λ q. elim (link_dropped s w t c frozen source id q) [ inl e ↦ inl e | inr h ↦ inr (ap₂ (λ (a : List ℕ) (b : List ℕ). asks.DropRel a b) h.0.0 h.0.1, h.1) ];
    live = λ live. absurd (true≢false (sym live ∙ frozen));
  }

  changed_frozen : (ask : Ask) → ((r : Refusal) → Refuses s ask r → ⊥) → StaysFrozen s ask (changed s ask) t
  changed_frozen (asks.PutModels models) free = record { twin = inl (stands_now s w t c frozen); links = λ q. inl refl; live = λ live. (models, refl) }
  changed_frozen (asks.GetModel id) free = kept _ s (same_stays s w t c frozen)
  changed_frozen asks.ListModels free = kept _ s (same_stays s w t c frozen)
  changed_frozen (asks.Mark id on) free = kept _ _ (mark_stays s w t c frozen id on)
  changed_frozen (asks.DropModel id) free = kept _ _ (drop_stays s w t c frozen id)
  changed_frozen asks.Canon free = kept _ s (same_stays s w t c frozen)
  changed_frozen (asks.PutTwin id model tree) free = kept _ _ (put_stays s w t c frozen id model (view tree) free)
  changed_frozen (asks.GetTwin id) free = kept _ s (same_stays s w t c frozen)
  changed_frozen (asks.PatchTwin id patch) free = kept _ _ (patch_stays s w t c frozen id (operations_of patch.ops) free)
  changed_frozen (asks.DropTwin id) free = twin_goes id (is_eq (C t.id id)) refl
  changed_frozen (asks.GetPart id name) free = kept _ s (same_stays s w t c frozen)
  changed_frozen (asks.PatchPart id name patch) free = kept _ _ (part_stays s w t c frozen id name (operations_of patch.ops) free)
  changed_frozen (asks.PutRel source id name target tree) free = kept _ _ (put_rel_stays s w t c frozen source id name target (view tree) free)
  changed_frozen (asks.GetRel source id) free = kept _ s (same_stays s w t c frozen)
  changed_frozen (asks.PatchRel source id patch) free = kept _ _ (patch_rel_stays s w t c frozen source id (operations_of patch.ops) free)
  changed_frozen (asks.DropRel source id) free = link_goes source id
  changed_frozen (asks.ListOut source name past) free = kept _ s (same_stays s w t c frozen)
  changed_frozen (asks.ListIn target past) free = kept _ s (same_stays s w t c frozen)
  changed_frozen (asks.Query query past) free = kept _ s (same_stays s w t c frozen)

pub stays_frozen : (s : State) (ask : Ask) (answer : Answer) → WellTyped s → Answers s ask answer → FrozenStay s ask (followed s ask answer)
stays_frozen s ask answer w answers t c frozen =
    after (λ (next : State). StaysFrozen s ask next t) s ask (kept s w t c frozen ask s (same_stays s w t c frozen)) (changed_frozen s w t c frozen ask) answer answers
