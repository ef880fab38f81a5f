-- A relationship that is patched, from what is judged of it.
use Rattle.std.proofs.Common.{◌≡◌, ℕ, inl, inr, List, Some, None, Result, Ok, Err, refl, sym, ap, ◌∙◌, subst}
use Rattle.std.specs.Prelude.{MatchResult, IfOk}
use Rattle.std.proofs.lemmas.Option.{same_Some, none-some}
use Rattle.dt_base.specs.names.Grammar.{dtmi_text}
use Rattle.json_tree.specs.Values.{Json}
use Rattle.dtdl_terms.specs.declared.interface.Interface.{Interface}
use Rattle.twin_patch.specs.Operations.{Operation}
use Rattle.twin_patch.specs.Patched.{patched_from}
use Rattle.graph_asks.specs.declared.refusal.Refusal.{Refusal}
use Rattle.graph_asks.specs.declared.refusal.Refusal.TheVariants as refusals
use Rattle.graph_steps.specs.LinkAsks.{LinkNotFound, RefusesLinkOf, RefusesNewLink, RefusesPatchRel, after_patch_rel, interface_from, link_at, with_link, with_payload}
use Rattle.graph_steps.specs.States.{State, Twin, Link, interface_of, link_value, twin_at}
use Rattle.graph_steps.specs.TwinAsks.{PatchFault}
use Rattle.graph_steps.specs.bodies.Bodies.{FailsBy}
use Rattle.graph_steps.specs.declared.bodies.failure.BodyFailure.{BodyFailure}
use Rattle.graph_steps.proofs.invariants.Edges.{edge_there}
use Rattle.graph_steps.proofs.invariants.Rels.{from_twin}
use Rattle.graph_steps.specs.held.Judged.{Unrefused}
use Rattle.graph_judges.specs.links.Machinery.Refused.{IsPatched}
use Rattle.graph_judges.proofs.links.Glued.{fails_so}
use Rattle.graph_judges.proofs.links.Puts.{has_source, is_frozen, not_frozen}

-- ---- the patch of one relationship
module _ (s : State) (i : Interface) (l : Link) where
  pub fault_so : (os : List Operation) (v : Json) → v ≡ link_value l → (f : BodyFailure) → FailsBy (PatchFault os v) f → FailsBy (RefusesNewLink s i l (patched_from 0 os (link_value l))) f
  fault_so os v is f h =
      fails_so (PatchFault os v) (RefusesNewLink s i l (patched_from 0 os (link_value l)))
      (λ r p. subst (λ res. RefusesNewLink s i l res r) (sym p.1 ∙ ap (patched_from 0 os) is) p.2) f h

  pub patched_so : (res : Result Json ℕ) (v : Json) → res ≡ Ok v → {X : Type 0} (link : X → Link) (result : Result X BodyFailure)
      → MatchResult result (λ x. Unrefused (RefusesNewLink s i l (Ok v)) × (link x ≡ with_payload s i v l)) (FailsBy (RefusesNewLink s i l (Ok v)))
      → MatchResult result (λ x. Unrefused (RefusesNewLink s i l res) × IsPatched s i l res (link x)) (FailsBy (RefusesNewLink s i l res))
  patched_so res v e link result h =
      subst (λ (q : Result Json ℕ). MatchResult result (λ x. Unrefused (RefusesNewLink s i l q) × IsPatched s i l q (link x)) (FailsBy (RefusesNewLink s i l q))) (sym e) h

  patched_key : (res : Result Json ℕ) (new : Link) → IsPatched s i l res new → (new.source ≡ l.source) × (new.id ≡ l.id)
  patched_key (Ok v) new is = (ap (λ (k : Link). k.source) is, ap (λ (k : Link). k.id) is)
  patched_key (Err n) new is = absurd is

  pub key_patched : {X : Type 0} {E : Type 0} (res : Result Json ℕ) (link : X → Link) (A : Type 0) (Q : E → Type 0) (result : Result X E) → MatchResult result (λ x. A × IsPatched s i l res (link x)) Q
      → (source id : List ℕ) → link_at source id s ≡ Some l → IfOk result (λ x. ((link x).source ≡ source) × ((link x).id ≡ id))
  key_patched res link A Q (Ok x) h source id at =
      let there = edge_there source id s.links l at in
      let same = patched_key res (link x) h.1 in
      (same.0 ∙ there.0, same.1 ∙ there.1)
  key_patched res link A Q (Err e) h source id at = tt

-- ---- the ask
module _ (s : State) (source id : List ℕ) (os : List Operation) where
  pub source_missing : twin_at source s ≡ None → RefusesPatchRel s source id os (refusals.TwinNotFound source)
  source_missing none = inl (inl (none, refl))

  module _ (u : Twin) (found : twin_at source s ≡ Some u) where
    pub link_missing : link_at source id s ≡ None → RefusesPatchRel s source id os (refusals.RelationshipNotFound id)
    link_missing none = inl (inr (has_source s source u found, (none, refl)))

    module _ (l : Link) (at : link_at source id s ≡ Some l) where
      both_there : Unrefused (LinkNotFound s source id)
      both_there r (inl h) = has_source s source u found r h
      both_there r (inr h) = none-some l (sym h.1.0 ∙ at)

      pub source_frozen : interface_of s u.model ≡ None → RefusesPatchRel s source id os (refusals.Frozen (dtmi_text u.model))
      source_frozen none = inr (both_there, inl (is_frozen s source u found none))

      module _ (i : Interface) (live : interface_of s u.model ≡ Some i) where
        abbrev made : Result Json ℕ
        made = patched_from 0 os (link_value l)

        from : interface_from s source ≡ Some i
        from = from_twin s source u i found live

        up : (r : Refusal) → RefusesNewLink s i l made r → RefusesPatchRel s source id os r
        up r h = inr (both_there, inr (not_frozen s source u found i live, record { interface = i; link = l; live = from; at = at; refuses = h }))

        own : (r : Refusal) → RefusesLinkOf s source id os r → RefusesNewLink s i l made r
        own r h =
            let one : h.interface ≡ i = same_Some h.interface i (sym h.live ∙ from) in
            let it : h.link ≡ l = same_Some h.link l (sym h.at ∙ at) in
            subst (λ (k : Link). RefusesNewLink s i k (patched_from 0 os (link_value k)) r) it
            (subst (λ (j : Interface). RefusesNewLink s j h.link (patched_from 0 os (link_value h.link)) r) one h.refuses)

        down : Unrefused (RefusesNewLink s i l made) → Unrefused (RefusesPatchRel s source id os)
        down free r (inl h) = both_there r h
        down free r (inr (a, inl h)) = not_frozen s source u found i live r h
        down free r (inr (a, inr (b, h))) = free r (own r h)

        after_so : (res : Result Json ℕ) (new : Link) → made ≡ res → IsPatched s i l res new → with_link new s ≡ after_patch_rel s source id os
        after_so (Ok v) new e is = rw (from, at, e) (ap (λ (k : Link). with_link k s) is)
        after_so (Err n) new e is = absurd is

        pub patch_judged : {X : Type 0} (link : X → Link) (result : Result X BodyFailure)
            → MatchResult result (λ x. Unrefused (RefusesNewLink s i l made) × IsPatched s i l made (link x)) (FailsBy (RefusesNewLink s i l made))
            → MatchResult result (λ x. Unrefused (RefusesPatchRel s source id os) × (with_link (link x) s ≡ after_patch_rel s source id os)) (FailsBy (RefusesPatchRel s source id os))
        patch_judged link (Ok x) h = (down h.0, after_so made (link x) refl h.1)
        patch_judged link (Err f) h = fails_so (RefusesNewLink s i l made) (RefusesPatchRel s source id os) up f h
