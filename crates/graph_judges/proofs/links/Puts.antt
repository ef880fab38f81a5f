-- A relationship that is put, from what is judged of it.
use Rattle.std.proofs.Common.{◌≡◌, ℕ, inl, inr, List, true≢false, Some, None, Result, Ok, Err, refl, sym, ap, ◌∙◌, subst}
use Rattle.std.specs.Prelude.{MatchResult, IfOk}
use Rattle.std.specs.Option.{is_some}
use Rattle.std.proofs.lemmas.Option.{same_Some, none-some}
use Rattle.dt_base.specs.names.Grammar.{dtmi_text}
use Rattle.json_tree.specs.Values.{Json}
use Rattle.dtdl_terms.specs.declared.interface.Interface.{Interface}
use Rattle.twin_value.specs.Breaches.{HasNoBreach}
use Rattle.twin_value.specs.declared.code.BodyCode.{BodyCode}
use Rattle.graph_asks.specs.declared.refusal.Refusal.{Refusal}
use Rattle.graph_asks.specs.declared.refusal.Refusal.TheVariants as refusals
use Rattle.graph_steps.specs.LinkAsks.{RefusesLink, RefusesPutRel, after_put_rel, link_for, with_link}
use Rattle.graph_steps.specs.States.{State, Twin, Link, interface_of, twin_at, is_live}
use Rattle.graph_steps.specs.TwinAsks.{TwinNotFound, Frozen, BodyFault}
use Rattle.graph_steps.specs.bodies.Bodies.{FailsBy}
use Rattle.graph_steps.specs.declared.bodies.failure.BodyFailure.{BodyFailure}
use Rattle.graph_steps.proofs.invariants.Rels.{from_twin}
use Rattle.graph_steps.specs.held.Judged.{Unrefused}
use Rattle.graph_judges.proofs.links.Glued.{fails_so}

pub no_fault : (Broken : List ℕ → BodyCode → Type 0) (v : Json) → HasNoBreach Broken → Unrefused (BodyFault Broken v)
no_fault Broken v none r h = none h.0 h.2 h.3.breach

-- ---- what a relationship has by its being another one
pub key_of : {X : Type 0} {E : Type 0} (link : X → Link) (l : Link) (A : Type 0) (Q : E → Type 0) (result : Result X E) → MatchResult result (λ x. A × (link x ≡ l)) Q → IfOk result (λ x. ((link x).source ≡ l.source) × ((link x).id ≡ l.id))
key_of link l A Q (Ok x) h = (ap (λ (k : Link). k.source) h.1, ap (λ (k : Link). k.id) h.1)
key_of link l A Q (Err e) h = tt

module _ (s : State) (source : List ℕ) (u : Twin) (found : twin_at source s ≡ Some u) where
  pub has_source : Unrefused (TwinNotFound s source)
  has_source r h = none-some u (sym h.0 ∙ found)

  pub is_frozen : interface_of s u.model ≡ None → Frozen s source (refusals.Frozen (dtmi_text u.model))
  is_frozen none = (u, found, ap is_some none, refl)

  pub not_frozen : (i : Interface) → interface_of s u.model ≡ Some i → Unrefused (Frozen s source)
  not_frozen i live r h =
      let same : h.0 ≡ u = same_Some h.0 u (sym h.1 ∙ found) in
      true≢false (sym (ap is_some live) ∙ sym (ap (λ (t : Twin). is_live s t) same) ∙ h.2)

module _ (s : State) (source id name target : List ℕ) (v : Json) where
  pub source_missing : twin_at source s ≡ None → RefusesPutRel s source id name target v (refusals.TwinNotFound source)
  source_missing none = inl (none, refl)

  module _ (u : Twin) (found : twin_at source s ≡ Some u) where
    pub source_frozen : interface_of s u.model ≡ None → RefusesPutRel s source id name target v (refusals.Frozen (dtmi_text u.model))
    source_frozen none = inr (has_source s source u found, inl (is_frozen s source u found none))

    module _ (i : Interface) (live : interface_of s u.model ≡ Some i) where
      up : (r : Refusal) → RefusesLink s i source id name target v r → RefusesPutRel s source id name target v r
      up r h = inr (has_source s source u found, inr (not_frozen s source u found i live, (i, from_twin s source u i found live, h)))

      down : Unrefused (RefusesLink s i source id name target v) → Unrefused (RefusesPutRel s source id name target v)
      down free r (inl h) = has_source s source u found r h
      down free r (inr (a, inl h)) = not_frozen s source u found i live r h
      down free r (inr (a, inr (b, h))) =
          let same : h.0 ≡ i = same_Some h.0 i (sym h.1 ∙ from_twin s source u i found live) in
          free r (subst (λ (j : Interface). RefusesLink s j source id name target v r) same h.2)

      put_so : (l : Link) → l ≡ link_for s i source id name target v → with_link l s ≡ after_put_rel s source id name target v
      put_so l is = rw (from_twin s source u i found live) (ap (λ (k : Link). with_link k s) is)

      pub put_judged : {X : Type 0} (link : X → Link) (result : Result X BodyFailure)
          → MatchResult result (λ x. Unrefused (RefusesLink s i source id name target v) × (link x ≡ link_for s i source id name target v)) (FailsBy (RefusesLink s i source id name target v))
          → MatchResult result (λ x. Unrefused (RefusesPutRel s source id name target v) × (with_link (link x) s ≡ after_put_rel s source id name target v)) (FailsBy (RefusesPutRel s source id name target v))
      put_judged link (Ok x) h = (down h.0, put_so (link x) h.1)
      put_judged link (Err f) h = fails_so (RefusesLink s i source id name target v) (RefusesPutRel s source id name target v) up f h
