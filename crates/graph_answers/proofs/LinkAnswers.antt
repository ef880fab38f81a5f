-- An ask on relationships has at most one answer.
use Rattle.std.proofs.Common.{◌≡◌, ℕ, ◌<◌, List, length, Option, Some, None, Result, Ok, Err, sym, ap, ◌∙◌, subst}
use Rattle.std.specs.Prelude.{codes}
use Rattle.std.proofs.lemmas.Option.{same_Some}
use Rattle.dt_base.specs.names.Grammar.{dtmi_text}
use Rattle.json_tree.specs.Values.{Json}
use Rattle.dtdl_terms.specs.declared.interface.Interface.{Interface}
use Rattle.dtdl_terms.specs.declared.limit.Limit.TheVariants as limits
use Rattle.dtdl_terms.specs.declared.resolved.ResolvedContent.{ResolvedContent}
use Rattle.twin_patch.specs.Operations.{Operation}
use Rattle.twin_patch.specs.Patched.{patched_from}
use Rattle.twin_value.specs.Breaches.{IsLinkBreach, link_called}
use Rattle.graph_asks.specs.Answers.{Answer, body}
use Rattle.graph_asks.specs.declared.refusal.Refusal.{Refusal}
use Rattle.graph_asks.specs.declared.refusal.Refusal.TheVariants as refusals
use Rattle.graph_steps.specs.Inherited.{contents, inherited}
use Rattle.graph_steps.specs.Refusals.{or_refuse, refuse_when}
use Rattle.graph_steps.specs.States.{State, Twin, Link, set_of, link_value, link_text, graph_bytes}
use Rattle.graph_steps.specs.TwinAsks.{TwinNotFound, Frozen, BodyFault}
use Rattle.graph_steps.specs.LinkAsks.{link_at, RelationshipNotFound, WrongTarget, Multiplicity, LinkFull, link_for, with_link, with_payload, interface_from, RefusesLink, RefusesPutRel, LinkNotFound, RefusesNewLink, RefusesLinkOf, RefusesPatchRel, GivesLink}
use Rattle.graph_answers.proofs.Refusals.{One, both, one_when, one_is, one_held, one_missing, one_frozen, one_fault}

-- ---- a relationship comes
one_target : (s : State) (o : Option ResolvedContent) (target : List ℕ) → One (WrongTarget s o target)
one_target s None target r q h k = absurd h
one_target s (Some c) target r q (declared, t, of, at, misses, e) (wanted, u, too, is, also, d) =
    e ∙ ap (λ (z : Twin). refusals.WrongTarget (dtmi_text z.model)) (same_Some t u (sym at ∙ is)) ∙ sym d

one_count : (s : State) (o : Option ResolvedContent) (source id name : List ℕ) → One (Multiplicity s o source id name)
one_count s None source id name r q h k = absurd h
one_count s (Some c) source id name r q (most, is, many, e) (other, also, more, d) = e ∙ ap refusals.Multiplicity (same_Some most other (sym is ∙ also)) ∙ sym d

one_full : (new : State) (l : Link) → One (LinkFull new l)
one_full new l =
    both (refuse_when (4096 < length (link_text l)) (refusals.Full limits.RelationshipBytes))
    (or_refuse (refuse_when (400000 < length new.links) (refusals.Full limits.Relationships)) (refuse_when (268435456 < graph_bytes new) (refusals.Full limits.GraphBytes)))
    (one_when (4096 < length (link_text l)) (refusals.Full limits.RelationshipBytes))
    (both (refuse_when (400000 < length new.links) (refusals.Full limits.Relationships)) (refuse_when (268435456 < graph_bytes new) (refusals.Full limits.GraphBytes))
    (one_when (400000 < length new.links) (refusals.Full limits.Relationships))
    (one_when (268435456 < graph_bytes new) (refusals.Full limits.GraphBytes)))

one_link_of : (s : State) (i : Interface) (source id name target : List ℕ) (v : Json) → One (RefusesLink s i source id name target v)
one_link_of s i source id name target v =
    let Broken = IsLinkBreach (inherited (set_of s) i) v in
    let content = link_called name (contents (set_of s) i) in
    let link = link_for s i source id name target v in
    let new = with_link link s in
    both (BodyFault Broken v)
    (or_refuse (TwinNotFound s target) (or_refuse (WrongTarget s content target) (or_refuse (Multiplicity s content source id name) (LinkFull new link)))) (one_fault Broken v)
    (both (TwinNotFound s target) (or_refuse (WrongTarget s content target) (or_refuse (Multiplicity s content source id name) (LinkFull new link))) (one_missing s target)
    (both (WrongTarget s content target) (or_refuse (Multiplicity s content source id name) (LinkFull new link)) (one_target s content target)
    (both (Multiplicity s content source id name) (LinkFull new link) (one_count s content source id name) (one_full new link))))

abbrev From : State → List ℕ → List ℕ → List ℕ → List ℕ → Json → Refusal → Type 0
From s source id name target v r = (i : Interface) × (interface_from s source ≡ Some i) × RefusesLink s i source id name target v r

pub one_put_rel : (s : State) (source id name target : List ℕ) (v : Json) → One (RefusesPutRel s source id name target v)
one_put_rel s source id name target v =
    both (TwinNotFound s source) (or_refuse (Frozen s source) (From s source id name target v)) (one_missing s source)
    (both (Frozen s source) (From s source id name target v) (one_frozen s source)
    (one_held (interface_from s source) (λ i. RefusesLink s i source id name target v) (λ i. one_link_of s i source id name target v)))

pub one_link : (s : State) (source id : List ℕ) (x y : Answer) → GivesLink s source id x → GivesLink s source id y → x ≡ y
one_link s source id x y (l, at, e) (k, is, d) = e ∙ ap (λ (z : Link). body (link_value z)) (same_Some l k (sym at ∙ is)) ∙ sym d

-- ---- a relationship is asked for, or patched
pub one_absent : (s : State) (source id : List ℕ) → One (LinkNotFound s source id)
one_absent s source id =
    both (TwinNotFound s source) (RelationshipNotFound s source id) (one_missing s source)
    (one_when (link_at source id s ≡ None) (refusals.RelationshipNotFound id))

one_new_link : (s : State) (i : Interface) (l : Link) (result : Result Json ℕ) → One (RefusesNewLink s i l result)
one_new_link s i l (Err index) = one_is (refusals.PatchFault (codes "NoTarget") index)
one_new_link s i l (Ok v) =
    let Broken = IsLinkBreach (inherited (set_of s) i) v in
    let new = with_link (with_payload s i v l) s in
    both (BodyFault Broken v) (LinkFull new (with_payload s i v l)) (one_fault Broken v) (one_full new (with_payload s i v l))

one_patched : (s : State) (source id : List ℕ) (os : List Operation) → One (RefusesLinkOf s source id os)
one_patched s source id os r q h k =
    let model : h.interface ≡ k.interface = same_Some h.interface k.interface (sym h.live ∙ k.live) in
    let same : h.link ≡ k.link = same_Some h.link k.link (sym h.at ∙ k.at) in
    let one : RefusesNewLink s k.interface k.link (patched_from 0 os (link_value k.link)) r =
    subst (λ (i : Interface). RefusesNewLink s i k.link (patched_from 0 os (link_value k.link)) r) model
    (subst (λ (l : Link). RefusesNewLink s h.interface l (patched_from 0 os (link_value l)) r) same h.refuses) in
    one_new_link s k.interface k.link (patched_from 0 os (link_value k.link)) r q one k.refuses

pub one_patch_rel : (s : State) (source id : List ℕ) (os : List Operation) → One (RefusesPatchRel s source id os)
one_patch_rel s source id os =
    both (LinkNotFound s source id) (or_refuse (Frozen s source) (RefusesLinkOf s source id os)) (one_absent s source id)
    (both (Frozen s source) (RefusesLinkOf s source id os) (one_frozen s source) (one_patched s source id os))
