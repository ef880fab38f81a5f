-- A state to which a relationship came, or in which one was patched, is well typed.
use Rattle.std.proofs.Common.{◌≡◌, ℕ, ◌<◌, ◌≤◌, ◌+◌, inl, List, ◌∷◌, length, Bool, true, false, not, codes, Option, Some, None, Result, Ok, Err, refl, sym, ap, ◌∙◌, subst, arith}
use Rattle.std.specs.Prelude.{IsSome, IsTrue}
use Rattle.std.specs.List.{AllByRecursion}
use Rattle.std.specs.Option.{is_some, IsSomeAnd, option_and_then}
use Rattle.std.proofs.lemmas.Option.{same_Some}
use Rattle.dt_base.specs.names.Grammar.{Identifier, NameText, dtmi_text}
use Rattle.json_tree.specs.Values.{Json, text, object}
use Rattle.json_tree.specs.Members.{text_in, value_in, members_in}
use Rattle.dtdl_terms.specs.TermViews.{kind_term}
use Rattle.dtdl_terms.specs.declared.interface.Interface.{Interface}
use Rattle.dtdl_terms.specs.declared.limit.Limit.TheVariants as limits
use Rattle.dtdl_terms.specs.declared.resolved.Resolved.{Resolved}
use Rattle.dtdl_terms.specs.declared.resolved.ResolvedContent.{ResolvedContent}
use Rattle.rel_graph.specs.Edges.{key_cmp, key, is_named, named, with_edge}
use Rattle.rel_graph.proofs.Tallies.{same_key}
use Rattle.model_life.proofs.resolution.Changes.{all_map}
use Rattle.twin_patch.specs.Operations.{Operation}
use Rattle.twin_patch.specs.Patched.{patched_from}
use Rattle.twin_value.specs.Breaches.{HasNoBreach, IsLinkBreach, NamesNone, link_called, text_under}
use Rattle.twin_value.specs.Codes.{code_name}
use Rattle.twin_value.specs.declared.code.BodyCode.TheVariants as code
use Rattle.graph_asks.specs.declared.refusal.At.TheVariants as places
use Rattle.graph_asks.specs.declared.refusal.Refusal.{Refusal}
use Rattle.graph_asks.specs.declared.refusal.Refusal.TheVariants as refusals
use Rattle.graph_steps.specs.Inherited.{contents, inherited, is_a}
use Rattle.graph_steps.specs.Refusals.{refuse_when}
use Rattle.graph_steps.specs.States.{State, Twin, Link, set_of, interface_of, twin_at, link_value, link_text, graph_bytes}
use Rattle.graph_steps.specs.Typed.{target_of, most_of, SuitsTarget, IsAtMost, FitsSource, HasEnds, LinkIsTyped, WellTyped}
use Rattle.graph_steps.specs.TwinAsks.{TwinNotFound, Frozen, BodyFault}
use Rattle.graph_steps.specs.LinkAsks.{link_at, misses, WrongTarget, others_named, Multiplicity, LinkFull, link_for, with_link, RefusesLink, interface_from, RefusesPutRel, after_put_rel, LinkNotFound, RelationshipNotFound, with_payload, RefusesNewLink, RefusesPatchRel, after_patch_rel}
use Rattle.graph_steps.proofs.invariants.Unrefused.{not_first, not_second, not_when, some_there}
use Rattle.graph_steps.proofs.invariants.Lists.{all_at}
use Rattle.graph_steps.proofs.invariants.Keyed.{all-with}
use Rattle.graph_steps.proofs.invariants.Edges.{in-order-with, named-other, named-over, named-own, edge_there}
use Rattle.graph_steps.proofs.invariants.Kept.{fewer, link_kept}
use Rattle.graph_steps.proofs.invariants.Stable.{is_not_false}
use Rattle.graph_steps.proofs.invariants.Firsts.{no_link_breach}
use Rattle.graph_steps.proofs.invariants.Made.{link_members, made_link_clear}
use Rattle.graph_steps.proofs.invariants.Printed.{value_in-sorted}
use Rattle.graph_steps.proofs.invariants.Patches.{IsPlain, patched_kept}

-- ---- a relationship that fits comes, or takes the place of another
module _ (s : State) (w : WellTyped s) (l : Link) (u : Twin) (i : Interface) (c : ResolvedContent)
    (from : twin_at l.source s ≡ Some u) (live : interface_of s u.model ≡ Some i) (to : IsSome (twin_at l.target s))
    (declared : link_called l.name (contents (set_of s) i) ≡ Some c)
    (unbroken : HasNoBreach (IsLinkBreach (inherited (set_of s) i) (link_value l)))
    (suits : (t : Twin) → twin_at l.target s ≡ Some t → SuitsTarget s (target_of (kind_term c.content.kind)) t)
    (few : IsAtMost (most_of (kind_term c.content.kind)) (named l.source l.name (with_edge l s.links)))
    (full : (r : Refusal) → LinkFull (with_link l s) l r → ⊥) where
  same_source : (t : Twin) (j : Interface) → twin_at l.source s ≡ Some t → interface_of s t.model ≡ Some j → i ≡ j
  same_source t j found at = same_Some i j (sym live ∙ ap (λ (x : Twin). interface_of s x.model) (same_Some u t (sym from ∙ found)) ∙ at)

  new_fits : LinkIsTyped (with_link l s) l
  new_fits = λ t j found at. subst (λ (k : Interface). FitsSource (with_link l s) k l) (same_source t j found at) (record {
    content = c;
    declared = declared;
    unbroken = unbroken;
    target = suits;
    few = few;
  })

  few_else : (k : Link) (v : Twin) (j : Interface) → twin_at k.source s ≡ Some v → interface_of s v.model ≡ Some j → (f : FitsSource s j k) → (b : Bool) → is_named (k.source, k.name) l ≡ b
      → IsAtMost (most_of (kind_term f.content.content.kind)) (named k.source k.name (with_edge l s.links))
  few_else k v j found at f false e = fewer (most_of (kind_term f.content.content.kind)) (named k.source k.name s.links) (named k.source k.name (with_edge l s.links)) (named-other k.source k.name l s.links w.links e) f.few
  few_else k v j found at f true e =
      let both : (k.source, k.name) ≡ (l.source, l.name) = same_key (k.source, k.name) (l.source, l.name) e in
      let one : i ≡ j = same_source v j (sym (ap (λ (q : List ℕ × List ℕ). twin_at q.0 s) both) ∙ found) at in
      let content : f.content ≡ c =
      same_Some f.content c (sym f.declared ∙ ap (λ (q : List ℕ × List ℕ). link_called q.1 (contents (set_of s) j)) both ∙ ap (λ (x : Interface). link_called l.name (contents (set_of s) x)) (sym one) ∙ declared) in
      subst (λ (x : ResolvedContent). IsAtMost (most_of (kind_term x.content.kind)) (named k.source k.name (with_edge l s.links))) (sym content)
      (subst (λ (q : List ℕ × List ℕ). IsAtMost (most_of (kind_term c.content.kind)) (named q.0 q.1 (with_edge l s.links))) (sym both) few)

  others_fit : (k : Link) → LinkIsTyped s k → LinkIsTyped (with_link l s) k
  others_fit k typed =
      link_kept s s.twins (with_edge l s.links) k (λ t found. (t, found, refl)) (λ t found. (t, found, refl))
      (λ v j found at f. few_else k v j found at f (is_named (k.source, k.name) l) refl) typed

  pub link_put : WellTyped (with_link l s)
  link_put =
      let long = not_when (4096 < length (link_text l)) (refusals.Full limits.RelationshipBytes) (not_first _ _ full) in
      let later = not_second (refuse_when (4096 < length (link_text l)) (refusals.Full limits.RelationshipBytes)) _ full in
      let many = not_when (400000 < length (with_edge l s.links)) (refusals.Full limits.Relationships) (not_first _ _ later) in
      let bytes = not_when (268435456 < graph_bytes (with_link l s)) (refusals.Full limits.GraphBytes) (not_second (refuse_when (400000 < length (with_edge l s.links)) (refusals.Full limits.Relationships)) _ later) in
      record {
        models = w.models;
        twins = w.twins;
        links = in-order-with l s.links w.links;
        ends = all-with key key_cmp (HasEnds s) l s.links (subst (λ (o : Option Twin). IsSome o) (sym from) refl, to) w.ends;
        fit = w.fit;
        links_fit = all-with key key_cmp (LinkIsTyped (with_link l s)) l s.links new_fits (all_map (LinkIsTyped s) (LinkIsTyped (with_link l s)) s.links others_fit w.links_fit);
        limits = record {
          models = w.limits.models;
          twin_bytes = w.limits.twin_bytes;
          link_bytes = all-with key key_cmp (λ (k : Link). length (link_text k) ≤ 4096) l s.links (omega (arith, long)) w.limits.link_bytes;
          twins = w.limits.twins;
          links = omega (arith, many);
          graph_bytes = omega (arith, bytes);
        };
      }

-- ---- what the refusals leave
pub live_one : (s : State) (id : List ℕ) (u : Twin) → twin_at id s ≡ Some u → ((r : Refusal) → Frozen s id r → ⊥) → (i : Interface) × (interface_of s u.model ≡ Some i)
live_one s id u found thawed = some_there (interface_of s u.model) (λ none. thawed (refusals.Frozen (dtmi_text u.model)) (u, found, ap (λ (o : Option Interface). is_some o) none, refl))

pub from_twin : (s : State) (source : List ℕ) (u : Twin) (i : Interface) → twin_at source s ≡ Some u → interface_of s u.model ≡ Some i → interface_from s source ≡ Some i
from_twin s source u i found live = rw found live

body_clear : (s : State) (i : Interface) (v : Json) → ((r : Refusal) → BodyFault (IsLinkBreach (inherited (set_of s) i) v) v r → ⊥) → HasNoBreach (IsLinkBreach (inherited (set_of s) i) v)
body_clear s i v none =
    no_link_breach (inherited (set_of s) i) v
    (λ place broken first pointer is. none (refusals.BodyFault (places.Pointer pointer) (code_name broken)) (place, pointer, broken, first, is, refl))

suits_by : (s : State) (o : Option Identifier) (t : Twin) → ((d : Identifier) → o ≡ Some d → IsTrue (misses s d t (interface_of s t.model)) → ⊥) → SuitsTarget s o t
suits_by s None t h = tt
suits_by s (Some d) t h = λ j live. is_not_false (is_a (set_of s) j d) (λ e. h d refl (subst (λ (o : Option Interface). IsTrue (misses s d t o)) (sym live) (ap not e)))

most_by : (o : Option ℕ) (others n : ℕ) → ((most : ℕ) → o ≡ Some most → most ≤ others → ⊥) → n ≤ others + 1 → IsAtMost o n
most_by None others n h low = tt
most_by (Some most) others n h low = let more = h most refl in omega (arith, more, low)

-- a body without breach names a relationship that there is
named_by : (r : Resolved) (v : Json) → HasNoBreach (IsLinkBreach r v) → NamesNone r v → ⊥
named_by r v clear n = clear _ code.UnknownRelationship (inl (n, refl, refl))

-- ---- a relationship is put
module _ (s : State) (source id name target : List ℕ) (v : Json) (w : WellTyped s) (is_name : NameText name)
    (named_in : text_under (codes "$relationshipName") v ≡ Some name) (leads : text_under (codes "$targetId") v ≡ Some target)
    (free : (r : Refusal) → RefusesPutRel s source id name target v r → ⊥) where
  put_at : (u : Twin) → twin_at source s ≡ Some u → (i : Interface) → interface_of s u.model ≡ Some i → ((r : Refusal) → RefusesLink s i source id name target v r → ⊥) → WellTyped (after_put_rel s source id name target v)
  put_at u found i live unrefused =
      let clear = body_clear s i v (not_first (BodyFault (IsLinkBreach (inherited (set_of s) i) v) v) _ unrefused) in
      let there = not_second (BodyFault (IsLinkBreach (inherited (set_of s) i) v) v) _ unrefused in
      let ends = some_there (twin_at target s) (not_when (twin_at target s ≡ None) (refusals.TwinNotFound target) (not_first _ _ there)) in
      let right = not_second (TwinNotFound s target) _ there in
      let c = some_there (link_called name (contents (set_of s) i)) (λ none.
      named_by (inherited (set_of s) i) v clear (subst (λ (o : Option (List ℕ)). IsSomeAnd o (λ n. NameText n × (link_called n (contents (set_of s) i) ≡ None))) (sym named_in) (is_name, none))) in
      let rightly = λ (r : Refusal) (h : WrongTarget s (Some c.0) target r). not_first (WrongTarget s (link_called name (contents (set_of s) i)) target) _ right r (subst (λ (o : Option ResolvedContent). WrongTarget s o target r) (sym c.1) h) in
      let room = not_second (WrongTarget s (link_called name (contents (set_of s) i)) target) _ right in
      let fewly = λ (r : Refusal) (h : Multiplicity s (Some c.0) source id name r). not_first (Multiplicity s (link_called name (contents (set_of s) i)) source id name) _ room r (subst (λ (o : Option ResolvedContent). Multiplicity s o source id name r) (sym c.1) h) in
      let put : WellTyped (with_link (link_for s i source id name target v) s) =
      link_put s w (link_for s i source id name target v) u i c.0 found live (subst (λ (o : Option Twin). IsSome o) (sym ends.1) refl) c.1
      (made_link_clear (inherited (set_of s) i) v id name source target named_in leads clear)
      (λ t at. suits_by s (target_of (kind_term c.0.content.kind)) t (λ d e missed. rightly (refusals.WrongTarget (dtmi_text t.model)) (d, t, e, at, missed, refl)))
      (most_by (most_of (kind_term c.0.content.kind)) (length (others_named s source id name)) (named source name (with_edge (link_for s i source id name target v) s.links))
      (λ most e low. fewly (refusals.Multiplicity most) (most, e, low, refl)) (named-own (link_for s i source id name target v) s.links w.links))
      (not_second (Multiplicity s (link_called name (contents (set_of s) i)) source id name) _ room) in
      rw (from_twin s source u i found live) put

  pub rel_put : WellTyped (after_put_rel s source id name target v)
  rel_put =
      let u = some_there (twin_at source s) (not_when (twin_at source s ≡ None) (refusals.TwinNotFound source) (not_first _ _ free)) in
      let later = not_second (TwinNotFound s source) _ free in
      let i = live_one s source u.0 u.1 (not_first (Frozen s source) _ later) in
      put_at u.0 u.1 i.0 i.1 (λ r h. not_second (Frozen s source) _ later r (i.0, from_twin s source u.0 i.0 u.1 i.1, h))

-- ---- a relationship is patched
-- A patch leaves the name and the target that are printed of a relationship.
text_kept : (q t : List ℕ) (os : List Operation) (l : Link) (v : Json) → AllByRecursion IsPlain os → patched_from 0 os (link_value l) ≡ Ok v → value_in (36 ∷ q) (link_value l) ≡ Some (text t) → text_under (36 ∷ q) v ≡ Some t
text_kept q t os l v plain e is = ap (λ (o : Option Json). option_and_then text_in o) (patched_kept q 0 os (link_value l) v plain e ∙ is)

name_at : (l : Link) → value_in (codes "$relationshipName") (link_value l) ≡ Some (text l.name)
name_at l = value_in-sorted (codes "$relationshipName") (object (link_members l.id l.name l.source l.target (members_in l.payload)))

target_at : (l : Link) → value_in (codes "$targetId") (link_value l) ≡ Some (text l.target)
target_at l = value_in-sorted (codes "$targetId") (object (link_members l.id l.name l.source l.target (members_in l.payload)))

module _ (s : State) (source id : List ℕ) (os : List Operation) (w : WellTyped s) (plain : AllByRecursion IsPlain os) where
  patched_at : (u : Twin) → twin_at source s ≡ Some u → (i : Interface) → interface_of s u.model ≡ Some i → (l : Link) → link_at source id s ≡ Some l → (v : Json) → patched_from 0 os (link_value l) ≡ Ok v
      → ((r : Refusal) → RefusesNewLink s i l (Ok v) r → ⊥) → WellTyped (with_link (with_payload s i v l) s)
  patched_at u found i live l at v e unrefused =
      let there = edge_there source id s.links l at in
      let mine : twin_at l.source s ≡ Some u = ap (λ (q : List ℕ). twin_at q s) there.0 ∙ found in
      let own : link_at l.source l.id s ≡ Some l = ap (λ (q : List ℕ). link_at q l.id s) there.0 ∙ ap (λ (q : List ℕ). link_at source q s) there.1 ∙ at in
      let f : FitsSource s i l = all_at (LinkIsTyped s) s.links l w.links_fit there.2 u i mine live in
      let ends : HasEnds s l = all_at (HasEnds s) s.links l w.ends there.2 in
      let clear = body_clear s i v (not_first (BodyFault (IsLinkBreach (inherited (set_of s) i) v) v) _ unrefused) in
      link_put s w (with_payload s i v l) u i f.content mine live ends.1 f.declared
      (made_link_clear (inherited (set_of s) i) v l.id l.name l.source l.target (text_kept (codes "relationshipName") l.name os l v plain e (name_at l)) (text_kept (codes "targetId") l.target os l v plain e (target_at l)) clear)
      f.target
      (subst (λ (n : ℕ). IsAtMost (most_of (kind_term f.content.content.kind)) n) (sym (named-over l.source l.name (with_payload s i v l) l s.links w.links own refl refl)) f.few)
      (not_second (BodyFault (IsLinkBreach (inherited (set_of s) i) v) v) _ unrefused)

  patched_to : (u : Twin) → twin_at source s ≡ Some u → (i : Interface) → interface_of s u.model ≡ Some i → (l : Link) → link_at source id s ≡ Some l → (res : Result Json ℕ) → patched_from 0 os (link_value l) ≡ res
      → ((r : Refusal) → RefusesNewLink s i l res r → ⊥) → WellTyped (after_patch_rel s source id os)
  patched_to u found i live l at (Err index) e unrefused = absurd (unrefused (refusals.PatchFault (codes "NoTarget") index) refl)
  patched_to u found i live l at (Ok v) e unrefused =
      let put : WellTyped (with_link (with_payload s i v l) s) = patched_at u found i live l at v e unrefused in
      rw (from_twin s source u i found live, at, e) put

  pub rel_patched : ((r : Refusal) → RefusesPatchRel s source id os r → ⊥) → WellTyped (after_patch_rel s source id os)
  rel_patched free =
      let has = not_first (LinkNotFound s source id) _ free in
      let u = some_there (twin_at source s) (not_when (twin_at source s ≡ None) (refusals.TwinNotFound source) (not_first (TwinNotFound s source) (RelationshipNotFound s source id) has)) in
      let l = some_there (link_at source id s) (not_when (link_at source id s ≡ None) (refusals.RelationshipNotFound id) (not_second (TwinNotFound s source) (RelationshipNotFound s source id) has)) in
      let later = not_second (LinkNotFound s source id) _ free in
      let i = live_one s source u.0 u.1 (not_first (Frozen s source) _ later) in
      patched_to u.0 u.1 i.0 i.1 l.0 l.1 (patched_from 0 os (link_value l.0)) refl
      (λ r h. not_second (Frozen s source) _ later r (record { interface = i.0; link = l.0; live = from_twin s source u.0 i.0 u.1 i.1; at = l.1; refuses = h }))
