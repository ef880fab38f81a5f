-- One relationship: what is told of it by its source's model, its target, and how many of its name there are.
use Rattle.std.proofs.Common.{◌≡◌, ◌↔◌, ◌+◌, ℕ, List, [], ◌∷◌, map, Bool, false, cond, Some, None, refl, sym, ap, ◌∙◌, subst, true≢false}
use Rattle.std.specs.Prelude.{IsTrue}
use Rattle.std.specs.List.{count_by}
use Rattle.std.proofs.lemmas.List.Sums.{sum_by-cons}
use Rattle.std.proofs.lemmas.Option.{same_Some, none-some}
use Rattle.dt_base.specs.names.Grammar.{Identifier}
use Rattle.dtdl_terms.specs.TermViews.{kind_term}
use Rattle.dtdl_terms.specs.declared.interface.Interface.{Interface}
use Rattle.dtdl_terms.specs.declared.resolved.ResolvedContent.{ResolvedContent}
use Rattle.rel_graph.specs.Edges.{is_named, named}
use Rattle.rel_graph.specs.declared.edge.Edge.{Edge}
use Rattle.json_tree.specs.Values.{Json}
use Rattle.twin_value.specs.Breaches.{HasNoBreach, IsLinkBreach, link_called}
use Rattle.twin_value.specs.declared.code.BodyCode.{BodyCode}
use Rattle.graph_asks.specs.declared.refusal.Refusal.{Refusal}
use Rattle.graph_steps.specs.Inherited.{contents, inherited, is_a}
use Rattle.graph_steps.specs.States.{State, Twin, Link, interface_of, set_of, twin_at, link_value}
use Rattle.graph_steps.specs.Typed.{FitsSource, LinkIsTyped}
use Rattle.graph_steps.specs.TwinAsks.{BodyFault}
use Rattle.graph_steps.specs.bodies.Bodies.{FailsBy}
use Rattle.graph_steps.specs.declared.bodies.failure.BodyFailure.{BodyFailure}
use Rattle.graph_steps.specs.declared.bodies.failure.BodyFailure.TheVariants as failures
use Rattle.graph_steps.specs.held.Held.{link_of}
use Rattle.graph_steps.specs.declared.held.stored.Stored.{Stored}
use Rattle.graph_judges.specs.fits.Machinery.Judged.{SuitsAmong, SuitsDeclared, SuitsKind}

-- ---- counts
module _ {X Y : Type 0} (f : X → Y) (p : Y → Bool) where
  count-map : (xs : List X) → count_by p (map f xs) ≡ count_by (λ x. p (f x)) xs
  count-map [] = refl
  count-map (x ∷ xs) =
      sum_by-cons (λ (y : Y). cond (p y) 1 0) (f x) (map f xs)
      ∙ ap (λ (n : ℕ). cond (p (f x)) 1 0 + n) (count-map xs)
      ∙ sym (sum_by-cons (λ (z : X). cond (p (f z)) 1 0) x xs)

pub named-held : (source name : List ℕ) (es : List (Edge Stored)) → named source name (map link_of es) ≡ named source name es
named-held source name es = count-map link_of (is_named (source, name)) es

-- ---- breaches
pub not_clear : (Broken : List ℕ → BodyCode → Type 0) (v : Json) (failure : BodyFailure) (r : Refusal) → failure ≡ failures.Refused r → FailsBy (BodyFault Broken v) failure → HasNoBreach Broken → ⊥
not_clear Broken v failure r is fails clear = let fault = subst (FailsBy (BodyFault Broken v)) is fails in clear fault.0 fault.2 fault.3.breach

-- ---- targets
module _ (s : State) (target : List ℕ) (d : Identifier) where
  abbrev Suits : Type 0
  Suits = SuitsDeclared s target (Some d)

  pub suits_none : None ≡ twin_at target s → Suits
  suits_none none = λ t at. absurd (none-some t (none ∙ at))

  pub suits_frozen : (u : Twin) → Some u ≡ twin_at target s → None ≡ interface_of s u.model → Suits
  suits_frozen u is frozen = λ t at i live.
      let same : u ≡ t = same_Some u t (is ∙ at) in
      absurd (none-some i (frozen ∙ ap (λ (x : Twin). interface_of s x.model) same ∙ live))

  pub suits_live : (u : Twin) (i : Interface) (b : Bool) → Some u ≡ twin_at target s → Some i ≡ interface_of s u.model → b ≡ is_a (set_of s) i d → IsTrue b ↔ Suits
  suits_live u i b is live answer = (
    λ h t at j on.
        let same : u ≡ t = same_Some u t (is ∙ at) in
        let one : i ≡ j = same_Some i j (live ∙ ap (λ (x : Twin). interface_of s x.model) same ∙ on) in
        subst (λ (x : Interface). IsTrue (is_a (set_of s) x d)) one (sym answer ∙ h),
    λ h. answer ∙ h u (sym is) i (sym live),
  )

-- ---- sources
module _ (s : State) (i : Interface) (l : Link) where
  pub fits_by_parts : HasNoBreach (IsLinkBreach (inherited (set_of s) i) (link_value l)) → SuitsAmong s (contents (set_of s) i) l → FitsSource s i l
  fits_by_parts clear suits = record { content = suits.0; declared = suits.1; unbroken = clear; target = suits.2.0; few = suits.2.1 }

  pub parts_of_fit : FitsSource s i l → SuitsAmong s (contents (set_of s) i) l
  parts_of_fit f = (f.content, f.declared, (f.target, f.few))

  pub fits_iff : (b : Bool) → HasNoBreach (IsLinkBreach (inherited (set_of s) i) (link_value l)) → IsTrue b ↔ SuitsAmong s (contents (set_of s) i) l → IsTrue b ↔ FitsSource s i l
  fits_iff b clear iff = (λ h. fits_by_parts clear (iff.0 h), λ f. iff.1 (parts_of_fit f))

  pub not_fitting : (HasNoBreach (IsLinkBreach (inherited (set_of s) i) (link_value l)) → ⊥) → IsTrue false ↔ FitsSource s i l
  not_fitting broken = (λ h. absurd (true≢false (sym h)), λ f. absurd (broken f.unbroken))

module _ (s : State) (l : Link) where
  pub typed_none : None ≡ twin_at l.source s → LinkIsTyped s l
  typed_none none = λ t i found live. absurd (none-some t (none ∙ found))

  pub typed_frozen : (u : Twin) → Some u ≡ twin_at l.source s → None ≡ interface_of s u.model → LinkIsTyped s l
  typed_frozen u is frozen = λ t i found live.
      let same : u ≡ t = same_Some u t (is ∙ found) in
      absurd (none-some i (frozen ∙ ap (λ (x : Twin). interface_of s x.model) same ∙ live))

  pub typed_live : (u : Twin) (j : Interface) (b : Bool) → Some u ≡ twin_at l.source s → Some j ≡ interface_of s u.model → IsTrue b ↔ FitsSource s j l → IsTrue b ↔ LinkIsTyped s l
  typed_live u j b is live iff = (
    λ h t i found on.
        let same : u ≡ t = same_Some u t (is ∙ found) in
        let one : j ≡ i = same_Some j i (live ∙ ap (λ (x : Twin). interface_of s x.model) same ∙ on) in
        subst (λ (x : Interface). FitsSource s x l) one (iff.0 h),
    λ typed. iff.1 (typed u j (sym is) (sym live)),
  )

-- ---- what is declared of a name
pub among_one : (s : State) (cs : List ResolvedContent) (l : Link) (c : ResolvedContent) (b : Bool) → Some c ≡ link_called l.name cs → IsTrue b ↔ SuitsKind s (kind_term c.content.kind) l → IsTrue b ↔ SuitsAmong s cs l
among_one s cs l c b is iff = (
  λ h. (c, sym is, iff.0 h),
  λ (d, found, suits). iff.1 (subst (λ (x : ResolvedContent). SuitsKind s (kind_term x.content.kind) l) (sym (same_Some c d (is ∙ found))) suits),
)

pub among_same : (s : State) (cs ds : List ResolvedContent) (l : Link) (b : Bool) → link_called l.name cs ≡ link_called l.name ds → IsTrue b ↔ SuitsAmong s cs l → IsTrue b ↔ SuitsAmong s ds l
among_same s cs ds l b same iff = (
  λ h. let g = iff.0 h in (g.0, sym same ∙ g.1, g.2),
  λ (c, found, suits). iff.1 (c, same ∙ found, suits),
)
