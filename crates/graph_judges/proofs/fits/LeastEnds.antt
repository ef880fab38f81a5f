-- The least relationship with a twin as an end: the lesser of the first out of it and the first into it.
use Rattle.std.proofs.Common.{◌≡◌, ◌⊎◌, inl, inr, ℕ, List, map, Bool, true, false, ◌||◌, bytes_eq, Option, Some, None, refl, sym, ap, ◌∙◌, subst, Ordering}
use Rattle.std.specs.Prelude.{Contains, IsTrue}
use Rattle.std.specs.Ordering.{is_lt}
use Rattle.std.specs.List.{AllByRecursion, filter}
use Rattle.model_life.proofs.resolution.ByKey.{contains_map, from_contains}
use Rattle.model_life.proofs.resolution.Reaching.{filter_down, filter_up}
use Rattle.rel_graph.specs.Edges.{key_cmp, key, EdgesInOrder, is_from, is_into, out_of, into_of}
use Rattle.rel_graph.specs.declared.edge.Edge.{Edge}
use Rattle.rel_graph.proofs.Tallies.{keys_total}
use Rattle.graph_steps.specs.States.{State, Link, is_end}
use Rattle.graph_steps.specs.Typed.{LinkIsTyped}
use Rattle.graph_steps.specs.TwinAsks.{WouldBeIll}
use Rattle.graph_steps.specs.bodies.Kept.{IsKeptLink}
use Rattle.graph_steps.proofs.invariants.Keyed.{tests}
use Rattle.graph_steps.proofs.invariants.Lists.{all_at, all_from}
use Rattle.graph_steps.specs.held.Held.{link_of, IsHeldLink}
use Rattle.graph_steps.specs.declared.held.stored.Stored.{Stored}
use Rattle.graph_judges.specs.fits.Ill.{IsLeastIll}
use Rattle.graph_judges.specs.fits.Machinery.Firsts.{IsFirstOf, IsLeastOf, lesser}
use Rattle.graph_judges.proofs.fits.Least.{first_least, lesser_least, sorted_passing}

module _ (new : State) (id : List ℕ) (es : List (Edge Stored)) (lent : map link_of es ≡ new.links) where
  abbrev Ill : Edge Stored → Type 0
  Ill e = LinkIsTyped new (link_of e) → ⊥

  abbrev before : Edge Stored → Edge Stored → Ordering
  before a b = key_cmp (key a) (key b)

  abbrev Out : Edge Stored → Type 0
  Out e = Contains (out_of id es) e × Ill e

  abbrev Into : Edge Stored → Type 0
  Into e = Contains (into_of id es) e × Ill e

  abbrev AtEnd : Edge Stored → Type 0
  AtEnd e = Out e ⊎ Into e

  -- ---- ends
  end_out : (e : Edge Stored) → is_from id e ≡ true → IsTrue (is_end id (link_of e))
  end_out e h = ap (λ b. b || bytes_eq e.target id) (sym (tests id e.source) ∙ h)

  either : (b : Bool) → (b || true) ≡ true
  either true = refl
  either false = refl

  end_into : (e : Edge Stored) → is_into id e ≡ true → IsTrue (is_end id (link_of e))
  end_into e h = ap (λ b. bytes_eq e.source id || b) (sym (tests id e.target) ∙ h) ∙ either (bytes_eq e.source id)

  would_be : (e : Edge Stored) → AtEnd e → WouldBeIll new id (link_of e)
  would_be e (inl out) =
      let f = filter_down (is_from id) es e out.0 in
      record { there = subst (λ (ls : List Link). Contains ls (link_of e)) lent (contains_map link_of es e f.0); ends = end_out e f.1; ill = out.1 }
  would_be e (inr into) =
      let f = filter_down (is_into id) es e into.0 in
      record { there = subst (λ (ls : List Link). Contains ls (link_of e)) lent (contains_map link_of es e f.0); ends = end_into e f.1; ill = into.1 }

  at_end : (e : Edge Stored) → Contains es e → IsTrue (is_end id (link_of e)) → Ill e → AtEnd e
  at_end e c ends ill =
      elim (is_from id e) as (λ b. is_from id e ≡ b → AtEnd e) [
        | true ↦ λ on. inl (filter_up (is_from id) es e c on, ill)
        | false ↦ λ off. inr (filter_up (is_into id) es e c (tests id e.target ∙ ap (λ b. b || bytes_eq e.target id) (sym (sym (tests id e.source) ∙ off)) ∙ ends), ill)
      ] refl

  held : (l : Link) → WouldBeIll new id l → (e : Edge Stored) × AtEnd e × (link_of e ≡ l)
  held l would =
      let e = from_contains link_of es l (subst (λ (ls : List Link). Contains ls l) (sym lent) would.there) in (
        e.0,
        at_end e.0 e.1 (subst (λ (x : Link). IsTrue (is_end id x)) (sym e.2) would.ends) (subst (λ (x : Link). LinkIsTyped new x → ⊥) (sym e.2) would.ill),
        e.2,
      )

  -- ---- the least
  told : (o : Option (Edge Stored)) → IsLeastOf before AtEnd o → IsLeastIll new id o
  told None h = λ l would. let e = held l would in h e.0 e.1
  told (Some e) h = (would_be e h.0, λ other would less. let x = held other would in h.1 x.0 x.1 (subst (λ (l : Link). IsTrue (is_lt (key_cmp (key l) (key (link_of e))))) (sym x.2) less))

  pub ends_least : EdgesInOrder es → (out into : Option (Edge Stored)) → IsFirstOf Ill (out_of id es) out → IsFirstOf Ill (into_of id es) into → IsLeastIll new id (lesser before out into)
  ends_least order out into first second =
      told (lesser before out into)
      (lesser_least key_cmp keys_total key Out Into out into
      (first_least key_cmp keys_total key Ill (out_of id es) (sorted_passing key_cmp keys_total key (is_from id) es order) out first)
      (first_least key_cmp keys_total key Ill (into_of id es) (sorted_passing key_cmp keys_total key (is_into id) es order) into second))

-- ---- what holds of all that are held
pub kept_passing : (p : Edge Stored → Bool) (es : List (Edge Stored)) → AllByRecursion IsHeldLink es → AllByRecursion (λ (e : Edge Stored). IsKeptLink (link_of e)) (filter p es)
kept_passing p es all = all_from (λ (e : Edge Stored). IsKeptLink (link_of e)) (filter p es) (λ e c. (all_at IsHeldLink es e all (filter_down p es e c).0).kept)
