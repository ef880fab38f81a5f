-- That a twin or a relationship is well typed holds where it cannot fail to hold.
use Rattle.std.proofs.Common.{◌≡◌, ℕ, ◌≤◌, inl, inr, List, Bool, true, false, Option, Some, None, refl, sym, ap, ◌∙◌, subst, true≢false, Ordering, Less, Equal, Greater, arith}
use Rattle.std.specs.Prelude.{IsTrue, Contains}
use Rattle.std.specs.Ordering.{is_lt, ordering_reverse}
use Rattle.std.proofs.lemmas.Bool.{cases_order}
use Rattle.std.proofs.lemmas.Option.{same_Some, none-some}
use Rattle.dt_base.specs.names.Grammar.{Identifier}
use Rattle.json_decimal.specs.Number.{Number}
use Rattle.json_tree.specs.Values.{Members, no_members, member}
use Rattle.json_tree.specs.Members.{members_in}
use Rattle.dtdl_terms.specs.TermViews.{kind_term}
use Rattle.dtdl_terms.specs.declared.interface.Interface.{Interface}
use Rattle.dtdl_terms.specs.declared.resolved.ResolvedContent.{ResolvedContent}
use Rattle.rel_graph.specs.Edges.{key_cmp, key, EdgesInOrder, named}
use Rattle.rel_graph.proofs.Tallies.{keys_total}
use Rattle.twin_value.specs.Breaches.{link_called, twin_role_of}
use Rattle.twin_value.specs.Roles.{body_member_role}
use Rattle.twin_value.specs.Twins.{is_value_role, is_part_role}
use Rattle.graph_asks.specs.declared.refusal.Refusal.{Refusal}
use Rattle.graph_asks.specs.declared.refusal.Refusal.TheVariants as refusals
use Rattle.graph_steps.specs.Inherited.{contents, inherited, is_a}
use Rattle.graph_steps.specs.States.{State, Twin, Link, set_of, is_end}
use Rattle.graph_steps.specs.Typed.{AllKeys, FitsModel, TwinIsTyped, target_of, most_of, SuitsTarget, IsAtMost, FitsSource, LinkIsTyped}
use Rattle.graph_steps.specs.TwinAsks.{DoesNotFit}
use Rattle.graph_steps.proofs.invariants.Lists.{IsLeast, none_ill}

-- ---- tests
pub is_not_false : (b : Bool) → (b ≡ false → ⊥) → IsTrue b
is_not_false true h = refl
is_not_false false h = absurd (h refl)

true_stable : (b : Bool) → ((IsTrue b → ⊥) → ⊥) → IsTrue b
true_stable b h = is_not_false b (λ e. h (λ t. true≢false (sym t ∙ e)))

low_stable : (n m : ℕ) → ((n ≤ m → ⊥) → ⊥) → n ≤ m
low_stable n m h = elim (cases_order n m) [
  | inl same ↦ omega (arith, same)
  | inr (inl less) ↦ omega (arith, less)
  | inr (inr more) ↦ absurd (h (λ low. omega (arith, low, more)))
]

pub less_of : (o : Ordering) → IsTrue (is_lt o) → o ≡ Less
less_of Less h = refl
less_of Equal h = absurd (true≢false (sym h))
less_of Greater h = absurd (true≢false (sym h))

-- ---- twins
keys_stable : (p : List ℕ → Bool) (ms : Members Number) → ((AllKeys (λ key. IsTrue (p key)) ms → ⊥) → ⊥) → AllKeys (λ key. IsTrue (p key)) ms
keys_stable p no_members h = tt
keys_stable p (member key v ms) h = (true_stable (p key) (λ no_key. h (λ all. no_key all.0)), keys_stable p ms (λ no_more. h (λ all. no_more all.1)))

fits_stable : (set : List Interface) (i : Interface) (t : Twin) → ((FitsModel set i t → ⊥) → ⊥) → FitsModel set i t
fits_stable set i t h = record {
  unbroken = λ place broken b. h (λ f. f.unbroken place broken b);
  values = keys_stable (λ key. is_value_role (body_member_role (twin_role_of (inherited set i)) key)) (members_in t.values) (λ none. h (λ f. none f.values));
  parts = keys_stable (λ key. is_part_role (body_member_role (twin_role_of (inherited set i)) key)) (members_in t.parts) (λ none. h (λ f. none f.parts));
}

pub twin_stable : (s : State) (t : Twin) → ((TwinIsTyped s t → ⊥) → ⊥) → TwinIsTyped s t
twin_stable s t h = λ i live. fits_stable (set_of s) i t (λ none. h (λ typed. none (typed i live)))

-- ---- relationships
suits_stable : (s : State) (o : Option Identifier) (t : Twin) → ((SuitsTarget s o t → ⊥) → ⊥) → SuitsTarget s o t
suits_stable s None t h = tt
suits_stable s (Some d) t h = λ j live. true_stable (is_a (set_of s) j d) (λ none. h (λ suit. none (suit j live)))

most_stable : (o : Option ℕ) (n : ℕ) → ((IsAtMost o n → ⊥) → ⊥) → IsAtMost o n
most_stable None n h = tt
most_stable (Some most) n h = low_stable n most h

module _ (s : State) (i : Interface) (l : Link) (h : (FitsSource s i l → ⊥) → ⊥) where
  by_content : (o : Option ResolvedContent) → link_called l.name (contents (set_of s) i) ≡ o → FitsSource s i l
  by_content None e = absurd (h (λ f. none-some f.content (sym e ∙ f.declared)))
  by_content (Some c) e = record {
    content = c;
    declared = e;
    unbroken = λ place broken b. h (λ f. f.unbroken place broken b);
    target = λ t at. suits_stable s (target_of (kind_term c.content.kind)) t (λ none. h (λ f. none (subst (λ (x : ResolvedContent). SuitsTarget s (target_of (kind_term x.content.kind)) t) (same f) (f.target t at))));
    few = most_stable (most_of (kind_term c.content.kind)) (named l.source l.name s.links) (λ none. h (λ f. none (subst (λ (x : ResolvedContent). IsAtMost (most_of (kind_term x.content.kind)) (named l.source l.name s.links)) (same f) f.few)));
  }
    where
      same : (f : FitsSource s i l) → f.content ≡ c
      same f = same_Some f.content c (sym f.declared ∙ e)

  source_stable : FitsSource s i l
  source_stable = by_content (link_called l.name (contents (set_of s) i)) refl

pub link_stable : (s : State) (l : Link) → ((LinkIsTyped s l → ⊥) → ⊥) → LinkIsTyped s l
link_stable s l h = λ t i found live. source_stable s i l (λ none. h (λ typed. none (typed t i found live)))

-- ---- where no relationship is the least that does not fit, each fits
one_way : (a b : List ℕ × List ℕ) → key_cmp a b ≡ Less → key_cmp b a ≡ Less → ⊥
one_way a b h g = true≢false (sym (ap is_lt g) ∙ ap is_lt (keys_total.antisymm b a ∙ ap ordering_reverse h))

module _ (new : State) (id : List ℕ) (ordered : EdgesInOrder new.links) (free : (r : Refusal) → DoesNotFit new id r → ⊥) where
  abbrev Ill : Link → Type 0
  Ill l = IsTrue (is_end id l) × (LinkIsTyped new l → ⊥)

  not_least : (l : Link) → IsLeast key_cmp key Ill new.links l → ⊥
  not_least l least =
      free (refusals.DoesNotFit l.id l.source) (l, record { there = least.0; ends = least.1.0; ill = least.1.1 }, (λ other would less. least.2 other would.there (would.ends, would.ill) (less_of (key_cmp (key other) (key l)) less)), refl)

  pub all_fit : (l : Link) → Contains new.links l → IsTrue (is_end id l) → LinkIsTyped new l
  all_fit l c ends = link_stable new l (λ ill. none_ill key_cmp key Ill new.links (λ x y. one_way (key x) (key y)) ordered not_least l c (ends, ill))
