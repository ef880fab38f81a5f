-- What an interface breaks in a set, and in a larger one, where it and all that it names stand in the smaller.
use Rattle.std.proofs.Common.{◌≡◌, ℕ, inl, inr, List, Option, Some, None, refl, sym, ◌∙◌}
use Rattle.std.proofs.lemmas.Option.{none-some}
use Rattle.dt_base.specs.names.Grammar.{Identifier}
use Rattle.dtdl_terms.specs.Sets.{interface_at}
use Rattle.dtdl_terms.specs.declared.interface.Interface.{Interface}
use Rattle.dtdl_terms.specs.declared.spot.Spot.{Spot}
use Rattle.dtdl_terms.specs.declared.spot.Spot.TheVariants as spots
use Rattle.extend_resolve.specs.declared.rule.SetRule.{SetRule}
use Rattle.extend_resolve.specs.declared.rule.SetRule.TheVariants as rules
use Rattle.extend_resolve.specs.Chains.{IsParent, IsAncestor, LeadsBack, ReachesCycle, Reaches}
use Rattle.extend_resolve.specs.SetRules.{HasParent, HasComponent, RepeatsId, ClashesWithEarlier, HasNameClash, HasComponentInComponent}
use Rattle.extend_resolve.specs.Breaches.{BreaksSetRule}
use Rattle.model_life.specs.resolution.Resolving.{IsWithin, LacksNone}
use Rattle.model_life.specs.resolution.Machinery.Families.{IsThere}
use Rattle.model_life.proofs.resolution.Families.{stands, ancestors_there}
use Rattle.model_life.proofs.resolution.Changes.{known, parent_down, chain_up, chain_down, same_ancestors, all_map}

-- one list of the interfaces before for another
pub with_others : (set e f : List Interface) (i : Interface) → (RepeatsId e i → RepeatsId f i) → (rule : SetRule) (spot : Spot) → BreaksSetRule set e i rule spot → BreaksSetRule set f i rule spot
with_others set e f i g rules.RepeatedId spots.Whole h = h
with_others set e f i g rules.RepeatedId spots.Id h = g h
with_others set e f i g rules.RepeatedId spots.Parents h = h
with_others set e f i g rules.RepeatedId (spots.Parent k) h = h
with_others set e f i g rules.RepeatedId (spots.ContentSchema k) h = h
with_others set e f i g rules.AbsentReference spots.Whole h = h
with_others set e f i g rules.AbsentReference spots.Id h = h
with_others set e f i g rules.AbsentReference spots.Parents h = h
with_others set e f i g rules.AbsentReference (spots.Parent k) h = h
with_others set e f i g rules.AbsentReference (spots.ContentSchema k) h = h
with_others set e f i g rules.Cycle spots.Whole h = h
with_others set e f i g rules.Cycle spots.Id h = h
with_others set e f i g rules.Cycle spots.Parents h = h
with_others set e f i g rules.Cycle (spots.Parent k) h = h
with_others set e f i g rules.Cycle (spots.ContentSchema k) h = h
with_others set e f i g rules.LongChain spots.Whole h = h
with_others set e f i g rules.LongChain spots.Id h = h
with_others set e f i g rules.LongChain spots.Parents h = h
with_others set e f i g rules.LongChain (spots.Parent k) h = h
with_others set e f i g rules.LongChain (spots.ContentSchema k) h = h
with_others set e f i g rules.NameClash spots.Whole h = h
with_others set e f i g rules.NameClash spots.Id h = h
with_others set e f i g rules.NameClash spots.Parents h = h
with_others set e f i g rules.NameClash (spots.Parent k) h = h
with_others set e f i g rules.NameClash (spots.ContentSchema k) h = h
with_others set e f i g rules.ComponentInComponent spots.Whole h = h
with_others set e f i g rules.ComponentInComponent spots.Id h = h
with_others set e f i g rules.ComponentInComponent spots.Parents h = h
with_others set e f i g rules.ComponentInComponent (spots.Parent k) h = h
with_others set e f i g rules.ComponentInComponent (spots.ContentSchema k) h = h
with_others set e f i g rules.TooManyResolved spots.Whole h = h
with_others set e f i g rules.TooManyResolved spots.Id h = h
with_others set e f i g rules.TooManyResolved spots.Parents h = h
with_others set e f i g rules.TooManyResolved (spots.Parent k) h = h
with_others set e f i g rules.TooManyResolved (spots.ContentSchema k) h = h

-- ---- a smaller set and a larger one
module _ (small large : List Interface) (within : IsWithin small large) (whole : LacksNone small) where
  ancestor_down : (i a : Interface) → IsThere small i → IsAncestor large i a → IsAncestor small i a
  ancestor_down i a there up = (same_ancestors small large within whole i a there).1 up

  ancestor_up : (i a : Interface) → IsThere small i → IsAncestor small i a → IsAncestor large i a
  ancestor_up i a there up = (same_ancestors small large within whole i a there).0 up

  parent_up : (i j : Interface) → IsParent small i j → IsParent large i j
  parent_up i j (p, named, found) = (p, named, within p j found)

  parent_at_down : (i : Interface) (k : ℕ) (j : Interface) → IsThere small i → HasParent large i k j → HasParent small i k j
  parent_at_down i k j there (p, named, found) = (p, named, known small large within whole p (λ none. (whole i k there).0 (p, named, none)) j found)

  parent_at_up : (i : Interface) (k : ℕ) (j : Interface) → HasParent small i k j → HasParent large i k j
  parent_at_up i k j (p, named, found) = (p, named, within p j found)

  component_down : (i : Interface) (k : ℕ) (j : Interface) → IsThere small i → HasComponent large i k j → HasComponent small i k j
  component_down i k j there (p, named, found) = (p, named, known small large within whole p (λ none. (whole i k there).1 (p, named, none)) j found)

  component_up : (i : Interface) (k : ℕ) (j : Interface) → HasComponent small i k j → HasComponent large i k j
  component_up i k j (p, named, found) = (p, named, within p j found)

  parent_stands : (i : Interface) (k : ℕ) (j : Interface) → HasParent small i k j → IsThere small j
  parent_stands i k j (p, named, found) = stands small p j found

  back_down : (i j : Interface) → IsThere small j → LeadsBack large i j → LeadsBack small i j
  back_down i j there (a, up, one) = (a, ancestor_down j a there up, one)

  back_up : (i j : Interface) → IsThere small j → LeadsBack small i j → LeadsBack large i j
  back_up i j there (a, up, one) = (a, ancestor_up j a there up, one)

  cycle_down : (i : Interface) → IsThere small i → ReachesCycle large i → ReachesCycle small i
  cycle_down i there (a, j, up, step, back) =
      let own : IsAncestor small i a = ancestor_down i a there up in
      let at : IsThere small a = ancestors_there small i a there own in
      let next : IsParent small a j = parent_down small large within whole a j at step in
      (a, j, own, next, back_down a j (stands small next.0 j next.2) back)

  cycle_up : (i : Interface) → IsThere small i → ReachesCycle small i → ReachesCycle large i
  cycle_up i there (a, j, up, step, back) = (a, j, ancestor_up i a there up, parent_up a j step, back_up a j (stands small step.0 j step.2) back)

  reach_down : (q j : Interface) (name : List ℕ) → IsThere small q → Reaches large q j name → Reaches small q j name
  reach_down q j name there (up, declares) = (ancestor_down q j there up, declares)

  reach_up : (q j : Interface) (name : List ℕ) → IsThere small q → Reaches small q j name → Reaches large q j name
  reach_up q j name there (up, declares) = (ancestor_up q j there up, declares)

  earlier_down : (i : Interface) (k : ℕ) (j : Interface) (name : List ℕ) → IsThere small i → ClashesWithEarlier large i k j name → ClashesWithEarlier small i k j name
  earlier_down i k j name there (l, q, m, low, parent, reach, other) =
      let own : HasParent small i l q = parent_at_down i l q there parent in
      (l, q, m, low, own, reach_down q m name (parent_stands i l q own) reach, other)

  earlier_up : (i : Interface) (k : ℕ) (j : Interface) (name : List ℕ) → IsThere small i → ClashesWithEarlier small i k j name → ClashesWithEarlier large i k j name
  earlier_up i k j name there (l, q, m, low, parent, reach, other) = (l, q, m, low, parent_at_up i l q parent, reach_up q m name (parent_stands i l q parent) reach, other)

  clash_down : (i : Interface) (k : ℕ) → IsThere small i → HasNameClash large i k → HasNameClash small i k
  clash_down i k there (q, j, name, parent, reach, clash) =
      let own : HasParent small i k q = parent_at_down i k q there parent in
      (q, j, name, own, reach_down q j name (parent_stands i k q own) reach, elim clash [ inl a ↦ inl a | inr b ↦ inr (earlier_down i k j name there b) ])

  clash_up : (i : Interface) (k : ℕ) → IsThere small i → HasNameClash small i k → HasNameClash large i k
  clash_up i k there (q, j, name, parent, reach, clash) =
      (q, j, name, parent_at_up i k q parent, reach_up q j name (parent_stands i k q parent) reach, elim clash [ inl a ↦ inl a | inr b ↦ inr (earlier_up i k j name there b) ])

  nested_down : (i : Interface) (k : ℕ) → IsThere small i → HasComponentInComponent large i k → HasComponentInComponent small i k
  nested_down i k there (q, a, component, up, declares) =
      let own : HasComponent small i k q = component_down i k q there component in
      (q, a, own, ancestor_down q a (stands small own.0 q own.2) up, declares)

  nested_up : (i : Interface) (k : ℕ) → IsThere small i → HasComponentInComponent small i k → HasComponentInComponent large i k
  nested_up i k there (q, a, component, up, declares) = (q, a, component_up i k q component, ancestor_up q a (stands small component.0 q component.2) up, declares)

  absent_down : (p : Identifier) → interface_at p large ≡ None → interface_at p small ≡ None
  absent_down p none = by (interface_at p small) refl
    where
      by : (o : Option Interface) → interface_at p small ≡ o → interface_at p small ≡ None
      by None e = e
      by (Some j) e = absurd (none-some j (sym none ∙ within p j e))

  pub breaks_down : (e f : List Interface) (i : Interface) → IsThere small i → (RepeatsId e i → ⊥) → (rule : SetRule) (spot : Spot) → BreaksSetRule large e i rule spot → BreaksSetRule small f i rule spot
  breaks_down e f i there never rules.RepeatedId spots.Whole h = h
  breaks_down e f i there never rules.RepeatedId spots.Id h = absurd (never h)
  breaks_down e f i there never rules.RepeatedId spots.Parents h = h
  breaks_down e f i there never rules.RepeatedId (spots.Parent k) h = h
  breaks_down e f i there never rules.RepeatedId (spots.ContentSchema k) h = h
  breaks_down e f i there never rules.AbsentReference spots.Whole h = h
  breaks_down e f i there never rules.AbsentReference spots.Id h = h
  breaks_down e f i there never rules.AbsentReference spots.Parents h = h
  breaks_down e f i there never rules.AbsentReference (spots.Parent k) h = (h.0, h.1, absent_down h.0 h.2)
  breaks_down e f i there never rules.AbsentReference (spots.ContentSchema k) h = (h.0, h.1, absent_down h.0 h.2)
  breaks_down e f i there never rules.Cycle spots.Whole h = h
  breaks_down e f i there never rules.Cycle spots.Id h = h
  breaks_down e f i there never rules.Cycle spots.Parents h = h
  breaks_down e f i there never rules.Cycle (spots.Parent k) h =
      let own : HasParent small i k h.0 = parent_at_down i k h.0 there h.1 in
      (h.0, own, back_down i h.0 (parent_stands i k h.0 own) h.2)
  breaks_down e f i there never rules.Cycle (spots.ContentSchema k) h = h
  breaks_down e f i there never rules.LongChain spots.Whole h = h
  breaks_down e f i there never rules.LongChain spots.Id h = h
  breaks_down e f i there never rules.LongChain spots.Parents h =
      record { ends = λ c. h.ends (cycle_up i there c); long = (h.long.0, chain_down small large within whole i h.long.0 there h.long.1, h.long.2) }
  breaks_down e f i there never rules.LongChain (spots.Parent k) h = h
  breaks_down e f i there never rules.LongChain (spots.ContentSchema k) h = h
  breaks_down e f i there never rules.NameClash spots.Whole h = h
  breaks_down e f i there never rules.NameClash spots.Id h = h
  breaks_down e f i there never rules.NameClash spots.Parents h = h
  breaks_down e f i there never rules.NameClash (spots.Parent k) h = clash_down i k there h
  breaks_down e f i there never rules.NameClash (spots.ContentSchema k) h = h
  breaks_down e f i there never rules.ComponentInComponent spots.Whole h = h
  breaks_down e f i there never rules.ComponentInComponent spots.Id h = h
  breaks_down e f i there never rules.ComponentInComponent spots.Parents h = h
  breaks_down e f i there never rules.ComponentInComponent (spots.Parent k) h = h
  breaks_down e f i there never rules.ComponentInComponent (spots.ContentSchema k) h = nested_down i k there h
  breaks_down e f i there never rules.TooManyResolved spots.Whole h = (h.0, all_map (IsAncestor large i) (IsAncestor small i) h.0 (λ a up. ancestor_down i a there up) h.1, h.2, h.3)
  breaks_down e f i there never rules.TooManyResolved spots.Id h = h
  breaks_down e f i there never rules.TooManyResolved spots.Parents h = h
  breaks_down e f i there never rules.TooManyResolved (spots.Parent k) h = h
  breaks_down e f i there never rules.TooManyResolved (spots.ContentSchema k) h = h

  pub breaks_up : (e f : List Interface) (i : Interface) → IsThere small i → (RepeatsId e i → ⊥) → (rule : SetRule) (spot : Spot) → BreaksSetRule small e i rule spot → BreaksSetRule large f i rule spot
  breaks_up e f i there never rules.RepeatedId spots.Whole h = h
  breaks_up e f i there never rules.RepeatedId spots.Id h = absurd (never h)
  breaks_up e f i there never rules.RepeatedId spots.Parents h = h
  breaks_up e f i there never rules.RepeatedId (spots.Parent k) h = h
  breaks_up e f i there never rules.RepeatedId (spots.ContentSchema k) h = h
  breaks_up e f i there never rules.AbsentReference spots.Whole h = h
  breaks_up e f i there never rules.AbsentReference spots.Id h = h
  breaks_up e f i there never rules.AbsentReference spots.Parents h = h
  breaks_up e f i there never rules.AbsentReference (spots.Parent k) h = absurd ((whole i k there).0 h)
  breaks_up e f i there never rules.AbsentReference (spots.ContentSchema k) h = absurd ((whole i k there).1 h)
  breaks_up e f i there never rules.Cycle spots.Whole h = h
  breaks_up e f i there never rules.Cycle spots.Id h = h
  breaks_up e f i there never rules.Cycle spots.Parents h = h
  breaks_up e f i there never rules.Cycle (spots.Parent k) h = (h.0, parent_at_up i k h.0 h.1, back_up i h.0 (parent_stands i k h.0 h.1) h.2)
  breaks_up e f i there never rules.Cycle (spots.ContentSchema k) h = h
  breaks_up e f i there never rules.LongChain spots.Whole h = h
  breaks_up e f i there never rules.LongChain spots.Id h = h
  breaks_up e f i there never rules.LongChain spots.Parents h =
      record { ends = λ c. h.ends (cycle_down i there c); long = (h.long.0, chain_up small large within whole i h.long.0 h.long.1, h.long.2) }
  breaks_up e f i there never rules.LongChain (spots.Parent k) h = h
  breaks_up e f i there never rules.LongChain (spots.ContentSchema k) h = h
  breaks_up e f i there never rules.NameClash spots.Whole h = h
  breaks_up e f i there never rules.NameClash spots.Id h = h
  breaks_up e f i there never rules.NameClash spots.Parents h = h
  breaks_up e f i there never rules.NameClash (spots.Parent k) h = clash_up i k there h
  breaks_up e f i there never rules.NameClash (spots.ContentSchema k) h = h
  breaks_up e f i there never rules.ComponentInComponent spots.Whole h = h
  breaks_up e f i there never rules.ComponentInComponent spots.Id h = h
  breaks_up e f i there never rules.ComponentInComponent spots.Parents h = h
  breaks_up e f i there never rules.ComponentInComponent (spots.Parent k) h = h
  breaks_up e f i there never rules.ComponentInComponent (spots.ContentSchema k) h = nested_up i k there h
  breaks_up e f i there never rules.TooManyResolved spots.Whole h = (h.0, all_map (IsAncestor small i) (IsAncestor large i) h.0 (λ a up. ancestor_up i a there up) h.1, h.2, h.3)
  breaks_up e f i there never rules.TooManyResolved spots.Id h = h
  breaks_up e f i there never rules.TooManyResolved spots.Parents h = h
  breaks_up e f i there never rules.TooManyResolved (spots.Parent k) h = h
  breaks_up e f i there never rules.TooManyResolved (spots.ContentSchema k) h = h
