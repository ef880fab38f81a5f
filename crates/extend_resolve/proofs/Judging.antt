-- What is known of a judge, and which rules can be broken at which place.
use Rattle.std.proofs.Common.{◌≡◌, ◌≢◌, ◌↔◌, ℕ, ◌+◌, ◌<◌, ◌≤◌, ◌⊎◌, inl, inr, List, [], ◌∷◌, Bool, true, false, cond, length, map, take, get_or, set, get_or-set_same, get_or-set_other, nat_eq, Ordering, Less, Equal, Greater, Option, Some, None, Bor, refl, sym, ap, ◌∙◌, subst, true≢false, arith}
use Rattle.std.specs.Prelude.{slice_get, nat_lt, min}
use Rattle.std.specs.List.{AllByRecursion, list_any, filter_map}
use Rattle.std.specs.Option.{unwrap_or}
use Rattle.std.specs.Ordering.{nat_cmp, ordering_then, is_gt}
use Rattle.std.specs.Cmp.Lexicographic.{slice_cmp}
use Rattle.std.proofs.lemmas.Cmp.{nat_cmp_total, tied_itself}
use Rattle.std.proofs.lemmas.Bool.{cases_lt, cases_eq}
use borrow.Author.Tests.{ltb-true, lt-ltb}
use Rattle.std.specs.Vec.{with_items}
use Rattle.std.proofs.lemmas.List.{length-map, get_or_past, with_items_is}
use Rattle.std.proofs.lemmas.Option.{same_Some, none-some, slice_get_within}
use Rattle.dt_base.specs.names.Grammar.{Identifier}
use Rattle.dtdl_terms.specs.declared.content.Content.{Content}
use Rattle.dtdl_terms.specs.declared.interface.Interface.{Interface}
use Rattle.dtdl_terms.specs.declared.spot.Spot.{Spot}
use Rattle.dtdl_terms.specs.declared.spot.Spot.TheVariants as spots
use Rattle.dtdl_terms.specs.declared.uploaded.Uploaded.{Uploaded}
use Rattle.extend_resolve.specs.declared.first.Found.{Found}
use Rattle.extend_resolve.specs.declared.judge.Judge.{Judge}
use Rattle.extend_resolve.specs.declared.judge.Scratch.{Scratch}
use Rattle.extend_resolve.specs.declared.owners.Owner.{Owner}
use Rattle.extend_resolve.specs.declared.rule.SetRule.{SetRule}
use Rattle.extend_resolve.specs.declared.rule.SetRule.TheVariants as rules
use Rattle.extend_resolve.specs.Breaches.{set_rule_number, BreaksSetRule, BreaksAt, place_of, Breach, breach_cmp, IsSetBreach, IsFirstSetBreach}
use Rattle.extend_resolve.specs.SetRules.{together, NamesParent, NamesComponent, LacksParent, LacksComponent, IsInCycle, HasNameClash}
use Rattle.extend_resolve.specs.Machinery.Firsts.{found_if, earlier_of, IsLeastFound, AtSpot}
use Rattle.extend_resolve.specs.Machinery.Links.{IsIn, links_at, Arrives, AreClear}
use Rattle.extend_resolve.specs.Machinery.Gathering.{id_of_kind, component_id}
use Rattle.extend_resolve.specs.Machinery.Numbers.{kept_at}
use Rattle.extend_resolve.specs.Machinery.Owners.{any_reached, add_reached, add_names, AreFresh}
use Rattle.extend_resolve.specs.Machinery.Judges.{nodes_in, judged_set, IsJudge, IsJudging, Broken, AreBehind, counted_rest, is_other_than, holds_number, is_long_at, OfParents, OfContents, IsReached, Owns, KnowsOwners, ReachesComponent, AreComposed, IsReady}
use Rattle.extend_resolve.proofs.Members.{any_found, any_given, all_at, read_placed, all_of, contains_placed, placed_within, mapped_at, read_at}
use Rattle.extend_resolve.proofs.Firsts.{at, below_or, least_at, least_if, least_weaker, earlier_least, contents_more, contents_less}
use Rattle.extend_resolve.proofs.Owning.{AreNamesBelow, any_reached_tells, knows_weaker, knows_reached, knows_names, knows_none}
use Rattle.extend_resolve.proofs.Worlds.{same_length, arrives_ancestor}
use Rattle.extend_resolve.proofs.Judged.{own_number, parent_absent, parent_there, cycle_tells, component_absent, component_there, component_tells, long_tells, in_declares, clash_tells, repeated_tells}
use Rattle.extend_resolve.proofs.Crowds.{crowd_tells}

-- ---- which rules can be broken at which place
module _ (set earlier : List Interface) (i : Interface) where
  at_whole : (r : SetRule) → BreaksSetRule set earlier i r spots.Whole → r ≡ rules.TooManyResolved
  at_whole rules.RepeatedId h = absurd h
  at_whole rules.AbsentReference h = absurd h
  at_whole rules.Cycle h = absurd h
  at_whole rules.LongChain h = absurd h
  at_whole rules.NameClash h = absurd h
  at_whole rules.ComponentInComponent h = absurd h
  at_whole rules.TooManyResolved h = refl

  at_id : (r : SetRule) → BreaksSetRule set earlier i r spots.Id → r ≡ rules.RepeatedId
  at_id rules.RepeatedId h = refl
  at_id rules.AbsentReference h = absurd h
  at_id rules.Cycle h = absurd h
  at_id rules.LongChain h = absurd h
  at_id rules.NameClash h = absurd h
  at_id rules.ComponentInComponent h = absurd h
  at_id rules.TooManyResolved h = absurd h

  at_chain : (r : SetRule) → BreaksSetRule set earlier i r spots.Parents → r ≡ rules.LongChain
  at_chain rules.RepeatedId h = absurd h
  at_chain rules.AbsentReference h = absurd h
  at_chain rules.Cycle h = absurd h
  at_chain rules.LongChain h = refl
  at_chain rules.NameClash h = absurd h
  at_chain rules.ComponentInComponent h = absurd h
  at_chain rules.TooManyResolved h = absurd h

  pub parent_absent_first : (k : ℕ) (r : SetRule) → BreaksSetRule set earlier i r (spots.Parent k) → 2 ≤ set_rule_number r
  parent_absent_first k rules.RepeatedId h = absurd h
  parent_absent_first k rules.AbsentReference h = omega arith
  parent_absent_first k rules.Cycle h = omega arith
  parent_absent_first k rules.LongChain h = absurd h
  parent_absent_first k rules.NameClash h = omega arith
  parent_absent_first k rules.ComponentInComponent h = absurd h
  parent_absent_first k rules.TooManyResolved h = absurd h

  pub parent_cycle_first : (k : ℕ) → (LacksParent set i k → ⊥) → (r : SetRule) → BreaksSetRule set earlier i r (spots.Parent k) → 3 ≤ set_rule_number r
  parent_cycle_first k there rules.RepeatedId h = absurd h
  parent_cycle_first k there rules.AbsentReference h = absurd (there h)
  parent_cycle_first k there rules.Cycle h = omega arith
  parent_cycle_first k there rules.LongChain h = absurd h
  parent_cycle_first k there rules.NameClash h = omega arith
  parent_cycle_first k there rules.ComponentInComponent h = absurd h
  parent_cycle_first k there rules.TooManyResolved h = absurd h

  pub parent_clash_alone : (k : ℕ) → (LacksParent set i k → ⊥) → (IsInCycle set i k → ⊥) → (r : SetRule) → BreaksSetRule set earlier i r (spots.Parent k) → r ≡ rules.NameClash
  parent_clash_alone k there ends rules.RepeatedId h = absurd h
  parent_clash_alone k there ends rules.AbsentReference h = absurd (there h)
  parent_clash_alone k there ends rules.Cycle h = absurd (ends h)
  parent_clash_alone k there ends rules.LongChain h = absurd h
  parent_clash_alone k there ends rules.NameClash h = refl
  parent_clash_alone k there ends rules.ComponentInComponent h = absurd h
  parent_clash_alone k there ends rules.TooManyResolved h = absurd h

  pub content_absent_first : (k : ℕ) (r : SetRule) → BreaksSetRule set earlier i r (spots.ContentSchema k) → 2 ≤ set_rule_number r
  content_absent_first k rules.RepeatedId h = absurd h
  content_absent_first k rules.AbsentReference h = omega arith
  content_absent_first k rules.Cycle h = absurd h
  content_absent_first k rules.LongChain h = absurd h
  content_absent_first k rules.NameClash h = absurd h
  content_absent_first k rules.ComponentInComponent h = omega arith
  content_absent_first k rules.TooManyResolved h = absurd h

  pub content_component_alone : (k : ℕ) → (LacksComponent set i k → ⊥) → (r : SetRule) → BreaksSetRule set earlier i r (spots.ContentSchema k) → r ≡ rules.ComponentInComponent
  content_component_alone k there rules.RepeatedId h = absurd h
  content_component_alone k there rules.AbsentReference h = absurd (there h)
  content_component_alone k there rules.Cycle h = absurd h
  content_component_alone k there rules.LongChain h = absurd h
  content_component_alone k there rules.NameClash h = absurd h
  content_component_alone k there rules.ComponentInComponent h = refl
  content_component_alone k there rules.TooManyResolved h = absurd h

  -- a place of a parent or of a component is one that the interface has
  pub parent_within : (k : ℕ) (r : SetRule) → BreaksSetRule set earlier i r (spots.Parent k) → k < length i.parents
  parent_within k rules.RepeatedId h = absurd h
  parent_within k rules.AbsentReference h = slice_get_within i.parents k h.0 h.1
  parent_within k rules.Cycle h = slice_get_within i.parents k h.1.0 h.1.1
  parent_within k rules.LongChain h = absurd h
  parent_within k rules.NameClash h = slice_get_within i.parents k h.3.0 h.3.1
  parent_within k rules.ComponentInComponent h = absurd h
  parent_within k rules.TooManyResolved h = absurd h

  pub content_named : (k : ℕ) (r : SetRule) → BreaksSetRule set earlier i r (spots.ContentSchema k) → (p : Identifier) × NamesComponent i k p
  content_named k rules.RepeatedId h = absurd h
  content_named k rules.AbsentReference h = (h.0, h.1)
  content_named k rules.Cycle h = absurd h
  content_named k rules.LongChain h = absurd h
  content_named k rules.NameClash h = absurd h
  content_named k rules.ComponentInComponent h = (h.2.0, h.2.1)
  content_named k rules.TooManyResolved h = absurd h

over_from : (others total all own : ℕ) → others ≡ min all 18446744073709551615 → total ≡ min (others + own) 18446744073709551615 → nat_lt 3000 total ≡ true → 3000 < all + own
over_from others total all own e f h = let over : 3000 < total = ltb-true 3000 total h in omega (arith, e, f, over)

over_to : (others total all own : ℕ) → others ≡ min all 18446744073709551615 → total ≡ min (others + own) 18446744073709551615 → 3000 < all + own → nat_lt 3000 total ≡ true
over_to others total all own e f h = let over : 3000 < total = omega (arith, e, f, h) in lt-ltb 3000 total over

-- ---- a judge
module _ (j : Judge) (h : IsJudge j) where
  pub nodes_length : length (nodes_in j) ≡ length j.world.nodes.items
  nodes_length = length-map j.world.nodes.items (λ n. n.now)

  pub links_nodes : length j.world.links.items ≡ length j.world.nodes.items
  links_nodes = same_length h.world ∙ nodes_length

  pub composed_nodes : length j.world.composed.items ≡ length j.world.nodes.items
  composed_nodes = h.world.composes_length ∙ nodes_length

  pub declared_nodes : length j.names.declared.items ≡ length j.world.nodes.items
  declared_nodes = ap length h.names.numbers ∙ length-map (nodes_in j) _ ∙ nodes_length

  pub depths_nodes : length j.depths.items ≡ length j.world.nodes.items
  depths_nodes = h.depths.same ∙ links_nodes

  node_below : (y : ℕ) (a : Interface) → slice_get (nodes_in j) y ≡ Some a → y < length j.world.nodes.items
  node_below y a there = subst (λ n. y < n) nodes_length (slice_get_within (nodes_in j) y a there)

  pub kept_below : (p : Identifier) (x : ℕ) → kept_at p j.world.numbers.entries ≡ Some x → x < length j.world.nodes.items
  kept_below p x kept = let s = h.world.stands p x kept in node_below x s.0 s.1

  pub behind_below : (x : ℕ) (i : Interface) (found : List ℕ) → slice_get (nodes_in j) x ≡ Some i → AreBehind j.world.links.items x found → AllByRecursion (λ y. y < length j.world.nodes.items) found
  behind_below x i found there behind =
      all_of (λ y. y < length j.world.nodes.items) found (λ y within. let a = arrives_ancestor h.world x y i there ((behind.each y).0 within) in node_below y a.0 a.1)

  -- what links lead to from one of the numbers
  pub number_below : (x : ℕ) (found : List ℕ) → x < length j.world.nodes.items → AreBehind j.world.links.items x found → AllByRecursion (λ y. y < length j.world.nodes.items) found
  number_below x found low behind =
      let a = placed_within (nodes_in j) x (subst (λ n. x < n) (sym nodes_length) low) in
      behind_below x a.0 found a.1 behind

  pub reached_below : (i : Interface) (k : ℕ) (found : List ℕ) → IsReached j.world.numbers.entries j.world.links.items i k found → AllByRecursion (λ y. y < length j.world.nodes.items) found
  reached_below i k found r =
      let s = h.world.stands r.id r.number r.kept in
      all_of (λ y. y < length j.world.nodes.items) found (λ y within. let a = arrives_ancestor h.world r.number y s.0 s.1 ((r.each y).0 within) in node_below y a.0 a.1)

  pub names_below : AreNamesBelow j.names.declared.items 0 j.names.bound
  names_below y x within =
      elim (cases_lt y (length (nodes_in j))) [
        | inl low ↦
            let a = placed_within (nodes_in j) y low in
            let d = in_declares (judged_set j) (map (λ u. u.interface) j.new.now) (nodes_in j) j.world.numbers.entries j.world.links.items j.world.composed.items h.world y a.0 a.1 j.names.declared.items j.names.bound h.names y x a.0 a.1 within in
            h.names.below d.0 x d.2
        | inr high ↦
            let past : links_at j.names.declared.items y ≡ [] = get_or_past j.names.declared.items y [] (let e = declared_nodes in let f = nodes_length in omega (arith, e, f, high)) in
            absurd (true≢false (sym (sym (ap (list_any (nat_eq x)) past) ∙ within)))
      ]

-- ---- the interface that is judged
module _ (j : Judge) (index : ℕ) (u : Uploaded) (g : IsJudging j index u) where
  abbrev P : SetRule → Spot → Type 0
  P = Broken j index u

  abbrev news : List Interface
  news = map (λ v. v.interface) j.new.now

  abbrev earlier : List Interface
  earlier = map (λ v. v.interface) (take index j.new.now)

  news_at : slice_get news index ≡ Some u.interface
  news_at = mapped_at (λ (v : Uploaded). v.interface) j.new.now index u g.at

  pub here : slice_get (nodes_in j) index ≡ Some u.interface
  here = g.judge.world.begins index u.interface news_at

  pub index_new : index < length j.new.now
  index_new = slice_get_within j.new.now index u g.at

  pub index_below : index < length j.world.nodes.items
  index_below = node_below j g.judge index u.interface here

  own : (k : ℕ) × (kept_at u.interface.id j.world.numbers.entries ≡ Some k)
  own = own_number (judged_set j) news (nodes_in j) j.world.numbers.entries j.world.links.items j.world.composed.items g.judge.world index u.interface here

  pub depth_below : index < length j.depths.items
  depth_below = subst (λ n. index < n) (sym (depths_nodes j g.judge)) index_below

  pub declared_below : index < length j.names.declared.items
  declared_below = subst (λ n. index < n) (sym (declared_nodes j g.judge)) index_below

  -- its links are the numbers of its parents that are there
  pub own_links : links_at j.world.links.items index ≡ filter_map (λ p. kept_at p j.world.numbers.entries) u.interface.parents
  own_links =
      let numbers_of : Interface → List ℕ = λ i. filter_map (λ p. kept_at p j.world.numbers.entries) i.parents in
      ap (λ ls. links_at ls index) g.judge.world.linked ∙ read_at (map numbers_of (nodes_in j)) (numbers_of u.interface) [] index (mapped_at numbers_of (nodes_in j) index u.interface here)

  pub own_kept : (n : ℕ) (o : Option ℕ) → o ≡ kept_at u.interface.id j.world.numbers.entries → n ≡ unwrap_or o index → kept_at u.interface.id j.world.numbers.entries ≡ Some n
  own_kept n o is given = own.1 ∙ ap Some (sym (given ∙ ap (λ p. unwrap_or p index) (is ∙ own.1)))

  pub all_below : (found : List ℕ) → AreBehind j.world.links.items index found → AllByRecursion (λ y. y < length j.world.nodes.items) found
  all_below found behind = behind_below j g.judge index u.interface found here behind

  pub whole_least : (found : List ℕ) (others total : ℕ) (o : Option Found) → AreBehind j.world.links.items index found
      → others ≡ min (counted_rest (nodes_in j) index (kept_at u.interface.id j.world.numbers.entries) found) 18446744073709551615
      → total ≡ min (others + length u.interface.contents) 18446744073709551615
      → o ≡ found_if (nat_lt 3000 total) rules.TooManyResolved spots.Whole
      → IsLeastFound u (AtSpot P spots.Whole) o
  whole_least found others total o behind counting adding is =
      let crowd = crowd_tells (judged_set j) news (nodes_in j) j.world.numbers.entries j.world.links.items j.world.composed.items g.judge.world index u.interface here own.0 own.1 found behind in
      subst (IsLeastFound u (AtSpot P spots.Whole)) (sym is)
      (least_if u P (nat_lt 3000 total) rules.TooManyResolved spots.Whole (
        λ h. crowd.0 (over_from others total (counted_rest (nodes_in j) index (kept_at u.interface.id j.world.numbers.entries) found) (length u.interface.contents) counting adding h),
        λ b. over_to others total (counted_rest (nodes_in j) index (kept_at u.interface.id j.world.numbers.entries) found) (length u.interface.contents) counting adding (crowd.1 b),
      )
      (at_whole (judged_set j) earlier u.interface))

  pub id_least : (b : Bool) (o : Option Found) → b ≡ is_other_than index (kept_at u.interface.id j.world.numbers.entries) → o ≡ found_if b rules.RepeatedId spots.Id → IsLeastFound u (AtSpot P spots.Id) o
  id_least b o tells is =
      let told = repeated_tells (judged_set j) j.new.now (nodes_in j) j.world.numbers.entries j.world.links.items j.world.composed.items g.judge.world index u g.at in
      subst (IsLeastFound u (AtSpot P spots.Id)) (sym is)
      (least_if u P b rules.RepeatedId spots.Id (λ h. told.0 (sym tells ∙ h), λ r. tells ∙ told.1 r) (at_id (judged_set j) earlier u.interface))

  pub chain_least : (found : List ℕ) (b : Bool) (o : Option Found) → AreBehind j.world.links.items index found
      → b ≡ is_long_at (get_or j.depths.items index None) index (kept_at u.interface.id j.world.numbers.entries) found
      → o ≡ found_if b rules.LongChain spots.Parents → IsLeastFound u (AtSpot P spots.Parents) o
  chain_least found b o behind tells is =
      let told = long_tells (judged_set j) news (nodes_in j) j.world.numbers.entries j.world.links.items j.world.composed.items g.judge.world index u.interface here j.depths.items found g.judge.depths behind in
      subst (IsLeastFound u (AtSpot P spots.Parents)) (sym is)
      (least_if u P b rules.LongChain spots.Parents (λ h. told.0 (sym tells ∙ h), λ r. tells ∙ told.1 r) (at_chain (judged_set j) earlier u.interface))

  -- ---- a parent
  pub absent_least : (k : ℕ) (p : Identifier) (o : Option Found) → NamesParent u.interface k p → kept_at p j.world.numbers.entries ≡ None
      → o ≡ found_if true rules.AbsentReference (spots.Parent k) → IsLeastFound u (AtSpot P (spots.Parent k)) o
  absent_least k p o named none is =
      subst (IsLeastFound u (AtSpot P (spots.Parent k))) (sym is)
      (least_at u P rules.AbsentReference (spots.Parent k)
      (parent_absent (judged_set j) news (nodes_in j) j.world.numbers.entries j.world.links.items j.world.composed.items g.judge.world index u.interface here k p named none)
      (parent_absent_first (judged_set j) earlier u.interface k))

  there : (k : ℕ) (found : List ℕ) → IsReached j.world.numbers.entries j.world.links.items u.interface k found → LacksParent (judged_set j) u.interface k → ⊥
  there k found r = parent_there (judged_set j) news (nodes_in j) j.world.numbers.entries j.world.links.items j.world.composed.items g.judge.world index u.interface here k r.id r.number r.named r.kept

  pub cycle_least : (k : ℕ) (found : List ℕ) (b : Bool) (o : Option Found) → IsReached j.world.numbers.entries j.world.links.items u.interface k found
      → b ≡ holds_number found (kept_at u.interface.id j.world.numbers.entries) → b ≡ true → o ≡ Some (at rules.Cycle (spots.Parent k)) → IsLeastFound u (AtSpot P (spots.Parent k)) o
  cycle_least k found b o r tells holds is =
      let told = cycle_tells (judged_set j) news (nodes_in j) j.world.numbers.entries j.world.links.items j.world.composed.items g.judge.world index u.interface here k found r in
      subst (IsLeastFound u (AtSpot P (spots.Parent k))) (sym is)
      (least_at u P rules.Cycle (spots.Parent k) (told.0 (sym tells ∙ holds)) (parent_cycle_first (judged_set j) earlier u.interface k (there k found r)))

  -- nothing clashes behind the first parent of an interface that declares no name
  nothing_owned : (x o : ℕ) → length u.interface.contents ≡ 0 → Owns j.world.numbers.entries j.world.links.items j.names.declared.items index u.interface 0 x o → ⊥
  nothing_owned x o none (inl (kept, declares)) =
      let d = in_declares (judged_set j) news (nodes_in j) j.world.numbers.entries j.world.links.items j.world.composed.items g.judge.world index u.interface here j.names.declared.items j.names.bound g.judge.names index x u.interface here declares in
      let size : length (map (λ c. c.name) u.interface.contents) ≡ length u.interface.contents = length-map u.interface.contents (λ c. c.name) in
      let low = d.1.1 in
      omega (arith, none, size, low)
  nothing_owned x o none (inr (l, low, leads, declares)) = absurd (omega (arith, low))

  pub clash_least : (owners : List Owner) (k : ℕ) (found : List ℕ) (cycles clashes : Bool) (o : Option Found) → IsReached j.world.numbers.entries j.world.links.items u.interface k found
      → length owners ≡ j.names.bound → KnowsOwners j owners index u k
      → cycles ≡ holds_number found (kept_at u.interface.id j.world.numbers.entries) → cycles ≡ false
      → (clashes ≡ any_reached j.names.declared.items index owners found) ⊎ ((clashes ≡ false) × (k ≡ 0) × (length u.interface.contents ≡ 0))
      → o ≡ found_if clashes rules.NameClash (spots.Parent k) → IsLeastFound u (AtSpot P (spots.Parent k)) o
  clash_least owners k found cycles clashes o r size knows tells ends test is =
      let round = cycle_tells (judged_set j) news (nodes_in j) j.world.numbers.entries j.world.links.items j.world.composed.items g.judge.world index u.interface here k found r in
      let told = clash_tells (judged_set j) news (nodes_in j) j.world.numbers.entries j.world.links.items j.world.composed.items g.judge.world index u.interface here j.names.declared.items j.names.bound g.judge.names k found r in
      let any = any_reached_tells j.names.declared.items index (Owns j.world.numbers.entries j.world.links.items j.names.declared.items index u.interface k) owners found
      (subst (AreNamesBelow j.names.declared.items 0) (sym size) (names_below j g.judge)) knows in
      let decides : (clashes ≡ true) ↔ HasNameClash (judged_set j) u.interface k =
      elim test [
        | inl e ↦ (λ h. told.0 (any.0 (sym e ∙ h)), λ c. e ∙ any.1 (told.1 c))
        | inr e ↦ (
          λ h. absurd (true≢false (sym h ∙ e.0)),
          λ c. let z = told.1 c in absurd (nothing_owned z.1 z.2 e.2 (subst (λ n. Owns j.world.numbers.entries j.world.links.items j.names.declared.items index u.interface n z.1 z.2) e.1 z.5)),
        )
      ] in
      subst (IsLeastFound u (AtSpot P (spots.Parent k))) (sym is)
      (least_if u P clashes rules.NameClash (spots.Parent k) decides
      (parent_clash_alone (judged_set j) earlier u.interface k (there k found r) (λ c. true≢false (sym (round.1 c) ∙ sym tells ∙ ends))))

  -- ---- owners
  abbrev Owned : ℕ → ℕ → ℕ → Type 0
  Owned k = Owns j.world.numbers.entries j.world.links.items j.names.declared.items index u.interface k

  -- an absent parent adds none
  pub owned_skip : (owners : List Owner) (k : ℕ) (p : Identifier) → NamesParent u.interface k p → kept_at p j.world.numbers.entries ≡ None → KnowsOwners j owners index u k → KnowsOwners j owners index u (k + 1)
  owned_skip owners k p named none knows =
      knows_weaker owners index (Owned k) (Owned (k + 1))
      (λ x o h. elim h [ inl q ↦ inl q | inr q ↦ inr (q.0, omega (arith, q.1), q.2, q.3) ])
      (λ x o h. elim h [
        | inl q ↦ inl q
        | inr q ↦ elim (below_or q.0 k q.1) [
          | inl e ↦
              let same : q.2.0 ≡ p = same_Some q.2.0 p (sym (subst (λ n. NamesParent u.interface n q.2.0) e q.2.2) ∙ named) in
              absurd (none-some q.2.1 (sym none ∙ ap (λ r. kept_at r j.world.numbers.entries) (sym same) ∙ q.2.3))
          | inr less ↦ inr (q.0, less, q.2, q.3)
        ]
      ])
      knows

  pub owned_more : (owners : List Owner) (k : ℕ) (found : List ℕ) → IsReached j.world.numbers.entries j.world.links.items u.interface k found → length owners ≡ j.names.bound
      → KnowsOwners j owners index u k → KnowsOwners j (add_reached j.names.declared.items index owners found) index u (k + 1)
  owned_more owners k found r size knows =
      knows_weaker (add_reached j.names.declared.items index owners found) index (λ x o. Owned k x o ⊎ (IsIn o found × IsIn x (links_at j.names.declared.items o))) (Owned (k + 1))
      (λ x o h. elim h [
        | inl q ↦ elim q [ inl a ↦ inl a | inr b ↦ inr (b.0, omega (arith, b.1), b.2, b.3) ]
        | inr q ↦ inr (k, omega arith, (r.id, r.number, r.named, r.kept, (r.each o).0 q.0), q.1)
      ])
      (λ x o h. elim h [
        | inl q ↦ inl (inl q)
        | inr q ↦ elim (below_or q.0 k q.1) [
          | inl e ↦
              let same : q.2.0 ≡ r.id = same_Some q.2.0 r.id (sym (subst (λ n. NamesParent u.interface n q.2.0) e q.2.2) ∙ r.named) in
              let number : q.2.1 ≡ r.number = same_Some q.2.1 r.number (sym q.2.3 ∙ ap (λ s. kept_at s j.world.numbers.entries) same ∙ r.kept) in
              inr ((r.each o).1 (subst (λ n. Arrives j.world.links.items n o) number q.2.4), q.3)
          | inr less ↦ inl (inr (q.0, less, q.2, q.3))
        ]
      ])
      (knows_reached j.names.declared.items index (Owned k) owners found (subst (AreNamesBelow j.names.declared.items 0) (sym size) (names_below j g.judge)) knows)

  -- another content breaks no rule
  pub no_component : (k : ℕ) → ((p : Identifier) → NamesComponent u.interface k p → ⊥) → (r : SetRule) (s : Spot) → AtSpot P (spots.ContentSchema k) r s → ⊥
  no_component k never r s h = let c = content_named (judged_set j) earlier u.interface k r (subst (P r) h.0 h.1) in never c.0 c.1

  -- where it declares no component, no content breaks a rule
  pub contents_none : get_or j.world.composed.items index false ≡ false → IsLeastFound u (OfContents P (length u.interface.contents)) None
  contents_none none r s (k, low, h) =
      let c = content_named (judged_set j) earlier u.interface k r (subst (P r) h.0 h.1) in
      true≢false (sym ((g.judge.world.composes index u.interface here).1 (c.1.0, c.0, contains_placed u.interface.contents c.1.0 k c.1.1, c.1.2)) ∙ none)

  -- another content than a component adds no place
  pub contents_skip : (k : ℕ) (o : Option Found) → ((p : Identifier) → NamesComponent u.interface k p → ⊥) → IsLeastFound u (OfContents P k) o → IsLeastFound u (OfContents P (k + 1)) o
  contents_skip k o never least =
      least_weaker u (OfContents P k) (OfContents P (k + 1)) o (λ r s h. contents_more P k r s (inl h))
      (λ r s h. elim (contents_less P k r s h) [ inl before ↦ before | inr here ↦ absurd (no_component k never r s here) ]) least

  pub own_names_below : (owners : List Owner) (names : List ℕ) → names ≡ links_at j.names.declared.items index → length owners ≡ j.names.bound → AllByRecursion (λ x. x < length owners) names
  own_names_below owners names same size = all_of (λ x. x < length owners) names (λ x h. subst (λ n. x < n) (sym size) (names_below j g.judge index x (subst (IsIn x) same h)))

  -- at first the judged interface owns its names
  pub owned_first : (owners : List Owner) (number : ℕ) (names : List ℕ) → kept_at u.interface.id j.world.numbers.entries ≡ Some number → names ≡ links_at j.names.declared.items index
      → length owners ≡ j.names.bound → AreFresh owners index (length j.new.now) → KnowsOwners j (add_names index number owners names) index u 0
  owned_first owners number names kept same size fresh =
      let below : AllByRecursion (λ x. x < length owners) names =
      all_of (λ x. x < length owners) names (λ x h. subst (λ n. x < n) (sym size) (names_below j g.judge index x (subst (IsIn x) same h))) in
      knows_weaker (add_names index number owners names) index (λ x o. ⊥ ⊎ (IsIn x names × (o ≡ number))) (Owned 0)
      (λ x o h. elim h [ inl q ↦ absurd q | inr q ↦ inl (kept ∙ ap Some (sym q.1), subst (IsIn x) same q.0) ])
      (λ x o h. elim h [
        | inl q ↦ inr (subst (IsIn x) (sym same) q.1, same_Some o number (sym q.0 ∙ kept))
        | inr q ↦ absurd (omega (arith, q.1))
      ])
      (knows_names index number (λ x o. ⊥) owners names below (knows_none owners index (length j.new.now) index_new fresh))

  -- ---- a component
  pub lost_least : (k : ℕ) (p : Identifier) (o : Option Found) → NamesComponent u.interface k p → kept_at p j.world.numbers.entries ≡ None
      → o ≡ found_if true rules.AbsentReference (spots.ContentSchema k) → IsLeastFound u (AtSpot P (spots.ContentSchema k)) o
  lost_least k p o named none is =
      subst (IsLeastFound u (AtSpot P (spots.ContentSchema k))) (sym is)
      (least_at u P rules.AbsentReference (spots.ContentSchema k)
      (component_absent (judged_set j) news (nodes_in j) j.world.numbers.entries j.world.links.items j.world.composed.items g.judge.world index u.interface here k p news_at named none)
      (content_absent_first (judged_set j) earlier u.interface k))

  pub component_least : (k : ℕ) (p : Identifier) (x : ℕ) (b : Bool) (o : Option Found) → NamesComponent u.interface k p → kept_at p j.world.numbers.entries ≡ Some x
      → (b ≡ true) ↔ ReachesComponent j.world.links.items j.world.composed.items x
      → o ≡ found_if b rules.ComponentInComponent (spots.ContentSchema k) → IsLeastFound u (AtSpot P (spots.ContentSchema k)) o
  component_least k p x b o named kept tells is =
      let told = component_tells (judged_set j) news (nodes_in j) j.world.numbers.entries j.world.links.items j.world.composed.items g.judge.world index u.interface here k p x named kept in
      subst (IsLeastFound u (AtSpot P (spots.ContentSchema k))) (sym is)
      (least_if u P b rules.ComponentInComponent (spots.ContentSchema k) (λ h. told.0 (tells.0 h), λ c. tells.1 (told.1 c))
      (content_component_alone (judged_set j) earlier u.interface k
      (component_there (judged_set j) news (nodes_in j) j.world.numbers.entries j.world.links.items j.world.composed.items g.judge.world index u.interface here k p x named kept)))

  -- ---- all places
  abbrev Parents : SetRule → Spot → Type 0
  Parents = OfParents P (length u.interface.parents)

  abbrev Contents : SetRule → Spot → Type 0
  Contents = OfContents P (length u.interface.contents)

  abbrev Own : SetRule → Spot → Type 0
  Own r s = AtSpot P spots.Id r s ⊎ AtSpot P spots.Parents r s

  abbrev Below : SetRule → Spot → Type 0
  Below r s = Parents r s ⊎ Contents r s

  abbrev Inner : SetRule → Spot → Type 0
  Inner r s = Own r s ⊎ Below r s

  places : (r : SetRule) (s : Spot) → P r s → AtSpot P spots.Whole r s ⊎ Inner r s
  places r spots.Whole h = inl (refl, h)
  places r spots.Id h = inr (inl (inl (refl, h)))
  places r spots.Parents h = inr (inl (inr (refl, h)))
  places r (spots.Parent k) h = inr (inr (inl (k, parent_within (judged_set j) earlier u.interface k r h, (refl, h))))
  places r (spots.ContentSchema k) h =
      let c = content_named (judged_set j) earlier u.interface k r h in
      inr (inr (inr (k, slice_get_within u.interface.contents k c.1.0 c.1.1, (refl, h))))

  placed_back : (r : SetRule) (s : Spot) → AtSpot P spots.Whole r s ⊎ Inner r s → P r s
  placed_back r s (inl h) = h.1
  placed_back r s (inr (inl (inl h))) = h.1
  placed_back r s (inr (inl (inr h))) = h.1
  placed_back r s (inr (inr (inl h))) = h.2.1
  placed_back r s (inr (inr (inr h))) = h.2.1

  pub all_least : (whole id chain parents contents : Option Found) → IsLeastFound u (AtSpot P spots.Whole) whole → IsLeastFound u (AtSpot P spots.Id) id → IsLeastFound u (AtSpot P spots.Parents) chain
      → IsLeastFound u Parents parents → IsLeastFound u Contents contents → IsLeastFound u P (earlier_of u whole (earlier_of u (earlier_of u id chain) (earlier_of u parents contents)))
  all_least whole id chain parents contents hw hi hc hp hk =
      let inner : IsLeastFound u Inner (earlier_of u (earlier_of u id chain) (earlier_of u parents contents)) =
      earlier_least u Own Below (earlier_of u id chain) (earlier_of u parents contents)
      (earlier_least u (AtSpot P spots.Id) (AtSpot P spots.Parents) id chain hi hc)
      (earlier_least u Parents Contents parents contents hp hk) in
      least_weaker u (λ r s. AtSpot P spots.Whole r s ⊎ Inner r s) P (earlier_of u whole (earlier_of u (earlier_of u id chain) (earlier_of u parents contents))) placed_back places
      (earlier_least u (AtSpot P spots.Whole) Inner whole (earlier_of u (earlier_of u id chain) (earlier_of u parents contents)) hw inner)

-- the numbers behind a parent
pub is_reached : (numbers : List (Identifier × ℕ)) (links : List (List ℕ)) (i : Interface) (k : ℕ) (id : Identifier) (x : ℕ) (found items : List ℕ) → NamesParent i k id → kept_at id numbers ≡ Some x
    → AreBehind links x items → found ≡ items → IsReached numbers links i k found
is_reached numbers links i k id x found items named kept behind same = record {
  id = id;
  number = x;
  named = named;
  kept = kept;
  each = (subst (AreBehind links x) (sym same) behind).each;
}

-- ---- what was found out of components
pub composed_tells : (links : List (List ℕ)) (composed : List Bool) (x : ℕ) (found items : List ℕ) (b : Bool) → AreBehind links x items → found ≡ items
    → b ≡ list_any (λ y. get_or composed y false) found → (b ≡ true) ↔ ReachesComponent links composed x
composed_tells links composed x found items b behind same is =
    let each = (subst (AreBehind links x) (sym same) behind).each in (
      λ h. let one = any_found (λ y. get_or composed y false) found (sym is ∙ h) in (one.0, (each one.0).0 one.1, one.2),
      λ r. is ∙ any_given (λ y. get_or composed y false) found r.0 ((each r.0).1 r.1) r.2,
    )

pub composed_put : (links : List (List ℕ)) (composed : List Bool) (known : List (Option Bool)) (number : ℕ) (b : Bool) → number < length known
    → AreComposed links composed known → (b ≡ true) ↔ ReachesComponent links composed number → AreComposed links composed (set known number (Some b))
composed_put links composed known number b low told tells x r h =
    elim (cases_eq x number) [
      | inl same ↦
          let put : get_or (set known number (Some b)) x None ≡ Some b = ap (λ k. get_or (set known number (Some b)) k None) same ∙ get_or-set_same known number (Some b) None low in
          let is : b ≡ r = same_Some b r (sym put ∙ h) in
          subst (λ k. (r ≡ true) ↔ ReachesComponent links composed k) (sym same) (subst (λ v. (v ≡ true) ↔ ReachesComponent links composed number) is tells)
      | inr other ↦ told x r (sym (get_or-set_other known number x (Some b) None other) ∙ h)
    ]

-- ---- the first breach of all
less_place : (a b : ℕ) (xs ys : List ℕ) (o : Ordering) → a < b → ordering_then (ordering_then (nat_cmp a b) (slice_cmp nat_cmp xs ys)) o ≡ Greater → ⊥
less_place a b xs ys o low e =
    let less : nat_cmp a b ≡ Less = ap (λ t. cond t Less (cond (nat_eq a b) Equal Greater)) (lt-ltb a b low) in
    true≢false (sym (ap is_gt (sym (ap (λ p. ordering_then (ordering_then p (slice_cmp nat_cmp xs ys)) o) less) ∙ e)))

same_place_of : (a : ℕ) (xs ys : List ℕ) (o : Ordering) → ordering_then (slice_cmp nat_cmp (a ∷ xs) (a ∷ ys)) o ≡ ordering_then (slice_cmp nat_cmp xs ys) o
same_place_of a xs ys o = ap (λ p. ordering_then (ordering_then p (slice_cmp nat_cmp xs ys)) o) (tied_itself nat_cmp_total a)

same_index : (set : List Interface) (new : List Uploaded) (index : ℕ) (u : Uploaded) (f : Found) → slice_get new index ≡ Some u
    → IsLeastFound u (BreaksSetRule (together set new) (map (λ v. v.interface) (take index new)) u.interface) (Some f)
    → (c : Breach) → index ≡ c.index → IsSetBreach set new c → breach_cmp new (record { index = index; rule = f.rule; spot = f.spot }) c ≢ Greater
same_index set new index u f here least c same broken e =
    let (v, at, h) = subst (λ k. BreaksAt set new k c.rule c.spot) (sym same) broken in
    let one : v ≡ u = same_Some v u (sym at ∙ here) in
    let breaks : BreaksSetRule (together set new) (map (λ x. x.interface) (take index new)) u.interface c.rule c.spot =
    subst (λ w. BreaksSetRule (together set new) (map (λ x. x.interface) (take index new)) w.interface c.rule c.spot) one h in
    let o : Ordering = nat_cmp (set_rule_number f.rule) (set_rule_number c.rule) in
    let moved : ordering_then (slice_cmp nat_cmp (index ∷ place_of (slice_get new index) f.spot) (index ∷ place_of (slice_get new index) c.spot)) o ≡ Greater =
    ap (λ k. ordering_then (slice_cmp nat_cmp (index ∷ place_of (slice_get new index) f.spot) (k ∷ place_of (slice_get new k) c.spot)) o) same ∙ e in
    let inside : ordering_then (slice_cmp nat_cmp (place_of (slice_get new index) f.spot) (place_of (slice_get new index) c.spot)) o ≡ Greater =
    sym (same_place_of index (place_of (slice_get new index) f.spot) (place_of (slice_get new index) c.spot) o) ∙ moved in
    least.1 c.rule c.spot breaks (ap (λ p. ordering_then (slice_cmp nat_cmp (place_of p f.spot) (place_of p c.spot)) o) (sym here) ∙ inside)

pub first_is : (set : List Interface) (new : List Uploaded) (index : ℕ) (u : Uploaded) (f : Found) → slice_get new index ≡ Some u
    → IsLeastFound u (BreaksSetRule (together set new) (map (λ v. v.interface) (take index new)) u.interface) (Some f)
    → ((b : Breach) → b.index < index → IsSetBreach set new b → ⊥) → IsFirstSetBreach set new (record { index = index; rule = f.rule; spot = f.spot })
first_is set new index u f here least none = record {
  breach = (u, here, least.0);
  least = λ c broken.
      elim (cases_lt c.index index) [
        | inl low ↦ absurd (none c low broken)
        | inr high ↦ elim (cases_lt index c.index) [
          | inl further ↦ λ e. less_place index c.index (place_of (slice_get new index) f.spot) (place_of (slice_get new c.index) c.spot) (nat_cmp (set_rule_number f.rule) (set_rule_number c.rule)) further e
          | inr back ↦
              let same : index ≡ c.index = omega (arith, high, back) in
              same_index set new index u f here least c same broken
        ]
      ];
}

pub sound_more : (set : List Interface) (new : List Uploaded) (index : ℕ) (u : Uploaded) → slice_get new index ≡ Some u
    → ((r : SetRule) (s : Spot) → BreaksSetRule (together set new) (map (λ v. v.interface) (take index new)) u.interface r s → ⊥)
    → ((b : Breach) → b.index < index → IsSetBreach set new b → ⊥) → (b : Breach) → b.index < index + 1 → IsSetBreach set new b → ⊥
sound_more set new index u here clean none b low broken =
    elim (below_or b.index index low) [
      | inl same ↦
          let (v, at, h) = subst (λ k. BreaksAt set new k b.rule b.spot) same broken in
          clean b.rule b.spot (subst (λ w. BreaksSetRule (together set new) (map (λ x. x.interface) (take index new)) w.interface b.rule b.spot) (same_Some v u (sym at ∙ here)) h)
      | inr less ↦ none b less broken
    ]

-- ---- what the judgement of an interface begins with, after a change
pub ready_with : (j : Judge) (s : Scratch) (n : ℕ) (ms : List Bool) (os : List Owner) → length ms ≡ length s.marks.items → length os ≡ length s.owners.items
    → length s.marks.items ≡ length j.world.links.items → length s.owners.items ≡ j.names.bound → length s.composed.items ≡ length j.world.links.items
    → AreComposed j.world.links.items j.world.composed.items s.composed.items → AreClear ms → AreFresh os n (length j.new.now)
    → IsReady j (record { marks = with_items s.marks ms; owners = with_items s.owners os; composed = s.composed }) n
ready_with j s n ms os same_marks same_owners marks owners size composed clear fresh =
    let m : (with_items s.marks ms).items ≡ ms = with_items_is s.marks ms (same_marks ∙ sym s.marks.ok.0) in
    let o : (with_items s.owners os).items ≡ os = with_items_is s.owners os (same_owners ∙ sym s.owners.ok.0) in
    record {
      marks = subst AreClear (sym m) clear;
      marks_length = ap length m ∙ same_marks ∙ marks;
      owners_length = ap length o ∙ same_owners ∙ owners;
      fresh = subst (λ xs. AreFresh xs n (length j.new.now)) (sym o) fresh;
      composed_length = size;
      composed = composed;
    }

pub ready_owners : (j : Judge) (s : Scratch) (n : ℕ) (os : List Owner) → length os ≡ length s.owners.items
    → length s.marks.items ≡ length j.world.links.items → length s.owners.items ≡ j.names.bound → length s.composed.items ≡ length j.world.links.items
    → AreComposed j.world.links.items j.world.composed.items s.composed.items → AreClear s.marks.items → AreFresh os n (length j.new.now)
    → IsReady j (record { marks = s.marks; owners = with_items s.owners os; composed = s.composed }) n
ready_owners j s n os same_owners marks owners size composed clear fresh =
    let o : (with_items s.owners os).items ≡ os = with_items_is s.owners os (same_owners ∙ sym s.owners.ok.0) in
    record {
      marks = clear;
      marks_length = marks;
      owners_length = ap length o ∙ same_owners ∙ owners;
      fresh = subst (λ xs. AreFresh xs n (length j.new.now)) (sym o) fresh;
      composed_length = size;
      composed = composed;
    }

pub ready_composed : (j : Judge) (s : Scratch) (n : ℕ) (ms : List Bool) (ks : List (Option Bool)) → IsReady j s n → length ms ≡ length s.marks.items → length ks ≡ length s.composed.items
    → AreClear ms → AreComposed j.world.links.items j.world.composed.items ks
    → IsReady j (record { marks = with_items s.marks ms; owners = s.owners; composed = with_items s.composed ks }) n
ready_composed j s n ms ks ready same_marks same_known clear known =
    let m : (with_items s.marks ms).items ≡ ms = with_items_is s.marks ms (same_marks ∙ sym s.marks.ok.0) in
    let k : (with_items s.composed ks).items ≡ ks = with_items_is s.composed ks (same_known ∙ sym s.composed.ok.0) in
    record {
      marks = subst AreClear (sym m) clear;
      marks_length = ap length m ∙ same_marks ∙ ready.marks_length;
      owners_length = ready.owners_length;
      fresh = ready.fresh;
      composed_length = ap length k ∙ same_known ∙ ready.composed_length;
      composed = subst (AreComposed j.world.links.items j.world.composed.items) (sym k) known;
    }

pub owned_with : (j : Judge) (s : Scratch) (index k : ℕ) (u : Uploaded) (os : List Owner) → length os ≡ length s.owners.items → KnowsOwners j os index u k → KnowsOwners j (with_items s.owners os).items index u k
owned_with j s index k u os same knows = subst (λ xs. KnowsOwners j xs index u k) (sym (with_items_is s.owners os (same ∙ sym s.owners.ok.0))) knows

-- ---- components by their kinds
pub no_id : (i : Interface) (k : ℕ) (c : Content) → slice_get i.contents k ≡ Some c → component_id c ≡ None → (p : Identifier) → NamesComponent i k p → ⊥
no_id i k c at none p (d, there, is) =
    none-some p (sym none ∙ ap component_id (same_Some c d (sym at ∙ there)) ∙ ap id_of_kind is)

pub node_read : (j : Judge) (numbers : List ℕ) (k d : ℕ) (r : Bor Interface) → k < length numbers → AllByRecursion (λ y. y < length j.world.nodes.items) numbers
    → r ≡ get_or j.world.nodes.items (get_or numbers k d) r → slice_get (nodes_in j) (get_or numbers k d) ≡ Some r.now
node_read j numbers k d r low all is =
    let y : ℕ = get_or numbers k d in
    let within : y < length j.world.nodes.items = all_at (λ z. z < length j.world.nodes.items) numbers k y all (read_placed numbers k d low) in
    mapped_at (λ (n : Bor Interface). n.now) j.world.nodes.items y r (read_placed j.world.nodes.items y r within ∙ ap Some (sym is))
