-- What links between numbers tell of chains of extension.
use Rattle.std.proofs.Common.{◌≡◌, ◌↔◌, ℕ, zero, suc, ◌+◌, ◌<◌, ◌≤◌, ◌⊎◌, inl, inr, List, [], ◌∷◌, ◌++◌, Bool, true, false, cond, ◌||◌, map, length, get_or, nat_eq, Option, Some, None, refl, sym, ap, ◌∙◌, subst, true≢false, is_eq, arith, length-append}
use Rattle.std.specs.Prelude.{slice_get, IsSome, Contains}
use Rattle.std.specs.List.{AllByRecursion, IsDistinct, list_any, filter_map, cons_option}
use Rattle.std.specs.Option.{is_some, option_map, unwrap_or}
use Rattle.std.specs.Ordering.{nat_cmp}
use Rattle.std.specs.Cmp.Lexicographic.{slice_cmp}
use Rattle.std.specs.Map.{lookup}
use Rattle.std.specs.BTreeMap.{is_at}
use Rattle.std.proofs.lemmas.List.{length-map}
use Rattle.std.proofs.lemmas.Map.Steps.{length-le_from_distinct_below}
use Rattle.std.proofs.lemmas.Option.{none-some, same_Some, slice_get-map, slice_get_within, unwrap_or-slice_get}
use Rattle.dt_base.specs.names.Grammar.{Identifier, dtmi_text, id_cmp}
use Rattle.dtdl_terms.specs.Sets.{keyed, interface_at}
use Rattle.dtdl_terms.specs.declared.interface.Interface.{Interface}
use Rattle.extend_resolve.specs.Chains.{HaveOneId, IsParent, IsChain, chain_end, IsAncestor, LeadsBack, ReachesCycle}
use Rattle.extend_resolve.specs.SetRules.{IsLongChain}
use Rattle.extend_resolve.specs.Machinery.Links.{IsIn, links_at, IsWay, way_end, Arrives, AreLinksWithin}
use Rattle.extend_resolve.specs.Machinery.Numbers.{kept_at}
use Rattle.extend_resolve.specs.Machinery.Worlds.{IsWorld, DepthAt, AreDepths}
use Rattle.extend_resolve.proofs.Numbers.{same_text, some_of}
use Rattle.extend_resolve.proofs.Opening.{equal_numbers, same_number}
use Rattle.extend_resolve.proofs.Within.{placed_from_contained, contained_from_placed}

-- ---- identifiers
-- what stands for an identifier has it
pub found_text : (p : Identifier) (set : List Interface) (j : Interface) → interface_at p set ≡ Some j → dtmi_text p ≡ dtmi_text j.id
found_text p [] j found = absurd (none-some j found)
found_text p (i ∷ is) j found =
    elim (is_eq (id_cmp p i.id)) as (λ b. is_eq (id_cmp p i.id) ≡ b → cond b (Some i) (interface_at p is) ≡ Some j → dtmi_text p ≡ dtmi_text j.id) [
      | true ↦ λ e h. same_text p i.id e ∙ ap (λ x. dtmi_text x.id) (same_Some i j h)
      | false ↦ λ e h. found_text p is j h
    ] refl found

-- equal identifiers have one number
pub kept_by_text : (p q : Identifier) (numbers : List (Identifier × ℕ)) → dtmi_text p ≡ dtmi_text q → kept_at p numbers ≡ kept_at q numbers
kept_by_text p q numbers same = ap (λ t. lookup (λ (k : Identifier). is_eq (slice_cmp nat_cmp t (dtmi_text k))) numbers) same

-- ---- numbers of those that have one
module _ (f : Identifier → Option ℕ) where
  in_front : (y z : ℕ) (zs : List ℕ) → IsIn y zs → IsIn y (z ∷ zs)
  in_front y z zs h = elim (nat_eq y z) as (λ b. (b || list_any (nat_eq y) zs) ≡ true) [ true ↦ refl | false ↦ h ]

  numbered_in : (ps : List Identifier) (k : ℕ) (p : Identifier) (y : ℕ) → slice_get ps k ≡ Some p → f p ≡ Some y → IsIn y (filter_map f ps)
  numbered_in [] k p y at is = absurd (none-some p at)
  numbered_in (q ∷ qs) zero p y at is =
      subst (λ o. IsIn y (cons_option o (filter_map f qs))) (sym (ap f (same_Some q p at) ∙ is)) (ap (λ b. b || list_any (nat_eq y) (filter_map f qs)) (same_number y))
  numbered_in (q ∷ qs) (suc k) p y at is =
      let later : IsIn y (filter_map f qs) = numbered_in qs k p y at is in
      elim (f q) as (λ o. IsIn y (cons_option o (filter_map f qs))) [ None ↦ later | Some z ↦ in_front y z (filter_map f qs) later ]

  numbered_from : (ps : List Identifier) (y : ℕ) → IsIn y (filter_map f ps) → (k : ℕ) × (p : Identifier) × (slice_get ps k ≡ Some p) × (f p ≡ Some y)
  numbered_from [] y h = absurd (true≢false (sym h))
  numbered_from (q ∷ qs) y h =
      elim (f q) as (λ o. f q ≡ o → IsIn y (cons_option o (filter_map f qs)) → (k : ℕ) × (p : Identifier) × (slice_get (q ∷ qs) k ≡ Some p) × (f p ≡ Some y)) [
        | None ↦ λ e h. let r = numbered_from qs y h in (suc r.0, r.1, r.2, r.3)
        | Some z ↦ λ e h. elim (nat_eq y z) as (λ b. nat_eq y z ≡ b → (b || list_any (nat_eq y) (filter_map f qs)) ≡ true → (k : ℕ) × (p : Identifier) × (slice_get (q ∷ qs) k ≡ Some p) × (f p ≡ Some y)) [
          | true ↦ λ same _. (zero, q, refl, e ∙ ap Some (sym (equal_numbers y z same)))
          | false ↦ λ _ h. let r = numbered_from qs y h in (suc r.0, r.1, r.2, r.3)
        ] refl h
      ] refl h

-- ---- ways
none_equal : (y : ℕ) (ys : List ℕ) → list_any (nat_eq y) ys ≡ false → AllByRecursion (λ q. nat_eq y q ≡ false) ys
none_equal y [] h = tt
none_equal y (z ∷ zs) h =
    elim (nat_eq y z) as (λ b. nat_eq y z ≡ b → (b || list_any (nat_eq y) zs) ≡ false → AllByRecursion (λ q. nat_eq y q ≡ false) (z ∷ zs)) [
      | true ↦ λ e h. absurd (true≢false h)
      | false ↦ λ e h. (e, none_equal y zs h)
    ] refl h

module _ (links : List (List ℕ)) where
  -- a number to which a step and further ones lead back
  abbrev pub IsOnCycle : ℕ → Type 0
  IsOnCycle z = (w : ℕ) × IsIn w (links_at links z) × Arrives links w z

  pub arrives_here : (x : ℕ) → Arrives links x x
  arrives_here x = ([], tt, refl)

  pub arrives_by : (x y z : ℕ) → IsIn y (links_at links x) → Arrives links y z → Arrives links x z
  arrives_by x y z link (ys, way, is) = (y ∷ ys, (link, way), is)

  cut_way : (n x : ℕ) (ys : List ℕ) → IsWay links x ys → n ≤ length ys → (zs : List ℕ) × IsWay links x zs × (length zs ≡ n)
  cut_way zero x ys way long = ([], tt, refl)
  cut_way (suc n) x [] way long = absurd (omega (arith, long))
  cut_way (suc n) x (y ∷ ys) (link, way) long = let less = cut_way n y ys way (omega (arith, long)) in (y ∷ less.0, (link, less.1), ap suc less.2)

  join_ways : (x : ℕ) (ys zs : List ℕ) → IsWay links x ys → IsWay links (way_end x ys) zs → IsWay links x (ys ++ zs)
  join_ways x [] zs way more = more
  join_ways x (y ∷ ys) zs (link, way) more = (link, join_ways y ys zs way more)

  to_member : (x : ℕ) (ys : List ℕ) (z : ℕ) → IsWay links x ys → IsIn z ys → (w : ℕ) × IsIn w (links_at links x) × Arrives links w z
  to_member x [] z way h = absurd (true≢false (sym h))
  to_member x (y ∷ ys) z (link, way) h =
      elim (nat_eq z y) as (λ b. nat_eq z y ≡ b → (b || list_any (nat_eq z) ys) ≡ true → (w : ℕ) × IsIn w (links_at links x) × Arrives links w z) [
        | true ↦ λ e _. (y, link, subst (λ v. Arrives links y v) (sym (equal_numbers z y e)) (arrives_here y))
        | false ↦ λ _ h. let later = to_member y ys z way h in (y, link, arrives_by y later.0 z later.1 later.2)
      ] refl h

  -- a way meets no number twice, or leads to a cycle
  distinct_or_cycle : (x : ℕ) (ys : List ℕ) → IsWay links x ys → IsDistinct nat_eq ys ⊎ ((z : ℕ) × Arrives links x z × IsOnCycle z)
  unfolding IsDistinct
  distinct_or_cycle x [] way = inl tt
  distinct_or_cycle x (y ∷ ys) (link, way) =
      elim (distinct_or_cycle y ys way) [
        | inr c ↦ inr (c.0, arrives_by x y c.0 link c.1, c.2)
        | inl d ↦ elim (list_any (nat_eq y) ys) as (λ b. list_any (nat_eq y) ys ≡ b → IsDistinct nat_eq (y ∷ ys) ⊎ ((z : ℕ) × Arrives links x z × IsOnCycle z)) [
          | true ↦ λ e. inr (y, arrives_by x y y link (arrives_here y), to_member y ys y way e)
          | false ↦ λ e. inl (none_equal y ys e, d)
        ] refl
      ]

  way_below : (x : ℕ) (ys : List ℕ) → AreLinksWithin links → IsWay links x ys → (q : ℕ) → IsIn q ys → q < length links
  way_below x [] within way q h = absurd (true≢false (sym h))
  way_below x (y ∷ ys) within (link, way) q h =
      elim (nat_eq q y) as (λ b. nat_eq q y ≡ b → (b || list_any (nat_eq q) ys) ≡ true → q < length links) [
        | true ↦ λ e _. subst (λ v. v < length links) (sym (equal_numbers q y e)) (within x y link)
        | false ↦ λ _ h. way_below y ys within way q h
      ] refl h

  -- a way that is longer than there are numbers leads to a cycle
  long_way_cycles : (x : ℕ) (ys : List ℕ) → AreLinksWithin links → IsWay links x ys → length links < length ys → (z : ℕ) × Arrives links x z × IsOnCycle z
  long_way_cycles x ys within way long =
      elim (distinct_or_cycle x ys way) [
        | inr c ↦ c
        | inl d ↦ let short : length ys ≤ length links = length-le_from_distinct_below ys (length links) d (way_below x ys within way) in absurd (omega (arith, short, long))
      ]

  -- on a cycle begin ways as long as one likes
  around : (z : ℕ) → IsOnCycle z → (d : ℕ) → (ys : List ℕ) × IsWay links z ys × (d ≤ length ys)
  around z on zero = ([], tt, omega arith)
  around z (w, link, (ws, way, back)) (suc d) =
      let more = around z (w, link, (ws, way, back)) d in
      let long : suc d ≤ suc (length (ws ++ more.0)) = omega (arith, more.2, length-append ws more.0) in
      (w ∷ (ws ++ more.0), (link, join_ways w ws more.0 way (subst (λ v. IsWay links v more.0) (sym back) more.1)), long)

  from_cycle : (x z : ℕ) → Arrives links x z → IsOnCycle z → (d : ℕ) → (ys : List ℕ) × IsWay links x ys × (d ≤ length ys)
  from_cycle x z (ws, way, is) on d =
      let more = around z on d in
      let long : d ≤ length (ws ++ more.0) = omega (arith, more.2, length-append ws more.0) in
      (ws ++ more.0, join_ways x ws more.0 way (subst (λ v. IsWay links v more.0) (sym is) more.1), long)

  no_cycle : (x z d : ℕ) → Arrives links x z → IsOnCycle z → DepthAt links x (Some d) → ⊥
  no_cycle x z d arrives on depth =
      let long = from_cycle x z arrives on (suc d) in
      let short : length long.0 ≤ d = depth.1 long.0 long.1 in
      omega (arith, long.2, short)

-- ---- the bridge
module _ {set new nodes : List Interface} {numbers : List (Identifier × ℕ)} {links : List (List ℕ)} {composed : List Bool} (w : IsWorld set new nodes numbers links composed) where
  abbrev numbers_of : Interface → List ℕ
  numbers_of i = filter_map (λ p. kept_at p numbers) i.parents

  pub same_length : length links ≡ length nodes
  same_length = ap length w.linked ∙ length-map nodes numbers_of

  links_are : (x : ℕ) (o : Option Interface) → slice_get nodes x ≡ o → links_at links x ≡ unwrap_or (option_map numbers_of o) []
  links_are x o at =
      ap (λ ls. get_or ls x []) w.linked
      ∙ sym (unwrap_or-slice_get (map numbers_of nodes) x [])
      ∙ ap (λ p. unwrap_or p []) (slice_get-map numbers_of nodes x ∙ ap (option_map numbers_of) at)

  -- a link leads to a parent, which stands for its own identifier
  link_parent : (x y : ℕ) (i : Interface) → slice_get nodes x ≡ Some i → IsIn y (links_at links x)
      → (j : Interface) × (slice_get nodes y ≡ Some j) × IsParent set i j × (kept_at j.id numbers ≡ Some y)
  link_parent x y i at link =
      let named = numbered_from (λ p. kept_at p numbers) i.parents y (subst (IsIn y) (links_are x (Some i) at) link) in
      let there = w.stands named.1 y named.3 in
      let listed = contained_from_placed i.parents named.1 named.0 named.2 in
      (there.0, there.1, (named.1, (named.0, listed.0, listed.1), there.2), kept_by_text there.0.id named.1 numbers (sym (found_text named.1 set there.0 there.2)) ∙ named.3)

  -- to a parent a link leads
  parent_link : (x : ℕ) (i j : Interface) → slice_get nodes x ≡ Some i → IsParent set i j → (y : ℕ) × IsIn y (links_at links x) × (slice_get nodes y ≡ Some j)
  parent_link x i j at (p, (k, low, is), found) =
      let listed = contained_from_placed nodes i x at in
      let kept = some_of (kept_at p numbers) (w.parents i p (x, listed.0, listed.1) (k, low, is) (ap is_some found)) in
      let there = w.stands p kept.0 kept.1 in (
        kept.0,
        subst (IsIn kept.0) (sym (links_are x (Some i) at)) (numbered_in (λ q. kept_at q numbers) i.parents k p kept.0 (placed_from_contained i.parents p k low is) kept.1),
        there.1 ∙ sym there.2 ∙ found,
      )

  no_link : (x y : ℕ) → slice_get nodes x ≡ None → IsIn y (links_at links x) → ⊥
  no_link x y past link = true≢false (sym (subst (IsIn y) (links_are x None past) link))

  pub world_within : AreLinksWithin links
  world_within x y link =
      elim (slice_get nodes x) as (λ o. slice_get nodes x ≡ o → y < length links) [
        | None ↦ λ past. absurd (no_link x y past link)
        | Some i ↦ λ at. let j = link_parent x y i at link in subst (λ n. y < n) (sym same_length) (slice_get_within nodes y j.0 j.1)
      ] refl

  chain_way : (x : ℕ) (i : Interface) (js : List Interface) → slice_get nodes x ≡ Some i → IsChain set i js
      → (ys : List ℕ) × IsWay links x ys × (slice_get nodes (way_end x ys) ≡ Some (chain_end i js)) × (length ys ≡ length js)
  chain_way x i [] at chain = ([], tt, at, refl)
  chain_way x i (j ∷ js) at (step, chain) =
      let one = parent_link x i j at step in
      let more = chain_way one.0 j js one.2 chain in
      (one.0 ∷ more.0, (one.1, more.1), more.2, ap suc more.3)

  way_chain : (x : ℕ) (i : Interface) (ys : List ℕ) → slice_get nodes x ≡ Some i → IsWay links x ys
      → (js : List Interface) × IsChain set i js × (slice_get nodes (way_end x ys) ≡ Some (chain_end i js)) × (length js ≡ length ys)
  way_chain x i [] at way = ([], tt, at, refl)
  way_chain x i (y ∷ ys) at (link, way) =
      let one = link_parent x y i at link in
      let more = way_chain y one.0 ys one.1 way in
      (one.0 ∷ more.0, (one.2, more.1), more.2, ap suc more.3)

  pub ancestor_arrives : (x : ℕ) (i a : Interface) → slice_get nodes x ≡ Some i → IsAncestor set i a → (y : ℕ) × Arrives links x y × (slice_get nodes y ≡ Some a)
  ancestor_arrives x i a at (js, chain, is) =
      let way = chain_way x i js at chain in
      (way_end x way.0, (way.0, way.1, refl), way.2 ∙ ap Some is)

  pub arrives_ancestor : (x y : ℕ) (i : Interface) → slice_get nodes x ≡ Some i → Arrives links x y → (a : Interface) × (slice_get nodes y ≡ Some a) × IsAncestor set i a
  arrives_ancestor x y i at (ys, way, is) =
      let chain = way_chain x i ys at way in
      (chain_end i chain.0, ap (slice_get nodes) (sym is) ∙ chain.2, (chain.0, chain.1, refl))

  kept_on : (x : ℕ) (i : Interface) (ys : List ℕ) → slice_get nodes x ≡ Some i → kept_at i.id numbers ≡ Some x → IsWay links x ys
      → (a : Interface) × (slice_get nodes (way_end x ys) ≡ Some a) × (kept_at a.id numbers ≡ Some (way_end x ys))
  kept_on x i [] at kept way = (i, at, kept)
  kept_on x i (y ∷ ys) at kept (link, way) =
      let one = link_parent x y i at link in
      kept_on y one.0 ys one.1 one.3 way

  -- what is reached from a number that is kept is kept under its own identifier
  pub kept_behind : (p : Identifier) (x y : ℕ) → kept_at p numbers ≡ Some x → Arrives links x y → (a : Interface) × (slice_get nodes y ≡ Some a) × (kept_at a.id numbers ≡ Some y)
  kept_behind p x y kept (ys, way, is) =
      let there = w.stands p x kept in
      let own : kept_at there.0.id numbers ≡ Some x = kept_by_text there.0.id p numbers (sym (found_text p set there.0 there.2)) ∙ kept in
      let behind = kept_on x there.0 ys there.1 own way in
      (behind.0, ap (slice_get nodes) (sym is) ∙ behind.1, behind.2 ∙ ap Some is)

  -- so is what a link and further ones lead to
  pub kept_beyond : (x y z : ℕ) (i a : Interface) → slice_get nodes x ≡ Some i → IsIn y (links_at links x) → Arrives links y z → slice_get nodes z ≡ Some a → kept_at a.id numbers ≡ Some z
  kept_beyond x y z i a at link arrives is =
      let one = link_parent x y i at link in
      let behind = kept_behind one.0.id y z one.3 arrives in
      ap (λ b. kept_at b.id numbers) (same_Some a behind.0 (sym is ∙ behind.1)) ∙ behind.2

  -- ---- cycles
  -- a cycle of numbers is one of extension
  cycle_from : (x z : ℕ) (i : Interface) → slice_get nodes x ≡ Some i → Arrives links x z → IsOnCycle links z → ReachesCycle set i
  cycle_from x z i at arrives (y, link, back) =
      let a = arrives_ancestor x z i at arrives in
      let j = link_parent z y a.0 a.1 link in
      let b = arrives_ancestor y z j.0 j.1 back in
      (a.0, j.0, a.2, j.2, (b.0, b.2, ap (λ c. dtmi_text c.id) (same_Some b.0 a.0 (sym b.1 ∙ a.1))))

  -- and so is a step that leads on to what stands for the identifier
  cycle_home : (x y z : ℕ) (i : Interface) → slice_get nodes x ≡ Some i → IsIn y (links_at links x) → Arrives links y z → kept_at i.id numbers ≡ Some z → ReachesCycle set i
  cycle_home x y z i at link arrives kept =
      let j = link_parent x y i at link in
      let b = arrives_ancestor y z j.0 j.1 arrives in
      let there = w.stands i.id z kept in
      let same : there.0 ≡ b.0 = same_Some there.0 b.0 (sym there.1 ∙ b.1) in
      (i, j.0, ([], tt, refl), j.2, (b.0, b.2, sym (found_text i.id set there.0 there.2 ∙ ap (λ c. dtmi_text c.id) same)))

  -- a cycle is one of numbers, or leads from the first step to what stands for the identifier
  cycle_to : (x : ℕ) (i : Interface) → slice_get nodes x ≡ Some i → ReachesCycle set i
      → ((z : ℕ) × Arrives links x z × IsOnCycle links z) ⊎ ((y z : ℕ) × IsIn y (links_at links x) × Arrives links y z × (kept_at i.id numbers ≡ Some z))
  cycle_to x i at (a, j, ([], chain, is), step, (b, more, same)) =
      let one = parent_link x i j at (subst (λ c. IsParent set c j) (sym is) step) in
      let last = ancestor_arrives one.0 j b one.2 more in
      let kept : kept_at b.id numbers ≡ Some last.0 = kept_beyond x one.0 last.0 i b at one.1 last.1 last.2 in
      inr (one.0, last.0, one.1, last.1, kept_by_text i.id b.id numbers (ap (λ c. dtmi_text c.id) is ∙ sym same) ∙ kept)
  cycle_to x i at (a, j, (k ∷ ks, (up, chain), is), step, (b, more, same)) =
      let first = parent_link x i k at up in
      let place = ancestor_arrives first.0 k a first.2 (ks, chain, is) in
      let one = parent_link place.0 a j place.2 step in
      let last = ancestor_arrives one.0 j b one.2 more in
      let kept_a : kept_at a.id numbers ≡ Some place.0 = kept_beyond x first.0 place.0 i a at first.1 place.1 place.2 in
      let kept_b : kept_at b.id numbers ≡ Some last.0 = kept_beyond place.0 one.0 last.0 a b place.2 one.1 last.1 last.2 in
      let round : last.0 ≡ place.0 = same_Some last.0 place.0 (sym kept_b ∙ kept_by_text b.id a.id numbers same ∙ kept_a) in
      inl (place.0, arrives_by links x first.0 place.0 first.1 place.1, (one.0, one.1, subst (Arrives links one.0) round last.1))

  -- ---- long chains
  -- what stands for the identifier is not reached, where it is another one
  abbrev pub StaysAway : ℕ → Interface → Type 0
  StaysAway x i = (z : ℕ) → kept_at i.id numbers ≡ Some z → (z ≡ x → ⊥) → Arrives links x z → ⊥

  abbrev pub IsDeep : List (Option ℕ) → ℕ → Interface → Type 0
  IsDeep depths x i = (d : ℕ) × (get_or depths x None ≡ Some d) × (10 < d) × StaysAway x i

  stays_away : (x : ℕ) (i : Interface) → slice_get nodes x ≡ Some i → (ReachesCycle set i → ⊥) → StaysAway x i
  stays_away x i at ends z kept other ([], way, is) = other (sym is)
  stays_away x i at ends z kept other (y ∷ ys, (link, way), is) = ends (cycle_home x y z i at link (ys, way, is) kept)

  long_deep : (depths : List (Option ℕ)) → AreDepths links depths → (x : ℕ) (i : Interface) → slice_get nodes x ≡ Some i → IsLongChain set i → IsDeep depths x i
  long_deep depths ds x i at long =
      let low : x < length links = subst (λ n. x < n) (sym same_length) (slice_get_within nodes x i at) in
      elim (get_or depths x None) as (λ o. get_or depths x None ≡ o → IsDeep depths x i) [
        | None ↦ λ e.
            let way = subst (DepthAt links x) e (ds.each x low) (suc (length links)) in
            let c = long_way_cycles links x way.0 world_within way.1 (omega (arith, way.2)) in
            absurd (long.ends (cycle_from x c.0 i at c.1 c.2))
        | Some d ↦ λ e.
            let depth = subst (DepthAt links x) e (ds.each x low) in
            let way = chain_way x i long.long.0 at long.long.1 in
            let most : length way.0 ≤ d = depth.1 way.0 way.1 in
            (d, e, omega (arith, most, way.3, long.long.2), stays_away x i at long.ends)
      ] refl

  deep_long : (depths : List (Option ℕ)) → AreDepths links depths → (x : ℕ) (i : Interface) → slice_get nodes x ≡ Some i → IsDeep depths x i → IsLongChain set i
  deep_long depths ds x i at (d, e, far, away) =
      let low : x < length links = subst (λ n. x < n) (sym same_length) (slice_get_within nodes x i at) in
      let depth : DepthAt links x (Some d) = subst (DepthAt links x) e (ds.each x low) in
      let cut = cut_way links 11 x depth.0.0 depth.0.1 (omega (arith, far, depth.0.2)) in
      let chain = way_chain x i cut.0 at cut.1 in
      record {
        ends = λ c. elim (cycle_to x i at c) [
          | inl r ↦ no_cycle links x r.0 d r.1 r.2 depth
          | inr h ↦ away h.1 h.4 (λ same. no_cycle links x x d (arrives_here links x) (h.0, h.2, subst (Arrives links h.0) same h.3) depth) (arrives_by links x h.0 h.1 h.2 h.3)
        ];
        long = (chain.0, chain.1, chain.3 ∙ cut.2);
      }

  -- No cycle is reached and a chain of 11 steps begins here exactly where the depth is over 10 and what stands for the
  -- identifier is not reached, where it is another one.
  pub long_chain : (depths : List (Option ℕ)) → AreDepths links depths → (x : ℕ) (i : Interface) → slice_get nodes x ≡ Some i → IsLongChain set i ↔ IsDeep depths x i
  long_chain depths ds x i at = (long_deep depths ds x i at, deep_long depths ds x i at)
