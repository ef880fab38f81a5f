-- What the tests on numbers tell of the rules on a set.
use Rattle.std.proofs.Common.{◌≡◌, ◌≢◌, ◌↔◌, ℕ, zero, suc, ◌+◌, ◌<◌, ◌≤◌, ◌⊎◌, inl, inr, List, [], ◌∷◌, Bool, true, false, cond, ◌&&◌, length, map, take, get_or, nat_eq, not, Option, Some, None, refl, sym, ap, ◌∙◌, subst, true≢false, Ordering, Less, Equal, Greater, is_eq, arith}
use Rattle.std.specs.Prelude.{slice_get, nat_lt, Contains, IsSome}
use Rattle.std.specs.Option.{is_some}
use Rattle.std.specs.List.{AllByRecursion, list_any, filter_map}
use Rattle.std.specs.Map.{lookup}
use Rattle.std.specs.BTreeMap.{is_at}
use Rattle.std.specs.Ordering.{nat_cmp}
use Rattle.std.specs.Cmp.Lexicographic.{slice_cmp}
use Rattle.std.proofs.lemmas.Bool.{cases_lt, and_from}
use Rattle.std.proofs.lemmas.Option.{same_Some, none-some}
use Rattle.std.proofs.lemmas.Map.Lookups.{exact_bytes}
use Rattle.dt_base.specs.names.Grammar.{Identifier, dtmi_text, id_cmp}
use Rattle.dtdl_terms.specs.Sets.{keyed, interface_at}
use Rattle.dtdl_terms.specs.Terms.{component}
use Rattle.dtdl_terms.specs.TermViews.{kind_term}
use Rattle.dtdl_terms.specs.declared.content.Content.{Content}
use Rattle.dtdl_terms.specs.declared.interface.Interface.{Interface}
use Rattle.dtdl_terms.specs.declared.uploaded.Uploaded.{Uploaded}
use Rattle.extend_resolve.specs.Chains.{HaveOneId, IsAncestor, LeadsBack, Declares, Reaches}
use Rattle.extend_resolve.specs.SetRules.{NamesParent, HasParent, IsComponentOf, NamesComponent, HasComponent, RepeatsId, LacksParent, LacksComponent, IsInCycle, IsLongChain, ClashesWithOwn, ClashesWithEarlier, HasNameClash, DeclaresComponent, HasComponentInComponent}
use Rattle.extend_resolve.specs.Machinery.Links.{IsIn, links_at, IsWay, way_end, Arrives, AreLinksWithin}
use Rattle.extend_resolve.specs.Machinery.Names.{IsNaming}
use Rattle.extend_resolve.specs.Machinery.Numbers.{kept_at}
use Rattle.extend_resolve.specs.Machinery.Worlds.{IsWorld, AreDepths}
use Rattle.extend_resolve.specs.Machinery.Judges.{is_other_than, holds_number, is_over_most, AreBehind, IsReached, ParentLeadsTo, Owns, ReachesComponent}
use Rattle.extend_resolve.proofs.Members.{equal_numbers, same_number, other_number, placed_from_contained, contains_placed, contained_at, read_at, placed_within, taken, untaken, mapped_at, unmapped_at, is_some_of, kept_in, kept_from, all_at}
use Rattle.extend_resolve.proofs.Worlds.{ancestor_arrives, arrives_ancestor, kept_behind, kept_beyond, long_chain}
use Rattle.std.proofs.lemmas.Bool.Decides.{nat_tests}

pub equal_order : (o : Ordering) → is_eq o ≡ true → o ≡ Equal
equal_order Less h = absurd (true≢false (sym h))
equal_order Equal h = refl
equal_order Greater h = absurd (true≢false (sym h))

ten_over : (d : ℕ) → nat_lt 10 d ≡ true → 10 < d
ten_over d h = grind (arith, nat_tests)

and_left : (a b : Bool) → (a && b) ≡ true → a ≡ true
and_left true b h = refl
and_left false b h = h

and_right : (a b : Bool) → (a && b) ≡ true → b ≡ true
and_right true b h = h
and_right false b h = absurd (true≢false (sym h))

never_both : (a b : Bool) → (a ≡ true → b ≡ true → ⊥) → (a && b) ≡ false
never_both true true h = absurd (h refl refl)
never_both true false h = refl
never_both false b h = refl

turned_true : (b : Bool) → not b ≡ true → b ≡ false
turned_true true h = absurd (true≢false (sym h))
turned_true false h = refl

over_ten : (d : ℕ) → 10 < d → nat_lt 10 d ≡ true
over_ten d h = grind (arith, nat_tests)

deep_from : (o : Option ℕ) → is_over_most o ≡ true → (d : ℕ) × (o ≡ Some d) × (10 < d)
deep_from None h = absurd (true≢false (sym h))
deep_from (Some d) h = (d, refl, ten_over d h)

-- what is found under an identifier has it
pub found_id : (set : List Interface) (p : Identifier) (j : Interface) → interface_at p set ≡ Some j → dtmi_text j.id ≡ dtmi_text p
found_id [] p j found = absurd (none-some j found)
found_id (i ∷ is) p j found =
    elim (is_eq (id_cmp p i.id)) as (λ b. is_eq (id_cmp p i.id) ≡ b → cond b (Some i) (lookup (is_at (id_cmp p)) (keyed is)) ≡ Some j → dtmi_text j.id ≡ dtmi_text p) [
      | true ↦ λ e h. sym (exact_bytes (dtmi_text p) (dtmi_text i.id) (equal_order (id_cmp p i.id) e) ∙ ap (λ (x : Interface). dtmi_text x.id) (same_Some i j h))
      | false ↦ λ e h. found_id is p j h
    ] refl found

module _ (set new nodes : List Interface) (numbers : List (Identifier × ℕ)) (links : List (List ℕ)) (composed : List Bool) (w : IsWorld set new nodes numbers links composed) where
  -- equal identifiers have one number
  kept_same : (p q : Identifier) → dtmi_text p ≡ dtmi_text q → kept_at p numbers ≡ kept_at q numbers
  kept_same p q e = ap (λ t. lookup (λ (k : Identifier). is_eq (slice_cmp nat_cmp t (dtmi_text k))) numbers) e

  -- an interface has a number, which is that of an interface with its identifier
  pub own_number : (k : ℕ) (i : Interface) → slice_get nodes k ≡ Some i → (own : ℕ) × (kept_at i.id numbers ≡ Some own)
  own_number k i here = is_some_of (kept_at i.id numbers) (w.placed i (contains_placed nodes i k here))

  pub own_stands : (i : Interface) (own : ℕ) → kept_at i.id numbers ≡ Some own → (z : Interface) × (slice_get nodes own ≡ Some z) × HaveOneId z i
  own_stands i own kept = let s = w.stands i.id own kept in (s.0, s.1, found_id set i.id s.0 s.2)

  -- what is found at a number is in the set under the identifier
  stands_for : (p : Identifier) (x : ℕ) (j : Interface) → kept_at p numbers ≡ Some x → interface_at p set ≡ Some j → slice_get nodes x ≡ Some j
  stands_for p x j kept found = let s = w.stands p x kept in s.1 ∙ sym s.2 ∙ found

  reached_id : (p : Identifier) (x y : ℕ) (a : Interface) → kept_at p numbers ≡ Some x → Arrives links x y → slice_get nodes y ≡ Some a → kept_at a.id numbers ≡ Some y
  reached_id p x y a kept arrives here =
      let b = kept_behind w p x y kept arrives in
      ap (λ (z : Interface). kept_at z.id numbers) (same_Some a b.0 (sym here ∙ b.1)) ∙ b.2

  pub kept_reached : (x y : ℕ) (i a : Interface) → slice_get nodes x ≡ Some i → Arrives links x y → y ≢ x → slice_get nodes y ≡ Some a → kept_at a.id numbers ≡ Some y
  kept_reached x y i a at ([], way, is) other there = absurd (other (sym is))
  kept_reached x y i a at (z ∷ zs, (link, way), is) other there = kept_beyond w x z y i a at link (zs, way, is) there

  -- ---- parents and components that are there
  none_found : (o : Option Interface) → (IsSome o → ⊥) → o ≡ None
  none_found None h = refl
  none_found (Some j) h = absurd (h refl)

  absent : (p : Identifier) → kept_at p numbers ≡ None → (IsSome (interface_at p set) → IsSome (kept_at p numbers)) → interface_at p set ≡ None
  absent p none there = none_found (interface_at p set) (λ some. let k = is_some_of (kept_at p numbers) (there some) in none-some k.0 (sym none ∙ k.1))

  module _ (index : ℕ) (i : Interface) (here : slice_get nodes index ≡ Some i) where
    pub parent_absent : (k : ℕ) (p : Identifier) → NamesParent i k p → kept_at p numbers ≡ None → LacksParent set i k
    parent_absent k p named none =
        (p, named, absent p none (w.parents i p (contains_placed nodes i index here) (contains_placed i.parents p k named)))

    pub parent_there : (k : ℕ) (p : Identifier) (x : ℕ) → NamesParent i k p → kept_at p numbers ≡ Some x → LacksParent set i k → ⊥
    parent_there k p x named kept (q, other, none) =
        let s = w.stands p x kept in
        none-some s.0 (sym none ∙ ap (λ r. interface_at r set) (same_Some q p (sym other ∙ named)) ∙ s.2)

    parent_number : (k : ℕ) (p : Identifier) (j : Interface) → NamesParent i k p → interface_at p set ≡ Some j → (x : ℕ) × (kept_at p numbers ≡ Some x)
    parent_number k p j named found =
        is_some_of (kept_at p numbers) (w.parents i p (contains_placed nodes i index here) (contains_placed i.parents p k named) (ap is_some found))

    -- ---- cycles
    among_own : (reached : List ℕ) (own : ℕ) → kept_at i.id numbers ≡ Some own → holds_number reached (kept_at i.id numbers) ≡ true → IsIn own reached
    among_own reached own kept h = sym (ap (holds_number reached) kept) ∙ h

    pub cycle_tells : (k : ℕ) (reached : List ℕ) → IsReached numbers links i k reached → (holds_number reached (kept_at i.id numbers) ≡ true) ↔ IsInCycle set i k
    cycle_tells k reached r =
        let own = own_number index i here in
        let s = w.stands r.id r.number r.kept in (
          λ h.
              let up = arrives_ancestor w r.number own.0 s.0 s.1 ((r.each own.0).0 (among_own reached own.0 own.1 h)) in
              let z = own_stands i own.0 own.1 in
              let same : up.0 ≡ z.0 = same_Some up.0 z.0 (sym up.1 ∙ z.1) in
              (s.0, (r.id, r.named, s.2), (up.0, up.2, subst (λ (x : Interface). dtmi_text x.id ≡ dtmi_text i.id) (sym same) z.2)),
          λ c.
              let named : c.1.0 ≡ r.id = same_Some c.1.0 r.id (sym c.1.1 ∙ r.named) in
              let node : slice_get nodes r.number ≡ Some c.0 = stands_for r.id r.number c.0 r.kept (ap (λ q. interface_at q set) (sym named) ∙ c.1.2) in
              let at = ancestor_arrives w r.number c.0 c.2.0 node c.2.1 in
              let kept : kept_at i.id numbers ≡ Some at.0 = kept_same i.id c.2.0.id (sym c.2.2) ∙ reached_id r.id r.number at.0 c.2.0 r.kept at.1 at.2 in
              ap (holds_number reached) kept ∙ (r.each at.0).1 at.1,
        )

    -- ---- components
    pub component_absent : (k : ℕ) (p : Identifier) → slice_get new index ≡ Some i → NamesComponent i k p → kept_at p numbers ≡ None → LacksComponent set i k
    component_absent k p fresh named none =
        (p, named, absent p none (w.components i named.0 p (contains_placed new i index fresh) (contains_placed i.contents named.0 k named.1) named.2))

    one_component : (k : ℕ) (p q : Identifier) → NamesComponent i k p → NamesComponent i k q → p ≡ q
    one_component k p q (c, at, is) (d, there, names) =
        let same : c ≡ d = same_Some c d (sym at ∙ there) in
        let both : component p ≡ component q = sym is ∙ ap (λ (x : Content). kind_term x.kind) same ∙ names in
        cc both

    pub component_there : (k : ℕ) (p : Identifier) (x : ℕ) → NamesComponent i k p → kept_at p numbers ≡ Some x → LacksComponent set i k → ⊥
    component_there k p x named kept (q, other, none) =
        let s = w.stands p x kept in
        none-some s.0 (sym none ∙ ap (λ r. interface_at r set) (one_component k q p other named) ∙ s.2)

    pub component_tells : (k : ℕ) (p : Identifier) (x : ℕ) → NamesComponent i k p → kept_at p numbers ≡ Some x → ReachesComponent links composed x ↔ HasComponentInComponent set i k
    component_tells k p x named kept =
        let s = w.stands p x kept in (
          λ h. let up = arrives_ancestor w x h.0 s.0 s.1 h.1 in (s.0, up.0, (p, named, s.2), up.2, (w.composes h.0 up.0 up.1).0 h.2),
          λ c.
              let same : c.2.0 ≡ p = one_component k c.2.0 p c.2.1 named in
              let node : slice_get nodes x ≡ Some c.0 = stands_for p x c.0 kept (ap (λ q. interface_at q set) (sym same) ∙ c.2.2) in
              let at = ancestor_arrives w x c.0 c.1 node c.3 in
              (at.0, at.1, (w.composes at.0 c.1 at.2).1 c.4),
        )

    -- ---- chains
    pub long_tells : (depths : List (Option ℕ)) (found : List ℕ) → AreDepths links depths → AreBehind links index found
        → ((is_over_most (get_or depths index None) && not (is_other_than index (kept_at i.id numbers) && holds_number found (kept_at i.id numbers))) ≡ true) ↔ IsLongChain set i
    long_tells depths found told behind =
        let tells = long_chain w depths told index i here in
        let own = own_number index i here in
        let back : Bool = not (nat_eq own.0 index) && list_any (nat_eq own.0) found in
        let test : (is_other_than index (kept_at i.id numbers) && holds_number found (kept_at i.id numbers)) ≡ back = ap (λ o. is_other_than index o && holds_number found o) own.1 in (
          λ h.
              let deep = deep_from (get_or depths index None) (and_left (is_over_most (get_or depths index None)) (not (is_other_than index (kept_at i.id numbers) && holds_number found (kept_at i.id numbers))) h) in
              let away : back ≡ false = sym test ∙ turned_true (is_other_than index (kept_at i.id numbers) && holds_number found (kept_at i.id numbers)) (and_right (is_over_most (get_or depths index None)) (not (is_other_than index (kept_at i.id numbers) && holds_number found (kept_at i.id numbers))) h) in
              tells.1 (
                deep.0,
                deep.1,
                deep.2,
                λ z kept other arrives.
                    true≢false (sym (and_from (not (nat_eq own.0 index)) (list_any (nat_eq own.0) found)
                    (ap not (other_number own.0 index (subst (λ k. k ≡ index → ⊥) (same_Some z own.0 (sym kept ∙ own.1)) other)))
                    ((behind.each own.0).1 (subst (Arrives links index) (same_Some z own.0 (sym kept ∙ own.1)) arrives))) ∙ away),
              ),
          λ c.
              let d = tells.0 c in
              and_from (is_over_most (get_or depths index None)) (not (is_other_than index (kept_at i.id numbers) && holds_number found (kept_at i.id numbers)))
              (ap is_over_most d.1 ∙ over_ten d.0 d.2)
              (ap not (test ∙ never_both (not (nat_eq own.0 index)) (list_any (nat_eq own.0) found)
              (λ other within. d.3 own.0 own.1 (λ e. true≢false (sym other ∙ ap not (same_number own.0 index e))) ((behind.each own.0).0 within)))),
        )

    -- ---- names
    module _ (declared : List (List ℕ)) (bound : ℕ) (n : IsNaming nodes declared bound) where
      abbrev pub names_of : Interface → List ℕ
      names_of a = filter_map (λ c. n.number c.name) a.contents

      declared_at : (y : ℕ) (a : Interface) → slice_get nodes y ≡ Some a → links_at declared y ≡ names_of a
      declared_at y a there = read_at declared (names_of a) [] y (ap (λ ds. slice_get ds y) n.numbers ∙ mapped_at names_of nodes y a there)

      pub declares_in : (y : ℕ) (a : Interface) (name : List ℕ) → slice_get nodes y ≡ Some a → Declares a name → (x : ℕ) × (n.number name ≡ Some x) × IsIn x (links_at declared y)
      declares_in y a name there (k, low, is) =
          let c = unmapped_at (λ (d : Content). d.name) a.contents k name (placed_from_contained (map (λ d. d.name) a.contents) name k low is) in
          let known = is_some_of (n.number c.0.name) (all_at (λ d. IsSome (n.number d.name)) a.contents k c.0 (all_at (λ j. AllByRecursion (λ d. IsSome (n.number d.name)) j.contents) nodes y a n.each there) c.1) in
          (known.0, ap n.number (sym c.2) ∙ known.1, subst (IsIn known.0) (sym (declared_at y a there)) (kept_in (λ d. n.number d.name) a.contents k known.0 c.0 c.1 known.1))

      pub in_declares : (y x : ℕ) (a : Interface) → slice_get nodes y ≡ Some a → IsIn x (links_at declared y) → (name : List ℕ) × Declares a name × (n.number name ≡ Some x)
      in_declares y x a there h =
          let c = kept_from (λ d. n.number d.name) a.contents x (subst (IsIn x) (declared_at y a there) h) in
          (c.1.name, contains_placed (map (λ d. d.name) a.contents) c.1.name c.0 (mapped_at (λ (d : Content). d.name) a.contents c.0 c.1 c.2), c.3)

      abbrev pub Clashing : List ℕ → ℕ → Type 0
      Clashing reached k = (o x p : ℕ) × IsIn o reached × IsIn x (links_at declared o) × Owns numbers links declared index i k x p × (p ≢ o)

      -- another interface than `a` that owns the name clashes with it
      clash_from : (k o x p : ℕ) (a : Interface) (name : List ℕ) → kept_at a.id numbers ≡ Some o → n.number name ≡ Some x → p ≢ o
          → Owns numbers links declared index i k x p → ClashesWithOwn i a name ⊎ ClashesWithEarlier set i k a name
      clash_from k o x p a name kept known apart (inl (own, declares)) =
          let d = in_declares index x i here declares in
          inl (subst (Declares i) (n.apart d.0 name x d.2 known) d.1, λ same. apart (same_Some p o (sym own ∙ sym (kept_same a.id i.id same) ∙ kept)))
      clash_from k o x p a name kept known apart (inr (l, low, (q, y, named, there, arrives), declares)) =
          let s = w.stands q y there in
          let up = arrives_ancestor w y p s.0 s.1 arrives in
          let d = in_declares p x up.0 up.1 declares in
          inr (
            l,
            s.0,
            up.0,
            low,
            (q, named, s.2),
            (up.2, subst (Declares up.0) (n.apart d.0 name x d.2 known) d.1),
            λ same. apart (same_Some p o (sym (reached_id q y p up.0 there arrives up.1) ∙ kept_same up.0.id a.id same ∙ kept)),
          )

      -- the number of what clashes with it
      clash_to : (k o x : ℕ) (a : Interface) (name : List ℕ) → slice_get nodes o ≡ Some a → n.number name ≡ Some x
          → ClashesWithOwn i a name ⊎ ClashesWithEarlier set i k a name → (p : ℕ) × Owns numbers links declared index i k x p × (p ≢ o)
      clash_to k o x a name node known (inl (declares, other)) =
          let own = own_number index i here in
          let z = own_stands i own.0 own.1 in
          let d = declares_in index i name here declares in (
            own.0,
            inl (own.1, subst (λ v. IsIn v (links_at declared index)) (same_Some d.0 x (sym d.1 ∙ known)) d.2),
            λ same. other (subst (λ (b : Interface). dtmi_text b.id ≡ dtmi_text i.id) (same_Some z.0 a (sym z.1 ∙ ap (slice_get nodes) same ∙ node)) z.2),
          )
      clash_to k o x a name node known (inr (l, q, m, low, (p, named, found), (up, declares), other)) =
          let y = parent_number l p q named found in
          let at = ancestor_arrives w y.0 q m (stands_for p y.0 q y.1 found) up in
          let d = declares_in at.0 m name at.2 declares in (
            at.0,
            inr (l, low, (p, y.0, named, y.1, at.1), subst (λ v. IsIn v (links_at declared at.0)) (same_Some d.0 x (sym d.1 ∙ known)) d.2),
            λ same. other (ap (λ (b : Interface). dtmi_text b.id) (same_Some m a (sym at.2 ∙ ap (slice_get nodes) same ∙ node))),
          )

      pub clash_tells : (k : ℕ) (reached : List ℕ) → IsReached numbers links i k reached → Clashing reached k ↔ HasNameClash set i k
      clash_tells k reached r =
          let s = w.stands r.id r.number r.kept in (
            λ h.
                let arrives = (r.each h.0).0 h.3 in
                let up = arrives_ancestor w r.number h.0 s.0 s.1 arrives in
                let d = in_declares h.0 h.1 up.0 up.1 h.4 in
                (s.0, up.0, d.0, (r.id, r.named, s.2), (up.2, d.1), clash_from k h.0 h.1 h.2 up.0 d.0 (reached_id r.id r.number h.0 up.0 r.kept arrives up.1) d.2 h.6 h.5),
            λ c.
                let same : c.3.0 ≡ r.id = same_Some c.3.0 r.id (sym c.3.1 ∙ r.named) in
                let node : slice_get nodes r.number ≡ Some c.0 = stands_for r.id r.number c.0 r.kept (ap (λ q. interface_at q set) (sym same) ∙ c.3.2) in
                let at = ancestor_arrives w r.number c.0 c.1 node c.4.0 in
                let d = declares_in at.0 c.1 c.2 at.2 c.4.1 in
                let p = clash_to k at.0 d.0 c.1 c.2 at.2 d.1 c.5 in
                (at.0, d.0, p.0, (r.each at.0).1 at.1, d.2, p.1, p.2),
          )

-- ---- repeated identifiers
module _ (set : List Interface) (news : List Uploaded) (nodes : List Interface) (numbers : List (Identifier × ℕ)) (links : List (List ℕ)) (composed : List Bool) (w : IsWorld set (map (λ u. u.interface) news) nodes numbers links composed) where
  pub repeated_tells : (index : ℕ) (u : Uploaded) → slice_get news index ≡ Some u → (is_other_than index (kept_at u.interface.id numbers) ≡ true) ↔ RepeatsId (map (λ v. v.interface) (take index news)) u.interface
  repeated_tells index u at =
      let i : Interface = u.interface in
      let news_at : slice_get (map (λ v. v.interface) news) index ≡ Some i = mapped_at (λ (v : Uploaded). v.interface) news index u at in
      let here : slice_get nodes index ≡ Some i = w.begins index i news_at in
      let own = own_number set (map (λ v. v.interface) news) nodes numbers links composed w index i here in
      let low : own.0 ≤ index = w.first i.id own.0 index i own.1 here refl in (
        λ h.
            let other : own.0 ≢ index = λ e. true≢false (sym (sym (ap (is_other_than index) own.1) ∙ h) ∙ ap not (same_number own.0 index e)) in
            let z = own_stands set (map (λ v. v.interface) news) nodes numbers links composed w i own.0 own.1 in
            let less : own.0 < index = omega (arith, low, other) in
            let within : own.0 < length news = let most = contained_at news u index at in omega (arith, less, most.0) in
            let v = placed_within news own.0 within in
            let one : slice_get nodes own.0 ≡ Some v.0.interface = w.begins own.0 v.0.interface (mapped_at (λ (x : Uploaded). x.interface) news own.0 v.0 v.1) in (
              v.0.interface,
              contains_placed (map (λ x. x.interface) (take index news)) v.0.interface own.0 (mapped_at (λ (x : Uploaded). x.interface) (take index news) own.0 v.0 (taken news index own.0 v.0 less v.1)),
              subst (λ (x : Interface). dtmi_text x.id ≡ dtmi_text i.id) (same_Some z.0 v.0.interface (sym z.1 ∙ one)) z.2,
            ),
        λ (e, (k, within, is), same).
            let v = unmapped_at (λ (x : Uploaded). x.interface) (take index news) k e (placed_from_contained (map (λ x. x.interface) (take index news)) e k within is) in
            let earlier = untaken news index k v.0 v.1 in
            let node : slice_get nodes k ≡ Some v.0.interface = w.begins k v.0.interface (mapped_at (λ (x : Uploaded). x.interface) news k v.0 earlier.1) in
            let first : own.0 ≤ k = w.first i.id own.0 k v.0.interface own.1 node (ap (λ (x : Interface). dtmi_text x.id) v.2 ∙ same) in
            let less : k < index = earlier.0 in
            let other : own.0 ≢ index = omega (arith, first, less) in
            ap (is_other_than index) own.1 ∙ ap not (other_number own.0 index other),
      )
