-- Sets that declare the same are judged the same by the rules on sets.
use Rattle.std.proofs.Common.{◌≡◌, ◌≢◌, ℕ, zero, suc, ◌<◌, inl, inr, List, [], ◌∷◌, length, map, take, sum, Option, Some, None, refl, sym, ap, ap₂, subst, ◌∙◌, arith}
use Rattle.std.specs.Prelude.{slice_get}
use Rattle.std.specs.List.{AllByRecursion}
use Rattle.std.proofs.lemmas.Bool.{cases_order}
use Rattle.dt_base.specs.names.Grammar.{Identifier, dtmi_text}
use Rattle.dtdl_terms.specs.Sets.{interface_at}
use Rattle.dtdl_terms.specs.Distinct.{AreDistinct, HasDeclaration}
use Rattle.dtdl_terms.specs.Equality.{AnyByRecursion, DeclareTheSame, SameElements}
use Rattle.dtdl_terms.specs.declared.interface.Interface.{Interface}
use Rattle.dtdl_terms.specs.declared.spot.Spot.{Spot}
use Rattle.dtdl_terms.specs.declared.spot.Spot.TheVariants as spots
use Rattle.dtdl_terms.specs.declared.uploaded.Uploaded.{Uploaded}
use Rattle.extend_resolve.specs.Chains.{HaveOneId, IsAncestor}
use Rattle.extend_resolve.specs.SetRules.{DeclaresComponent, HasComponent, HasParent, IsComponentOf, RepeatsId}
use Rattle.extend_resolve.specs.Breaches.{BreaksSetRule, IsSound}
use Rattle.extend_resolve.specs.declared.rule.SetRule.{SetRule}
use Rattle.extend_resolve.specs.declared.rule.SetRule.TheVariants as rules
use Rattle.model_read.proofs.Pairs.{mapped_back}
use Rattle.canon_text.proofs.Elements.{any_both}
use Rattle.canon_text.proofs.Told.{any_mapped, any_with, at_one}
use Rattle.canon_faults.proofs.Among.{any_is, any_of_contains, contains_of_any}
use Rattle.canon_faults.proofs.Alike.{Alike, AreApart, Finds, alike, ancestor_alike, any_placed, chain_alike, contains_one, cycle_alike, finds, leads_back_alike, moved, placed_any, reaches_alike, swapped, interfaces}

-- ---- positions
distinct_at : {A : Type 0} (xs : List A) (k l : ℕ) (x : A) → AreDistinct xs → k < l → slice_get xs k ≡ Some x → slice_get xs l ≡ Some x → ⊥
distinct_at [] k l x apart less first second = cc
distinct_at (y ∷ ys) k zero x apart less first second = absurd (omega arith)
distinct_at (y ∷ ys) zero (suc l) x apart less first second =
    at_one (λ z. y ≢ z) (λ z. z ≡ x) ⊥ ys (λ z differ is. differ (let same : y ≡ x = cc in same ∙ sym is)) apart.0 (placed_any ys l x second)
distinct_at (y ∷ ys) (suc k) (suc l) x apart less first second = distinct_at ys k l x apart.1 (omega arith) first second

-- in a set of distinct identifiers none repeats an earlier one
none_repeats : (vs : List Uploaded) (l : ℕ) (v : Uploaded) → AreApart (interfaces vs) → slice_get vs l ≡ Some v
    → AnyByRecursion (λ e. HaveOneId e v.interface) (interfaces (take l vs)) → ⊥
none_repeats [] l v apart at any = cc
none_repeats (w ∷ ws) zero v apart at any = any
none_repeats (w ∷ ws) (suc l) v apart at (inl same) =
    at_one (λ t. dtmi_text w.interface.id ≢ t) (λ t. t ≡ dtmi_text v.interface.id) ⊥ (map (λ i. dtmi_text i.id) (interfaces ws))
    (λ t differ is. differ (same ∙ sym is)) apart.0
    (any_mapped (λ (i : Interface). dtmi_text i.id) (λ t. t ≡ dtmi_text v.interface.id) (interfaces ws)
    (any_mapped (λ (u : Uploaded). u.interface) (λ i. dtmi_text i.id ≡ dtmi_text v.interface.id) ws
    (any_with (λ u. u ≡ v) (λ u. dtmi_text u.interface.id ≡ dtmi_text v.interface.id) (λ u e. ap (λ (x : Uploaded). dtmi_text x.interface.id) e) ws (placed_any ws l v at))))
none_repeats (w ∷ ws) (suc l) v apart at (inr later) = none_repeats ws l v apart.1 at later

-- ---- one interface of each set
module _ (one other : List Interface) (to : Finds one other) (from : Finds other one) (i j : Interface) (like : Alike i j) where
  back : Alike j i
  back = swapped i j like

  -- a parent that is named is named there too, at some position
  named_parent : (k : ℕ) (p : Identifier) → slice_get j.parents k ≡ Some p → (m : ℕ) × (slice_get i.parents m ≡ Some p)
  named_parent k p at = any_placed i.parents p (any_of_contains i.parents p (like.parents_back p (contains_one j.parents p (placed_any j.parents k p at))))

  parent_at : (k : ℕ) (q : Interface) (h : HasParent other j k q) → (m : ℕ) × (x : Interface) × (slice_get i.parents m ≡ Some h.0) × (interface_at h.0 one ≡ Some x) × Alike q x
  parent_at k q (p, names, found) =
      let (m, at) = named_parent k p names in
      let (x, there, same) = from p q found in
      (m, x, at, there, same)

  component_at : (k : ℕ) (q : Interface) → HasComponent other j k q → (m : ℕ) × (x : Interface) × HasComponent one i m x × Alike q x
  component_at k q (p, (c, at, is), found) =
      let some = any_with (λ d. d ≡ c) (λ d. IsComponentOf d p) (λ d e. subst (λ z. IsComponentOf z p) (sym e) is) j.contents (placed_any j.contents k c at) in
      let (d, among, own) = any_is (λ d. IsComponentOf d p) i.contents (like.components_back p some) in
      let (m, there) = any_placed i.contents d among in
      let (x, stands, same) = from p q found in
      (m, x, (p, (d, there, own), stands), same)

  absent : (p : Identifier) → interface_at p other ≡ None → interface_at p one ≡ None
  absent p none = by (interface_at p one) refl
    where
      by : (o : Option Interface) → interface_at p one ≡ o → o ≡ None
      by None e = refl
      by (Some x) e = (let (y, stands, same) = to p x e in let f : Some y ≡ None = sym stands ∙ none in absurd cc)

  declares_component : (e f : Interface) → Alike e f → DeclaresComponent e → DeclaresComponent f
  declares_component e f same (c, p, inside, is) =
      let some = any_with (λ d. d ≡ c) (λ d. IsComponentOf d p) (λ d g. subst (λ z. IsComponentOf z p) (sym g) is) e.contents (any_of_contains e.contents c inside) in
      let (d, there, own) = contains_of_any (λ d. IsComponentOf d p) f.contents (same.components p some) in
      (d, p, there, own)

  -- ancestors, each beside one that has its identifier and as many contents
  ancestors_alike : (es : List Interface) → AllByRecursion (IsAncestor other j) es
      → (fs : List Interface) × AllByRecursion (IsAncestor one i) fs × (map (λ a. dtmi_text a.id) es ≡ map (λ a. dtmi_text a.id) fs)
      × (map (λ a. length a.contents) es ≡ map (λ a. length a.contents) fs)
  ancestors_alike [] all = ([], tt, refl, refl)
  ancestors_alike (e ∷ es) all =
      let (f, ancestor, same) = ancestor_alike other one from j i e back all.0 in
      let (fs, ancestors, ids, longs) = ancestors_alike es all.1 in
      (f ∷ fs, (ancestor, ancestors), ap₂ (λ (t : List ℕ) (ts : List (List ℕ)). t ∷ ts) same.id ids, ap₂ (λ (n : ℕ) (ns : List ℕ). n ∷ ns) same.long longs)

  -- what it breaks, the other breaks
  module _ (earlier : List Interface) (none : (rule : SetRule) (spot : Spot) → BreaksSetRule one earlier i rule spot → ⊥) (distinct : AreDistinct j.parents) where
    clash : (k : ℕ) → BreaksSetRule other [] j rules.NameClash (spots.Parent k) → ⊥
    clash k (q, e, name, parent, reaches, inl (declares, not_own)) =
        let (m, x, at, found, same) = parent_at k q parent in
        let (f, reach, ends) = reaches_alike other one from q x e name same reaches in
        none rules.NameClash (spots.Parent m) (x, f, name, (parent.0, at, found), reach, inl (like.names_back name declares, λ own. not_own (ends.id ∙ own ∙ like.id)))
    clash k (q, e, name, parent, reaches, inr (l, r, d, less, before, reached, apart)) =
        let (m, x, at, found, same) = parent_at k q parent in
        let (f, reach, ends) = reaches_alike other one from q x e name same reaches in
        let (n, y, stands, there, alike_too) = parent_at l r before in
        let (g, reach_too, ends_too) = reaches_alike other one from r y d name alike_too reached in
        elim (cases_order n m) [
          | inl equal ↦ (let both : Some parent.0 ≡ Some before.0 = sym at ∙ ap (slice_get i.parents) (sym equal) ∙ stands in
              let one_parent : parent.0 ≡ before.0 = cc in
              distinct_at j.parents l k before.0 distinct less before.1 (parent.1 ∙ ap (λ (p : Identifier). Some p) one_parent))
          | inr (inl first) ↦ none rules.NameClash (spots.Parent m) (
            x,
            f,
            name,
            (parent.0, at, found),
            reach,
            inr (n, y, g, first, (before.0, stands, there), reach_too, λ same_id. apart (ends_too.id ∙ same_id ∙ sym ends.id)),
          )
          | inr (inr second) ↦ none rules.NameClash (spots.Parent n) (
            y,
            g,
            name,
            (before.0, stands, there),
            reach_too,
            inr (m, x, f, second, (parent.0, at, found), reach, λ same_id. apart (ends_too.id ∙ sym same_id ∙ sym ends.id)),
          )
        ]

    pub judged : (before : List Interface) → (RepeatsId before j → ⊥) → (rule : SetRule) (spot : Spot) → BreaksSetRule other before j rule spot → ⊥
    judged before free rules.RepeatedId spots.Id b = free b
    judged before free rules.RepeatedId spot b = b
    judged before free rules.AbsentReference (spots.Parent k) (p, at, lacks) =
        let (m, there) = named_parent k p at in none rules.AbsentReference (spots.Parent m) (p, there, absent p lacks)
    judged before free rules.AbsentReference (spots.ContentSchema k) (p, (c, at, is), lacks) =
        let some = any_with (λ d. d ≡ c) (λ d. IsComponentOf d p) (λ d e. subst (λ z. IsComponentOf z p) (sym e) is) j.contents (placed_any j.contents k c at) in
        let (d, among, own) = any_is (λ d. IsComponentOf d p) i.contents (like.components_back p some) in
        let (m, there) = any_placed i.contents d among in
        none rules.AbsentReference (spots.ContentSchema m) (p, (d, there, own), absent p lacks)
    judged before free rules.AbsentReference spot b = b
    judged before free rules.Cycle (spots.Parent k) (q, parent, leads) =
        let (m, x, at, found, same) = parent_at k q parent in
        none rules.Cycle (spots.Parent m) (x, (parent.0, at, found), leads_back_alike other one from j i q x back same leads)
    judged before free rules.Cycle spot b = b
    judged before free rules.LongChain spots.Parents b =
        let (js, chain, eleven) = b.long in
        let (ks, other_chain, ends, long) = chain_alike other one from js j i back chain in
        none rules.LongChain spots.Parents (record { ends = λ cycle. b.ends (cycle_alike one other to i j like cycle); long = (ks, other_chain, sym long ∙ eleven) })
    judged before free rules.LongChain spot b = b
    judged before free rules.NameClash (spots.Parent k) b = clash k b
    judged before free rules.NameClash spot b = b
    judged before free rules.ComponentInComponent (spots.ContentSchema k) (q, e, has, ancestor, declares) =
        let (m, x, own, same) = component_at k q has in
        let (f, reached, ends) = ancestor_alike other one from q x e same ancestor in
        none rules.ComponentInComponent (spots.ContentSchema m) (x, f, own, reached, declares_component e f ends declares)
    judged before free rules.ComponentInComponent spot b = b
    judged before free rules.TooManyResolved spots.Whole (es, all, apart, many) =
        let (fs, ancestors, ids, longs) = ancestors_alike es all in
        let texts = ap₂ (λ (t : List ℕ) (ts : List (List ℕ)). t ∷ ts) (sym like.id) ids in
        let counts = ap₂ (λ (n : ℕ) (ns : List ℕ). n ∷ ns) (sym like.long) longs in
        none rules.TooManyResolved spots.Whole (fs, ancestors, subst AreDistinct texts apart, subst (λ (ns : List ℕ). 3000 < sum ns) counts many)
    judged before free rules.TooManyResolved spot b = b

-- ---- uploads
module _ (us vs : List Uploaded) (same : SameElements DeclareTheSame (interfaces us) (interfaces vs)) (declared : AllByRecursion HasDeclaration (interfaces us))
    (declares : AllByRecursion HasDeclaration (interfaces vs)) (apart : AreApart (interfaces us)) (distinct : AreApart (interfaces vs)) where
  into : AllByRecursion (λ i. AnyByRecursion (λ j. Alike i j) (interfaces vs)) (interfaces us)
  into = each_pair (interfaces us) declared same.each
    where
      each_pair : (xs : List Interface) → AllByRecursion HasDeclaration xs → AllByRecursion (λ i. AnyByRecursion (λ j. DeclareTheSame i j) (interfaces vs)) xs
          → AllByRecursion (λ i. AnyByRecursion (λ j. Alike i j) (interfaces vs)) xs
      each_pair [] d all = tt
      each_pair (x ∷ xs) d all =
          (any_both HasDeclaration (λ j. DeclareTheSame x j) (λ j. Alike x j) (λ j e g. alike x j d.0 e g) (interfaces vs) declares all.0, each_pair xs d.1 all.1)

  out_of : AllByRecursion (λ j. AnyByRecursion (λ i. Alike j i) (interfaces us)) (interfaces vs)
  out_of = each_pair (interfaces vs) declares same.other
    where
      each_pair : (ys : List Interface) → AllByRecursion HasDeclaration ys → AllByRecursion (λ j. AnyByRecursion (λ i. DeclareTheSame i j) (interfaces us)) ys
          → AllByRecursion (λ j. AnyByRecursion (λ i. Alike j i) (interfaces us)) ys
      each_pair [] d all = tt
      each_pair (y ∷ ys) d all =
          (any_both HasDeclaration (λ i. DeclareTheSame i y) (λ i. Alike y i) (λ i e g. swapped i y (alike i y e d.0 g)) (interfaces us) declared all.0, each_pair ys d.1 all.1)

  -- an interface of the second set, beside one of the first
  matched : (v : Uploaded) → AnyByRecursion (λ j. j ≡ v.interface) (interfaces vs)
      → (k : ℕ) × (u : Uploaded) × (slice_get us k ≡ Some u) × Alike u.interface v.interface
  matched v among =
      let some = moved (λ j i. Alike j i) (λ j. j ≡ v.interface) (λ i. Alike v.interface i) (interfaces vs) (interfaces us)
      (λ j i is like. subst (λ (z : Interface). Alike z i) is like) out_of among in
      let (i, inside, back_like) = any_is (λ i. Alike v.interface i) (interfaces us) some in
      let (k, i_at) = any_placed (interfaces us) i inside in
      let (u, u_at, u_is) = mapped_back (λ (x : Uploaded). x.interface) us k i i_at in
      (k, u, u_at, subst (λ (z : Interface). Alike z v.interface) (sym u_is) (swapped v.interface i back_like))

  breaks_none : IsSound [] us → (k : ℕ) (u : Uploaded) → slice_get us k ≡ Some u → (rule : SetRule) (spot : Spot)
      → BreaksSetRule (interfaces us) (interfaces (take k us)) u.interface rule spot → ⊥
  breaks_none sound k u at rule spot breaks = sound (record { index = k; rule = rule; spot = spot }) (u, at, breaks)

  free_of : (l : ℕ) (v : Uploaded) → slice_get vs l ≡ Some v → RepeatsId (interfaces (take l vs)) v.interface → ⊥
  free_of l v at (e, inside, one_id) = none_repeats vs l v distinct at
      (any_with (λ f. f ≡ e) (λ f. HaveOneId f v.interface) (λ f is. subst (λ (z : Interface). HaveOneId z v.interface) (sym is) one_id)
      (interfaces (take l vs)) (any_of_contains (interfaces (take l vs)) e inside))

  among_them : (l : ℕ) (v : Uploaded) → slice_get vs l ≡ Some v → AnyByRecursion (λ j. j ≡ v.interface) (interfaces vs)
  among_them l v at = any_mapped (λ (u : Uploaded). u.interface) (λ j. j ≡ v.interface) vs
      (any_with (λ u. u ≡ v) (λ u. u.interface ≡ v.interface) (λ u e. ap (λ (x : Uploaded). x.interface) e) vs (placed_any vs l v at))

  distinct_parents : (v : Uploaded) → AnyByRecursion (λ j. j ≡ v.interface) (interfaces vs) → AreDistinct v.interface.parents
  distinct_parents v among = at_one HasDeclaration (λ j. j ≡ v.interface) (AreDistinct v.interface.parents) (interfaces vs)
      (λ j d is. subst (λ (z : Interface). AreDistinct z.parents) is d.parents) declares among

  pub sound_alike : IsSound [] us → IsSound [] vs
  sound_alike sound b (v, at, broken) =
      let among = among_them b.index v at in
      let (k, u, u_at, like) = matched v among in
      judged (interfaces us) (interfaces vs) (finds (interfaces us) (interfaces vs) distinct into) (finds (interfaces vs) (interfaces us) apart out_of)
      u.interface v.interface like (interfaces (take k us)) (breaks_none sound k u u_at) (distinct_parents v among) (interfaces (take b.index vs)) (free_of b.index v at)
      b.rule b.spot broken
