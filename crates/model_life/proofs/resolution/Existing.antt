-- Each interface of a set that breaks no rule has what it inherits.
use Rattle.std.proofs.Common.{◌≡◌, ◌↔◌, ℕ, ◌⊎◌, inl, inr, List, [], ◌∷◌, map, cond, Some, refl, sym, ap, ◌∙◌, subst, is_eq, arith}
use Rattle.std.specs.Prelude.{Contains}
use Rattle.std.specs.Ordering.{nat_cmp}
use Rattle.std.specs.Cmp.Lexicographic.{slice_cmp}
use Rattle.std.specs.List.{AllByRecursion, AllZip, filter}
use Rattle.std.specs.List.Sorted.{IsStrictlySortedBy}
use Rattle.std.specs.Map.{keys_of}
use Rattle.std.specs.BTreeMap.{insert_entry}
use Rattle.std.proofs.lemmas.Cmp.{nat_list_cmp_total}
use Rattle.std.proofs.lemmas.Option.{none-some}
use Rattle.ordered_table.proofs.Kept.{sorted-insert}
use Rattle.dt_base.specs.names.Grammar.{Identifier}
use Rattle.dtdl_terms.specs.Distinct.{HasDeclaration}
use Rattle.dtdl_terms.specs.Sets.{InOrder}
use Rattle.dtdl_terms.specs.declared.content.Content.{Content}
use Rattle.dtdl_terms.specs.declared.interface.Interface.{Interface}
use Rattle.dtdl_terms.specs.declared.resolved.PartOf.{PartOf}
use Rattle.dtdl_terms.specs.declared.resolved.Resolved.{Resolved}
use Rattle.dtdl_terms.specs.declared.resolved.ResolvedContent.{ResolvedContent}
use Rattle.extend_resolve.specs.Chains.{IsAncestor}
use Rattle.extend_resolve.specs.Breaches.{BreaksNoRule}
use Rattle.model_life.specs.resolution.Resolving.{ListsContents, IsResolved}
use Rattle.model_life.specs.resolution.Machinery.Families.{IsThere, declared_by, content_at, HasContent, IsDeclared, IsDeclaredIn, AreOne, IsPartOf, schemas_of}
use Rattle.model_life.specs.resolution.Machinery.Reaching.{ancestors_in, parts_in}
use Rattle.model_life.proofs.resolution.ByKey.{keyed-insert, at-insert, sorted-seen}
use Rattle.model_life.proofs.resolution.Families.{stands}
use Rattle.model_life.proofs.resolution.Declared.{one_content, names_listed, added_only, added_kept, added_here}
use Rattle.model_life.proofs.resolution.Assembly.{one_declared, lists_contents, ancestors_listed, named_listed, lists_parts}
use Rattle.model_life.proofs.resolution.OneResolved.{uncons, here, there}
use Rattle.model_life.proofs.resolution.Reaching.{picked_in_order, ancestors_ordered, ancestors_are_in, parts_ordered, parts_are_in, is_source_id, sources_are_in}

-- ---- contents in the order of their names
abbrev Entries : Type 0
Entries = List (List ℕ × ResolvedContent)

abbrev values : Entries → List ResolvedContent
values es = map (λ e. e.1) es

abbrev put : ResolvedContent → Entries → Entries
put r es = insert_entry (slice_cmp nat_cmp) es r.content.name r

record IsGathered (P : ResolvedContent → Type 0) (es : Entries) : Type 0 where
  keyed : AllByRecursion (λ e. e.0 ≡ e.1.content.name) es
  sorted : IsStrictlySortedBy (slice_cmp nat_cmp) (keys_of es)
  each : (r : ResolvedContent) → HasContent (values es) r ↔ P r

gathered_by : (P Q : ResolvedContent → Type 0) (es : Entries) → ((r : ResolvedContent) → P r ↔ Q r) → IsGathered P es → IsGathered Q es
gathered_by P Q es same g = record {
  keyed = g.keyed;
  sorted = g.sorted;
  each = λ r. (λ h. (same r).0 ((g.each r).0 h), λ h. (g.each r).1 ((same r).1 h));
}

put_gathered : (P : ResolvedContent → Type 0) (es : Entries) (r : ResolvedContent) → IsGathered P es → ((s : ResolvedContent) → P s → s.content.name ≡ r.content.name → s ≡ r) → IsGathered (λ s. P s ⊎ (s ≡ r)) (put r es)
put_gathered P es r g alone =
    let at : (name : List ℕ) → content_at name (values (put r es)) ≡ cond (is_eq (slice_cmp nat_cmp name r.content.name)) (Some r) (content_at name (values es)) =
    λ name. at-insert (λ (n : List ℕ). n) (λ (s : ResolvedContent). s) (λ (s : ResolvedContent). s.content.name) (λ (n : List ℕ). n) name r.content.name r es refl g.keyed in
    let one : (s : ResolvedContent) → HasContent (values es) s → s.content.name ≡ r.content.name → s ≡ r = λ s h e. alone s ((g.each s).0 h) e in
    record {
      keyed = keyed-insert (λ (n : List ℕ). n) (λ (s : ResolvedContent). s) (λ (s : ResolvedContent). s.content.name) (λ (n : List ℕ). n) r.content.name r es refl g.keyed;
      sorted = sorted-insert nat_list_cmp_total r.content.name r es g.sorted;
      each = λ s. (
        λ h.
            elim (added_only (values es) (values (put r es)) r at one s h) [
              | inl x ↦ inl ((g.each s).0 x)
              | inr e ↦ inr e
            ],
        λ h.
            elim h [
              | inl x ↦ added_kept (values es) (values (put r es)) r at one s ((g.each s).1 x)
              | inr e ↦ subst (HasContent (values (put r es))) (sym e) (added_here (values es) (values (put r es)) r at one)
            ],
      );
    }

abbrev add_all : Identifier → List Content → Entries → Entries
add_all id [] es = es
add_all id (c ∷ cs) es = add_all id cs (put (declared_by id c) es)

abbrev gather : List Interface → Entries
gather [] = []
gather (a ∷ ups) = add_all a.id a.contents (gather ups)

abbrev Of : Identifier → List Content → ResolvedContent → Type 0
Of id cs r = (r.from ≡ id) × Contains cs r.content

no_member : {X : Type 0} (x : X) → Contains [] x → ⊥
no_member x h = let low = h.1 in omega (arith, low)

add_gathered : (id : Identifier) (cs : List Content) (P : ResolvedContent → Type 0) (es : Entries) → AreOne (λ r. P r ⊎ Of id cs r) → IsGathered P es → IsGathered (λ r. P r ⊎ Of id cs r) (add_all id cs es)
add_gathered id [] P es one g =
    gathered_by P (λ r. P r ⊎ Of id [] r) es
    (λ r. (
      λ h. inl h,
      λ h. elim h [ inl x ↦ x | inr x ↦ absurd (no_member r.content x.1) ],
    )) g
add_gathered id (c ∷ cs) P es one g =
    let item : ResolvedContent = declared_by id c in
    let mine : Of id (c ∷ cs) item = (refl, here c cs) in
    let more : (r : ResolvedContent) → Of id cs r → Of id (c ∷ cs) r = λ r h. (h.0, there c cs r.content h.1) in
    let wider : (r : ResolvedContent) → ((P r ⊎ (r ≡ item)) ⊎ Of id cs r) → P r ⊎ Of id (c ∷ cs) r =
    λ r h.
    elim h [
      | inl x ↦ elim x [ inl y ↦ inl y | inr e ↦ inr (subst (Of id (c ∷ cs)) (sym e) mine) ]
      | inr x ↦ inr (more r x)
    ] in
    let narrower : (r : ResolvedContent) → (P r ⊎ Of id (c ∷ cs) r) → (P r ⊎ (r ≡ item)) ⊎ Of id cs r =
    λ r h.
    elim h [
      | inl x ↦ inl (inl x)
      | inr x ↦
          elim (uncons c cs r.content x.1) [
            | inl e ↦ inl (inr (ap (λ f. declared_by f r.content) x.0 ∙ ap (declared_by id) (sym e)))
            | inr later ↦ inr (x.0, later)
          ]
    ] in
    let step = put_gathered P es item g (λ s h e. one s item (inl h) (inr mine) e) in
    gathered_by (λ r. (P r ⊎ (r ≡ item)) ⊎ Of id cs r) (λ r. P r ⊎ Of id (c ∷ cs) r) (add_all id cs (put item es)) (λ r. (wider r, narrower r))
    (add_gathered id cs (λ r. P r ⊎ (r ≡ item)) (put item es) (λ r s h k e. one r s (wider r h) (wider s k) e) step)

gathered : (ups : List Interface) → AreOne (IsDeclaredIn ups) → IsGathered (IsDeclaredIn ups) (gather ups)
unfolding IsStrictlySortedBy
gathered [] one = record {
  keyed = tt;
  sorted = tt;
  each = λ r. (λ h. absurd (none-some r h), λ h. absurd (no_member h.0 h.1));
}
gathered (a ∷ ups) one =
    let wider : (r : ResolvedContent) → (IsDeclaredIn ups r ⊎ IsDeclared a r) → IsDeclaredIn (a ∷ ups) r =
    λ r h.
    elim h [
      | inl x ↦ (x.0, there a ups x.0 x.1, x.2)
      | inr x ↦ (a, here a ups, x)
    ] in
    let narrower : (r : ResolvedContent) → IsDeclaredIn (a ∷ ups) r → IsDeclaredIn ups r ⊎ IsDeclared a r =
    λ r h.
    elim (uncons a ups h.0 h.1) [
      | inl e ↦ inr (subst (λ (x : Interface). IsDeclared x r) (sym e) h.2)
      | inr later ↦ inl (h.0, later, h.2)
    ] in
    gathered_by (λ r. IsDeclaredIn ups r ⊎ IsDeclared a r) (IsDeclaredIn (a ∷ ups)) (add_all a.id a.contents (gather ups)) (λ r. (wider r, narrower r))
    (add_gathered a.id a.contents (IsDeclaredIn ups) (gather ups) (λ r s h k e. one r s (wider r h) (wider s k) e)
    (gathered ups (λ r s h k e. one r s (wider r (inl h)) (wider s (inl k)) e)))

-- ---- what an interface has
zip_of : {X Y : Type 0} (R : X → Y → Type 0) (f : X → Y) (xs : List X) → ((x : X) → Contains xs x → R x (f x)) → AllZip R xs (map f xs)
zip_of R f [] h = tt
zip_of R f (x ∷ xs) h = (h x (here x xs), zip_of R f xs (λ y c. h y (there x xs y c)))

module _ (set : List Interface) where
  abbrev contents_in : Interface → List ResolvedContent
  contents_in i = values (gather (ancestors_in set i))

  abbrev pub part_in : Interface → PartOf
  part_in q = record { of = q.id; contents = contents_in q }

  abbrev pub resolved_in : Interface → Resolved
  resolved_in i = record {
    contents = contents_in i;
    ancestors = map (λ a. a.id) (ancestors_in set i);
    named = map schemas_of (filter (λ (x : Interface). is_source_id set i x.id) set);
    parts = map part_in (parts_in set i);
  }

module _ (set : List Interface) (sound : BreaksNoRule set) (declared : AllByRecursion HasDeclaration set) (sorted : InOrder set) where
  listed_contents : (i : Interface) → IsThere set i → ListsContents set i (contents_in set i)
  listed_contents i low =
      let ups : List Interface = ancestors_in set i in
      let are : (a : Interface) → Contains ups a ↔ IsAncestor set i a = ancestors_are_in set sound sorted i low in
      let g : IsGathered (IsDeclaredIn ups) (gather ups) = gathered ups (one_declared set i ups are (one_content set sound declared i low)) in
      let ordered : IsStrictlySortedBy (slice_cmp nat_cmp) (map (λ r. r.content.name) (values (gather ups))) =
      sorted-seen (λ (n : List ℕ). n) (λ (s : ResolvedContent). s) (λ (s : ResolvedContent). s.content.name) (λ (n : List ℕ). n) (gather ups) g.sorted g.keyed in
      lists_contents set i ups are (values (gather ups))
      (λ r. (
        λ h. (g.each r).0 ((names_listed (values (gather ups)) ordered r).0 h),
        λ h. (names_listed (values (gather ups)) ordered r).1 ((g.each r).1 h),
      )) ordered

  pub is_resolved_in : (i : Interface) → IsThere set i → IsResolved set i (resolved_in set i)
  is_resolved_in i low = record {
    contents = listed_contents i low;
    ancestors = ancestors_listed set i (ancestors_in set i) (ancestors_ordered set sound sorted i) (ancestors_are_in set sound sorted i low);
    named = named_listed set i (filter (λ (x : Interface). is_source_id set i x.id) set) (picked_in_order (is_source_id set i) set sorted) (sources_are_in set sound sorted i low);
    parts = lists_parts set i (parts_in set i) (parts_are_in set sound sorted i low) (map (part_in set) (parts_in set i)) (parts_ordered set sound sorted i)
        (zip_of (IsPartOf set) (part_in set) (parts_in set i)
        (λ q c. let part = (parts_are_in set sound sorted i low q).0 c in (refl, listed_contents q (stands set part.1 q part.4))));
  }
