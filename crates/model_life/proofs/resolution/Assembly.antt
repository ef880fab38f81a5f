-- What an interface has, from the lists that are made of it.
use Rattle.std.proofs.Common.{◌≡◌, ◌↔◌, ℕ, zero, suc, ◌<◌, ◌+◌, ◌≤◌, ◌⊎◌, inl, inr, List, [], ◌∷◌, ◌++◌, map, cond, length, slice_index_or, Some, None, Result, Ok, Err, IfOk, refl, sym, ap, ◌∙◌, subst, is_eq, arith}
use Rattle.std.specs.Prelude.{Contains}
use Rattle.std.specs.Ordering.{nat_cmp}
use Rattle.std.specs.Cmp.Lexicographic.{slice_cmp}
use Rattle.std.specs.List.{AllZip}
use Rattle.std.specs.List.Sorted.{IsStrictlySortedBy}
use Rattle.std.proofs.lemmas.Option.{same_Some, none-some}
use denote.Ref.{Bor}
use Rattle.dt_base.specs.names.Grammar.{Identifier, id_cmp}
use Rattle.dtdl_terms.specs.Sets.{InOrder, interface_at}
use Rattle.dtdl_terms.specs.Terms.{KindTerm, telemetry, property, command, relationship, component}
use Rattle.dtdl_terms.specs.TermViews.{kind_term}
use Rattle.dtdl_terms.specs.declared.content.Content.{Content}
use Rattle.dtdl_terms.specs.declared.interface.Interface.{Interface}
use Rattle.dtdl_terms.specs.declared.resolved.NamedIn.{NamedIn}
use Rattle.dtdl_terms.specs.declared.resolved.PartOf.{PartOf}
use Rattle.dtdl_terms.specs.declared.resolved.ResolvedContent.{ResolvedContent}
use Rattle.extend_resolve.specs.Chains.{IsAncestor}
use Rattle.model_life.specs.resolution.Resolving.{Has, HasPart, IsSource, ListsContents, ListsAncestors, ListsParts, ListsNamed}
use Rattle.model_life.specs.resolution.Machinery.Families.{IsThere, IsDeclaredIn, AreOne, IsPartBy, IsPartByFirst, IsPartAmongFirst, IsPartOf, kind_id, found_at, part_for, schemas_of}
use Rattle.model_life.proofs.resolution.ByKey.{contains_map, from_contains}
use Rattle.model_life.proofs.resolution.Families.{listed, first_more, first_still, first_next, first_all, all_first, put_here, put_kept, put_only, stands}

abbrev pub seen : List (Bor Interface) → List Interface
seen xs = map (λ x. x.now) xs

-- ---- mapped lists
map_map : {X Y Z : Type 0} (f : X → Y) (g : Y → Z) (xs : List X) → map (λ x. g (f x)) xs ≡ map g (map f xs)
map_map f g [] = refl
map_map f g (x ∷ xs) = ap (λ ys. g (f x) ∷ ys) (map_map f g xs)

pub zip_push : {X Y : Type 0} (R : X → Y → Type 0) (xs : List X) (ys : List Y) (x : X) (y : Y) → AllZip R xs ys → R x y → AllZip R (xs ++ x ∷ []) (ys ++ y ∷ [])
zip_push R [] [] x y all one = (one, tt)
zip_push R [] (b ∷ ys) x y all one = absurd all
zip_push R (a ∷ xs) [] x y all one = absurd all
zip_push R (a ∷ xs) (b ∷ ys) x y all one = (all.0, zip_push R xs ys x y all.1 one)

zip_back : {X Y : Type 0} (R : X → Y → Type 0) (xs : List X) (ys : List Y) (y : Y) → AllZip R xs ys → (k : ℕ) → k < length ys → slice_index_or ys k y ≡ y → (x : X) × Contains xs x × R x y
zip_back R [] [] y all k low is = absurd (omega (arith, low))
zip_back R [] (b ∷ ys) y all k low is = absurd all
zip_back R (a ∷ xs) [] y all k low is = absurd all
zip_back R (a ∷ xs) (b ∷ ys) y all zero low is = (a, (zero, omega arith, refl), subst (R a) is all.0)
zip_back R (a ∷ xs) (b ∷ ys) y all (suc k) low is =
    let later = zip_back R xs ys y all.1 k (omega (arith, low)) is in (later.0, (suc later.1.0, omega (arith, later.1.1), later.1.2), later.2)

zip_map : {X Y Z : Type 0} (R : X → Y → Type 0) (f : X → Z) (g : Y → Z) → ((x : X) (y : Y) → R x y → g y ≡ f x) → (xs : List X) (ys : List Y) → AllZip R xs ys → map f xs ≡ map g ys
zip_map R f g same [] [] all = refl
zip_map R f g same [] (y ∷ ys) all = absurd all
zip_map R f g same (x ∷ xs) [] all = absurd all
zip_map R f g same (x ∷ xs) (y ∷ ys) all = ap (λ z. z ∷ map f xs) (sym (same x y all.0)) ∙ ap (λ zs. g y ∷ zs) (zip_map R f g same xs ys all.1)

module _ (set : List Interface) (i : Interface) where
  declared_has : (ups : List Interface) → ((a : Interface) → Contains ups a ↔ IsAncestor set i a) → (r : ResolvedContent) → IsDeclaredIn ups r → Has set i r
  declared_has ups are r (a, here, (from, content)) = (a, (are a).0 here, from, content)

  has_declared : (ups : List Interface) → ((a : Interface) → Contains ups a ↔ IsAncestor set i a) → (r : ResolvedContent) → Has set i r → IsDeclaredIn ups r
  has_declared ups are r (a, up, from, content) = (a, (are a).1 up, (from, content))

  -- of a name the ancestors declare one content
  pub one_declared : (ups : List Interface) → ((a : Interface) → Contains ups a ↔ IsAncestor set i a) → AreOne (Has set i) → AreOne (IsDeclaredIn ups)
  one_declared ups are one r s h g e = one r s (declared_has ups are r h) (declared_has ups are s g) e

  pub lists_contents : (ups : List Interface) → ((a : Interface) → Contains ups a ↔ IsAncestor set i a) → (rs : List ResolvedContent) → ((r : ResolvedContent) → Contains rs r ↔ IsDeclaredIn ups r)
      → IsStrictlySortedBy (slice_cmp nat_cmp) (map (λ r. r.content.name) rs) → ListsContents set i rs
  lists_contents ups are rs each sorted = record {
    each = λ r. (λ h. declared_has ups are r ((each r).0 h), λ h. (each r).1 (has_declared ups are r h));
    sorted = sorted;
  }

  pub ancestors_listed : (ups : List Interface) → InOrder ups → ((a : Interface) → Contains ups a ↔ IsAncestor set i a) → ListsAncestors set i (map (λ a. a.id) ups)
  ancestors_listed ups ordered are =
      let id : Interface → Identifier = λ a. a.id in
      record {
        each = λ q. (
          λ h. let one = from_contains id ups q h in (one.0, (are one.0).0 one.1, sym one.2),
          λ h. subst (Contains (map id ups)) (sym h.2) (contains_map id ups h.0 ((are h.0).1 h.1)),
        );
        sorted = ordered;
      }

  pub lists_ancestors : (xs : List (Bor Interface)) (ids : List Identifier) → ids ≡ map (λ x. x.now.id) xs → InOrder (seen xs) → ((a : Interface) → Contains (seen xs) a ↔ IsAncestor set i a) → ListsAncestors set i ids
  lists_ancestors xs ids is ordered are =
      let now : Bor Interface → Interface = λ x. x.now in
      let id : Interface → Identifier = λ a. a.id in
      let same : map id (seen xs) ≡ ids = sym (map_map now id xs) ∙ sym is in
      subst (ListsAncestors set i) same (ancestors_listed (seen xs) ordered are)

  same_named : (n : NamedIn) (a : Interface) → schemas_of a ≡ n → (n.of ≡ a.id) × (n.schemas ≡ a.schemas)
  same_named n a e = (sym (ap (λ (m : NamedIn). m.of) e), sym (ap (λ (m : NamedIn). m.schemas) e))

  named_same : (n : NamedIn) (a : Interface) → n.of ≡ a.id → n.schemas ≡ a.schemas → schemas_of a ≡ n
  named_same n a of schemas =
      let make : Identifier → NamedIn = λ id. record { of = id; schemas = a.schemas } in
      ap make (sym of) ∙ ap (λ ss. record { of = n.of; schemas = ss }) (sym schemas)

  pub named_listed : (from : List Interface) → InOrder from → ((a : Interface) → Contains from a ↔ IsSource set i a) → ListsNamed set i (map schemas_of from)
  named_listed from ordered are =
      let of : NamedIn → Identifier = λ n. n.of in
      record {
        each = λ n. (
          λ h.
              let one = from_contains schemas_of from n h in
              let parts = same_named n one.0 one.2 in
              (one.0, (are one.0).0 one.1, parts.0, parts.1),
          λ h. subst (Contains (map schemas_of from)) (named_same n h.0 h.2 h.3) (contains_map schemas_of from h.0 ((are h.0).1 h.1)),
        );
        sorted = subst (IsStrictlySortedBy id_cmp) (map_map schemas_of of from) ordered;
      }

  pub lists_named : (xs : List (Bor Interface)) (ns : List NamedIn) → ns ≡ map (λ x. schemas_of x.now) xs → InOrder (seen xs) → ((a : Interface) → Contains (seen xs) a ↔ IsSource set i a) → ListsNamed set i ns
  lists_named xs ns is ordered are =
      let now : Bor Interface → Interface = λ x. x.now in
      let same : map schemas_of (seen xs) ≡ ns = sym (map_map now schemas_of xs) ∙ sym is in
      subst (ListsNamed set i) same (named_listed (seen xs) ordered are)

  module _ (qs : List Interface) (are : (q : Interface) → Contains qs q ↔ HasPart set i q) where
    pub lists_parts : (parts : List PartOf) → InOrder qs → AllZip (IsPartOf set) qs parts → ListsParts set i parts
    lists_parts parts ordered all =
        let of : PartOf → Identifier = λ p. p.of in
        let id : Interface → Identifier = λ a. a.id in
        let same : map id qs ≡ map of parts = zip_map (IsPartOf set) id of (λ q p h. h.0) qs parts all in
        record {
          each = λ part h.
              let one = zip_back (IsPartOf set) qs parts part all h.0 h.1 h.2 in
              (one.0, (are one.0).0 one.1, one.2.0, one.2.1);
          every = λ q h. subst (λ ids. Contains ids q.id) same (contains_map id qs q ((are q).1 h));
          sorted = subst (IsStrictlySortedBy id_cmp) same ordered;
        }

    pub sources : (family all : List Interface) → ((a : Interface) → IsThere family a ↔ IsAncestor set i a)
        → ((a : Interface) → IsThere all a ↔ (IsThere family a ⊎ ((q : Interface) × Contains qs q × IsAncestor set q a))) → (a : Interface) → IsThere all a ↔ IsSource set i a
    sources family all first more a = (
      λ h.
          elim ((more a).0 h) [
            | inl x ↦ inl ((first a).0 x)
            | inr x ↦ inr (x.0, (are x.0).0 x.1, x.2)
          ],
      λ h.
          elim h [
            | inl x ↦ (more a).1 (inl ((first a).1 x))
            | inr x ↦ (more a).1 (inr (x.0, (are x.0).1 x.1, x.2))
          ],
    )

-- a list of interfaces that is in order has those that stand in it
pub listed_as : (family : List Interface) (xs : List (Bor Interface)) → seen xs ≡ family → InOrder family → {P : Interface → Type 0} → ((a : Interface) → IsThere family a ↔ P a) → (a : Interface) → Contains (seen xs) a ↔ P a
listed_as family xs is ordered are a = (
  λ h. (are a).0 ((listed family ordered a).0 (subst (λ ys. Contains ys a) is h)),
  λ h. subst (λ ys. Contains ys a) (sym is) ((listed family ordered a).1 ((are a).1 h)),
)

-- ---- components
of_component : (set : List Interface) (k : KindTerm) (q : Interface) → found_at set (kind_id k) ≡ Some q → (p : Identifier) × (k ≡ component p) × (interface_at p set ≡ Some q)
of_component set (telemetry schema semantic unit) q h = absurd (none-some q h)
of_component set (property schema semantic unit writable) q h = absurd (none-some q h)
of_component set (command request response) q h = absurd (none-some q h)
of_component set (relationship target properties most writable) q h = absurd (none-some q h)
of_component set (component of) q h = (of, refl, h)

part_there : (set : List Interface) (c : Content) (q : Interface) → part_for set c ≡ Some q → IsThere set q
part_there set c q h = let one = of_component set (kind_term c.kind) q h in stands set one.0 q one.2

-- ---- the components of one interface
-- one more content of which the part is there already, or there is none
pub part_seen : (set : List Interface) (cs : List Content) (n : ℕ) (c : Content) (first found : List Interface) → n < length cs → c ≡ slice_index_or cs n c → part_for set c ≡ None
    → ((q : Interface) → IsThere found q ↔ (IsThere first q ⊎ IsPartByFirst set cs n q)) → (q : Interface) → IsThere found q ↔ (IsThere first q ⊎ IsPartByFirst set cs (n + 1) q)
part_seen set cs n c first found low is none so_far q = (
  λ h.
      elim ((so_far q).0 h) [
        | inl x ↦ inl x
        | inr was ↦ inr (was.0, first_still cs n was.0 was.1, was.2)
      ],
  λ h.
      elim h [
        | inl x ↦ (so_far q).1 (inl x)
        | inr x ↦
            elim (first_more cs n c x.0 low is x.1) [
              | inl y ↦ (so_far q).1 (inr (x.0, y, x.2))
              | inr e ↦ absurd (none-some q (sym (ap (part_for set) e ∙ none) ∙ x.2))
            ]
      ],
)

pub part_more : (set : List Interface) (cs : List Content) (n : ℕ) (c : Content) (part : Interface) (first old new : List Interface) → n < length cs → c ≡ slice_index_or cs n c → part_for set c ≡ Some part → ((q : Interface) → IsThere first q → IsThere set q)
    → ((id : Identifier) → interface_at id new ≡ cond (is_eq (id_cmp id part.id)) (Some part) (interface_at id old))
    → ((q : Interface) → IsThere old q ↔ (IsThere first q ⊎ IsPartByFirst set cs n q)) → (q : Interface) → IsThere new q ↔ (IsThere first q ⊎ IsPartByFirst set cs (n + 1) q)
part_more set cs n c part first old new low is found before put so_far q =
    let there : IsThere set part = part_there set c part found in
    let each : (a : Interface) → IsThere old a → IsThere set a = λ a h. elim ((so_far a).0 h) [ inl x ↦ before a x | inr x ↦ part_there set x.0 a x.2 ] in (
      λ h.
          elim (put_only set old new part there each put q h) [
            | inl e ↦ inr (c, first_next cs n c is, found ∙ ap Some (sym e))
            | inr x ↦
                elim ((so_far q).0 x) [
                  | inl y ↦ inl y
                  | inr was ↦ inr (was.0, first_still cs n was.0 was.1, was.2)
                ]
          ],
      λ h.
          elim h [
            | inl x ↦ put_kept set old new part there each put q ((so_far q).1 (inl x))
            | inr x ↦
                elim (first_more cs n c x.0 low is x.1) [
                  | inl y ↦ put_kept set old new part there each put q ((so_far q).1 (inr (x.0, y, x.2)))
                  | inr e ↦
                      let same : part ≡ q = same_Some part q (sym found ∙ ap (part_for set) (sym e) ∙ x.2) in
                      subst (IsThere new) same (put_here set old new part there each put)
                ]
          ],
    )

pub parts_none : (set : List Interface) (cs : List Content) (found : List Interface) (q : Interface) → IsThere found q ↔ (IsThere found q ⊎ IsPartByFirst set cs 0 q)
parts_none set cs found q = (
  λ h. inl h,
  λ h.
      elim h [
        | inl x ↦ x
        | inr x ↦ let low = x.1.1 in absurd (omega (arith, low))
      ],
)

pub parts_whole : (set : List Interface) (cs : List Content) (n : ℕ) (first found : List Interface) → length cs ≤ n → n ≤ length cs
    → ((q : Interface) → IsThere found q ↔ (IsThere first q ⊎ IsPartByFirst set cs n q)) → (q : Interface) → IsThere found q ↔ (IsThere first q ⊎ IsPartBy set cs q)
parts_whole set cs n first found long short so_far q = (
  λ h.
      elim ((so_far q).0 h) [
        | inl x ↦ inl x
        | inr x ↦ inr (x.0, all_first cs n x.0 short x.1, x.2)
      ],
  λ h.
      elim h [
        | inl x ↦ (so_far q).1 (inl x)
        | inr x ↦ (so_far q).1 (inr (x.0, first_all cs n x.0 long x.1, x.2))
      ],
)

-- ---- the components of several
pub parts_among : (set : List Interface) (xs : List (Bor Interface)) (n : ℕ) (x : Bor Interface) (old new : List Interface) → n < length xs → x ≡ slice_index_or xs n x → ((q : Interface) → IsThere new q ↔ (IsThere old q ⊎ IsPartBy set x.now.contents q))
    → ((q : Interface) → IsThere old q ↔ IsPartAmongFirst set xs n q) → (q : Interface) → IsThere new q ↔ IsPartAmongFirst set xs (n + 1) q
parts_among set xs n x old new low is more so_far q = (
  λ h.
      elim ((more q).0 h) [
        | inl y ↦ let was = (so_far q).0 y in (was.0, first_still xs n was.0 was.1, was.2)
        | inr y ↦ (x, first_next xs n x is, y)
      ],
  λ h.
      elim (first_more xs n x h.0 low is h.1) [
        | inl y ↦ (more q).1 (inl ((so_far q).1 (h.0, y, h.2)))
        | inr e ↦ (more q).1 (inr (subst (λ (z : Bor Interface). IsPartBy set z.now.contents q) e h.2))
      ],
)

pub among_none : (set : List Interface) (xs : List (Bor Interface)) (q : Interface) → IsThere [] q ↔ IsPartAmongFirst set xs 0 q
among_none set xs q = (
  λ h. absurd (none-some q h),
  λ h. let low = h.1.1 in absurd (omega (arith, low)),
)

pub among_there : (set : List Interface) (xs : List (Bor Interface)) (n : ℕ) (q : Interface) → IsPartAmongFirst set xs n q → IsThere set q
among_there set xs n q (x, first, (c, here, is)) = part_there set c q is

-- among the ancestors of an interface are its own
part_here : (set : List Interface) (i a q : Interface) → IsAncestor set i a → IsPartBy set a.contents q → HasPart set i q
part_here set i a q up (c, here, is) =
    let one = of_component set (kind_term c.kind) q is in
    let r : ResolvedContent = record { from = a.id; content = c } in
    (r, one.0, (a, up, refl, here), one.1, one.2)

has_part : (set : List Interface) (i q : Interface) → HasPart set i q → (a : Interface) × IsAncestor set i a × IsPartBy set a.contents q
has_part set i q (r, p, (a, up, from, here), of, found) = (a, up, (r.content, here, ap (λ k. found_at set (kind_id k)) of ∙ found))

pub all_parts : (set : List Interface) (xs : List (Bor Interface)) (n : ℕ) (family : List Interface) (ys : List (Bor Interface)) → length xs ≤ n → n ≤ length xs → seen ys ≡ family → InOrder family
    → ((q : Interface) → IsThere family q ↔ IsPartAmongFirst set xs n q) → (i : Interface) → ((a : Interface) → Contains (seen xs) a ↔ IsAncestor set i a) → (q : Interface) → Contains (seen ys) q ↔ HasPart set i q
all_parts set xs n family ys long short is ordered so_far i are q =
    let now : Bor Interface → Interface = λ x. x.now in (
      λ h.
          let one = (listed_as family ys is ordered so_far q).0 h in
          part_here set i one.0.now q ((are one.0.now).0 (contains_map now xs one.0 (all_first xs n one.0 short one.1))) one.2,
      λ h.
          let one = has_part set i q h in
          let x = from_contains now xs one.0 ((are one.0).1 one.1) in
          (listed_as family ys is ordered so_far q).1 (x.0, first_all xs n x.0 long x.1, subst (λ (a : Interface). IsPartBy set a.contents q) (sym x.2) one.2),
    )

pub part_stands : (set : List Interface) (i q : Interface) → HasPart set i q → IsThere set q
part_stands set i q (r, p, has, of, found) = stands set p q found

pub parts_there : (set : List Interface) (i : Interface) (qs : List Interface) → ((q : Interface) → Contains qs q ↔ HasPart set i q) → (q : Interface) → Contains qs q → IsThere set q
parts_there set i qs are q h = part_stands set i q ((are q).0 h)

-- ---- results
pub if_ok_both : {A E : Type 0} (r : Result A E) {P Q R : A → Type 0} → ((a : A) → P a → Q a → R a) → IfOk r P → IfOk r Q → IfOk r R
if_ok_both (Ok a) f p q = f a p q
if_ok_both (Err e) f p q = tt

-- ---- what an interface has, from what is found for it
pub found_ancestors : (set : List Interface) (i : Interface) (family : List Interface) (xs items : List (Bor Interface)) → xs ≡ items → seen items ≡ family → InOrder family → ((a : Interface) → IsThere family a ↔ IsAncestor set i a)
    → (a : Interface) → Contains (seen xs) a ↔ IsAncestor set i a
found_ancestors set i family xs items slice is ordered are = listed_as family xs (ap seen slice ∙ is) ordered are

pub in_order : (family : List Interface) (xs items : List (Bor Interface)) → xs ≡ items → seen items ≡ family → InOrder family → InOrder (seen xs)
in_order family xs items slice is ordered = subst InOrder (sym (ap seen slice ∙ is)) ordered

pub found_sources : (set : List Interface) (i : Interface) (family : List Interface) (xs items : List (Bor Interface)) → xs ≡ items → seen items ≡ family → InOrder family → ((a : Interface) → IsThere family a ↔ IsSource set i a)
    → (a : Interface) → Contains (seen xs) a ↔ IsSource set i a
found_sources set i family xs items slice is ordered are = listed_as family xs (ap seen slice ∙ is) ordered are
