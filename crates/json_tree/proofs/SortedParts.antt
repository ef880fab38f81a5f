-- Values whose members are sorted, one part more.
use Rattle.std.proofs.Common.{◌≡◌, ℕ, ◌+◌, ◌<◌, Bool, List, [], ◌∷◌, ◌++◌, length, map, take, get_or, add-one, refl, sym, ap, ◌∙◌, subst, arith}
use Rattle.std.proofs.Math.Seq.{take-suc}
use Rattle.std.specs.List.Sorted.{IsPermutation, IsSortedBy}
use Rattle.std.specs.Ordering.{is_lt, nat_cmp}
use Rattle.std.specs.Cmp.Lexicographic.{slice_cmp}
use Rattle.std.proofs.lemmas.List.{get_or-map, length-map}
use Rattle.std.proofs.lemmas.List.Sorted.{IsPermutation-map}
use Rattle.json_decimal.specs.Number.{Number}
use Rattle.json_tree.specs.Values.{Json, object, Elements, no_elements, element, Members, no_members, member}
use Rattle.json_tree.specs.View.{view, member_view, elements_view, members_view}
use Rattle.json_tree.specs.Sorting.{IsSortedOf, ElementsAreSortedOf, MembersAreSortedOf}
use Rattle.json_tree.specs.declared.tree.Tree.{Tree}
use Rattle.json_tree.specs.declared.tree.Tree as variants
use Rattle.json_tree.specs.declared.tree.Member.{Member}
use Rattle.json_tree.proofs.Views.{view-Members}

pub items_more : (vs ws : List Tree) (v w : Tree) → ElementsAreSortedOf (elements_view vs) (elements_view ws) → IsSortedOf (view v) (view w)
    → ElementsAreSortedOf (elements_view (vs ++ v ∷ [])) (elements_view (ws ++ w ∷ []))
items_more [] [] v w h k = (view w, no_elements, k, refl, refl)
items_more [] (x ∷ ws) v w h k = absurd (let f : element (view x) (elements_view ws) ≡ no_elements = h in cc)
items_more (u ∷ vs) [] v w (x, xs, h, hs, same) k = absurd (let f : no_elements ≡ element x xs = same in cc)
items_more (u ∷ vs) (y ∷ ws) v w (x, xs, h, hs, same) k =
    let f : element (view y) (elements_view ws) ≡ element x xs = same in
    let g : xs ≡ elements_view ws = cc in
    let e : x ≡ view y = cc in (
      view y,
      elements_view (ws ++ w ∷ []),
      subst (λ (z : Json). IsSortedOf (view u) z) e h,
      items_more vs ws v w (subst (λ (zs : Elements Number). ElementsAreSortedOf (elements_view vs) zs) g hs) k,
      refl,
    )

pub members_more : (ms ns : List Member) (m n : Member) → MembersAreSortedOf (members_view ms) (members_view ns) → m.key ≡ n.key → IsSortedOf (view m.value) (view n.value)
    → MembersAreSortedOf (members_view (ms ++ m ∷ [])) (members_view (ns ++ n ∷ []))
members_more [] [] m n h q k = (view n.value, no_members, k, refl, ap (λ (l : List ℕ). member l (view n.value) no_members) (sym q))
members_more [] (x ∷ ns) m n h q k = absurd (let f : member x.key (view x.value) (members_view ns) ≡ no_members = h in cc)
members_more (u ∷ ms) [] m n (x, xs, h, hs, same) q k = absurd (let f : no_members ≡ member u.key x xs = same in cc)
members_more (u ∷ ms) (y ∷ ns) m n (x, xs, h, hs, same) q k =
    let f : member y.key (view y.value) (members_view ns) ≡ member u.key x xs = same in
    let g : xs ≡ members_view ns = cc in
    let e : x ≡ view y.value = cc in
    let j : y.key ≡ u.key = cc in (
      view y.value,
      members_view (ns ++ n ∷ []),
      subst (λ (z : Json). IsSortedOf (view u.value) z) e h,
      members_more ms ns m n (subst (λ (zs : Members Number). MembersAreSortedOf (members_view ms) zs) g hs) q k,
      ap (λ (l : List ℕ). member l (view y.value) (members_view (ns ++ n ∷ []))) j,
    )

pub next_item : {X : Type 0} (items : List X) (i : ℕ) (item : X) → i < length items → item ≡ get_or items i item → take (i + 1) items ≡ take i items ++ item ∷ []
next_item {X} items i item lt is =
    ap (λ (n : ℕ). take n items) (add-one i) ∙ take-suc items i item lt ∙ ap (λ (x : X). take i items ++ x ∷ []) (sym is)

sorted_mapped : {X Y : Type 0} (f : X → Y) (less : Y → Y → Bool) (xs : List X) → IsSortedBy (λ (x y : X). less (f x) (f y)) xs → IsSortedBy less (map f xs)
sorted_mapped f less [] h k d low within = absurd (omega (arith, within))
sorted_mapped {X} {Y} f less (x ∷ xs) h k d low within =
    let size : length (map f (x ∷ xs)) ≡ length (x ∷ xs) = length-map (x ∷ xs) f in
    let inside : k + 1 < length (x ∷ xs) = omega (arith, within, size) in
    let first : get_or (map f (x ∷ xs)) k d ≡ f (get_or (x ∷ xs) k x) = get_or-map f (x ∷ xs) k x d (omega (arith, inside)) in
    let second : get_or (map f (x ∷ xs)) (k + 1) d ≡ f (get_or (x ∷ xs) (k + 1) x) = get_or-map f (x ∷ xs) (k + 1) x d inside in
    ap (λ (y : Y). less y (get_or (map f (x ∷ xs)) k d)) second ∙ ap (λ (y : Y). less (f (get_or (x ∷ xs) (k + 1) x)) y) first ∙ h k x low inside

pub members_sorted : (tree : Tree) (ms values moved : List Member) → tree ≡ variants.Members ms → MembersAreSortedOf (members_view ms) (members_view values)
    → IsPermutation values moved → IsSortedBy (λ (m n : Member). is_lt (slice_cmp nat_cmp m.key n.key)) moved → IsSortedOf (view tree) (view (variants.Members moved))
members_sorted tree ms values moved is h p s =
    let sorted : IsSortedOf (object (members_view ms)) (object (members_view moved)) = (
      map member_view values,
      map member_view moved,
      h,
      IsPermutation-map member_view values moved p,
      sorted_mapped member_view (λ (m n : List ℕ × Json). is_lt (slice_cmp nat_cmp m.0 n.0)) moved s,
      refl,
    ) in
    subst (λ (v : Json). IsSortedOf v (view (variants.Members moved))) (sym (ap view is ∙ view-Members ms))
    (subst (λ (w : Json). IsSortedOf (object (members_view ms)) w) (sym (view-Members moved)) sorted)
