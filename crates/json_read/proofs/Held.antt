-- A value as it is held, and as it was spelled.
use Rattle.std.proofs.Common.{◌≡◌, ℕ, zero, suc, inl, inr, List, [], ◌∷◌, ◌++◌, Some, None, refl, sym, ap, ◌∙◌, subst, arith}
use Rattle.json_decimal.specs.Number.{Number}
use Rattle.json_tree.specs.Values.{Value, Raw, Json, null, truth, number, text, array, object, Elements, no_elements, element, Members, no_members, member, elements_of, members_of, LacksKey, HasDistinctKeys, ElementsHaveDistinctKeys, MembersHaveDistinctKeys, IsReadAs, ElementsAreReadAs, MembersAreReadAs}
use Rattle.json_tree.specs.Places.{element_at, member_at, IsPart}
use Rattle.json_read.specs.Faults.{RepeatsKey, IsDuplicateAt, IsRangeAt}
use Rattle.json_read.specs.Machinery.Leads.{IsHeldAs, ElementsAreHeldAs, MembersAreHeldAs}
use Rattle.json_read.proofs.Ranges.{range_up}
use Rattle.json_read.proofs.Duplicates.{duplicate_root, duplicate_down, duplicate_up, duplicate_here}

-- ---- parts
element_held : (vs : Elements (List ℕ)) (ws : Elements Number) → ElementsAreHeldAs vs ws → (i : ℕ) (part : Raw) → element_at vs i ≡ Some part
    → (x : Json) × (element_at ws i ≡ Some x) × IsHeldAs part x
element_held no_elements ws h i part e = absurd cc
element_held (element v vs) ws (x, xs, h, hs, same) zero part e =
    (x, ap (λ (ys : Elements Number). element_at ys 0) same, let g : v ≡ part = cc in subst (λ (w : Raw). IsHeldAs w x) g h)
element_held (element v vs) ws (x, xs, h, hs, same) (suc i) part e =
    let r = element_held vs xs hs i part e in
    (r.0, ap (λ (ys : Elements Number). element_at ys (suc i)) same ∙ r.1, r.2)

pub element_spelled : (vs : Elements (List ℕ)) (ws : Elements Number) → ElementsAreHeldAs vs ws → (i : ℕ) (x : Json) → element_at ws i ≡ Some x
    → (part : Raw) × (element_at vs i ≡ Some part) × IsHeldAs part x
element_spelled no_elements ws same i x e = absurd (let f : element_at ws i ≡ None = ap (λ (ys : Elements Number). element_at ys i) same in cc)
element_spelled (element v vs) ws (y, ys, h, hs, same) zero x e =
    let f : element_at ws 0 ≡ Some y = ap (λ (zs : Elements Number). element_at zs 0) same in
    (v, refl, let g : y ≡ x = cc in subst (λ (w : Json). IsHeldAs v w) g h)
element_spelled (element v vs) ws (y, ys, h, hs, same) (suc i) x e =
    let f : element_at ws (suc i) ≡ element_at ys i = ap (λ (zs : Elements Number). element_at zs (suc i)) same in
    element_spelled vs ys hs i x (sym f ∙ e)

member_held : (ms : Members (List ℕ)) (ns : Members Number) → MembersAreHeldAs ms ns → (i : ℕ) (key : List ℕ) (part : Raw) → member_at ms i ≡ Some (key, part)
    → (x : Json) × (member_at ns i ≡ Some (key, x)) × IsHeldAs part x
member_held no_members ns h i key part e = absurd cc
member_held (member k v ms) ns (x, xs, h, hs, same) zero key part e =
    let f : (k, v) ≡ (key, part) = cc in
    let g : k ≡ key = ap (λ (m : List ℕ × Raw). m.0) f in
    let j : v ≡ part = ap (λ (m : List ℕ × Raw). m.1) f in
    (x, ap (λ (ys : Members Number). member_at ys 0) same ∙ ap (λ (q : List ℕ). Some (q, x)) g, subst (λ (w : Raw). IsHeldAs w x) j h)
member_held (member k v ms) ns (x, xs, h, hs, same) (suc i) key part e =
    let r = member_held ms xs hs i key part e in
    (r.0, ap (λ (ys : Members Number). member_at ys (suc i)) same ∙ r.1, r.2)

pub member_spelled : (ms : Members (List ℕ)) (ns : Members Number) → MembersAreHeldAs ms ns → (i : ℕ) (key : List ℕ) (x : Json) → member_at ns i ≡ Some (key, x)
    → (part : Raw) × (member_at ms i ≡ Some (key, part)) × IsHeldAs part x
member_spelled no_members ns same i key x e = absurd (let f : member_at ns i ≡ None = ap (λ (ys : Members Number). member_at ys i) same in cc)
member_spelled (member k v ms) ns (y, ys, h, hs, same) zero key x e =
    let f : member_at ns 0 ≡ Some (k, y) = ap (λ (zs : Members Number). member_at zs 0) same in
    let m : (k, y) ≡ (key, x) = cc in
    let g : k ≡ key = ap (λ (m : List ℕ × Json). m.0) m in
    let j : y ≡ x = ap (λ (m : List ℕ × Json). m.1) m in
    (v, ap (λ (q : List ℕ). Some (q, v)) g, subst (λ (w : Json). IsHeldAs v w) j h)
member_spelled (member k v ms) ns (y, ys, h, hs, same) (suc i) key x e =
    let f : member_at ns (suc i) ≡ member_at ys i = ap (λ (zs : Members Number). member_at zs (suc i)) same in
    member_spelled ms ys hs i key x (sym f ∙ e)

pub part_held : (raw : Raw) (w : Json) → IsHeldAs raw w → (i : ℕ) (part : Raw) → IsPart raw i part → (x : Json) × IsPart w i x × IsHeldAs part x
part_held null w h i part p = absurd p
part_held (truth b) w h i part p = absurd p
part_held (number l) w h i part p = absurd p
part_held (text t) w h i part p = absurd p
part_held (array vs) w (ws, h, same) i part p =
    let r = element_held vs ws h i part p in
    (r.0, subst (λ (v : Json). IsPart v i r.0) (sym same) r.1, r.2)
part_held (object ms) w (ns, h, same) i part (key, p) =
    let r = member_held ms ns h i key part p in
    (r.0, subst (λ (v : Json). IsPart v i r.0) (sym same) (key, r.1), r.2)

part_spelled : (raw : Raw) (w : Json) → IsHeldAs raw w → (i : ℕ) (x : Json) → IsPart w i x → (part : Raw) × IsPart raw i part × IsHeldAs part x
part_spelled null w h i x p = absurd (subst (λ (v : Json). IsPart v i x) h p)
part_spelled (truth b) w h i x p = absurd (subst (λ (v : Json). IsPart v i x) h p)
part_spelled (number l) w (n, is, inl h) i x p = absurd (subst (λ (v : Json). IsPart v i x) h.1 p)
part_spelled (number l) w (n, is, inr h) i x p = absurd (subst (λ (v : Json). IsPart v i x) h.1 p)
part_spelled (text t) w h i x p = absurd (subst (λ (v : Json). IsPart v i x) h p)
part_spelled (array vs) w (ws, h, same) i x p = element_spelled vs ws h i x (subst (λ (v : Json). IsPart v i x) same p)
part_spelled (object ms) w (ns, h, same) i x p =
    let q : (key : List ℕ) × (member_at ns i ≡ Some (key, x)) = subst (λ (v : Json). IsPart v i x) same p in
    let r = member_spelled ms ns h i q.0 x q.1 in
    (r.0, (q.0, r.1), r.2)

-- ---- keys that stand twice
repeat_held : (raw : Raw) (w : Json) → IsHeldAs raw w → (i : ℕ) → RepeatsKey raw i → RepeatsKey w i
repeat_held null w h i r = absurd r
repeat_held (truth b) w h i r = absurd r
repeat_held (number l) w h i r = absurd r
repeat_held (text t) w h i r = absurd r
repeat_held (array vs) w h i r = absurd r
repeat_held (object ms) w (ns, h, same) i (key, v, u, j, e, less, f) =
    let a = member_held ms ns h i key v e in
    let b = member_held ms ns h j key u f in
    subst (λ (x : Json). RepeatsKey x i) (sym same) (key, a.0, b.0, j, a.1, less, b.1)

repeat_spelled : (raw : Raw) (w : Json) → IsHeldAs raw w → (i : ℕ) → RepeatsKey w i → RepeatsKey raw i
repeat_spelled null w h i r = absurd (subst (λ (v : Json). RepeatsKey v i) h r)
repeat_spelled (truth b) w h i r = absurd (subst (λ (v : Json). RepeatsKey v i) h r)
repeat_spelled (number l) w (n, is, inl h) i r = absurd (subst (λ (v : Json). RepeatsKey v i) h.1 r)
repeat_spelled (number l) w (n, is, inr h) i r = absurd (subst (λ (v : Json). RepeatsKey v i) h.1 r)
repeat_spelled (text t) w h i r = absurd (subst (λ (v : Json). RepeatsKey v i) h r)
repeat_spelled (array vs) w (ws, h, same) i r = absurd (subst (λ (v : Json). RepeatsKey v i) same r)
repeat_spelled (object ms) w (ns, h, same) i r =
    let q : RepeatsKey (object ns) i = subst (λ (v : Json). RepeatsKey v i) same r in
    let a = member_spelled ms ns h i q.0 q.1 q.4 in
    let b = member_spelled ms ns h q.3 q.0 q.2 q.6 in
    (q.0, a.0, b.0, q.3, a.1, q.5, b.1)

pub duplicate_held : (place : List ℕ) (raw : Raw) (w : Json) → IsHeldAs raw w → IsDuplicateAt raw place → IsDuplicateAt w place
duplicate_held [] raw w h d = absurd (duplicate_root raw d)
duplicate_held (i ∷ place) raw w h d = elim (duplicate_down raw i place d) [
  | inl q ↦ subst (λ (p : List ℕ). IsDuplicateAt w (i ∷ p)) (sym q.0) (duplicate_here w i (repeat_held raw w h i q.1))
  | inr q ↦ (let x = part_held raw w h i q.0 q.1 in duplicate_up w i x.0 place x.1 (duplicate_held place q.0 x.0 x.2 q.2))
]

pub duplicate_spelled : (place : List ℕ) (raw : Raw) (w : Json) → IsHeldAs raw w → IsDuplicateAt w place → IsDuplicateAt raw place
duplicate_spelled [] raw w h d = absurd (duplicate_root w d)
duplicate_spelled (i ∷ place) raw w h d = elim (duplicate_down w i place d) [
  | inl q ↦ subst (λ (p : List ℕ). IsDuplicateAt raw (i ∷ p)) (sym q.0) (duplicate_here raw i (repeat_spelled raw w h i q.1))
  | inr q ↦ (let x = part_spelled raw w h i q.0 q.1 in duplicate_up raw i x.0 place x.1 (duplicate_spelled place x.0 q.0 x.2 q.2))
]

-- ---- one more part
pub elements_held-more : (vs : List Raw) (ws : List Json) (v : Raw) (w : Json) → ElementsAreHeldAs (elements_of vs) (elements_of ws) → IsHeldAs v w
    → ElementsAreHeldAs (elements_of (vs ++ v ∷ [])) (elements_of (ws ++ w ∷ []))
elements_held-more [] [] v w h k = (w, no_elements, k, refl, refl)
elements_held-more [] (x ∷ ws) v w h k = absurd (let f : element x (elements_of ws) ≡ no_elements = h in cc)
elements_held-more (u ∷ vs) [] v w (x, xs, h, hs, same) k = absurd (let f : no_elements ≡ element x xs = same in cc)
elements_held-more (u ∷ vs) (y ∷ ws) v w (x, xs, h, hs, same) k =
    let f : element y (elements_of ws) ≡ element x xs = same in
    let g : xs ≡ elements_of ws = cc in
    let e : x ≡ y = cc in
    (y, elements_of (ws ++ w ∷ []), subst (λ (z : Json). IsHeldAs u z) e h, elements_held-more vs ws v w (subst (λ (zs : Elements Number). ElementsAreHeldAs (elements_of vs) zs) g hs) k, refl)

pub members_held-more : (ms : List (List ℕ × Raw)) (ns : List (List ℕ × Json)) (key : List ℕ) (v : Raw) (w : Json) → MembersAreHeldAs (members_of ms) (members_of ns) → IsHeldAs v w
    → MembersAreHeldAs (members_of (ms ++ (key, v) ∷ [])) (members_of (ns ++ (key, w) ∷ []))
members_held-more [] [] key v w h k = (w, no_members, k, refl, refl)
members_held-more [] (x ∷ ns) key v w h k = absurd (let f : member x.0 x.1 (members_of ns) ≡ no_members = h in cc)
members_held-more (u ∷ ms) [] key v w (x, xs, h, hs, same) k = absurd (let f : no_members ≡ member u.0 x xs = same in cc)
members_held-more (u ∷ ms) (y ∷ ns) key v w (x, xs, h, hs, same) k =
    let f : member y.0 y.1 (members_of ns) ≡ member u.0 x xs = same in
    let g : xs ≡ members_of ns = cc in
    let e : x ≡ y.1 = cc in
    let q : y.0 ≡ u.0 = cc in (
      y.1,
      members_of (ns ++ (key, w) ∷ []),
      subst (λ (z : Json). IsHeldAs u.1 z) e h,
      members_held-more ms ns key v w (subst (λ (zs : Members Number). MembersAreHeldAs (members_of ms) zs) g hs) k,
      ap (λ (l : List ℕ). member l y.1 (members_of (ns ++ (key, w) ∷ []))) q,
    )

-- ---- no number out of range
mutual
  pub held_read : (raw : Raw) (w : Json) → ((place : List ℕ) → IsRangeAt raw place → ⊥) → IsHeldAs raw w → IsReadAs raw w
  held_read null w none h = h
  held_read (truth b) w none h = h
  held_read (number l) w none (n, is, inl h) = (n, is, h.0, h.1)
  held_read (number l) w none (n, is, inr h) = absurd (none [] (l, n, refl, is, h.0))
  held_read (text t) w none h = h
  held_read (array vs) w none (ws, h, same) = (ws, held_elements vs ws (λ i part e place r. none (i ∷ place) (range_up (array vs) i part place e r)) h, same)
  held_read (object ms) w none (ns, h, same) = (ns, held_members ms ns (λ i key part e place r. none (i ∷ place) (range_up (object ms) i part place (key, e) r)) h, same)

  held_elements : (vs : Elements (List ℕ)) (ws : Elements Number) → ((i : ℕ) (part : Raw) → element_at vs i ≡ Some part → (place : List ℕ) → IsRangeAt part place → ⊥)
      → ElementsAreHeldAs vs ws → ElementsAreReadAs vs ws
  held_elements no_elements ws none h = h
  held_elements (element v vs) ws none (x, xs, h, hs, same) = (x, xs, held_read v x (none 0 v refl) h, held_elements vs xs (λ i. none (suc i)) hs, same)

  held_members : (ms : Members (List ℕ)) (ns : Members Number) → ((i : ℕ) (key : List ℕ) (part : Raw) → member_at ms i ≡ Some (key, part) → (place : List ℕ) → IsRangeAt part place → ⊥)
      → MembersAreHeldAs ms ns → MembersAreReadAs ms ns
  held_members no_members ns none h = h
  held_members (member k v ms) ns none (x, xs, h, hs, same) = (x, xs, held_read v x (none 0 k v refl) h, held_members ms xs (λ i. none (suc i)) hs, same)

-- ---- no key stands twice
lacks : {N : Type 0} (k : List ℕ) (ms : Members N) → ((i : ℕ) (v : Value N) → member_at ms i ≡ Some (k, v) → ⊥) → LacksKey k ms
lacks k no_members h = tt
lacks k (member l v ms) h = ((λ e. h 0 v (ap (λ (q : List ℕ). Some (q, v)) (sym e))), lacks k ms (λ i. h (suc i)))

mutual
  pub distinct : {N : Type 0} (v : Value N) → ((place : List ℕ) → IsDuplicateAt v place → ⊥) → HasDistinctKeys v
  distinct null none = tt
  distinct (truth b) none = tt
  distinct (number n) none = tt
  distinct (text t) none = tt
  distinct (array vs) none = distinct_elements vs (λ i part e place d. none (i ∷ place) (duplicate_up (array vs) i part place e d))
  distinct (object ms) none =
      distinct_members ms (λ i key part e place d. none (i ∷ place) (duplicate_up (object ms) i part place (key, e) d)) (λ i r. none (i ∷ []) (duplicate_here (object ms) i r))

  distinct_elements : {N : Type 0} (vs : Elements N) → ((i : ℕ) (part : Value N) → element_at vs i ≡ Some part → (place : List ℕ) → IsDuplicateAt part place → ⊥) → ElementsHaveDistinctKeys vs
  distinct_elements no_elements none = tt
  distinct_elements (element v vs) none = (distinct v (none 0 v refl), distinct_elements vs (λ i. none (suc i)))

  distinct_members : {N : Type 0} (ms : Members N) → ((i : ℕ) (key : List ℕ) (part : Value N) → member_at ms i ≡ Some (key, part) → (place : List ℕ) → IsDuplicateAt part place → ⊥)
      → ((i : ℕ) → RepeatsKey (object ms) i → ⊥) → MembersHaveDistinctKeys ms
  distinct_members no_members none new = tt
  distinct_members (member k v ms) none new = (
    lacks k ms (λ i w e. new (suc i) (k, w, v, 0, e, omega arith, refl)),
    distinct v (none 0 k v refl),
    distinct_members ms (λ i. none (suc i)) (λ i r. let less = r.5 in new (suc i) (r.0, r.1, r.2, suc r.3, r.4, omega (arith, less), r.6)),
  )
