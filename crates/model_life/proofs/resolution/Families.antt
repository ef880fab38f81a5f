-- Interfaces of a set that are found by their parents.
use Rattle.std.proofs.Common.{◌≡◌, ◌↔◌, ℕ, zero, suc, ◌-◌, ◌<◌, ◌≤◌, ◌+◌, ◌⊎◌, inl, inr, List, [], ◌∷◌, map, true, false, cond, length, slice_index_or, Option, Some, None, refl, sym, ap, ◌∙◌, subst, true≢false, is_eq, arith}
use Rattle.std.specs.Prelude.{Contains}
use Rattle.std.specs.Option.{is_some}
use Rattle.std.specs.List.Sorted.{IsStrictlySortedBy}
use Rattle.std.specs.Map.{lookup, keys_of, values_of}
use Rattle.std.specs.BTreeMap.{insert_entry}
use Rattle.std.proofs.lemmas.Option.{same_Some, none-some}
use denote.Ref.{Bor}
use Rattle.dt_base.specs.names.Grammar.{Identifier, dtmi_text, id_cmp}
use Rattle.dtdl_terms.specs.Sets.{InOrder, interface_at}
use Rattle.dtdl_terms.specs.declared.interface.Interface.{Interface}
use Rattle.extend_resolve.specs.Chains.{IsParent, IsChain, chain_end, IsAncestor}
use Rattle.extend_resolve.specs.Breaches.{BreaksNoRule}
use Rattle.model_life.specs.resolution.Machinery.Families.{interfaces_in, AreUnderTheirIds, IsThere, IsFamily, GrowsFamily, HasShortChains, IsFoundFor, IsOfFirst, IsAncestorOfFirst}
use Rattle.extend_resolve.proofs.Ancestors.{ancestor-trans}
use Rattle.extend_resolve.proofs.Within.{found_placed, short}
use Rattle.model_life.proofs.resolution.ByKey.{same_spelling, alike, contains_map, from_contains, at-spelling, in_found, one_in, contained, in_contained, keyed-insert, at-insert, some-lookup, sorted-seen}

abbrev id_of : Interface → Identifier
id_of i = i.id

-- ---- interfaces that stand for their identifiers
pub stands : (set : List Interface) (p : Identifier) (j : Interface) → interface_at p set ≡ Some j → IsThere set j
stands set p j h = in_found id_of dtmi_text (dtmi_text p) set j h

pub spelled : (set : List Interface) (p : Identifier) (j : Interface) → interface_at p set ≡ Some j → dtmi_text p ≡ dtmi_text j.id
spelled set p j h = at-spelling id_of dtmi_text (dtmi_text p) set j h

pub one_there : (set : List Interface) (i j : Interface) → IsThere set i → IsThere set j → dtmi_text i.id ≡ dtmi_text j.id → i ≡ j
one_there set i j h g e = one_in id_of dtmi_text set i j h g e

pub listed : (set : List Interface) → InOrder set → (i : Interface) → Contains set i ↔ IsThere set i
listed set sorted i = (in_contained id_of dtmi_text set i sorted, λ h. contained id_of dtmi_text (dtmi_text i.id) set i h)

pub ancestor_there : (set : List Interface) (i : Interface) (js : List Interface) → IsThere set i → IsChain set i js → IsThere set (chain_end i js)
ancestor_there set i [] there chain = there
ancestor_there set i (j ∷ js) there ((p, named, found), chain) = ancestor_there set j js (stands set p j found) chain

pub ancestors_there : (set : List Interface) (i a : Interface) → IsThere set i → IsAncestor set i a → IsThere set a
ancestors_there set i a there (js, chain, is) = subst (IsThere set) is (ancestor_there set i js there chain)

-- ---- families
closed_under : (set family : List Interface) → IsFamily set family → (i : Interface) (js : List Interface) → IsThere family i → IsChain set i js → IsThere family (chain_end i js)
closed_under set family whole i [] here chain = here
closed_under set family whole i (j ∷ js) here (step, chain) = closed_under set family whole j js (whole.closed i j here step) chain

pub has_ancestors : (set family : List Interface) → IsFamily set family → (i a : Interface) → IsThere family i → IsAncestor set i a → IsThere family a
has_ancestors set family whole i a here (js, chain, is) = subst (IsThere family) is (closed_under set family whole i js here chain)

pub family_none : (set : List Interface) → IsFamily set []
family_none set = record { each = λ a h. absurd (none-some a h); closed = λ a b h step. absurd (none-some a h) }

pub some_of : {X : Type 0} (o : Option X) → is_some o ≡ true → (x : X) × (o ≡ Some x)
some_of None h = absurd (true≢false (sym h))
some_of (Some x) h = (x, refl)

-- what is found for an identifier of the set is the set's
pub found_already : (set family : List Interface) → IsFamily set family → (i : Interface) → IsThere set i → is_some (interface_at i.id family) ≡ true → IsThere family i
found_already set family whole i there h =
    let one = some_of (interface_at i.id family) h in
    let same : i ≡ one.0 = one_there set i one.0 there (whole.each one.0 (stands family i.id one.0 one.1)) (spelled family i.id one.0 one.1) in
    one.1 ∙ ap Some (sym same)

pub grows_none : (set : List Interface) (i : Interface) (family : List Interface) → IsFamily set family → GrowsFamily set i family family
grows_none set i family whole = record { family = whole; kept = λ a h. h; only = λ a h. inl h }

pub grows_parent : (set : List Interface) (i j : Interface) (old mid new : List Interface) → IsParent set i j → GrowsFamily set i old mid → GrowsFamily set j mid new → GrowsFamily set i old new
grows_parent set i j old mid new step g h = record {
  family = h.family;
  kept = λ a x. h.kept a (g.kept a x);
  only = λ a x.
      elim (h.only a x) [
        | inl y ↦ g.only a y
        | inr up ↦ inr (ancestor-trans set i j a (j ∷ [], (step, tt), refl) up)
      ];
}

-- ---- one more interface
module _ (set old new : List Interface) (i : Interface) (there : IsThere set i) (each : (a : Interface) → IsThere old a → IsThere set a) (put : (id : Identifier) → interface_at id new ≡ cond (is_eq (id_cmp id i.id)) (Some i) (interface_at id old)) where
  pub put_here : IsThere new i
  put_here = put i.id ∙ ap (λ b. cond b (Some i) (interface_at i.id old)) (ap is_eq (alike (dtmi_text i.id)))

  pub put_kept : (a : Interface) → IsThere old a → IsThere new a
  put_kept a h =
      put a.id
      ∙ elim (is_eq (id_cmp a.id i.id)) as (λ b. is_eq (id_cmp a.id i.id) ≡ b → cond b (Some i) (interface_at a.id old) ≡ Some a) [
        | true ↦ λ e. ap Some (one_there set i a there (each a h) (sym (same_spelling (dtmi_text a.id) (dtmi_text i.id) e)))
        | false ↦ λ _. h
      ] refl

  pub put_only : (a : Interface) → IsThere new a → (a ≡ i) ⊎ IsThere old a
  put_only a h =
      elim (is_eq (id_cmp a.id i.id)) as (λ b. cond b (Some i) (interface_at a.id old) ≡ Some a → (a ≡ i) ⊎ IsThere old a) [
        | true ↦ λ e. inl (sym (same_Some i a e))
        | false ↦ λ e. inr e
      ] (sym (put a.id) ∙ h)

pub put_grows : (set first old new : List Interface) (i : Interface) → IsThere set i → GrowsFamily set i first old → ((b : Interface) → IsParent set i b → IsThere old b)
    → ((id : Identifier) → interface_at id new ≡ cond (is_eq (id_cmp id i.id)) (Some i) (interface_at id old)) → GrowsFamily set i first new
put_grows set first old new i there g parents put =
    let kept : (a : Interface) → IsThere old a → IsThere new a = put_kept set old new i there g.family.each put in
    let only : (a : Interface) → IsThere new a → (a ≡ i) ⊎ IsThere old a = put_only set old new i there g.family.each put in
    record {
      family = record {
        each = λ a h. elim (only a h) [ inl e ↦ subst (IsThere set) (sym e) there | inr x ↦ g.family.each a x ];
        closed = λ a b h step.
            elim (only a h) [
              | inl e ↦ kept b (parents b (subst (λ x. IsParent set x b) e step))
              | inr x ↦ kept b (g.family.closed a b x step)
            ];
      };
      kept = λ a h. kept a (g.kept a h);
      only = λ a h. elim (only a h) [ inl e ↦ inr ([], tt, sym e) | inr x ↦ g.only a x ];
    }

-- ---- the first elements of a list
same_default : {X : Type 0} (xs : List X) (k : ℕ) (d e : X) → k < length xs → slice_index_or xs k d ≡ slice_index_or xs k e
same_default [] k d e low = absurd (omega (arith, low))
same_default (x ∷ xs) zero d e low = refl
same_default (x ∷ xs) (suc k) d e low = same_default xs k d e (omega (arith, low))

below_or_at : (k n : ℕ) → k < n + 1 → (k < n) ⊎ (k ≡ n)
below_or_at zero zero low = inr refl
below_or_at zero (suc n) low = inl (omega arith)
below_or_at (suc k) zero low = absurd (omega (arith, low))
below_or_at (suc k) (suc n) low = elim (below_or_at k n (omega (arith, low))) [ inl h ↦ inl (omega (arith, h)) | inr h ↦ inr (ap suc h) ]

-- one more is the next
pub first_more : {X : Type 0} (xs : List X) (n : ℕ) (next x : X) → n < length xs → next ≡ slice_index_or xs n next → IsOfFirst xs (n + 1) x → IsOfFirst xs n x ⊎ (x ≡ next)
first_more xs n next x low is (k, below, at) =
    elim (below_or_at k n below) [
      | inl h ↦ inl (k, h, at)
      | inr h ↦ inr (sym at ∙ ap (λ m. slice_index_or xs m x) h ∙ same_default xs n x next low ∙ sym is)
    ]

pub first_still : {X : Type 0} (xs : List X) (n : ℕ) (x : X) → IsOfFirst xs n x → IsOfFirst xs (n + 1) x
first_still xs n x (k, below, at) = (k, omega (arith, below), at)

pub first_next : {X : Type 0} (xs : List X) (n : ℕ) (next : X) → next ≡ slice_index_or xs n next → IsOfFirst xs (n + 1) next
first_next xs n next is = (n, omega arith, sym is)

pub first_all : {X : Type 0} (xs : List X) (n : ℕ) (x : X) → length xs ≤ n → Contains xs x → IsOfFirst xs n x
first_all xs n x long (k, low, at) = (k, omega (arith, long, low), at)

pub all_first : {X : Type 0} (xs : List X) (n : ℕ) (x : X) → n ≤ length xs → IsOfFirst xs n x → Contains xs x
all_first xs n x long (k, low, at) = (k, omega (arith, long, low), at)

-- ---- chains
pub short_parent : (set : List Interface) (n : ℕ) (i j : Interface) → IsParent set i j → HasShortChains set n i → (1 ≤ n) × HasShortChains set (n - 1) j
short_parent set n i j step most =
    (let one = most (j ∷ []) (step, tt) in omega (arith, one), λ js chain. let more = most (j ∷ js) (step, chain) in omega (arith, more))

pub ten_at_most : (set : List Interface) → BreaksNoRule set → (i : Interface) → IsThere set i → HasShortChains set 10 i
ten_at_most set sound i there js chain = let at = found_placed set i.id i there in short set sound at.0 i js at.1 chain

-- ---- what a map of interfaces keeps
abbrev now : Bor Interface → Interface
now x = x.now

map_map : {X Y Z : Type 0} (f : X → Y) (g : Y → Z) (xs : List X) → map (λ x. g (f x)) xs ≡ map g (map f xs)
map_map f g [] = refl
map_map f g (x ∷ xs) = ap (λ ys. g (f x) ∷ ys) (map_map f g xs)

abbrev Kept : Type 0
Kept = List (Bor Identifier × Bor Interface)

pub found_keyed : (es new : Kept) (k : Bor Identifier) (v : Bor Interface) → new ≡ insert_entry (λ x y. id_cmp x.now y.now) es k v → k.now ≡ v.now.id → AreUnderTheirIds es → AreUnderTheirIds new
found_keyed es new k v is one all =
    subst AreUnderTheirIds (sym is) (keyed-insert (λ (x : Bor Identifier). dtmi_text x.now) (λ (x : Bor Interface). x.now) id_of dtmi_text k v es (ap dtmi_text one) all)

pub found_put : (es new : Kept) (k : Bor Identifier) (v : Bor Interface) → new ≡ insert_entry (λ x y. id_cmp x.now y.now) es k v → k.now ≡ v.now.id → AreUnderTheirIds es → (id : Identifier)
    → interface_at id (interfaces_in new) ≡ cond (is_eq (id_cmp id v.now.id)) (Some v.now) (interface_at id (interfaces_in es))
found_put es new k v is one all id =
    ap (λ xs. interface_at id (interfaces_in xs)) is
    ∙ at-insert (λ (x : Bor Identifier). dtmi_text x.now) (λ (x : Bor Interface). x.now) id_of dtmi_text (dtmi_text id) k v es (ap dtmi_text one) all

pub found_some : (es : Kept) → AreUnderTheirIds es → (id : Identifier) → is_some (lookup (λ k. is_eq (id_cmp id k.now)) es) ≡ is_some (interface_at id (interfaces_in es))
found_some es all id = some-lookup (λ (x : Bor Identifier). dtmi_text x.now) (λ (x : Bor Interface). x.now) id_of dtmi_text (dtmi_text id) es all

pub found_ordered : (es : Kept) → IsStrictlySortedBy (λ x y. id_cmp x.now y.now) (keys_of es) → AreUnderTheirIds es → InOrder (interfaces_in es)
found_ordered es sorted all = sorted-seen (λ (x : Bor Identifier). dtmi_text x.now) (λ (x : Bor Interface). x.now) id_of dtmi_text es sorted all

pub found_values : (es : Kept) → map (λ x. x.now) (values_of es) ≡ interfaces_in es
found_values es = sym (map_map (λ (e : Bor Identifier × Bor Interface). e.1) now es)

-- ---- ancestors
pub ancestors_are : (set : List Interface) (i : Interface) (old new : List Interface) → old ≡ [] → GrowsFamily set i old new → IsThere new i → (a : Interface) → IsThere new a ↔ IsAncestor set i a
ancestors_are set i old new none g here a = (
  λ h.
      elim (g.only a h) [
        | inl x ↦ absurd (none-some a (subst (λ xs. IsThere xs a) none x))
        | inr up ↦ up
      ],
  λ up. has_ancestors set new g.family i a here up,
)

pub named_parent : (set : List Interface) (i : Interface) (ps : List Identifier) (n : ℕ) (p : Identifier) (j : Interface) → n < length ps → p ≡ slice_index_or ps n p → ps ≡ i.parents → interface_at p set ≡ Some j → IsParent set i j
named_parent set i ps n p j low is same found = (p, subst (λ xs. Contains xs p) same (n, low, sym is), found)

-- one more parent is looked at
pub parents_more : (set family : List Interface) (ps : List Identifier) (n : ℕ) (p : Identifier) → n < length ps → p ≡ slice_index_or ps n p
    → ((q : Identifier) → IsOfFirst ps n q → IsFoundFor set family q) → IsFoundFor set family p → (q : Identifier) → IsOfFirst ps (n + 1) q → IsFoundFor set family q
parents_more set family ps n p low is so_far one q first =
    elim (first_more ps n p q low is first) [
      | inl h ↦ so_far q h
      | inr e ↦ subst (IsFoundFor set family) (sym e) one
    ]

pub parents_found : (set family : List Interface) (i : Interface) (n : ℕ) → length i.parents ≤ n → ((q : Identifier) → IsOfFirst i.parents n q → IsFoundFor set family q) → (b : Interface) → IsParent set i b → IsThere family b
parents_found set family i n long all b (p, named, found) = all p (first_all i.parents n p long named) b found

-- ---- ancestors of several interfaces
module _ (set : List Interface) (xs : List (Bor Interface)) (n : ℕ) (x : Bor Interface) (low : n < length xs) (is : x ≡ slice_index_or xs n x) (first old new : List Interface) (g : GrowsFamily set x.now old new) where
  pub more_ancestors : IsThere new x.now → ((a : Interface) → IsAncestorOfFirst set xs n a → IsThere old a) → (a : Interface) → IsAncestorOfFirst set xs (n + 1) a → IsThere new a
  more_ancestors here so_far a (y, at, up) =
      elim (first_more xs n x y low is at) [
        | inl h ↦ g.kept a (so_far a (y, h, up))
        | inr e ↦ has_ancestors set new g.family x.now a here (subst (λ (z : Bor Interface). IsAncestor set z.now a) e up)
      ]

  pub only_ancestors : ((a : Interface) → IsThere old a → IsThere first a ⊎ IsAncestorOfFirst set xs n a) → (a : Interface) → IsThere new a → IsThere first a ⊎ IsAncestorOfFirst set xs (n + 1) a
  only_ancestors so_far a h =
      elim (g.only a h) [
        | inl x ↦
            elim (so_far a x) [
              | inl y ↦ inl y
              | inr y ↦ inr (y.0, first_still xs n y.0 y.1, y.2)
            ]
        | inr up ↦ inr (x, first_next xs n x is, up)
      ]

pub all_ancestors : (set : List Interface) (xs : List (Bor Interface)) (n : ℕ) (first new : List Interface) → length xs ≤ n → n ≤ length xs
    → ((a : Interface) → IsThere first a → IsThere new a) → ((a : Interface) → IsAncestorOfFirst set xs n a → IsThere new a) → ((a : Interface) → IsThere new a → IsThere first a ⊎ IsAncestorOfFirst set xs n a)
    → (a : Interface) → IsThere new a ↔ (IsThere first a ⊎ ((q : Interface) × Contains (map (λ x. x.now) xs) q × IsAncestor set q a))
all_ancestors set xs n first new long short kept more only a = (
  λ h.
      elim (only a h) [
        | inl x ↦ inl x
        | inr y ↦ inr (y.0.now, contains_map now xs y.0 (all_first xs n y.0 short y.1), y.2)
      ],
  λ h.
      elim h [
        | inl x ↦ kept a x
        | inr y ↦
            let one = from_contains now xs y.0 y.1 in
            more a (one.0, first_all xs n one.0 long one.1, subst (λ (q : Interface). IsAncestor set q a) (sym one.2) y.2)
      ],
)

-- a parent that is not in the set
pub parent_none : (set family : List Interface) (p : Identifier) → interface_at p set ≡ None → IsFoundFor set family p
parent_none set family p none j found = absurd (none-some j (sym none ∙ found))

pub parent_some : (set family : List Interface) (p : Identifier) (i : Interface) → interface_at p set ≡ Some i → IsThere family i → IsFoundFor set family p
parent_some set family p i is there j found = subst (IsThere family) (same_Some i j (sym is ∙ found)) there

pub found_kept : (set old new : List Interface) (i : Interface) (p : Identifier) → GrowsFamily set i old new → IsFoundFor set old p → IsFoundFor set new p
found_kept set old new i p g so_far j found = g.kept j (so_far j found)
