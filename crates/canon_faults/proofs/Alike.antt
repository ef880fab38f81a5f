-- Interfaces that declare the same, as the rules on sets see them, and what chains reach from them.
use Rattle.std.proofs.Common.{◌≡◌, ◌≢◌, ℕ, zero, suc, inl, inr, List, [], ◌∷◌, length, map, Bool, true, false, cond, Some, is_eq, refl, sym, ap, subst, ◌∙◌, arith}
use Rattle.std.specs.Prelude.{Contains, slice_get}
use Rattle.std.specs.List.{AllByRecursion}
use Rattle.std.proofs.lemmas.Map.Text.{is_eq-slice_cmp}
use Rattle.std.proofs.lemmas.Slice.Eq.{bytes_eq-Decides}
use Rattle.dt_base.specs.names.Grammar.{Identifier, dtmi_text, id_cmp}
use Rattle.dtdl_terms.specs.Sets.{interface_at}
use Rattle.dtdl_terms.specs.Terms.{ContentTerm, content, KindTerm, telemetry, property, command, relationship, component}
use Rattle.dtdl_terms.specs.TermViews.{content_term}
use Rattle.dtdl_terms.specs.Distinct.{AreDistinct, HasDeclaration, content_name}
use Rattle.dtdl_terms.specs.Equality.{AnyByRecursion, DeclareTheSame, SameContent, SameElements, SameKind}
use Rattle.dtdl_terms.specs.declared.content.Content.{Content}
use Rattle.dtdl_terms.specs.declared.interface.Interface.{Interface}
use Rattle.dtdl_terms.specs.declared.uploaded.Uploaded.{Uploaded}
use Rattle.extend_resolve.specs.Chains.{Declares, IsAncestor, IsChain, IsParent, LeadsBack, Reaches, ReachesCycle, chain_end}
use Rattle.extend_resolve.specs.SetRules.{IsComponentOf}
use Rattle.extend_resolve.proofs.Within.{found_placed}
use Rattle.extend_resolve.proofs.Worlds.{found_text}
use Rattle.canon_text.proofs.Told.{any_mapped, any_unmapped, any_with, at_one, same_in_order}
use Rattle.canon_faults.proofs.Among.{any_is, any_of_contains, contains_of_any}
use Rattle.canon_faults.proofs.Good.{length_sorted}

-- ---- lists
module _ {A B : Type 0} (R : A → B → Type 0) (P : A → Type 0) (Q : B → Type 0) where
  -- what some of one list is, its equal in the other is
  pub moved : (xs : List A) (ys : List B) → ((x : A) (y : B) → P x → R x y → Q y) → AllByRecursion (λ x. AnyByRecursion (λ y. R x y) ys) xs → AnyByRecursion P xs → AnyByRecursion Q ys
  moved xs ys f all some = at_one (λ x. AnyByRecursion (λ y. R x y) ys) P (AnyByRecursion Q ys) xs (λ x any h. any_with (λ y. R x y) Q (λ y r. f x y h r) ys any) all some

module _ {A : Type 0} where
  pub contains_one : (xs : List A) (x : A) → AnyByRecursion (λ y. y ≡ x) xs → Contains xs x
  contains_one xs x any = (let (y, inside, is) = contains_of_any (λ z. z ≡ x) xs any in subst (λ (z : A). Contains xs z) is inside)

  pub placed_any : (xs : List A) (k : ℕ) (x : A) → slice_get xs k ≡ Some x → AnyByRecursion (λ y. y ≡ x) xs
  placed_any [] k x at = absurd cc
  placed_any (y ∷ ys) zero x at = inl cc
  placed_any (y ∷ ys) (suc k) x at = inr (placed_any ys k x at)

  pub any_placed : (xs : List A) (x : A) → AnyByRecursion (λ y. y ≡ x) xs → (k : ℕ) × (slice_get xs k ≡ Some x)
  any_placed [] x any = absurd any
  any_placed (y ∷ ys) x (inl is) = (zero, ap (λ (z : A). Some z) is)
  any_placed (y ∷ ys) x (inr later) = (let (k, at) = any_placed ys x later in (suc k, at))

  each_from : (P : A → Type 0) (xs : List A) → ((x : A) → AnyByRecursion (λ y. y ≡ x) xs → P x) → AllByRecursion P xs
  each_from P [] f = tt
  each_from P (x ∷ xs) f = (f x (inl refl), each_from P xs (λ y any. f y (inr any)))

-- ---- one interface
-- a content of the interface is a component of this one
abbrev pub HasComponentOf : Interface → Identifier → Type 0
HasComponentOf i p = AnyByRecursion (λ c. IsComponentOf c p) i.contents

pub record Alike (i j : Interface) : Type 0 where
  pub id : dtmi_text i.id ≡ dtmi_text j.id
  pub parents : (p : Identifier) → Contains i.parents p → Contains j.parents p
  pub parents_back : (p : Identifier) → Contains j.parents p → Contains i.parents p
  pub names : (n : List ℕ) → Declares i n → Declares j n
  pub names_back : (n : List ℕ) → Declares j n → Declares i n
  pub components : (p : Identifier) → HasComponentOf i p → HasComponentOf j p
  pub components_back : (p : Identifier) → HasComponentOf j p → HasComponentOf i p
  pub long : length i.contents ≡ length j.contents

pub swapped : (i j : Interface) → Alike i j → Alike j i
swapped i j a = record {
  id = sym a.id;
  parents = a.parents_back;
  parents_back = a.parents;
  names = a.names_back;
  names_back = a.names;
  components = a.components_back;
  components_back = a.components;
  long = sym a.long;
}

same_name : (s t : ContentTerm) → SameContent s t → content_name s ≡ content_name t
same_name (content n c k) (content m d l) g = g.0

abbrev kind_in : ContentTerm → KindTerm
kind_in (content n c k) = k

component_kind : (p : Identifier) (l : KindTerm) → SameKind (component p) l → l ≡ component p
component_kind p (component another) g = ap component (sym g)
component_kind p (telemetry s a u) g = absurd g
component_kind p (property s a u w) g = absurd g
component_kind p (command q r) g = absurd g
component_kind p (relationship t cs m w) g = absurd g

same_component : (p : Identifier) (s t : ContentTerm) → SameContent s t → kind_in s ≡ component p → kind_in t ≡ component p
same_component p (content n c k) (content m d l) g is = component_kind p l (subst (λ (h : KindTerm). SameKind h l) is g.2)

component_back : (p : Identifier) (k : KindTerm) → SameKind k (component p) → k ≡ component p
component_back p (component another) g = ap component g
component_back p (telemetry s a u) g = absurd g
component_back p (property s a u w) g = absurd g
component_back p (command q r) g = absurd g
component_back p (relationship t cs m w) g = absurd g

other_component : (p : Identifier) (s t : ContentTerm) → SameContent s t → kind_in t ≡ component p → kind_in s ≡ component p
other_component p (content n c k) (content m d l) g is = component_back p k (subst (λ (h : KindTerm). SameKind k h) is g.2)

module _ (cs ds : List Content) (R : ContentTerm → ContentTerm → Type 0)
    (same : AllByRecursion (λ s. AnyByRecursion (λ t. R s t) (map content_term ds)) (map content_term cs)) where
  name_moved : ((s t : ContentTerm) → R s t → content_name s ≡ content_name t) → (n : List ℕ) → Contains (map (λ c. c.name) cs) n → Contains (map (λ c. c.name) ds) n
  name_moved names n inside =
      let own = any_unmapped (λ (c : Content). c.name) (λ m. m ≡ n) cs (any_of_contains (map (λ c. c.name) cs) n inside) in
      let terms = any_mapped content_term (λ t. content_name t ≡ n) cs own in
      let there = moved R (λ s. content_name s ≡ n) (λ t. content_name t ≡ n) (map content_term cs) (map content_term ds) (λ s t is r. sym (names s t r) ∙ is) same terms in
      contains_one (map (λ c. c.name) ds) n (any_mapped (λ (c : Content). c.name) (λ m. m ≡ n) ds (any_unmapped content_term (λ t. content_name t ≡ n) ds there))

  component_moved : (p : Identifier) → ((s t : ContentTerm) → R s t → kind_in s ≡ component p → kind_in t ≡ component p)
      → AnyByRecursion (λ c. IsComponentOf c p) cs → AnyByRecursion (λ c. IsComponentOf c p) ds
  component_moved p kinds some = any_unmapped content_term (λ t. kind_in t ≡ component p) ds
      (moved R (λ s. kind_in s ≡ component p) (λ t. kind_in t ≡ component p) (map content_term cs) (map content_term ds) (λ s t is r. kinds s t r is) same
      (any_mapped content_term (λ s. kind_in s ≡ component p) cs some))

same_long : (xs ys : List (List ℕ)) → AreDistinct xs → AreDistinct ys → ((n : List ℕ) → Contains xs n → Contains ys n) → ((n : List ℕ) → Contains ys n → Contains xs n)
    → length xs ≡ length ys
same_long xs ys apart distinct there back =
    let key : List ℕ → List ℕ = λ n. n in
    let into = each_from (λ x. AnyByRecursion (λ y. x ≡ y) ys) xs
    (λ x any. any_with (λ y. y ≡ x) (λ y. x ≡ y) (λ y e. sym e) ys (any_of_contains ys x (there x (contains_one xs x any)))) in
    let from = each_from (λ y. AnyByRecursion (λ x. x ≡ y) xs) ys (λ y any. any_of_contains xs y (back y (contains_one ys y any))) in
    let same : SameElements (λ x y. x ≡ y) xs ys = record { each = into; other = from } in
    sym (length_sorted key xs) ∙ ap length (same_in_order key xs ys (keyed_apart xs apart) (keyed_apart ys distinct) same) ∙ length_sorted key ys
  where
    keyed : (zs : List (List ℕ)) → map (λ (n : List ℕ). n) zs ≡ zs
    keyed [] = refl
    keyed (z ∷ zs) = ap (λ (ws : List (List ℕ)). z ∷ ws) (keyed zs)

    keyed_apart : (zs : List (List ℕ)) → AreDistinct zs → AreDistinct (map (λ (n : List ℕ). n) zs)
    keyed_apart zs h = subst AreDistinct (sym (keyed zs)) h

names_long : (cs : List Content) → length (map (λ c. c.name) cs) ≡ length cs
names_long [] = refl
names_long (c ∷ cs) = let rest = names_long cs in omega arith

pub alike : (i j : Interface) → HasDeclaration i → HasDeclaration j → DeclareTheSame i j → Alike i j
alike i j d e g =
    let there = name_moved i.contents j.contents SameContent g.contents.each same_name in
    let back = name_moved j.contents i.contents (λ t s. SameContent s t) g.contents.other (λ t s r. sym (same_name s t r)) in
    record {
      id = ap dtmi_text g.id;
      parents = λ p inside. contains_one j.parents p
          (moved (λ x y. x ≡ y) (λ x. x ≡ p) (λ y. y ≡ p) i.parents j.parents (λ x y is r. sym r ∙ is) g.parents.each (any_of_contains i.parents p inside));
      parents_back = λ p inside. contains_one i.parents p
          (moved (λ y x. x ≡ y) (λ y. y ≡ p) (λ x. x ≡ p) j.parents i.parents (λ y x is r. r ∙ is) g.parents.other (any_of_contains j.parents p inside));
      names = there;
      names_back = back;
      components = λ p. component_moved i.contents j.contents SameContent g.contents.each p (λ s t r is. same_component p s t r is);
      components_back = λ p. component_moved j.contents i.contents (λ t s. SameContent s t) g.contents.other p (λ t s r is. other_component p s t r is);
      long = sym (names_long i.contents) ∙ same_long (map (λ c. c.name) i.contents) (map (λ c. c.name) j.contents) d.names e.names there back ∙ names_long j.contents;
    }

-- ---- sets
abbrev pub interfaces : List Uploaded → List Interface
interfaces us = map (λ u. u.interface) us

abbrev pub AreApart : List Interface → Type 0
AreApart is = AreDistinct (map (λ i. dtmi_text i.id) is)

equal_ids : (p q : Identifier) → dtmi_text p ≡ dtmi_text q → is_eq (id_cmp p q) ≡ true
equal_ids p q same = is_eq-slice_cmp (dtmi_text p) (dtmi_text q) ∙ (bytes_eq-Decides (dtmi_text p) (dtmi_text q)).1 same

other_ids : (p q : Identifier) → (dtmi_text p ≡ dtmi_text q → ⊥) → is_eq (id_cmp p q) ≡ false
other_ids p q unlike = by (is_eq (id_cmp p q)) refl
  where
    by : (b : Bool) → is_eq (id_cmp p q) ≡ b → b ≡ false
    by false is = refl
    by true is = absurd (unlike ((bytes_eq-Decides (dtmi_text p) (dtmi_text q)).0 (sym (is_eq-slice_cmp (dtmi_text p) (dtmi_text q)) ∙ is)))

-- an interface of a set stands under its identifier
pub stands_there : (is : List Interface) (j : Interface) (p : Identifier) → AreApart is → AnyByRecursion (λ i. i ≡ j) is → dtmi_text p ≡ dtmi_text j.id → interface_at p is ≡ Some j
stands_there [] j p apart any same = absurd any
stands_there (i ∷ is) j p apart (inl e) same =
    ap (λ (b : Bool). cond b (Some i) (interface_at p is)) (equal_ids p i.id (same ∙ ap (λ (k : Interface). dtmi_text k.id) (sym e))) ∙ ap (λ (k : Interface). Some k) e
stands_there (i ∷ is) j p apart (inr later) same =
    let unlike : dtmi_text p ≡ dtmi_text i.id → ⊥ = λ e. at_one (λ t. dtmi_text i.id ≢ t) (λ t. t ≡ dtmi_text j.id) ⊥ (map (λ k. dtmi_text k.id) is)
    (λ t differ is_j. differ (sym e ∙ same ∙ sym is_j)) apart.0
    (any_mapped (λ (k : Interface). dtmi_text k.id) (λ t. t ≡ dtmi_text j.id) is (any_with (λ k. k ≡ j) (λ k. dtmi_text k.id ≡ dtmi_text j.id) (λ k f. ap (λ (l : Interface). dtmi_text l.id) f) is later)) in
    ap (λ (b : Bool). cond b (Some i) (interface_at p is)) (other_ids p i.id unlike) ∙ stands_there is j p apart.1 later same

-- each interface that is found in the one set has one alike in the other
abbrev pub Finds : List Interface → List Interface → Type 0
Finds a b = (p : Identifier) (i : Interface) → interface_at p a ≡ Some i → (j : Interface) × (interface_at p b ≡ Some j) × Alike i j

pub finds : (a b : List Interface) → AreApart b → AllByRecursion (λ i. AnyByRecursion (λ j. Alike i j) b) a → Finds a b
finds a b apart all p i found =
    let (k, at) = found_placed a p i found in
    let some = moved Alike (λ x. x ≡ i) (λ j. Alike i j) a b (λ x y is r. subst (λ (z : Interface). Alike z y) is r) all (placed_any a k i at) in
    let (j, among, like) = any_is (λ j. Alike i j) b some in
    (j, stands_there b j p apart among (found_text p a i found ∙ like.id), like)

-- ---- chains
module _ (a b : List Interface) (there : Finds a b) where
  pub parent_alike : (x y j : Interface) → Alike x y → IsParent a x j → (k : Interface) × IsParent b y k × Alike j k
  parent_alike x y j like (p, inside, found) = let (k, at, same) = there p j found in (k, (p, like.parents p inside, at), same)

  pub chain_alike : (js : List Interface) (x y : Interface) → Alike x y → IsChain a x js
      → (ks : List Interface) × IsChain b y ks × Alike (chain_end x js) (chain_end y ks) × (length js ≡ length ks)
  chain_alike [] x y like chain = ([], tt, like, refl)
  chain_alike (j ∷ js) x y like chain =
      let (k, step, same) = parent_alike x y j like chain.0 in
      let (ks, rest, ends, long) = chain_alike js j k same chain.1 in
      (k ∷ ks, (step, rest), ends, omega arith)

  pub ancestor_alike : (x y e : Interface) → Alike x y → IsAncestor a x e → (f : Interface) × IsAncestor b y f × Alike e f
  ancestor_alike x y e like (js, chain, is) =
      let (ks, other, ends, long) = chain_alike js x y like chain in
      (chain_end y ks, (ks, other, refl), subst (λ (z : Interface). Alike z (chain_end y ks)) is ends)

  pub leads_back_alike : (x y q r : Interface) → Alike x y → Alike q r → LeadsBack a x q → LeadsBack b y r
  leads_back_alike x y q r like same (e, ancestor, one) =
      let (f, other, ends) = ancestor_alike q r e same ancestor in
      (f, other, sym ends.id ∙ one ∙ like.id)

  pub cycle_alike : (x y : Interface) → Alike x y → ReachesCycle a x → ReachesCycle b y
  cycle_alike x y like (e, j, ancestor, parent, back) =
      let (f, other, ends) = ancestor_alike x y e like ancestor in
      let (k, step, same) = parent_alike e f j ends parent in
      (f, k, other, step, leads_back_alike e f j k ends same back)

  pub reaches_alike : (x y e : Interface) (name : List ℕ) → Alike x y → Reaches a x e name → (f : Interface) × Reaches b y f name × Alike e f
  reaches_alike x y e name like (ancestor, declares) =
      let (f, other, ends) = ancestor_alike x y e like ancestor in
      (f, (other, ends.names name declares), ends)
