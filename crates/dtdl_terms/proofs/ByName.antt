-- What two interfaces that declare the same have under a name.
use Rattle.std.proofs.Common.{◌≡◌, ◌≢◌, ℕ, zero, suc, ◌<◌, inl, inr, List, [], ◌∷◌, map, length, get_or, refl, sym, ap, ◌∙◌, subst, arith}
use Rattle.std.specs.Prelude.{Contains}
use Rattle.std.specs.List.{AllByRecursion}
use Rattle.dtdl_terms.specs.TermViews.{content_term}
use Rattle.dtdl_terms.specs.Distinct.{AreDistinct, HasDeclaration}
use Rattle.dtdl_terms.specs.Equality.{AnyByRecursion, SameContent, DeclareTheSame}
use Rattle.dtdl_terms.specs.declared.content.Content.{Content}
use Rattle.dtdl_terms.specs.declared.interface.Interface.{Interface}

module _ {A : Type 0} where
  -- an element by its position is one of them
  at_position : (xs : List A) (x : A) (i : ℕ) → i < length xs → get_or xs i x ≡ x → AnyByRecursion (λ y. y ≡ x) xs
  at_position [] x i within is = absurd (omega arith)
  at_position (y ∷ xs) x zero within is = inl is
  at_position (y ∷ xs) x (suc i) within is = inr (at_position xs x i (omega arith) is)

  -- what holds of each holds of one
  of_each : {B : Type 0} (f : A → B) (P : B → Type 0) (xs : List A) (x : A) → AllByRecursion P (map f xs) → AnyByRecursion (λ y. y ≡ x) xs → P (f x)
  of_each f P [] x all one = absurd one
  of_each f P (y ∷ xs) x all (inl is) = subst (λ (z : A). P (f z)) is all.0
  of_each f P (y ∷ xs) x all (inr later) = of_each f P xs x all.1 later

  -- elements of one key are one element, where keys are distinct
  other_key : {K : Type 0} (key : A → K) (k : K) (xs : List A) (x : A) → AllByRecursion (λ l. k ≢ l) (map key xs) → AnyByRecursion (λ y. y ≡ x) xs
      → k ≡ key x → ⊥
  other_key {K = K} key k xs x all one same = of_each key (λ l. k ≢ l) xs x all one same

  one_of_key : {K : Type 0} (key : A → K) (xs : List A) (x y : A) → AreDistinct (map key xs) → AnyByRecursion (λ z. z ≡ x) xs
      → AnyByRecursion (λ z. z ≡ y) xs → key x ≡ key y → x ≡ y
  one_of_key key [] x y distinct first second same = absurd first
  one_of_key key (z ∷ xs) x y distinct (inl first) (inl second) same = sym first ∙ second
  one_of_key key (z ∷ xs) x y distinct (inl first) (inr second) same = absurd (other_key key (key z) xs y distinct.0 second (ap key first ∙ same))
  one_of_key key (z ∷ xs) x y distinct (inr first) (inl second) same = absurd (other_key key (key z) xs x distinct.0 first (ap key second ∙ sym same))
  one_of_key key (z ∷ xs) x y distinct (inr first) (inr second) same = one_of_key key xs x y distinct.1 first second same

  -- some element with a property, and it itself
  found : {B : Type 0} (f : A → B) (P : B → Type 0) (xs : List A) → AnyByRecursion P (map f xs) → (x : A) × AnyByRecursion (λ y. y ≡ x) xs × P (f x)
  found f P [] some = absurd some
  found f P (x ∷ xs) (inl here) = (x, inl refl, here)
  found f P (x ∷ xs) (inr later) = let z = found f P xs later in (z.0, inr z.1, z.2)

same_names : (c d : Content) → SameContent (content_term c) (content_term d) → c.name ≡ d.name
same_names c d same = same.0

pub contents_by_name : (i j : Interface) → HasDeclaration j → DeclareTheSame i j → (c d : Content) → Contains i.contents c → Contains j.contents d
    → c.name ≡ d.name → SameContent (content_term c) (content_term d)
contents_by_name i j declared same c d first second names =
    let here = at_position i.contents c first.0 first.1 first.2 in
    let there = at_position j.contents d second.0 second.1 second.2 in
    let matched = of_each content_term (λ x. AnyByRecursion (λ y. SameContent x y) (map content_term j.contents)) i.contents c same.contents.each here in
    let e = found content_term (λ y. SameContent (content_term c) y) j.contents matched in
    let one : e.0 ≡ d = one_of_key (λ (x : Content). x.name) j.contents e.0 d declared.names e.1 there (sym (same_names c e.0 e.2) ∙ names) in
    subst (λ (x : Content). SameContent (content_term c) (content_term x)) one e.2
