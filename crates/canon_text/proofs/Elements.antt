-- Lists with the same elements, beside their values in order.
use Rattle.std.proofs.Common.{◌≡◌, ℕ, inl, inr, List, [], ◌∷◌, map, Some, refl, sym, ap, subst}
use Rattle.std.specs.List.{AllByRecursion}
use Rattle.std.proofs.lemmas.Simd.{map-map}
use Rattle.json_tree.specs.Values.{Json, array, object, elements_of, members_of}
use Rattle.dtdl_terms.specs.Distinct.{AreDistinct}
use Rattle.dtdl_terms.specs.Equality.{AnyByRecursion, SameElements}
use Rattle.canon_text.specs.Objects.{members_in_order, list_in_order, unless_empty}
use Rattle.canon_text.specs.Machinery.Pairs.{pair_name, pair_value}
use Rattle.canon_text.proofs.Told.{any_mapped, all_mapped, same_in_order}

-- what two facts of each give
pub all_both : {A : Type 0} (P Q S : A → Type 0) → ((x : A) → P x → Q x → S x) → (xs : List A) → AllByRecursion P xs → AllByRecursion Q xs → AllByRecursion S xs
all_both P Q S f [] p q = tt
all_both P Q S f (x ∷ xs) p q = (f x p.0 q.0, all_both P Q S f xs p.1 q.1)

-- what a fact of each gives of some
pub any_both : {A : Type 0} (P Q S : A → Type 0) → ((x : A) → P x → Q x → S x) → (xs : List A) → AllByRecursion P xs → AnyByRecursion Q xs → AnyByRecursion S xs
any_both P Q S f [] p q = absurd q
any_both P Q S f (x ∷ xs) p (inl q) = inl (f x p.0 q)
any_both P Q S f (x ∷ xs) p (inr q) = inr (any_both P Q S f xs p.1 q)

-- ---- from equal elements to equal values
module _ {A B : Type 0} (pair : A → B) (D : A → Type 0) (R : A → A → Type 0) where
  abbrev pub Gives : A → Type 0
  Gives x = (y : A) → D y → R x y → pair x ≡ pair y

  pub same_mapped : (xs ys : List A) → AllByRecursion Gives xs → AllByRecursion D ys → SameElements R xs ys → SameElements (λ m n. m ≡ n) (map pair xs) (map pair ys)
  same_mapped xs ys gives ds same = record {
    each = all_mapped pair (λ m. AnyByRecursion (λ n. m ≡ n) (map pair ys)) xs
        (all_both Gives (λ x. AnyByRecursion (λ y. R x y) ys) (λ x. AnyByRecursion (λ n. pair x ≡ n) (map pair ys))
        (λ x give some. any_mapped pair (λ n. pair x ≡ n) ys (any_both D (λ y. R x y) (λ y. pair x ≡ pair y) (λ y d r. give y d r) ys ds some)) xs gives same.each);
    other = all_mapped pair (λ n. AnyByRecursion (λ m. m ≡ n) (map pair xs)) ys
        (all_both D (λ y. AnyByRecursion (λ x. R x y) xs) (λ y. AnyByRecursion (λ m. m ≡ pair y) (map pair xs))
        (λ y d some. any_mapped pair (λ m. m ≡ pair y) xs (any_both Gives (λ x. R x y) (λ x. pair x ≡ pair y) (λ x give r. give y d r) xs gives some)) ys ds same.other);
  }

abbrev Pairs : Type 0
Pairs = List (List ℕ × Json)

abbrev pub HasNames : Pairs → Type 0
HasNames ms = AreDistinct (map pair_name ms)

pub names_mapped : {A : Type 0} (pair : A → List ℕ × Json) (xs : List A) → AreDistinct (map (λ x. pair_name (pair x)) xs) → HasNames (map pair xs)
names_mapped pair xs distinct = subst AreDistinct (sym (map-map pair_name pair xs)) distinct

pub same_list : (ms ns : Pairs) → HasNames ms → HasNames ns → SameElements (λ m n. m ≡ n) ms ns → list_in_order ms ≡ list_in_order ns
same_list ms ns first second same = ap (λ (s : Pairs). array (elements_of (map pair_value s))) (same_in_order pair_name ms ns first second same)

same_members : (ms ns : Pairs) → HasNames ms → HasNames ns → SameElements (λ m n. m ≡ n) ms ns → members_in_order ms ≡ members_in_order ns
same_members ms ns first second same = ap (λ (s : Pairs). object (members_of s)) (same_in_order pair_name ms ns first second same)

same_unless : (value : Pairs → Json) (ms ns : Pairs) → SameElements (λ m n. m ≡ n) ms ns → value ms ≡ value ns → unless_empty value ms ≡ unless_empty value ns
same_unless value [] [] same e = refl
same_unless value [] (n ∷ ns) same e = absurd same.other.0
same_unless value (m ∷ ms) [] same e = absurd same.each.0
same_unless value (m ∷ ms) (n ∷ ns) same e = ap Some e

pub same_optional_list : (ms ns : Pairs) → HasNames ms → HasNames ns → SameElements (λ m n. m ≡ n) ms ns → unless_empty list_in_order ms ≡ unless_empty list_in_order ns
same_optional_list ms ns first second same = same_unless list_in_order ms ns same (same_list ms ns first second same)

pub same_optional_members : (ms ns : Pairs) → HasNames ms → HasNames ns → SameElements (λ m n. m ≡ n) ms ns → unless_empty members_in_order ms ≡ unless_empty members_in_order ns
same_optional_members ms ns first second same = same_unless members_in_order ms ns same (same_members ms ns first second same)
