-- Who uses whom, as users come and go.
use Rattle.std.proofs.Common.{◌≡◌, ℕ, zero, suc, ◌+◌, ◌<◌, ◌≤◌, List, [], ◌∷◌, take, drop, Bool, true, false, cond, ◌||◌, ◌&&◌, length, slice_index_or, Option, Some, None, refl, sym, ap, ◌∙◌, subst, true≢false, Ordering, Less, Equal, Greater, is_eq, arith}
use Rattle.std.specs.Ordering.{ordering_then}
use Rattle.std.specs.List.{AllByRecursion, list_any, sum_by}
use Rattle.std.proofs.lemmas.List.Sums.{sum_by-cons}
use Rattle.std.specs.List.Sorted.{IsStrictlySortedBy}
use Rattle.std.specs.Map.{remove_entry, keys_of}
use Rattle.std.specs.BTreeMap.{is_at, insert_entry}
use Rattle.std.proofs.lemmas.Slice.Eq.{bytes_eq-Decides}
use Rattle.ordered_table.specs.Rows.{pair_cmp}
use Rattle.ordered_table.proofs.Ordered.{pairs_total, lookup-insert}
use Rattle.ordered_table.proofs.Kept.{lookup-removed}
use Rattle.dt_base.specs.names.Grammar.{Identifier, dtmi_text, id_cmp, id_eq}
use Rattle.dtdl_terms.specs.Terms.{KindTerm, telemetry, property, command, relationship, component}
use Rattle.model_life.specs.resolution.Machinery.Families.{kind_id}
use Rattle.model_life.proofs.resolution.Changes.{ids_total}
use Rattle.model_life.proofs.sets.Looking.{eq_tests}
use Rattle.model_life.specs.Models.{is_component}
use Rattle.model_life.specs.Machinery.Keeping.{Users, user_at}

-- ---- lists
drop_suc : {X : Type 0} (xs : List X) (k : ℕ) (x : X) → k < length xs → x ≡ slice_index_or xs k x → drop k xs ≡ x ∷ drop (suc k) xs
drop_suc [] k x low is = absurd (omega (arith, low))
drop_suc (y ∷ ys) zero x low is = ap (λ z. z ∷ ys) (sym is)
drop_suc (y ∷ ys) (suc k) x low is = drop_suc ys k x (omega (arith, low)) is

pub drop_next : {X : Type 0} (xs : List X) (k : ℕ) (x : X) → k < length xs → x ≡ slice_index_or xs k x → drop k xs ≡ x ∷ drop (k + 1) xs
drop_next xs k x low is = let next : suc k ≡ k + 1 = omega arith in drop_suc xs k x low is ∙ ap (λ n. x ∷ drop n xs) next

suc_sum : {X : Type 0} (f : X → ℕ) (xs : List X) (k : ℕ) (x : X) → k < length xs → x ≡ slice_index_or xs k x → sum_by f (take (suc k) xs) ≡ sum_by f (take k xs) + f x
suc_sum f [] k x low is = absurd (omega (arith, low))
suc_sum f (y ∷ ys) zero x low is =
    let one = sum_by-cons f y [] in
    let none : sum_by f [] ≡ 0 = refl in
    let same = ap f is in
    omega (arith, one, none, same)
suc_sum f (y ∷ ys) (suc k) x low is =
    let rest = suc_sum f ys k x (omega (arith, low)) is in
    let a = sum_by-cons f y (take (suc k) ys) in
    let b = sum_by-cons f y (take k ys) in
    omega (arith, rest, a, b)

pub taken_sum : {X : Type 0} (f : X → ℕ) (xs : List X) (k : ℕ) (x : X) → k < length xs → x ≡ slice_index_or xs k x → sum_by f (take (k + 1) xs) ≡ sum_by f (take k xs) + f x
taken_sum f xs k x low is = let e : k + 1 ≡ suc k = omega arith in ap (λ n. sum_by f (take n xs)) e ∙ suc_sum f xs k x low is

pub taken_all : {X : Type 0} (xs : List X) (k : ℕ) → length xs ≤ k → take k xs ≡ xs
taken_all [] zero long = refl
taken_all [] (suc k) long = refl
taken_all (x ∷ xs) zero long = absurd (omega (arith, long))
taken_all (x ∷ xs) (suc k) long = ap (λ ys. x ∷ ys) (taken_all xs k (omega (arith, long)))

pub placed_all : {X : Type 0} (P : X → Type 0) (xs : List X) (k : ℕ) (x : X) → AllByRecursion P xs → k < length xs → x ≡ slice_index_or xs k x → P x
placed_all P [] k x all low is = absurd (omega (arith, low))
placed_all P (y ∷ ys) zero x all low is = subst P (sym is) all.0
placed_all P (y ∷ ys) (suc k) x all low is = placed_all P ys k x all.1 (omega (arith, low)) is

-- ---- one pair
then_eq : (o p : Ordering) → is_eq (ordering_then o p) ≡ (is_eq o && is_eq p)
then_eq Less p = refl
then_eq Equal p = refl
then_eq Greater p = refl

pair_test : (t u used user : Identifier) → is_eq (pair_cmp id_cmp (dtmi_text t, u) (dtmi_text used, user)) ≡ (id_eq t used && id_eq u user)
pair_test t u used user =
    then_eq (id_cmp t used) (id_cmp u user) ∙ ap (λ b. b && is_eq (id_cmp u user)) (eq_tests t used) ∙ ap (λ b. id_eq t used && b) (eq_tests u user)

pub user_put : (used user : Identifier) (text : List ℕ) (old new : Users) → text ≡ dtmi_text used → new ≡ insert_entry (pair_cmp id_cmp) old (text, user) tt
    → (t u : Identifier) → user_at t u new ≡ cond (id_eq t used && id_eq u user) (Some tt) (user_at t u old)
user_put used user text old new same is t u =
    ap (user_at t u) (is ∙ ap (λ k. insert_entry (pair_cmp id_cmp) old (k, user) tt) same)
    ∙ lookup-insert (pairs_total id_cmp ids_total) (dtmi_text t, u) (dtmi_text used, user) tt old
    ∙ ap (λ b. cond b (Some tt) (user_at t u old)) (pair_test t u used user)

pub user_taken : (used user : Identifier) (text : List ℕ) (old new : Users) → text ≡ dtmi_text used → IsStrictlySortedBy (pair_cmp id_cmp) (keys_of old) → new ≡ remove_entry (is_at (pair_cmp id_cmp (text, user))) old
    → (t u : Identifier) → user_at t u new ≡ cond (id_eq t used && id_eq u user) None (user_at t u old)
user_taken used user text old new same sorted is t u =
    ap (user_at t u) (is ∙ ap (λ k. remove_entry (is_at (pair_cmp id_cmp (k, user))) old) same)
    ∙ lookup-removed (pairs_total id_cmp ids_total) (dtmi_text t, u) (dtmi_text used, user) old sorted
    ∙ ap (λ b. cond b None (user_at t u old)) (pair_test t u used user)

-- ---- several pairs
pub one_more : {A : Type 0} (a b c : Bool) (x o m n : A) → m ≡ cond (a && c) x o → n ≡ cond (b && c) x m → n ≡ cond ((a || b) && c) x o
one_more true true true x o m n f g = g
one_more true true false x o m n f g = g ∙ f
one_more true false true x o m n f g = g ∙ f
one_more true false false x o m n f g = g ∙ f
one_more false true true x o m n f g = g
one_more false true false x o m n f g = g ∙ f
one_more false false true x o m n f g = g ∙ f
one_more false false false x o m n f g = g ∙ f

pub none_at : {A : Type 0} (b : Bool) (x o n : A) → b ≡ false → n ≡ cond b x o → n ≡ o
none_at b x o n off is = is ∙ ap (λ c. cond c x o) off

module _ {X : Type 0} (p : X → Bool) where
  or_assoc : (a b c : Bool) → (a || (b || c)) ≡ ((a || b) || c)
  or_assoc true b c = refl
  or_assoc false b c = refl

  or_false : (b : Bool) → (b || false) ≡ b
  or_false true = refl
  or_false false = refl

  any_suc : (xs : List X) (n : ℕ) (x : X) → n < length xs → x ≡ slice_index_or xs n x → list_any p (take (suc n) xs) ≡ (list_any p (take n xs) || p x)
  any_suc [] n x low is = absurd (omega (arith, low))
  any_suc (y ∷ ys) zero x low is = or_false (p y) ∙ ap p (sym is)
  any_suc (y ∷ ys) (suc n) x low is = ap (λ b. p y || b) (any_suc ys n x (omega (arith, low)) is) ∙ or_assoc (p y) (list_any p (take n ys)) (p x)

  pub any_next : (xs : List X) (n : ℕ) (x : X) → n < length xs → x ≡ slice_index_or xs n x → list_any p (take (n + 1) xs) ≡ (list_any p (take n xs) || p x)
  any_next xs n x low is = let e : n + 1 ≡ suc n = omega arith in ap (λ k. list_any p (take k xs)) e ∙ any_suc xs n x low is

  pub any_all : (xs : List X) (n : ℕ) → length xs ≤ n → list_any p (take n xs) ≡ list_any p xs
  any_all [] zero long = refl
  any_all [] (suc n) long = refl
  any_all (y ∷ ys) zero long = absurd (omega (arith, long))
  any_all (y ∷ ys) (suc n) long = ap (λ b. p y || b) (any_all ys n (omega (arith, long)))

  pub any_at : (xs : List X) (n : ℕ) (x : X) → n < length xs → x ≡ slice_index_or xs n x → p x ≡ true → list_any p xs ≡ true
  any_at [] n x low is h = absurd (omega (arith, low))
  any_at (y ∷ ys) zero x low is h = ap (λ b. b || list_any p ys) (ap p (sym is) ∙ h)
  any_at (y ∷ ys) (suc n) x low is h = elim (p y) as (λ b. (b || list_any p ys) ≡ true) [ true ↦ refl | false ↦ any_at ys n x (omega (arith, low)) is h ]

  off : (a b c : Bool) → ((a || b) && c) ≡ false → (b && c) ≡ false
  off true true c h = h
  off true false c h = refl
  off false b c h = h

  pub none_taken : (c : Bool) (xs : List X) (n : ℕ) → (list_any p xs && c) ≡ false → (list_any p (take n xs) && c) ≡ false
  none_taken c [] zero h = h
  none_taken c [] (suc n) h = h
  none_taken c (y ∷ ys) zero h = refl
  none_taken c (y ∷ ys) (suc n) h =
      elim (p y) as (λ b. ((b || list_any p ys) && c) ≡ false → ((b || list_any p (take n ys)) && c) ≡ false) [
        | true ↦ λ g. g
        | false ↦ λ g. none_taken c ys n g
      ] h

-- ---- components
abbrev pub is_named : Identifier → Option Identifier → Bool
is_named t None = false
is_named t (Some of) = id_eq t of

pub component_named : (t : Identifier) (k : KindTerm) → is_component t k ≡ is_named t (kind_id k)
component_named t (telemetry schema semantic unit) = refl
component_named t (property schema semantic unit writable) = refl
component_named t (command request response) = refl
component_named t (relationship target properties most writable) = refl
component_named t (component of) = refl

pub itself : (a : Identifier) → id_eq a a ≡ true
itself a = (bytes_eq-Decides (dtmi_text a) (dtmi_text a)).1 refl

pub not_there : {X : Type 0} (p : X → Bool) (xs : List X) (n : ℕ) (x : X) → n < length xs → x ≡ slice_index_or xs n x → list_any p xs ≡ false → p x ≡ false
not_there p xs n x low is none =
    elim (p x) as (λ b. p x ≡ b → b ≡ false) [
      | true ↦ λ e. absurd (true≢false (sym (any_at p xs n x low is e) ∙ none))
      | false ↦ λ _. refl
    ] refl
