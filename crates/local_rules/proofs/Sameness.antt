-- Entries that repeat an earlier one, by what is compared of them and by the definitions.
use Rattle.std.proofs.Common.{◌≡◌, ℕ, zero, suc, List, [], ◌∷◌, map, take, Bool, false, ◌||◌, bytes_eq, codes, Option, Some, None, refl, sym, ap, ap₂, subst, ◌∙◌}
use Rattle.std.specs.Prelude.{slice_get, option_and_then}
use Rattle.std.specs.Option.{option_map}
use Rattle.std.specs.List.{list_any, take-map}
use Rattle.json_tree.specs.Values.{Json, number, text}
use Rattle.json_tree.specs.Members.{text_in, value_in}
use Rattle.local_rules.specs.Repeats.{is_among, holds_some, name_in, repeats, repeats_name, repeats_text, repeats_value, same_value}
use Rattle.local_rules.specs.Machinery.Repeated.{comparable, comparison_of, repeats_by, value_comparison_of}
use Rattle.local_rules.specs.Machinery.Marks.{entry_repeats, entry_repeats_value}
use Rattle.local_rules.specs.declared.repeated.Comparison.{Comparison}
use Rattle.local_rules.specs.declared.repeated.Comparison.TheVariants as comparison
use Rattle.local_rules.specs.declared.role.Role.{Role}
use Rattle.local_rules.specs.declared.role.Role.TheVariants as role

-- both are there, and equal
abbrev both : {X : Type 0} → (X → X → Bool) → Option X → Option X → Bool
both same None b = false
both same (Some y) None = false
both same (Some y) (Some x) = same y x

none_of : {X : Type 0} (same : X → X → Bool) (es : List (Option X)) → list_any (λ e. both same e None) es ≡ false
none_of same [] = refl
none_of same (None ∷ es) = none_of same es
none_of same (Some y ∷ es) = none_of same es

some_of : {X : Type 0} (same : X → X → Bool) (es : List (Option X)) (x : X) → list_any (λ e. both same e (Some x)) es ≡ list_any (holds_some (λ y. same y x)) es
some_of same [] x = refl
some_of same (None ∷ es) x = some_of same es x
some_of same (Some y ∷ es) x = ap (λ (b : Bool). same y x || b) (some_of same es x)

among : {X : Type 0} (same : X → X → Bool) (es : List (Option X)) (o : Option X) → is_among same es o ≡ list_any (λ e. both same e o) es
among same es None = sym (none_of same es)
among same es (Some x) = sym (some_of same es x)

module _ {X Y : Type 0} (equal : X → X → Bool) (same : Y → Y → Bool) (g : Json → Option X) (f : Json → Option Y)
    (alike : (u v : Json) → both equal (g u) (g v) ≡ both same (f u) (f v)) where
  any_alike : (us : List Json) (v : Json) → list_any (λ e. both equal e (g v)) (map g us) ≡ list_any (λ e. both same e (f v)) (map f us)
  any_alike [] v = refl
  any_alike (u ∷ us) v = ap₂ ◌||◌ (alike u v) (any_alike us v)

  among_alike : (us vs : List Json) (i : ℕ) → is_among equal (map g us) (option_and_then (λ x. x) (slice_get (map g vs) i)) ≡ is_among same (map f us) (option_and_then (λ x. x) (slice_get (map f vs) i))
  among_alike us [] i = refl
  among_alike us (v ∷ vs) zero = among equal (map g us) (g v) ∙ any_alike us v ∙ sym (among same (map f us) (f v))
  among_alike us (v ∷ vs) (suc i) = among_alike us vs i

  pub repeats_alike : (vs : List Json) (i : ℕ) → repeats equal (map g vs) i ≡ repeats same (map f vs) i
  repeats_alike vs i =
      ap (λ (es : List (Option X)). is_among equal es (option_and_then (λ x. x) (slice_get (map g vs) i))) (take-map g i vs)
      ∙ among_alike (take i vs) vs i
      ∙ sym (ap (λ (es : List (Option Y)). is_among same es (option_and_then (λ x. x) (slice_get (map f vs) i))) (take-map f i vs))

texts_alike : (a b : Option (List ℕ)) → both same_value (option_map text a) (option_map text b) ≡ both bytes_eq a b
texts_alike None b = refl
texts_alike (Some s) None = refl
texts_alike (Some s) (Some t) = refl

comparable_alike : (v w : Json) → both same_value (comparable v) (comparable w) ≡ same_value v w
comparable_alike (number m) (number n) = refl
comparable_alike (text s) (text t) = refl
comparable_alike v w = refl

no_comparable : (v : Json) → both same_value (comparable v) None ≡ false
no_comparable (number m) = refl
no_comparable (text s) = refl
no_comparable v = refl

values_alike : (a b : Option Json) → both same_value (option_and_then comparable a) (option_and_then comparable b) ≡ both same_value a b
values_alike None b = refl
values_alike (Some v) None = no_comparable v
values_alike (Some v) (Some w) = comparable_alike v w

pub by_name : (vs : List Json) (i : ℕ) → repeats_by comparison.Name vs i ≡ repeats_name vs i
by_name vs i = repeats_alike same_value bytes_eq (λ v. option_map text (name_in v)) name_in (λ u v. texts_alike (name_in u) (name_in v)) vs i

pub by_whole : (vs : List Json) (i : ℕ) → repeats_by comparison.Whole vs i ≡ repeats_text vs i
by_whole vs i = repeats_alike same_value bytes_eq (λ v. option_map text (text_in v)) text_in (λ u v. texts_alike (text_in u) (text_in v)) vs i

pub by_value : (vs : List Json) (i : ℕ) → repeats_by comparison.Value vs i ≡ repeats_value vs i
by_value vs i = repeats_alike same_value same_value (λ v. option_and_then comparable (value_in (codes "enumValue") v)) (value_in (codes "enumValue"))
    (λ u v. values_alike (value_in (codes "enumValue") u) (value_in (codes "enumValue") v)) vs i

by_this : (one s : Comparison) (b : Bool) (vs : List Json) (i : ℕ) → Some one ≡ Some s → repeats_by one vs i ≡ b → repeats_by s vs i ≡ b
by_this one s b vs i is h = let same : one ≡ s = cc in subst (λ (c : Comparison). repeats_by c vs i ≡ b) same h

-- by what the entries of a list in a role are compared
pub entry_compared : (r : Role) (s : Comparison) (vs : List Json) (i : ℕ) → comparison_of r ≡ Some s → repeats_by s vs i ≡ entry_repeats r vs i
entry_compared role.Contents s vs i is = by_this comparison.Name s (repeats_name vs i) vs i is (by_name vs i)
entry_compared role.Properties s vs i is = by_this comparison.Name s (repeats_name vs i) vs i is (by_name vs i)
entry_compared role.Fields s vs i is = by_this comparison.Name s (repeats_name vs i) vs i is (by_name vs i)
entry_compared (role.EnumValues k) s vs i is = by_this comparison.Name s (repeats_name vs i) vs i is (by_name vs i)
entry_compared role.Extends s vs i is = by_this comparison.Whole s (repeats_text vs i) vs i is (by_whole vs i)
entry_compared other s vs i is = absurd cc

pub value_compared : (r : Role) (s : Comparison) (vs : List Json) (i : ℕ) → value_comparison_of r ≡ Some s → repeats_by s vs i ≡ entry_repeats_value r vs i
value_compared (role.EnumValues k) s vs i is = by_this comparison.Value s (repeats_value vs i) vs i is (by_value vs i)
value_compared other s vs i is = absurd cc
