-- No local rule is broken in the canonical tree of what documents without breach declare.
use Rattle.std.proofs.Common.{◌≡◌, ℕ, zero, suc, inl, inr, List, [], ◌∷◌, map, ℤ, Some, refl, subst, arith}
use Rattle.std.specs.List.{AllByRecursion}
use Rattle.json_decimal.specs.Number.{Number}
use Rattle.json_decimal.specs.Comparing.{IsWhole}
use Rattle.json_tree.specs.Values.{Json, number, text, array, object, elements_of, Members}
use Rattle.json_tree.specs.Places.{element_at}
use Rattle.dtdl_terms.specs.declared.interface.Interface.{Interface}
use Rattle.local_rules.specs.Repeats.{IsInEntry, repeats_name}
use Rattle.local_rules.specs.Roles.{HasRole}
use Rattle.local_rules.specs.Identifiers.{IsIdRole}
use Rattle.local_rules.specs.Breaches.{BreaksById, BreaksByPlace, IsBreach, IsBroken, IsEarlierId}
use Rattle.local_rules.specs.declared.rule.LocalRule.{LocalRule}
use Rattle.local_rules.specs.declared.rule.LocalRule.TheVariants as rule
use Rattle.local_rules.specs.declared.role.Role.{Role}
use Rattle.local_rules.specs.declared.role.Role.TheVariants as role
use Rattle.model_read.proofs.Standing.{Stands}
use Rattle.canon_text.specs.Sorting.{sorted_by}
use Rattle.canon_text.specs.Canonical.{interface_pair, interface_value, set_value}
use Rattle.canon_text.specs.Machinery.Pairs.{pair_name, pair_value}
use Rattle.canon_text.proofs.Told.{all_mapped, all_sorted, all_with}
use Rattle.local_rules.specs.Normal.{HasNormalNumbers}
use Rattle.local_rules.specs.Soundness.{IsSoundlyDeclared}
use Rattle.canon_faults.proofs.Everywhere.{everywhere_at}
use Rattle.canon_faults.proofs.Counts.{counted_once}
use Rattle.canon_faults.proofs.Once.{at_most_once}
use Rattle.canon_faults.proofs.Fine.{Fine, HasNames}
use Rattle.canon_faults.proofs.Good.{Good}
use Rattle.canon_faults.proofs.Named.{members}
use Rattle.canon_faults.proofs.Interfaces.{interface_good}
use Rattle.local_rules.proofs.NormalForms.{normal_at, normal_once, spelled_normal}
use Rattle.canon_faults.proofs.Uploads.{declared_once, typed_so, within_limits}
use Rattle.canon_laws.proofs.Contents.{interface_parts}

module _ (i : Interface) (s : IsSoundlyDeclared i) where
  abbrev whole : Json
  whole = object s.members

  abbrev canonical : Json
  canonical = interface_value i

  abbrev cs : Members Number
  cs = members (interface_parts i)

  numbers : HasNormalNumbers whole
  numbers = spelled_normal s.bytes whole s.spelled

  once : (r q : Role) (m n : Number) (z : ℤ) → Stands whole r (number m) → Stands whole q (number n) → IsWhole m z → IsWhole n z → m ≡ n
  once r q m n z first second one other = normal_once m n z (normal_at first.place role.Interface whole r (number m) numbers first.there)
      (normal_at second.place role.Interface whole q (number n) numbers second.there) one other

  good : Good cs (Some role.Interface) canonical whole
  good = interface_good s.members i s.declares (declared_once i s) (within_limits i s) (typed_so i s) s.unbroken once

  fine_at : (place : List ℕ) (r : Role) (v : Json) → HasRole role.Interface canonical place r v → Fine cs r v
  fine_at place r v there = everywhere_at (Fine cs) place role.Interface canonical r v good.fine there

  -- ---- by place
  named_in : (q : Role) (place : List ℕ) → HasNames q → IsInEntry canonical q repeats_name place → ⊥
  named_in q place has entry =
      let list = entry.3 in
      let there = list.3 in
      (fine_at list.0 q (array there.entries) there.stands).names there.entries list.1 has refl there.holds

  none_by_place : (place : List ℕ) (broken : LocalRule) (r : Role) → BreaksByPlace canonical place broken r → ⊥
  none_by_place place rule.BadLanguage r b = (fine_at b.0 (role.Localized b.2) (object b.3) b.5).languages b.2 b.3 b.1 refl refl b.6
  none_by_place place rule.RepeatedParent r b =
      let there = b.3 in (fine_at b.0 role.Extends (array there.entries) there.stands).parents there.entries b.1 refl refl there.holds
  none_by_place place rule.DuplicateName r b = elim b.1 [
    | inl entry ↦ named_in role.Contents place (inl refl) entry
    | inr entry ↦ named_in role.Properties place (inr (inl refl)) entry
  ]
  none_by_place place rule.DuplicateField r b = named_in role.Fields place (inr (inr (inl refl))) b.1
  none_by_place place rule.DuplicateEnumName r b = named_in (role.EnumValues b.1.0) place (inr (inr (inr (b.1.0, refl)))) b.1.1
  none_by_place place rule.DuplicateEnumValue r b =
      let k = b.1.0 in
      let list = b.1.1.3 in
      let there = list.3 in
      (fine_at list.0 (role.EnumValues k) (array there.entries) there.stands).values there.entries list.1 k refl refl there.holds
  none_by_place place other r b = b

  -- ---- by identifiers
  none_earlier : (x : List ℕ) (place : List ℕ) (r : Role) → HasRole role.Interface canonical place r (text x) → IsIdRole r → IsEarlierId canonical place x → ⊥
  none_earlier x place r there is b =
      let few = good.fewer x in
      let once_there = at_most_once x whole s.unbroken in
      counted_once x b.0 place role.Interface canonical b.1 r b.2 b.3 there b.4 is (omega arith)

  none_by_id : (place : List ℕ) (broken : LocalRule) (r : Role) (v : Json) → HasRole role.Interface canonical place r v → BreaksById (IsEarlierId canonical place) broken r v → ⊥
  none_by_id place rule.RepeatedId r (text x) there b = none_earlier x place r there b.0 b.1
  none_by_id place rule.RepeatedId r v there b = b.1
  none_by_id place other r v there b = b

  pub none_broken : (place : List ℕ) (broken : LocalRule) → IsBroken canonical place broken → ⊥
  none_broken place broken (r, v, there, b) = elim b [
    | inl alone ↦ (fine_at place r v there).alone broken alone
    | inr (inl by_place) ↦ none_by_place place broken r by_place
    | inr (inr (inl by_schemas)) ↦ (fine_at place r v there).schemas broken by_schemas
    | inr (inr (inr by_id)) ↦ none_by_id place broken r v there by_id
  ]

-- ---- sets
abbrev Unbroken : Json → Type 0
Unbroken v = (place : List ℕ) (broken : LocalRule) → IsBroken v place broken → ⊥

element_unbroken : (ms : List (List ℕ × Json)) (k : ℕ) (v : Json) → AllByRecursion (λ m. Unbroken (pair_value m)) ms → element_at (elements_of (map pair_value ms)) k ≡ Some v → Unbroken v
element_unbroken [] k v all at = absurd cc
element_unbroken (m ∷ ms) zero v all at = let same : pair_value m ≡ v = cc in subst (λ (u : Json). Unbroken u) same all.0
element_unbroken (m ∷ ms) (suc k) v all at = element_unbroken ms k v all.1 at

pub no_breach : (is : List Interface) → AllByRecursion IsSoundlyDeclared is → (place : List ℕ) (broken : LocalRule) → IsBreach (set_value is) place broken → ⊥
no_breach is sound [] broken b = b
no_breach is sound (k ∷ place) broken b =
    let each = all_mapped interface_pair (λ m. Unbroken (pair_value m)) is (all_with IsSoundlyDeclared (λ i. Unbroken (interface_value i)) (λ i s. none_broken i s) is sound) in
    element_unbroken (sorted_by pair_name (map interface_pair is)) k b.0 (all_sorted pair_name (λ m. Unbroken (pair_value m)) (map interface_pair is) each) b.1 place broken b.2
