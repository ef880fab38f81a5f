-- What the entries of a list are compared by, to find those that repeat an earlier one. These words serve private
-- clauses.
use Rattle.std.specs.Prelude.{◌≡◌, ℕ, ◌<◌, ◌≤◌, List, map, length, Bool, true, false, ◌||◌, Option, Some, None, codes, option_and_then}
use Rattle.std.specs.Option.{option_map}
use Rattle.std.specs.List.{list_any}
use Rattle.std.specs.BTreeSet.{BTreeSet}
use Rattle.json_decimal.specs.Number.{Number}
use Rattle.json_tree.specs.Values.{Json, null, truth, number, text, array, object}
use Rattle.json_tree.specs.Buckets.{IsUsed}
use Rattle.json_tree.specs.declared.buckets.Buckets.{Buckets}
use Rattle.json_tree.specs.Members.{text_in, value_in}
use Rattle.local_rules.specs.Repeats.{holds_some, name_in, repeats, same_value}
use Rattle.local_rules.specs.declared.role.Role.{Role}
use Rattle.local_rules.specs.declared.role.Role.TheVariants as role
use Rattle.local_rules.specs.declared.repeated.Digits.{Digits}
use Rattle.local_rules.specs.declared.repeated.ComparisonKey.{ComparisonKey}
use Rattle.local_rules.specs.declared.repeated.ComparisonKey.TheVariants as comparison_key
use Rattle.local_rules.specs.declared.repeated.Comparison.{Comparison}
use Rattle.local_rules.specs.declared.repeated.Comparison.TheVariants as comparison

abbrev pub number_by : Digits → Number
number_by d = record { negative = d.negative; coefficient = d.coefficient; exponent = d.exponent }

abbrev pub value_by : ComparisonKey → Json
value_by (comparison_key.Number d) = number (number_by d)
value_by (comparison_key.Text t) = text t.now

-- A value that is a number or a text; no other is equal to one.
abbrev pub comparable : Json → Option Json
comparable null = None
comparable (truth b) = None
comparable (number n) = Some (number n)
comparable (text bytes) = Some (text bytes)
comparable (array vs) = None
comparable (object ms) = None

-- What is compared of an entry.
abbrev pub compared : Comparison → Json → Option Json
compared comparison.Name v = option_map text (name_in v)
compared comparison.Whole v = option_map text (text_in v)
compared comparison.Value v = option_and_then comparable (value_in (codes "enumValue") v)

abbrev pub repeats_by : Comparison → List Json → ℕ → Bool
repeats_by s vs i = repeats same_value (map (compared s) vs) i

-- So many values from the front are apart: none of them repeats an earlier one.
abbrev pub AreApart : Comparison → List Json → ℕ → Type 0
AreApart s vs n = (n ≤ length vs) × ((i : ℕ) → i < n → repeats_by s vs i ≡ false)

-- A text that one of the values is compared by has a bucket that is used.
abbrev pub AreInBuckets : Comparison → List Json → Buckets → Type 0
AreInBuckets s vs buckets = (t : List ℕ) → list_any (holds_some (λ u. same_value u (text t))) (map (compared s) vs) ≡ true → IsUsed buckets t

-- What was used is used, and the bucket of the text that an entry is compared by.
abbrev pub HasBucket : Buckets → Buckets → Option ComparisonKey → Type 0
HasBucket old new o = ((t : List ℕ) → IsUsed old t → IsUsed new t)
    × ((t : List ℕ) → holds_some (λ u. same_value u (text t)) (option_map value_by o) ≡ true → IsUsed new t)

-- Whether a value is among those that were seen.
abbrev pub is_seen : BTreeSet ComparisonKey → Json → Bool
is_seen seen v = list_any (λ m. same_value v (value_by m)) seen.keys

-- The answer tells whether what an entry is compared by was seen, and it is seen now.
abbrev pub HasSeen : BTreeSet ComparisonKey → BTreeSet ComparisonKey → Bool → Option ComparisonKey → Type 0
HasSeen old new b None = (b ≡ false) × ((q : ComparisonKey) → is_seen new (value_by q) ≡ is_seen old (value_by q))
HasSeen old new b (Some m) = (b ≡ is_seen old (value_by m))
    × ((q : ComparisonKey) → is_seen new (value_by q) ≡ (is_seen old (value_by q) || same_value (value_by m) (value_by q)))

-- By what the entries of a list in this role are compared; None where they are not.
abbrev pub comparison_of : Role → Option Comparison
comparison_of role.Contents = Some comparison.Name
comparison_of role.Properties = Some comparison.Name
comparison_of role.Fields = Some comparison.Name
comparison_of (role.EnumValues k) = Some comparison.Name
comparison_of role.Extends = Some comparison.Whole
comparison_of other = None

-- By what they are compared besides.
abbrev pub value_comparison_of : Role → Option Comparison
value_comparison_of (role.EnumValues k) = Some comparison.Value
value_comparison_of other = None

-- So many values from the front are apart, where they are compared.
abbrev pub AreApartBy : Option Comparison → List Json → ℕ → Type 0
AreApartBy o vs n = (s : Comparison) → o ≡ Some s → AreApart s vs n
