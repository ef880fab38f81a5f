-- The rule on the keys of localized texts, by the object and the position of the member.
use Rattle.std.specs.Prelude.{◌≡◌, ℕ, List, [], ◌∷◌, ◌++◌, length, Bool, false, ◌&&◌, ◌==◌, nat_le, Some}
use Rattle.std.specs.List.{list_all, slice_split}
use Rattle.std.specs.Char.{is_ascii_alphabetic, is_ascii_alphanumeric}
use Rattle.json_decimal.specs.Number.{Number}
use Rattle.json_tree.specs.Values.{Json, object, Members}
use Rattle.json_tree.specs.Places.{member_at}
use Rattle.local_rules.specs.Roles.{HasRole}
use Rattle.local_rules.specs.declared.role.Localized.{Localized}
use Rattle.local_rules.specs.declared.role.Role.TheVariants as role

-- A language code: `[A-Za-z]{1,8}(-[A-Za-z0-9]{1,8})*`. The form is this project's own; `-` is 45.
abbrev pub is_subtag : (ℕ → Bool) → List ℕ → Bool
is_subtag test bytes = nat_le 1 (length bytes) && nat_le (length bytes) 8 && list_all test bytes

abbrev pub are_subtags : List (List ℕ) → Bool
are_subtags [] = false
are_subtags (first ∷ more) = is_subtag is_ascii_alphabetic first && list_all (is_subtag is_ascii_alphanumeric) more

abbrev pub is_language : List ℕ → Bool
is_language bytes = are_subtags (slice_split (λ b. b == 45) bytes)

-- The key of the member at this position is no language code.
abbrev pub IsNoLanguage : Members Number → ℕ → Type 0
IsNoLanguage ms i = (key : List ℕ) × (v : Json) × (member_at ms i ≡ Some (key, v)) × (is_language key ≡ false)

-- The key of a localized text is no language code; at the member's value.
abbrev pub BadLanguage : Json → List ℕ → Type 0
BadLanguage interface place = (text : List ℕ) × (i : ℕ) × (which : Localized) × (ms : Members Number)
    × (place ≡ text ++ i ∷ []) × HasRole role.Interface interface text (role.Localized which) (object ms) × IsNoLanguage ms i
