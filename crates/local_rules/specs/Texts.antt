-- Rules on comments, localized texts, units and command types.
use Rattle.std.specs.Prelude.{◌≡◌, ◌≢◌, ℕ, ◌<◌, ◌⊎◌, List, not, ◌&&◌, nat_le, nat_lt, count_by, codes}
use Rattle.json_tree.specs.Values.{Json, text}
use Rattle.local_rules.specs.Identifiers.{OfText}
use Rattle.local_rules.specs.Types.{IsNameValue}
use Rattle.local_rules.specs.declared.role.Localized.{Localized}
use Rattle.local_rules.specs.declared.role.Localized.TheVariants as localized
use Rattle.local_rules.specs.declared.role.Role.{Role}
use Rattle.local_rules.specs.declared.role.Role.TheVariants as role

-- How many scalar values a text in UTF-8 has: its bytes but for the continuations, from 128 to 191.
abbrev pub scalar_values : List ℕ → ℕ
scalar_values bytes = count_by (λ b. not (nat_le 128 b && nat_lt b 192)) bytes

-- The role is that of a localized text, or of one of its texts.
abbrev pub IsTextOf : Localized → Role → Type 0
IsTextOf which r = (r ≡ role.Localized which) ⊎ (r ≡ role.LocalizedText which)

-- A text of `displayName` has more than 64 scalar values (DTDL v2, "Interface").
abbrev pub LongDisplayName : Role → Json → Type 0
LongDisplayName r v = IsTextOf localized.DisplayName r × OfText (λ bytes. 64 < scalar_values bytes) v

-- A text of `description` has more than 512.
abbrev pub LongDescription : Role → Json → Type 0
LongDescription r v = IsTextOf localized.Description r × OfText (λ bytes. 512 < scalar_values bytes) v

-- `comment` has more than 512.
abbrev pub LongComment : Role → Json → Type 0
LongComment r v = (r ≡ role.Comment) × OfText (λ bytes. 512 < scalar_values bytes) v

-- The type of a command is neither `synchronous` nor `asynchronous`.
abbrev pub BadCommandType : Role → Json → Type 0
BadCommandType r v = (r ≡ role.CommandType) × (v ≢ text (codes "synchronous")) × (v ≢ text (codes "asynchronous"))

-- The unit is not of the name grammar. That units are checked by grammar alone is this project's own.
abbrev pub BadUnit : Role → Json → Type 0
BadUnit r v = (r ≡ role.Unit) × (IsNameValue v → ⊥)
