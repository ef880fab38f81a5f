-- How the crate reads: byte by byte, by states. No public contract speaks of these words.
use Rattle.std.specs.Prelude.{◌≡◌, ℕ, ◌+◌, ◌-◌, ◌*◌, ◌<◌, ◌≤◌, Bool, true, false, ◌&&◌, ◌==◌, nat_lt, nat_le, if◌then◌else◌, Option, Some, None, List, [], ◌∷◌, length, take, MatchOption}
use Rattle.std.specs.Option.{option_and_then}
use Rattle.std.specs.Char.{is_ascii_alphabetic, is_ascii_alphanumeric, is_ascii_digit}
use Rattle.dt_base.specs.declared.names.walk.State.{State}
use Rattle.dt_base.specs.declared.names.walk.State.TheVariants.{NameStart, NameWord, NameUnderscore, WantD, WantT, WantM, WantI, WantColon, SegmentStart, SegmentWord, SegmentUnderscore, VersionStart, Version}
use Rattle.dt_base.specs.declared.names.walk.Outcome.{Outcome}
use Rattle.dt_base.specs.declared.names.fault.NameFault.{NameFault}
use Rattle.dt_base.specs.declared.names.fault.NameFault.TheVariants.{BadByte, BadVersion}
use Rattle.dt_base.specs.declared.names.walk.Outcome.TheVariants as outcome

abbrev pub when : Bool → State → Option State
when b p = if b then Some p else None

-- inside a name or a segment
abbrev pub inside_name : ℕ → State → State → Option State
inside_name c word underscore = if is_ascii_alphanumeric c then Some word else when (c == 95) underscore

-- the state behind one more byte
abbrev pub step : State → ℕ → Option State
step NameStart c = when (is_ascii_alphabetic c) NameWord
step NameWord c = inside_name c NameWord NameUnderscore
step NameUnderscore c = inside_name c NameWord NameUnderscore
step WantD c = when (c == 100) WantT
step WantT c = when (c == 116) WantM
step WantM c = when (c == 109) WantI
step WantI c = when (c == 105) WantColon
step WantColon c = when (c == 58) SegmentStart
step SegmentStart c = when (is_ascii_alphabetic c) SegmentWord
step SegmentWord c =
    if c == 58 then Some SegmentStart
    else (if c == 59 then Some VersionStart else inside_name c SegmentWord SegmentUnderscore)
step SegmentUnderscore c = inside_name c SegmentWord SegmentUnderscore
step VersionStart c = when (nat_le 49 c && nat_le c 57) (Version (c - 48))
step (Version n) c = when (is_ascii_digit c && nat_lt n 100000000) (Version (n * 10 + (c - 48)))

-- how many bytes a text needs at least from here on
abbrev pub need : State → ℕ
need NameStart = 1
need NameWord = 0
need NameUnderscore = 1
need WantD = 8
need WantT = 7
need WantM = 6
need WantI = 5
need WantColon = 4
need SegmentStart = 3
need SegmentWord = 2
need SegmentUnderscore = 3
need VersionStart = 1
need (Version _) = 0

-- a text may end here
abbrev pub ends : State → Bool
ends p = need p == 0

-- the version of a text that ends here
abbrev pub version_of : State → Option ℕ
version_of (Version v) = Some v
version_of _ = None

-- the `;` of a DTMI is behind
abbrev pub is_past_path : State → Bool
is_past_path VersionStart = true
is_past_path (Version _) = true
is_past_path _ = false

-- that state, if a text may end within so many bytes more
abbrev pub within : ℕ → Option State → Option State
within room o = option_and_then (λ p. when (nat_le (need p) room) p) o

-- the state behind some bytes
abbrev pub run : State → List ℕ → Option State
run p [] = Some p
run p (c ∷ cs) = option_and_then (λ t. run t cs) (step p c)

-- the bytes lead somewhere, and from there a text ends within the bound
abbrev pub Lives : State → ℕ → List ℕ → Type 0
Lives start bound bytes = MatchOption (run start bytes) ⊥ (λ p. length bytes + need p ≤ bound)

-- what a walk over the bytes tells
abbrev pub WalkTells : State → ℕ → List ℕ → Outcome → Type 0
WalkTells start bound bytes (outcome.Whole p) = (run start bytes ≡ Some p) × (length bytes + need p ≤ bound)
WalkTells start bound bytes (outcome.Wrong at p) =
    (at < length bytes) × (run start (take at bytes) ≡ Some p) × (Lives start bound (take (at + 1) bytes) → ⊥)
    × ((n : ℕ) → n < at → Lives start bound (take (n + 1) bytes))

-- the fault of a DTMI whose byte at `at` is wrong, behind this state
abbrev pub wrong_at : ℕ → State → NameFault
wrong_at at p = if is_past_path p then BadVersion else BadByte at
