-- What is proved of each state of reading. No public contract speaks of it.
use Rattle.std.specs.Prelude.{◌≡◌, ℕ, ◌+◌, ◌<◌, ◌↔◌, List, [], ◌∷◌, ◌++◌, length, take, Some}
use Rattle.json_tree.specs.Values.{Raw}
use Rattle.json_read.specs.Machinery.Automaton.{State, Move, dead, on, on_with, done, step, end, Outcome, wrong, cut, gives}
use Rattle.json_read.specs.Machinery.Remains.{Remains, Follows, IsCharacterRest}

-- What may remain from a byte on remains behind it in the state that follows, and the other way round.
abbrev pub Forward : State → Type 0
Forward s = (b : ℕ) (rest : List ℕ) (whole : Raw) → Remains s (b ∷ rest) whole → Follows (step s b) rest whole

abbrev pub Backward : State → Type 0
Backward s = (b : ℕ) (rest : List ℕ) (whole : Raw) → Follows (step s b) rest whole → Remains s (b ∷ rest) whole

-- The same where nothing remains.
abbrev pub EndsForward : State → Type 0
EndsForward s = (whole : Raw) → Remains s [] whole → end s ≡ Some whole

abbrev pub EndsBackward : State → Type 0
EndsBackward s = (whole : Raw) → end s ≡ Some whole → Remains s [] whole

-- The rest of a character behind a byte, by where that byte leads.
abbrev pub RestMoves : Move → List ℕ → List ℕ → List ℕ → Type 0
RestMoves dead from bytes to = ⊥
RestMoves (on p) from bytes to = IsCharacterRest p from bytes to
RestMoves (on_with b p) from bytes to = (rest : List ℕ) × (bytes ≡ b ∷ rest) × IsCharacterRest p from rest to
RestMoves (done these) from bytes to = (bytes ≡ these) × (from ≡ to)

-- Some bytes may remain in the state behind these.
abbrev pub GoesOn : State → List ℕ → Type 0
GoesOn s bytes = (more : List ℕ) × (whole : Raw) × Remains s (bytes ++ more) whole

-- What an outcome says of bytes that are read from a state on, the first at this position.
abbrev pub Says : State → ℕ → List ℕ → Outcome → Type 0
Says s at bytes (wrong n) = (i : ℕ) × (n ≡ at + i) × (i < length bytes) × (GoesOn s (take (i + 1) bytes) → ⊥)
    × ((j : ℕ) → j < i → GoesOn s (take (j + 1) bytes))
Says s at bytes cut = GoesOn s bytes × ((whole : Raw) → Remains s bytes whole → ⊥)
Says s at bytes (gives raw) = (whole : Raw) → Remains s bytes whole ↔ (raw ≡ whole)
