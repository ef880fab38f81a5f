-- Conditions that were printed in part.
use Rattle.std.specs.Prelude.{ℕ, ◌+◌, ◌*◌, List, [], ◌∷◌, ◌++◌}
use Rattle.query_terms.specs.Conditions.{condition}
use Rattle.query_terms.specs.Machinery.Weights.{weight}
use Rattle.query_text.specs.declared.pieces.Piece.{Piece}
use Rattle.query_text.specs.declared.pieces.Piece.TheVariants as variants
use Rattle.query_text.specs.Printed.{condition_text}

abbrev pub piece_text : Piece → List ℕ
piece_text (variants.Words words) = words.now
piece_text (variants.Whole cond least) = condition_text least (condition cond.now)

-- what is still to be printed, where the last piece comes first
abbrev pub pending : List Piece → List ℕ
pending [] = []
pending (piece ∷ rest) = pending rest ++ piece_text piece

-- how much is left to do for a piece
abbrev pub piece_load : Piece → ℕ
piece_load (variants.Words words) = 1
piece_load (variants.Whole cond least) = 4 * weight cond.now

abbrev pub load : List Piece → ℕ
load [] = 0
load (piece ∷ rest) = piece_load piece + load rest
