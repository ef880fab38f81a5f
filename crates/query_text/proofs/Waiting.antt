-- Conditions that are printed piece by piece.
use Rattle.std.proofs.Common.{◌≡◌, ◌+◌, List, [], ◌∷◌, ◌++◌, append_assoc, sym, ap, ◌∙◌, arith}
use Rattle.std.proofs.lemmas.List.{append-nil}
use Rattle.query_text.specs.declared.pieces.Piece.{Piece}
use Rattle.query_text.specs.Machinery.Pieces.{piece_text, piece_load, pending, load}

pub pending_push : (pieces : List Piece) (piece : Piece) → pending (pieces ++ piece ∷ []) ≡ piece_text piece ++ pending pieces
pending_push [] piece = sym (append-nil (piece_text piece))
pending_push (first ∷ pieces) piece =
    ap (λ l. l ++ piece_text first) (pending_push pieces piece)
    ∙ append_assoc (piece_text piece) (pending pieces) (piece_text first)

pub load_push : (pieces : List Piece) (piece : Piece) → load (pieces ++ piece ∷ []) ≡ load pieces + piece_load piece
load_push [] piece = omega arith
load_push (first ∷ pieces) piece = let rest = load_push pieces piece in omega (arith, rest)
