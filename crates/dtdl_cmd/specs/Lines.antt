-- The lines that commands print in place of what was asked for, beside those that name a fault. Documents are counted from 1.
use Rattle.std.specs.Prelude.{ℕ, List, [], ◌∷◌, ◌++◌, codes}
use Rattle.std.specs.Fmt.{decimal}

abbrev pub usage_line : List ℕ
usage_line = codes "usage: dtdl check [NAME..] | canon [NAME..] | replay | make N | serve PORT WORKERS EACH | ask HOST PORT METHOD PATH" ++ 10 ∷ []

abbrev pub missing_line : ℕ → List ℕ
missing_line number = codes "missing " ++ (decimal number ++ 10 ∷ [])

abbrev pub too_long_line : ℕ → List ℕ
too_long_line number = codes "too long " ++ (decimal number ++ 10 ∷ [])

abbrev pub too_long_text_line : List ℕ
too_long_text_line = codes "too long canon" ++ 10 ∷ []

abbrev pub accepted_line : ℕ → List ℕ
accepted_line count = codes "accepted " ++ (decimal count ++ 10 ∷ [])

-- The body of an ask is the one document that it reads.
abbrev pub too_long_body_line : List ℕ
too_long_body_line = codes "too long 1" ++ 10 ∷ []
