-- The lines of a head that is written.
use Rattle.std.specs.Prelude.{ℕ, List, [], ◌∷◌, ◌++◌, codes}

-- A field line (RFC 9112, section 5).
abbrev pub field_line : List ℕ → List ℕ → List ℕ
field_line name value = name ++ codes ": " ++ value ++ codes "\r\n"

-- The lines of fields, each a name and a value.
abbrev pub fields_text : List (List ℕ × List ℕ) → List ℕ
fields_text [] = []
fields_text (field ∷ fields) = field_line field.0 field.1 ++ fields_text fields
