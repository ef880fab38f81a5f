-- The documents of a run: what is found of each, which of them are there, and what ends them.
use Rattle.std.specs.Prelude.{◌≡◌, ℕ, ◌+◌, ◌<◌, ◌≤◌, ◌⊎◌, List, [], ◌∷◌, ◌++◌, length, map, Option, Some, None, IfSome}
use Rattle.std.specs.List.{AllZip, sum_by}
use Rattle.std.specs.Io.KnownBytes.{Consumes, IsAtEnd}
use Rattle.dt_base.specs.Files.{file_named}

-- The most bytes that the documents of one run may have together, and that a canonical text may have.
abbrev pub MAX_BYTES : ℕ
MAX_BYTES = 16777216

abbrev pub documents_bytes : List (List ℕ) → ℕ
documents_bytes documents = sum_by length documents

-- ---- what is found: the bytes of each document, and None where a name has none
-- All documents are there, within the limit.
abbrev pub AreAllFound : List (Option (List ℕ)) → List (List ℕ) → Type 0
AreAllFound found documents = (found ≡ map Some documents) × (documents_bytes documents ≤ MAX_BYTES)

-- The document of this number, counted from 1, is missing, and those before it are there within the limit.
abbrev pub IsMissing : List (Option (List ℕ)) → ℕ → Type 0
IsMissing found number = (before : List (List ℕ)) × (after : List (Option (List ℕ)))
    × (found ≡ map Some before ++ None ∷ after) × (documents_bytes before ≤ MAX_BYTES) × (number ≡ length before + 1)

-- With the document of this number the sum first passes the limit.
abbrev pub AreTooLong : List (Option (List ℕ)) → ℕ → Type 0
AreTooLong found number = (before : List (List ℕ)) × (bytes : List ℕ) × (after : List (Option (List ℕ)))
    × (found ≡ map Some before ++ Some bytes ∷ after) × (documents_bytes before ≤ MAX_BYTES) × (MAX_BYTES < documents_bytes before + length bytes) × (number ≡ length before + 1)

-- ---- where it is found
-- What is known of a source or a sink before and after a run: the bytes that it tells, and its count of faults.
pub record StreamChange : Type 0 where
  pub before : Option (List ℕ)
  pub after : Option (List ℕ)
  pub faults_before : ℕ
  pub faults_after : ℕ

-- What is known of a shelf before and after a run: the files that it tells, and its count of faults.
pub record ShelfChange : Type 0 where
  pub before : Option (List (List ℕ × List ℕ))
  pub after : Option (List (List ℕ × List ℕ))
  pub faults_before : ℕ
  pub faults_after : ℕ

-- The source held these bytes: it was read to its end, or held more than one run may read.
abbrev pub Held : StreamChange → List ℕ → Type 0
Held source bytes = (Consumes source.before source.after bytes × IsAtEnd source.after)
    ⊎ ((MAX_BYTES < length bytes) × IfSome source.before (λ all. bytes ≡ all))

-- The files have this document under a name, or none, as far as they are told.
abbrev pub HasUnder : Option (List (List ℕ × List ℕ)) → List ℕ → Option (List ℕ) → Type 0
HasUnder files name document = IfSome files (λ fs. file_named fs name ≡ document)

-- Without names the one document is what the source held; with names the documents are the files in their order.
abbrev pub AreFound : StreamChange → ShelfChange → List (List ℕ) → List (Option (List ℕ)) → Type 0
AreFound source shelf [] found = (bytes : List ℕ) × (found ≡ Some bytes ∷ []) × Held source bytes
AreFound source shelf (name ∷ names) found = AllZip (HasUnder shelf.before) (name ∷ names) found

-- What a source and a shelf that tell what they hold have for these names.
abbrev pub documents_of : List ℕ → List (List ℕ × List ℕ) → List (List ℕ) → List (Option (List ℕ))
documents_of all files [] = Some all ∷ []
documents_of all files (name ∷ names) = map (file_named files) (name ∷ names)
