-- How the gathering of documents ends.
use Rattle.std.specs.Prelude.{◌≡◌, ℕ, ◌<◌, ◌≤◌, List, length, map, Option, Some, None, Result, Ok, Err}
use Rattle.dtdl_cmd.specs.Documents.{HasUnder, IsMissing, AreTooLong, MAX_BYTES, documents_bytes}
use Rattle.dtdl_cmd.specs.declared.inputs.NoDocuments.{NoDocuments}
use Rattle.dtdl_cmd.specs.declared.inputs.NoDocuments.TheVariants as ends

-- What is found has `Found`, and a read failed only where `Fails`.
abbrev pub AreDocumentsGathered : (List (Option (List ℕ)) → Type 0) → Type 0 → Result (List (List ℕ)) NoDocuments → Type 0
AreDocumentsGathered Found Fails (Ok documents) = Found (map Some documents) × (documents_bytes documents ≤ MAX_BYTES)
AreDocumentsGathered Found Fails (Err (ends.Missing number)) = (found : List (Option (List ℕ))) × Found found × IsMissing found number
AreDocumentsGathered Found Fails (Err (ends.TooLong number)) = (found : List (Option (List ℕ))) × Found found × AreTooLong found number
AreDocumentsGathered Found Fails (Err ends.ReadFault) = Fails
AreDocumentsGathered Found Fails (Err ends.OutOfMemory) = Unit {0}

-- What was fetched under one name, as the document of a number, with so much room left.
abbrev pub IsFetched : Option (List (List ℕ × List ℕ)) → List ℕ → ℕ → ℕ → Type 0 → Result (List ℕ) NoDocuments → Type 0
IsFetched files name number room Fails (Ok bytes) = HasUnder files name (Some bytes) × (length bytes ≤ room)
IsFetched files name number room Fails (Err (ends.Missing n)) = (n ≡ number) × HasUnder files name None
IsFetched files name number room Fails (Err (ends.TooLong n)) = (n ≡ number) × ((bytes : List ℕ) × HasUnder files name (Some bytes) × (room < length bytes))
IsFetched files name number room Fails (Err ends.ReadFault) = Fails
IsFetched files name number room Fails (Err ends.OutOfMemory) = Unit {0}
