-- Documents judged one by one, before the rules on sets.
use Rattle.std.specs.Prelude.{ℕ, ◌⊎◌, List}
use Rattle.std.specs.List.{AllByRecursion, AllZip}
use Rattle.json_tree.specs.Values.{Json}
use Rattle.json_tree.specs.Grammar.{Spells}
use Rattle.local_rules.specs.Breaches.{BreaksNoLocalRule}
use Rattle.dtdl_terms.specs.declared.uploaded.Uploaded.{Uploaded}
use Rattle.documents.specs.FirstFaults.{AllUploaded, HasJsonFault, HasLocalFault}

-- The documents, of which the first has this number, have no fault but perhaps one of the rules on sets, and these are their
-- interfaces in order.
abbrev pub AreFaultless : ℕ → List (List ℕ) → List Uploaded → Type 0
AreFaultless number documents uploads = (values : List Json) × AllZip Spells documents values × AllByRecursion BreaksNoLocalRule values
    × AllUploaded number values uploads

-- The first of these two: a document is no JSON text, or one breaks a local rule.
abbrev pub HasDocumentFault : List (List ℕ) → List ℕ → Type 0
HasDocumentFault documents line = HasJsonFault documents line
    ⊎ ((values : List Json) × AllZip Spells documents values × HasLocalFault values line)
