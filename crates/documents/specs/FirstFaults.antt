-- The first fault of a list of documents, and what documents without faults declare.
use Rattle.std.specs.Prelude.{◌≡◌, ℕ, ◌+◌, ◌⊎◌, List, [], ◌∷◌, ◌++◌}
use Rattle.std.specs.List.{AllByRecursion, AllZip}
use Rattle.json_tree.specs.Values.{Json}
use Rattle.json_tree.specs.Grammar.{Spells}
use Rattle.local_rules.specs.Breaches.{BreaksNoLocalRule}
use Rattle.dtdl_terms.specs.declared.uploaded.Uploaded.{Uploaded}
use Rattle.model_read.specs.Uploads.{AreUploaded}
use Rattle.extend_resolve.specs.Breaches.{IsSound}
use Rattle.documents.specs.Lines.{IsBreachLine, IsJsonFaultLine, IsSetBreachLine}

-- The bytes are a JSON text.
abbrev pub IsJson : List ℕ → Type 0
IsJson bytes = (v : Json) × Spells bytes v

-- The line is that of the first of the documents that has one; those before it pass. The first of them has this number.
abbrev pub FirstOf : {A : Type 0} → (A → Type 0) → (ℕ → A → List ℕ → Type 0) → ℕ → List A → List ℕ → Type 0
FirstOf Passes HasLine number [] line = ⊥
FirstOf Passes HasLine number (x ∷ xs) line = HasLine number x line ⊎ (Passes x × FirstOf Passes HasLine (number + 1) xs line)

-- The interfaces of all documents in order, of which the first has this number.
abbrev pub AllUploaded : ℕ → List Json → List Uploaded → Type 0
AllUploaded number [] uploads = uploads ≡ []
AllUploaded number (v ∷ vs) uploads = (first rest : List Uploaded) × AreUploaded v number first × AllUploaded (number + 1) vs rest
    × (uploads ≡ first ++ rest)

-- ---- the first fault, by phase, document, place and rule
-- The documents before are JSON texts, and this one is none.
abbrev pub HasJsonFault : List (List ℕ) → List ℕ → Type 0
HasJsonFault documents line = FirstOf IsJson IsJsonFaultLine 1 documents line

-- The documents before break no local rule, and this one does.
abbrev pub HasLocalFault : List Json → List ℕ → Type 0
HasLocalFault values line = FirstOf BreaksNoLocalRule IsBreachLine 1 values line

-- No document breaks a local rule, and the interfaces of all together break a rule on sets.
abbrev pub HasSetFault : List Json → List ℕ → Type 0
HasSetFault values line = (uploads : List Uploaded) × AllByRecursion BreaksNoLocalRule values × AllUploaded 1 values uploads × IsSetBreachLine uploads line

-- The line names the first fault of the documents: the faults of JSON texts come first, then the local rules, then the
-- rules on sets.
abbrev pub HasFirstFault : List (List ℕ) → List ℕ → Type 0
HasFirstFault documents line = HasJsonFault documents line
    ⊎ ((values : List Json) × AllZip Spells documents values × (HasLocalFault values line ⊎ HasSetFault values line))

-- The documents have no fault, and their interfaces in order are these.
pub record Declare (documents : List (List ℕ)) (uploads : List Uploaded) : Type 0 where
  pub values : List Json
  pub spelled : AllZip Spells documents values
  pub unbroken : AllByRecursion BreaksNoLocalRule values
  pub uploaded : AllUploaded 1 values uploads
  pub sound : IsSound [] uploads
