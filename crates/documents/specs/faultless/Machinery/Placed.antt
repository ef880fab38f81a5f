-- The interfaces of the elements of an array of which more may follow.
use Rattle.std.specs.Prelude.{◌≡◌, ◌≢◌, ℕ, ◌+◌, ◌<◌, ◌≤◌, List, [], ◌∷◌, ◌++◌, Some, decimal, length, slice_index}
use Rattle.std.specs.List.{AllByRecursion, AllZip, enumerate_from}
use Rattle.json_decimal.specs.Number.{Number}
use Rattle.json_tree.specs.Values.{Json, array, Elements, elements_of}
use Rattle.json_tree.specs.Places.{element_at}
use Rattle.json_tree.specs.Grammar.{Spells}
use Rattle.local_rules.specs.Breaches.{BreaksNoLocalRule, IsBroken}
use Rattle.local_rules.specs.declared.rule.LocalRule.{LocalRule}
use Rattle.dtdl_terms.specs.declared.uploaded.Uploaded.{Uploaded}
use Rattle.model_read.specs.Uploads.{AreUploaded, IsUploadedAt}
use Rattle.documents.specs.batches.Batches.{batch_text, rest_text}

-- The interface as that at this position of its document, which is a list.
abbrev pub standing_at : ℕ → Uploaded → Uploaded
standing_at index u = record {
  interface = u.interface;
  document = u.document;
  base = 47 ∷ decimal index;
  index = index;
  id_at = u.id_at;
  parents_at = u.parents_at;
  parents_as_text = u.parents_as_text;
  contents_at = u.contents_at;
}

-- The interfaces as those at successive positions, of which this is the first.
abbrev pub numbered : ℕ → List Uploaded → List Uploaded
numbered first [] = []
numbered first (u ∷ us) = standing_at first u ∷ numbered (first + 1) us

-- No local rule is broken at any place of the element.
abbrev pub IsUnbrokenElement : Json → Type 0
IsUnbrokenElement v = (place : List ℕ) (broken : LocalRule) → IsBroken v place broken → ⊥

-- In whatever array the value stands at its position, it declares this interface.
abbrev pub IsPlaced : ℕ → ℕ × Json → Uploaded → Type 0
IsPlaced nth e u = (whole : Elements Number) → element_at whole e.0 ≡ Some e.1 → IsUploadedAt (array whole) nth e u

-- The value breaks no local rule, and declares these interfaces as the nth document.
abbrev pub DeclaresUploads : Json → ℕ → List Uploaded → Type 0
DeclaresUploads v nth uploads = BreaksNoLocalRule v × AreUploaded v nth uploads

-- The bytes are the text of an array that has these elements, some, and no fault, and that declares these interfaces.
pub record IsBatch (bytes : List ℕ) (nth : ℕ) (vs : List Json) (uploads : List Uploaded) : Type 0 where
  pub some : vs ≢ []
  pub spelled : Spells bytes (array (elements_of vs))
  pub unbroken : BreaksNoLocalRule (array (elements_of vs))
  pub declares : AreUploaded (array (elements_of vs)) nth uploads

-- The text between two positions, of which the later one is that of a comma or the end, is such a text of an array.
pub record IsNextBatch (bytes : List ℕ) (nth at end : ℕ) (uploads : List Uploaded) : Type 0 where
  pub forward : at ≤ end
  pub within : end ≤ length bytes
  pub comma : end < length bytes → slice_index bytes end ≡ 44
  pub read : (vs : List Json) × IsBatch (batch_text bytes at end) nth vs uploads

-- These elements, the first ones of a document, break no rule and declare these interfaces.
pub record AreReadElements (nth : ℕ) (vs : List Json) (uploads : List Uploaded) : Type 0 where
  pub unbroken : AllByRecursion IsUnbrokenElement vs
  pub placed : AllZip (IsPlaced nth) (enumerate_from 0 vs) uploads

-- The elements before this position are these: with those from there on, where there are some, they are those of the whole array.
abbrev pub AreBefore : List ℕ → ℕ → List Json → Type 0
AreBefore bytes at vs = (ws : List Json) → ws ≢ [] → Spells (rest_text bytes at) (array (elements_of ws)) → Spells bytes (array (elements_of (vs ++ ws)))
