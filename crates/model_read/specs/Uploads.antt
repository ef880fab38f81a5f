-- The interfaces of a document with where each stands in it.
use Rattle.std.specs.List.{AllZip, enumerate_from}
use Rattle.std.specs.Prelude.{◌≡◌, ℕ, ◌<◌, ◌↔◌, List, [], ◌∷◌, Option, Some, None, IsTrue, codes}
use Rattle.json_decimal.specs.Number.{Number}
use Rattle.json_tree.specs.Values.{Json, null, truth, number, text, array, object, Members}
use Rattle.json_tree.specs.Places.{member_at}
use Rattle.json_tree.specs.Pointers.{IsPointerOf}
use Rattle.dtdl_terms.specs.declared.uploaded.Uploaded.{Uploaded}
use Rattle.json_tree.specs.Members.{list_of, value_at}
use Rattle.local_rules.specs.Declarations.{DeclaresInterface}

-- No member before this position has the key.
abbrev pub IsNew : List ℕ → Members Number → ℕ → Type 0
IsNew key ms at = (j : ℕ) (w : Json) → j < at → member_at ms j ≡ Some (key, w) → ⊥

-- The ordinal of the first member with this key; None where there is none.
abbrev pub HasOrdinal : List ℕ → Members Number → Option ℕ → Type 0
HasOrdinal key ms None = value_at key ms ≡ None
HasOrdinal key ms (Some at) = (v : Json) × (member_at ms at ≡ Some (key, v)) × (value_at key ms ≡ Some v) × IsNew key ms at

-- The value, at this position of the nth document, declares this interface with its place in the document.
pub record IsUploaded (whole : Json) (place : List ℕ) (at nth : ℕ) (v : Json) (u : Uploaded) : Type 0 where
  pub members : Members Number
  pub is : v ≡ object members
  pub declares : DeclaresInterface members u.interface
  pub document : u.document ≡ nth
  pub base : IsPointerOf whole place u.base
  pub index : u.index ≡ at
  pub id_at : HasOrdinal (codes "@id") members (Some u.id_at)
  pub parents_at : HasOrdinal (codes "extends") members u.parents_at
  pub parents_as_text : IsTrue u.parents_as_text ↔ ((bytes : List ℕ) × (value_at (codes "extends") members ≡ Some (text bytes)))
  pub contents_at : HasOrdinal (codes "contents") members u.contents_at

-- The element of a document that is a list, beside its position.
abbrev pub IsUploadedAt : Json → ℕ → ℕ × Json → Uploaded → Type 0
IsUploadedAt whole nth e u = IsUploaded whole (e.0 ∷ []) e.0 nth e.1 u

-- The interfaces of the nth document, in their order.
abbrev pub AreUploaded : Json → ℕ → List Uploaded → Type 0
AreUploaded null nth us = ⊥
AreUploaded (truth b) nth us = ⊥
AreUploaded (number n) nth us = ⊥
AreUploaded (text bytes) nth us = ⊥
AreUploaded (array vs) nth us = AllZip (IsUploadedAt (array vs) nth) (enumerate_from 0 (list_of vs)) us
AreUploaded (object ms) nth us = (u : Uploaded) × (us ≡ u ∷ []) × IsUploaded (object ms) [] 0 nth (object ms) u
