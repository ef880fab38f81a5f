-- The parameters behind the `?` of a request's target, and the tokens of pages among them.
use Rattle.std.specs.Prelude.{◌≡◌, ℕ, List, [], ◌∷◌, Option, Some, None, codes, bytes_eq}
use Rattle.std.specs.List.{find}
use Rattle.std.specs.Option.{option_map}
use Rattle.std.specs.Str.Lossy.{utf8_lossy}
use Rattle.form_urlencoded.specs.Form.{decode, raw_pairs}
use Rattle.page_tokens.specs.Tokens.{IsPageToken}

-- The text that a name or a value of a form stands for (the URL Standard, section 5).
abbrev pub form_text : List ℕ → List ℕ
form_text bytes = utf8_lossy (decode bytes)

-- The value of the first parameter of this name.
abbrev pub parameter : List ℕ → List ℕ → Option (List ℕ)
parameter name query = option_map (λ p. form_text p.1) (find (λ p. bytes_eq (form_text p.0) name) (raw_pairs query))

abbrev pub name_asked : List ℕ → Option (List ℕ)
name_asked query = parameter (codes "relationshipName") query

abbrev pub token_given : List ℕ → Option (List ℕ)
token_given query = parameter (codes "continuationToken") query

-- A page of relationships out of a twin begins past this id: that of the token, where there is one.
abbrev pub BeginsPastId : Option (List ℕ) → Option (List ℕ) → Type 0
BeginsPastId None after = after ≡ None
BeginsPastId (Some token) after = (id : List ℕ) × IsPageToken token 1 (id ∷ []) × (after ≡ Some id)

-- A page of relationships into a twin begins past this source and id.
abbrev pub BeginsPastPair : Option (List ℕ) → Option (List ℕ × List ℕ) → Type 0
BeginsPastPair None after = after ≡ None
BeginsPastPair (Some token) after = (source id : List ℕ) × IsPageToken token 2 (source ∷ id ∷ []) × (after ≡ Some (source, id))
