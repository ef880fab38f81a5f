-- What is found of the values of the fields of one name.
use Rattle.std.specs.Prelude.{◌≡◌, ℕ, Bool, true, false, List, [], ◌∷◌, Option, Some, None}
use Rattle.httparse.specs.declared.spans.Span.{Span}
use Rattle.httparse.specs.Spans.{span_bytes, IsWithin}
use Rattle.http_ends.specs.declared.fields.Found.{Found}
use Rattle.std.specs.Prelude.{length}

-- There is none, or the first stands there and is the only one, or others follow it.
abbrev pub FindsValue : List ℕ → Option Span → Bool → List (List ℕ) → Type 0
FindsValue bytes None again values = values ≡ []
FindsValue bytes (Some s) false values = IsWithin (length bytes) s × (values ≡ span_bytes bytes s ∷ [])
FindsValue bytes (Some s) true values = IsWithin (length bytes) s × ((other : List ℕ) × (others : List (List ℕ)) × (values ≡ span_bytes bytes s ∷ other ∷ others))

abbrev pub Finds : List ℕ → Found → List (List ℕ) → Type 0
Finds bytes found values = FindsValue bytes found.first found.again values
