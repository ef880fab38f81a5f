-- Values beside their names.
use Rattle.std.specs.Prelude.{◌≡◌, ℕ, List, [], ◌∷◌, ◌++◌, Option}
use Rattle.std.specs.Borrow.{Bor}
use Rattle.json_tree.specs.Values.{Json}
use Rattle.dtdl_terms.specs.TermViews.{payload_term, content_term}
use Rattle.dtdl_terms.specs.declared.schema.Payload.{Payload}
use Rattle.dtdl_terms.specs.declared.content.Content.{Content}
use Rattle.dtdl_terms.specs.declared.interface.Interface.{Interface}
use Rattle.canon_text.specs.Objects.{present}
use Rattle.canon_text.specs.Canonical.{payload_value, content_value, interface_pair}

abbrev pub pair_name : List ℕ × Json → List ℕ
pair_name m = m.0

abbrev pub pair_value : List ℕ × Json → Json
pair_value m = m.1

abbrev pub payload_named : Payload → List ℕ × Json
payload_named p = (p.name, payload_value (payload_term p))

abbrev pub content_named : Content → List ℕ × Json
content_named c = (c.name, content_value (content_term c))

-- an interface where it is
abbrev pub pair_at : Bor Interface → List ℕ × Json
pair_at i = interface_pair i.now

-- Members to which one was added, where it has a value.
abbrev pub IsPut : List (List ℕ × Json) → List (List ℕ × Json) → List ℕ → Option Json → Type 0
IsPut before now key v = (parts : List (List ℕ × Option Json)) → before ≡ present parts → now ≡ present (parts ++ (key, v) ∷ [])
