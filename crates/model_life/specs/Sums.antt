-- How many bytes the canonical texts of models take, and those of all that they resolve to.
use Rattle.std.specs.Prelude.{◌≡◌, ℕ, ◌+◌, ◌≤◌, List, length, Option, Some, None, Contains}
use Rattle.std.specs.List.{sum_by}
use Rattle.dt_base.specs.names.Grammar.{Identifier}
use Rattle.dtdl_terms.specs.Sets.{interface_at}
use Rattle.dtdl_terms.specs.declared.interface.Interface.{Interface}
use Rattle.dtdl_terms.specs.declared.resolved.Resolved.{Resolved}
use Rattle.model_life.specs.resolution.Resolving.{HasPart, IsResolved}
use Rattle.canon_text.specs.Canonical.{interface_text}
use Rattle.model_life.specs.Models.{Model, interfaces_of}

-- the bytes of the canonical text of an interface
unfoldable pub text_bytes : Interface → ℕ
text_bytes i = length (interface_text i)

-- of those of all models together
abbrev pub model_bytes : List Model → ℕ
model_bytes ms = sum_by (λ m. text_bytes m.interface) ms

-- of those of the interfaces with these identifiers
abbrev pub bytes_in : Option Interface → ℕ
bytes_in None = 0
bytes_in (Some i) = text_bytes i

abbrev pub bytes_of : List Interface → List Identifier → ℕ
bytes_of set ids = sum_by (λ id. bytes_in (interface_at id set)) ids

-- The texts of an interface and of all its ancestors take so many bytes.
abbrev pub LineTakes : List Interface → Interface → ℕ → Type 0
LineTakes set i bytes = (r : Resolved) × IsResolved set i r × (bytes_of set r.ancestors ≡ bytes)

-- So do the texts of its ancestors, itself included, and those of the ancestors of each interface that a component names,
-- inherited components included: an interface that two components name counts once, and an ancestor of two such interfaces
-- anew for each.
pub record ResolvedTakes (set : List Interface) (i : Interface) (bytes : ℕ) : Type 0 where
  pub resolved : Resolved
  pub is : IsResolved set i resolved
  pub line_of : Identifier → ℕ
  pub lines : (q : Interface) → HasPart set i q → LineTakes set q (line_of q.id)
  pub sum : bytes_of set resolved.ancestors + sum_by (λ part. line_of part.of) resolved.parts ≡ bytes

-- the sum of these over all interfaces of a set
pub record AllTake (set : List Interface) (bytes : ℕ) : Type 0 where
  pub bytes_for : Interface → ℕ
  pub each : (i : Interface) → Contains set i → ResolvedTakes set i (bytes_for i)
  pub sum : sum_by bytes_for set ≡ bytes

-- ---- the limits on models
-- at most 10,000 models, 67,108,864 bytes of their texts and 268,435,456 bytes of all that they resolve to
pub record AreWithinLimits (ms : List Model) : Type 0 where
  pub models : length ms ≤ 10000
  pub bytes : model_bytes ms ≤ 67108864
  pub resolved : (n : ℕ) × AllTake (interfaces_of ms) n × (n ≤ 268435456)
