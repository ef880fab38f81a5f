-- Where the bytes of a text lie.
use Rattle.std.specs.Prelude.{ℕ, List, string_bytes}
use Rattle.dt_base.specs.declared.text.Held.{Held}
use Rattle.dt_base.specs.declared.text.Held.TheVariants.{InPlace, Apart}

-- The bytes of a text.
abbrev pub held_bytes : Held → List ℕ
held_bytes (InPlace short) = short
held_bytes (Apart string) = string_bytes string
