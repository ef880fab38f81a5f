-- The names of the primitive schemas.
use Rattle.std.specs.Prelude.{ℕ, List, codes}
use Rattle.dtdl_terms.specs.declared.primitive.Primitive.{Primitive}
use Rattle.dtdl_terms.specs.declared.primitive.Primitive.TheVariants as primitives

-- DTDL v2, "Primitive schemas".
abbrev pub primitive_name : Primitive → List ℕ
primitive_name primitives.Boolean = codes "boolean"
primitive_name primitives.Date = codes "date"
primitive_name primitives.DateTime = codes "dateTime"
primitive_name primitives.Double = codes "double"
primitive_name primitives.Duration = codes "duration"
primitive_name primitives.Float = codes "float"
primitive_name primitives.Integer = codes "integer"
primitive_name primitives.Long = codes "long"
primitive_name primitives.Str = codes "string"
primitive_name primitives.Time = codes "time"
