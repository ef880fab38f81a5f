use Rattle.std.proofs.Common.{take}
use Rattle.std.specs.List.{AllByRecursion}
use Rattle.dtdl_terms.specs.TermViews.{schema_term}
use Rattle.canon_text.specs.Identified.{SchemaIsIdentified}
use Rattle.canon_text.proofs.own_ids.of_schemas.Given as goal

abbrev pub invariant-loop-schema : goal.invariant-loop-schema
invariant-loop-schema l = AllByRecursion (λ s. SchemaIsIdentified (schema_term s)) (take l.schema-index l.schemas)
