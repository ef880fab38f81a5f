-- The names of the limits.
use Rattle.std.specs.Prelude.{ℕ, List, codes}
use Rattle.dtdl_terms.specs.declared.limit.Limit.{Limit}
use Rattle.dtdl_terms.specs.declared.limit.Limit.TheVariants as limits

abbrev pub limit_code : Limit → List ℕ
limit_code limits.Models = codes "models"
limit_code limits.ModelBytes = codes "modelBytes"
limit_code limits.ResolvedBytes = codes "resolvedBytes"
limit_code limits.TwinBytes = codes "twinBytes"
limit_code limits.RelationshipBytes = codes "relationshipBytes"
limit_code limits.Twins = codes "twins"
limit_code limits.Relationships = codes "relationships"
limit_code limits.GraphBytes = codes "graphBytes"
