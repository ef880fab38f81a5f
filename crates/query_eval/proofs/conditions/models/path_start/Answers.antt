use Rattle.std.proofs.Common.{◌∙◌, sym}
use Rattle.std.specs.Prelude.{IsSome}
use Rattle.std.proofs.Common.{subst}
use Rattle.query_eval.proofs.conditions.Starts.{start_found, end_found}
use Rattle.query_eval.proofs.conditions.models.path_start.Goals as goal

pub unwrap-end-requires : goal.unwrap-end-requires
unwrap-end-requires c = subst IsSome (sym c.end_of_path.ensures) (end_found c.args.id.now c.as_bytes-bytes.result.now c.as_str.ensures.own (c.as_bytes-bytes.ensures.value ∙ c.as_str.ensures.same))

pub returns : goal.returns
returns c = start_found c.args.id.now c.as_bytes-bytes.result.now c.unwrap-end.result c.as_str.ensures.own (c.as_bytes-bytes.ensures.value ∙ c.as_str.ensures.same) (sym c.end_of_path.ensures ∙ c.unwrap-end.ensures)
