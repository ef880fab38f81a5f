use Rattle.std.proofs.Common.{rules}
use Rattle.std.proofs.lemmas.List.Sorted.{IsPartitionPoint-from_clause}
use Rattle.query_eval.specs.conditions.Machinery.Starts.{is_before_start}
use Rattle.query_eval.proofs.conditions.Starts.{before_parted}
use Rattle.query_eval.proofs.conditions.models.first_from.Goals as goal

pub returns-clause-parted : goal.returns-clause-parted
returns-clause-parted c =
    IsPartitionPoint-from_clause (is_before_start c.args.start.now) _ _ c.partition_point.ensures.partitioned (before_parted c.args.start.now c.args.ids.now c.requires.ascending) (λ a r q k. search rules)
