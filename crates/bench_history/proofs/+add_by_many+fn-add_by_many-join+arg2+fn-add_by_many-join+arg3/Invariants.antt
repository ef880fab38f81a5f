use Rattle.std.proofs.Common.{◌+◌, ◌*◌}
use Rattle.bench_history.proofs.+add_by_many+fn-add_by_many-join+arg2+fn-add_by_many-join+arg3.Given as goal

abbrev pub decreases-add_by_many : goal.decreases-add_by_many
decreases-add_by_many g l = 2 * l.threads + 1

abbrev pub decreases-join+arg2 : goal.decreases-join+arg2
decreases-join+arg2 g l = 2 * l.rest + 2

abbrev pub decreases-join+arg3 : goal.decreases-join+arg3
decreases-join+arg3 g l = 2 * l.half + 2
