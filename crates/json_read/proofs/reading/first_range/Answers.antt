use Rattle.std.specs.Option.{option_map}
use Rattle.json_read.proofs.Ranges.{way_kept}
use Rattle.json_read.proofs.reading.first_range.Goals as goal

pub returns-in-None : goal.returns-in-None
returns-in-None c = rw c.in-None.is (way_kept (option_map (λ v. v.items) c.args.before) c.args.position)
