use Rattle.local_rules.proofs.Compared.{repeats_here}
use Rattle.local_rules.proofs.repeated.repeats_one.Goals as goal

pub returns-in-Some : goal.returns-in-Some
returns-in-Some c =
    let here = repeats_here c.args.comparison c.args.entries.now c.args.at c.index-entries-at.result c.requires c.index-entries-at.is in
    rw (here, ← c.in-Some.ensures) c.any_has_key.ensures

pub returns-in-None : goal.returns-in-None
returns-in-None c =
    let here = repeats_here c.args.comparison c.args.entries.now c.args.at c.index-entries-at.result c.requires c.index-entries-at.is in
    rw (here, ← c.in-None.ensures)
