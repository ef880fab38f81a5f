use Rattle.std.proofs.Common.{◌≡◌, rules}
use Rattle.twin_patch.proofs.Parts.{only_one}
use Rattle.twin_patch.proofs.entry.is_only.Goals as goal

pub returns-then-eq : goal.returns-then-eq
returns-then-eq c =
    let same : c.in-Some.part.now ≡ c.args.name.now = search rules in
    only_one c.is_empty.result c.args.path.now c.in-Some.rest.now c.in-Some.part.now c.args.name.now c.in-Some.ensures.cases.0 same c.is_empty.ensures
