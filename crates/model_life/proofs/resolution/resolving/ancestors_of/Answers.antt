use Rattle.model_life.proofs.resolution.Families.{ten_at_most, ancestors_are}
use Rattle.model_life.proofs.resolution.resolving.ancestors_of.Goals as goal

pub add_ancestors-requires-clause-short : goal.add_ancestors-requires-clause-short
add_ancestors-requires-clause-short c = ten_at_most c.args.set.now c.requires.sound c.args.interface.now c.requires.there

pub returns-clause-each : goal.returns-clause-each
returns-clause-each c =
    ancestors_are c.args.set.now c.args.interface.now c.new-found.result c.add_ancestors.new.found c.new-found.ensures c.in_ok-add_ancestors.ensures.grows c.in_ok-add_ancestors.ensures.here
