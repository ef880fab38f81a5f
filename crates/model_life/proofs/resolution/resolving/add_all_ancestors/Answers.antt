use Rattle.std.proofs.Common.{sym, arith}
use Rattle.model_life.proofs.resolution.ByKey.{contains_map}
use Rattle.model_life.proofs.resolution.Families.{ten_at_most, more_ancestors, only_ancestors, all_ancestors}
use Rattle.model_life.proofs.resolution.resolving.add_all_ancestors.Goals as goal

pub add_ancestors-requires-clause-short : goal.add_ancestors-requires-clause-short
add_ancestors-requires-clause-short c =
    ten_at_most c.args.set.now c.requires.sound c.interface-item.result.now
    (c.requires.there c.interface-item.result.now (contains_map (λ x. x.now) c.args.interfaces.now c.interface-item.result (c.interfaces.interface-index, omega (arith, c.interfaces-test.true), sym c.interface-item.is)))

pub interfaces-preserved : goal.interfaces-preserved
interfaces-preserved c = record {
  family = c.in_ok-add_ancestors.ensures.grows.family;
  kept = λ a h. c.in_ok-add_ancestors.ensures.grows.kept a (c.interfaces.invariant.kept a h);
  more = more_ancestors c.args.set.now c.args.interfaces.now c.interfaces.interface-index c.interface-item.result (omega (arith, c.interfaces-test.true)) c.interface-item.is c.args.found.now c.interfaces.found c.add_ancestors.new.found c.in_ok-add_ancestors.ensures.grows c.in_ok-add_ancestors.ensures.here c.interfaces.invariant.more;
  only = only_ancestors c.args.set.now c.args.interfaces.now c.interfaces.interface-index c.interface-item.result (omega (arith, c.interfaces-test.true)) c.interface-item.is c.args.found.now c.interfaces.found c.add_ancestors.new.found c.in_ok-add_ancestors.ensures.grows c.interfaces.invariant.only;
}

pub returns : goal.returns
returns c =
    all_ancestors c.args.set.now c.args.interfaces.now c.interfaces.interface-index c.args.found.now c.interfaces.found (omega (arith, c.interfaces-test.false)) (omega arith) c.interfaces.invariant.kept c.interfaces.invariant.more c.interfaces.invariant.only
