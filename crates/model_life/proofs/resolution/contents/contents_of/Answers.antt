use Rattle.std.proofs.Common.{◌↔◌, map, sym, subst, arith}
use Rattle.std.specs.Prelude.{Contains}
use Rattle.dtdl_terms.specs.declared.resolved.ResolvedContent.{ResolvedContent}
use Rattle.model_life.specs.resolution.Machinery.Families.{IsDeclaredIn}
use Rattle.model_life.proofs.resolution.Declared.{one_of_first, declared_by_more, all_found}
use Rattle.model_life.proofs.resolution.Assembly.{if_ok_both}
use Rattle.model_life.proofs.resolution.contents.contents_of.Goals as goal

pub add_contents-requires : goal.add_contents-requires
add_contents-requires c = record {
  one = one_of_first c.args.interfaces.now c.interfaces.interface-index c.interface-item.result c.interfaces.contents (omega (arith, c.interfaces-test.true)) c.interface-item.is c.requires.one c.interfaces.invariant;
}

pub interfaces-preserved : goal.interfaces-preserved
interfaces-preserved c =
    declared_by_more c.args.interfaces.now c.interfaces.interface-index c.interface-item.result c.interfaces.contents c.add_contents.new.contents (omega (arith, c.interfaces-test.true)) c.interface-item.is c.interfaces.invariant c.in-Ok.ensures

pub returns-clause-each : goal.returns-clause-each
returns-clause-each c =
    if_ok_both c.copy-copies.result
    (λ rs is sorted.
    subst (λ xs. (r : ResolvedContent) → Contains xs r ↔ IsDeclaredIn (map (λ x. x.now) c.args.interfaces.now) r) (sym is)
    (all_found c.args.interfaces.now c.interfaces.interface-index c.interfaces.contents (omega (arith, c.interfaces-test.false)) (omega arith) sorted c.interfaces.invariant))
    c.copy-copies.ensures.each c.copy-copies.ensures.sorted
