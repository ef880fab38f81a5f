use Rattle.std.proofs.Common.{◌↔◌, sym, subst}
use Rattle.std.specs.Prelude.{Contains}
use Rattle.dtdl_terms.specs.declared.interface.Interface.{Interface}
use Rattle.extend_resolve.specs.Chains.{IsAncestor}
use Rattle.model_life.proofs.resolution.Declared.{one_content}
use Rattle.model_life.proofs.resolution.Assembly.{seen, one_declared, lists_contents}
use Rattle.model_life.proofs.resolution.resolving.part_of.Goals as goal

pub contents_of-contents-requires : goal.contents_of-contents-requires
contents_of-contents-requires c = record {
  one = one_declared c.args.set.now c.args.part.now (seen c.as_slice.result.now)
      (subst (λ xs. (a : Interface) → Contains (seen xs) a ↔ IsAncestor c.args.set.now c.args.part.now a) (sym c.as_slice.ensures.value) c.in-Ok.ensures.each)
      (one_content c.args.set.now c.requires.sound c.requires.declared c.args.part.now c.requires.there);
}

pub returns : goal.returns
returns c = (
  c.in_ok-of.ensures,
  lists_contents c.args.set.now c.args.part.now (seen c.as_slice.result.now)
      (subst (λ xs. (a : Interface) → Contains (seen xs) a ↔ IsAncestor c.args.set.now c.args.part.now a) (sym c.as_slice.ensures.value) c.in-Ok.ensures.each)
      c.in-Ok-contents.contents c.in-Ok-contents.ensures.each c.in-Ok-contents.ensures.sorted,
)
