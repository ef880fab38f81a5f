use Rattle.std.proofs.Common.{◌<◌, length, sym, ap, ◌∙◌, subst}
use Rattle.extend_resolve.specs.Machinery.Links.{AreLinksWithin}
use Rattle.extend_resolve.proofs.Worlds.{world_within}
use Rattle.extend_resolve.proofs.Judging.{links_nodes}
use Rattle.extend_resolve.proofs.judge.Judge.reach.Goals as goal

pub closure-requires-clause-within : goal.closure-requires-clause-within
closure-requires-clause-within c = subst AreLinksWithin (sym c.as_slice.ensures.value) (world_within c.requires.judge.world)

pub closure-requires-clause-start : goal.closure-requires-clause-start
closure-requires-clause-start c =
    subst (λ n. c.args.number < n) (sym (ap length c.as_slice.ensures.value ∙ links_nodes c.args.self.now c.requires.judge)) c.requires.within
