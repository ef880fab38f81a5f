use Rattle.std.proofs.Common.{ap, ◌∙◌, arith}
use Rattle.extend_resolve.specs.Machinery.Numbers.{kept_at}
use Rattle.extend_resolve.specs.Machinery.Judges.{is_long_at}
use Rattle.extend_resolve.proofs.Members.{read_option}
use Rattle.extend_resolve.proofs.Judging.{chain_least, index_below, depths_nodes, depth_below}
use Rattle.extend_resolve.proofs.judge.Judge.judge_chain.Goals as goal

pub index-requires : goal.index-requires
index-requires c =
    let low = index_below c.args.self.now c.args.index c.args.uploaded.now c.requires.judging in
    let same = depths_nodes c.args.self.now c.requires.judging.judge in
    let ok = c.args.self.now.depths.ok in
    omega (arith, low, same, ok)

pub returns : goal.returns
returns c =
    chain_least c.args.self.now c.args.index c.args.uploaded.now c.requires.judging c.args.ancestors.now c.is_long-long.result c.found_where.result c.requires.behind
    (c.is_long-long.ensures
    ∙ ap (λ o. is_long_at c.index.result.now c.args.index o c.args.ancestors.now) c.requires.own
    ∙ ap (λ d. is_long_at d c.args.index (kept_at c.args.uploaded.now.interface.id c.args.self.now.world.numbers.entries) c.args.ancestors.now)
    (read_option c.args.self.now.depths.items c.args.index c.index.result.now (depth_below c.args.self.now c.args.index c.args.uploaded.now c.requires.judging) c.index.ensures))
    c.found_where.ensures
