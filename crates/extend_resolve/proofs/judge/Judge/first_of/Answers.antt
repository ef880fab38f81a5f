use Rattle.std.proofs.Common.{sym, ap, ◌∙◌, subst}
use Rattle.extend_resolve.specs.Machinery.Firsts.{IsLeastFound, earlier_of}
use Rattle.extend_resolve.specs.Machinery.Judges.{Broken}
use Rattle.extend_resolve.proofs.Judging.{all_least, index_below}
use Rattle.extend_resolve.proofs.judge.Judge.first_of.Goals as goal

pub reach-requires-clause-within : goal.reach-requires-clause-within
reach-requires-clause-within c = index_below c.args.self.now c.args.index c.args.uploaded.now c.requires.judging

pub returns-clause-least : goal.returns-clause-least
returns-clause-least c =
    let u = c.args.uploaded.now in
    subst (IsLeastFound u (Broken c.args.self.now c.args.index u))
    (sym (c.earlier.ensures
    ∙ ap (earlier_of u c.judge_whole-whole.result) (c.earlier-inner.ensures ∙ ap (λ o. earlier_of u o c.earlier-below.result) c.earlier-own.ensures ∙ ap (earlier_of u (earlier_of u c.judge_id-id.result c.judge_chain-chain.result)) c.earlier-below.ensures)))
    (all_least c.args.self.now c.args.index u c.requires.judging c.judge_whole-whole.result c.judge_id-id.result c.judge_chain-chain.result c.in_ok-parents.parents c.in_ok-contents.contents
    c.judge_whole-whole.ensures c.judge_id-id.ensures c.judge_chain-chain.ensures c.in_ok-parents.ensures.least c.in_ok-contents.ensures.least)
