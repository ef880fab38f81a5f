use Rattle.extend_resolve.proofs.Members.{names_read}
use Rattle.extend_resolve.proofs.judge.Judge.clashes.Goals as goal

pub any_other-requires : goal.any_other-requires
any_other-requires c =
    names_read c.args.self.now.names.declared.items c.args.reached.now c.reached.number-index 0 _ c.as_slice.result.now c.index.result.now c.reached-test.true c.requires.reached c.as_slice.ensures c.index.ensures c.requires.names
