use Rattle.std.proofs.Common.{◌<◌, sym, subst}
use Rattle.extend_resolve.proofs.Members.{names_read}
use Rattle.extend_resolve.proofs.judge.Judge.add_owners.Goals as goal

pub add-requires : goal.add-requires
add-requires c =
    names_read c.args.self.now.names.declared.items c.args.reached.now c.reached.number-index 0 _ c.as_slice.result.now c.index.result.now c.reached-test.true c.requires.reached c.as_slice.ensures c.index.ensures
    (λ y x h. subst (λ n. x < n) (sym c.reached.auto.owners) (c.requires.names y x h))
