use Rattle.std.specs.Prelude.{codes}
use Rattle.dtdl_cmd.proofs.Names.{alone}
use Rattle.dtdl_cmd.proofs.command.are_replay.Goals as goal

pub returns-then-words-eq1 : goal.returns-then-words-eq1
returns-then-words-eq1 c =
    let same = alone c.args.words.now c.index-words-0.result (codes "replay") c.as_str.result.now c.if-words-eq1.true c.index-words-0.is c.as_str.ensures.value in
    ((λ yes. same.0 (c.is_replay.ensures.0 yes)), (λ are. c.is_replay.ensures.1 (same.1 are)))
