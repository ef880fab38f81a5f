use Rattle.local_rules.proofs.Compared.{put_in}
use Rattle.local_rules.proofs.repeated.was_seen.Goals as goal

pub returns-in_ok-insert-in-Some : goal.returns-in_ok-insert-in-Some
returns-in_ok-insert-in-Some c =
    rw c.in-Some.is (put_in c.args.seen.now c.insert.new.self c.in-Some.key c.in_ok-insert-in-Some.field-0 c.in_ok-insert-in-Some.ensures.added (c.in_ok-insert-in-Some.ensures.updates.0))
