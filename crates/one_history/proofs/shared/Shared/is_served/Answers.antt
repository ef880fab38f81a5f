use Rattle.std.proofs.Common.{rules, ◌≡◌, ◌≢◌}
use Rattle.one_history.proofs.Asked.{asks_await}
use Rattle.one_history.proofs.shared.Shared.is_served.Goals as goal

pub load-requires : goal.load-requires
load-requires g c = (search rules, search rules, asks_await _ _ _ _ _ _ _ _ _ c.requires.waits)

pub returns-clause-served : goal.returns-clause-served
returns-clause-served g c found m is = let hit : c.load.result ≡ c.args.ticket = search rules in (c.load.ensures.2 m c.args.ticket is).0 hit

pub returns-clause-not_yet : goal.returns-clause-not_yet
returns-clause-not_yet g c other = let miss : c.load.result ≢ c.args.ticket = search rules in (c.load.ensures.2 c.requires.waits.0 c.args.ticket c.requires.waits.1).1 miss
