use Rattle.std.proofs.Common.{rules}
use Rattle.std.specs.Prelude.{Some}
use Rattle.one_history.proofs.Asked.{asks_leave}
use Rattle.one_history.proofs.shared.Shared.leave.Goals as goal

pub fetch_add-requires : goal.fetch_add-requires
fetch_add-requires g c = (search rules, search rules, asks_leave _ _ _ _ _ _ _ _ c.requires.ready)

pub returns-clause-left : goal.returns-clause-left
returns-clause-left g c m t o is = c.fetch_add.ensures.2 m t (Some o) is
