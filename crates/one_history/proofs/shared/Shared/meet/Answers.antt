use Rattle.std.proofs.Common.{List, [], sym, subst, append-nil}
use mathlib.Core.List.{IsPrefix}
use Rattle.one_history.specs.declared.history.Entry.{Entry}
use Rattle.one_history.specs.Histories.{IsHistory}
use Rattle.one_history.specs.Passes.{seen, opening}
use Rattle.one_history.proofs.shared.Shared.meet.Goals as goal

pub returns-clause-history : goal.returns-clause-history
returns-clause-history g c = (
  seen c.tell-2.new.to,
  c.tell-2.ensures.history,
  ([], append-nil (seen c.tell-2.new.to)),
  subst (λ (z : List (Entry g.row.O-Ask.Denot g.row.O-Reply.Denot)). IsPrefix z (seen c.tell-2.new.to)) (sym c.tell-2.ensures.from.1) c.tell-2.ensures.told,
)

pub returns-clause-each : goal.returns-clause-each
returns-clause-each g c = (
  c.tell-2.ensures.history,
  subst (λ (z : List (Entry g.row.O-Ask.Denot g.row.O-Reply.Denot)). IsHistory g.O.Object.sound g.O.Object.allowed g.O.Object.follows (g.O.Object.state (opening c.args.self.now)) z) (sym c.tell-2.ensures.from.1) c.tell.ensures.history,
)
