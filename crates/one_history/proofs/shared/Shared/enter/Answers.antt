use Rattle.std.proofs.Common.{rules, [], ◌∷◌, ◌++◌, ◌∙◌}
use Rattle.std.specs.Prelude.{Some}
use Rattle.one_history.specs.Histories.{entry}
use Rattle.one_history.specs.Machinery.Rules.{saw, alone}
use Rattle.one_history.proofs.Asked.{asks_enter}
use Rattle.one_history.proofs.shared.Shared.enter.Goals as goal

pub fetch_add-requires : goal.fetch_add-requires
fetch_add-requires g c = (search rules, search rules, asks_enter _ _ _ _ _ _ _ _ _ _ _ c.requires.told c.requires.ready)

pub returns-clause-entered : goal.returns-clause-entered
returns-clause-entered g c m t o is = let r = c.fetch_add.ensures.2 m t (Some o) is in let p = c.requires.only r.0 r.1 r.2 in
    r.3 ∙ (λ i. (alone (saw m (m.seen ++ entry (p.0 i) (p.1 i) m.number ∷ [])), []))
