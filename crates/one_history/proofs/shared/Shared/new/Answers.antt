use Rattle.std.proofs.Common.{◌≡◌, List, [], ◌∷◌, sym, refl, ◌∙◌, subst}
use Rattle.std.specs.Prelude.{Some}
use Rattle.std.specs.declared.option.Option.{Option}
use Rattle.atomic_table.specs.Table.{opening}
use Rattle.one_history.specs.declared.history.Entry.{Entry}
use Rattle.one_history.specs.Histories.{IsHistory}
use Rattle.one_history.specs.Passes.{seen_of}
use Rattle.one_history.proofs.Growth.{history_none}
use Rattle.one_history.proofs.Told.{me_seen}
use Rattle.one_history.specs.Machinery.Rules.{newcomer, alone, Kept}
use Rattle.one_history.proofs.Steps.{starts}
use Rattle.one_history.proofs.shared.Shared.new.Goals as goal

pub new-requires : goal.new-requires
new-requires g c =
    let object : g.row.O.Denot = c.of-first.result.value in
    let row : Some object ∷ [] ≡ c.in_ok-row.row.items = (λ i. Some (c.of-first.ensures i) ∷ []) ∙ sym c.in_ok-row.ensures.ok in
    subst (λ (z : List (Option g.row.O.Denot)). Kept g.O.Object.state g.O.Object.sound g.O.Object.allowed g.O.Object.follows object (opening (0 ∷ 0 ∷ []) z (alone (newcomer object)))) row
    (starts g.O.Object.state g.O.Object.sound g.O.Object.allowed g.O.Object.follows object object refl)

pub returns-in-Ok-clause-opened : goal.returns-in-Ok-clause-opened
returns-in-Ok-clause-opened g c =
    let e = c.in-Ok.ensures.ok in
    let key : c.in-Ok.table.shared.key.value ≡ c.of-first.result.value = (λ i. (e.5 i).value) in (
      key ∙ c.of-first.ensures,
      (e.2, (newcomer c.of-first.result.value, sym key, e.4)),
    )

pub returns-in-Ok-clause-history : goal.returns-in-Ok-clause-history
returns-in-Ok-clause-history g c =
    let none_seen : [] ≡ seen_of c.in-Ok.seat.me.0.members = sym (me_seen (newcomer c.of-first.result.value) c.in-Ok.seat.me c.in-Ok.ensures.ok.4) in
    subst (λ (z : List (Entry g.row.O-Ask.Denot g.row.O-Reply.Denot)). IsHistory g.O.Object.sound g.O.Object.allowed g.O.Object.follows (g.O.Object.state c.in-Ok.table.shared.key.value) z) none_seen
    (history_none g.O.Object.sound g.O.Object.allowed g.O.Object.follows (g.O.Object.state c.in-Ok.table.shared.key.value))
