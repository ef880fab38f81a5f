use Rattle.std.proofs.Common.{◌≡◌, sym, ap, ◌∙◌, subst}
use Rattle.std.specs.Option.{unwrap_or}
use Rattle.std.specs.declared.option.Option.{Option}
use Rattle.one_history.specs.Passes.{IsWholeHistory}
use Rattle.one_history.proofs.Closing.{has_contains, Owns, closes}
use Rattle.one_history.proofs.shared.Shared.close.Goals as goal

pub unreachable-requires : goal.unreachable-requires
unreachable-requires g c =
    let owns : Owns g.O.Object.state g.O.Object.sound g.O.Object.allowed g.O.Object.follows c.args.self.table.shared.key.value c.args.passes.items = λ p h. let o = c.requires.own p (has_contains c.args.passes.items p h) in (o.1.0, o.1.2) in
    let f = c.close_with-closed.ensures.values.2 in
    let k = closes g.O.Object.state g.O.Object.sound g.O.Object.allowed g.O.Object.follows c.args.self.table.shared.key.value c.args.passes.items owns c.requires.all f.0 f.1.0 c.join_all-whole.result.id c.join_all-whole.result.me.0 f.1.1
    c.join_all-whole.ensures.all c.join_all-whole.ensures.idle _ f.4 c.take.result c.take.ensures.value in
    c.in_default.not-Some k.1 k.2

pub returns : goal.returns
returns g c =
    let owns : Owns g.O.Object.state g.O.Object.sound g.O.Object.allowed g.O.Object.follows c.args.self.table.shared.key.value c.args.passes.items = λ p h. let o = c.requires.own p (has_contains c.args.passes.items p h) in (o.1.0, o.1.2) in
    let f = c.close_with-closed.ensures.values.2 in
    let k = closes g.O.Object.state g.O.Object.sound g.O.Object.allowed g.O.Object.follows c.args.self.table.shared.key.value c.args.passes.items owns c.requires.all f.0 f.1.0 c.join_all-whole.result.id c.join_all-whole.result.me.0 f.1.1
    c.join_all-whole.ensures.all c.join_all-whole.ensures.idle _ f.4 c.take.result c.take.ensures.value in
    let same : k.1 ≡ c.in-Some.object = ap (λ (z : Option g.row.O.Denot). unwrap_or z k.1) (sym k.2 ∙ c.in-Some.is) in
    (k.0, subst (λ (z : g.row.O.Denot). IsWholeHistory g.O.Object.state g.O.Object.sound g.O.Object.allowed g.O.Object.follows c.args.self.table.shared.key.value c.args.passes.items z k.0) same k.3)
