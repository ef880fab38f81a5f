use Rattle.std.proofs.Common.{◌<◌, false, length, refl, sym, ap, ◌∙◌, inl, inr, subst}
use Rattle.std.specs.List.{AllByRecursion}
use Rattle.extend_resolve.specs.Machinery.Judges.{holds_number}
use Rattle.extend_resolve.proofs.Judging.{cycle_least, clash_least, reached_below, declared_nodes, names_below}
use Rattle.extend_resolve.proofs.judge.Judge.judge_reached.Goals as goal

pub returns-then-is_among : goal.returns-then-is_among
returns-then-is_among c =
    cycle_least c.args.self.now c.args.index c.args.uploaded.now c.requires.judging c.args.at c.args.reached.now c.is_among.result _ c.requires.reached
    (c.is_among.ensures ∙ ap (holds_number c.args.reached.now) c.requires.own) c.if-is_among.true refl

pub clashes-clashes-requires-clause-reached : goal.clashes-clashes-requires-clause-reached
clashes-clashes-requires-clause-reached c =
    subst (λ n. AllByRecursion (λ y. y < n) c.args.reached.now) (sym (declared_nodes c.args.self.now c.requires.judging.judge)) (reached_below c.args.self.now c.requires.judging.judge c.args.uploaded.now.interface c.args.at c.args.reached.now c.requires.reached)

pub clashes-clashes-requires-clause-names : goal.clashes-clashes-requires-clause-names
clashes-clashes-requires-clause-names c y x h =
    subst (λ n. x < n) (sym c.requires.names) (names_below c.args.self.now c.requires.judging.judge y x h)

pub returns : goal.returns
returns c =
    clash_least c.args.self.now c.args.index c.args.uploaded.now c.requires.judging c.args.owners.now c.args.at c.args.reached.now c.is_among.result c.clashes-clashes.result c.found_where.result c.requires.reached
    c.requires.names c.requires.owned (c.is_among.ensures ∙ ap (holds_number c.args.reached.now) c.requires.own) c.if-is_among.false (inl c.clashes-clashes.ensures) c.found_where.ensures

pub returns-then-is_empty : goal.returns-then-is_empty
returns-then-is_empty c =
    clash_least c.args.self.now c.args.index c.args.uploaded.now c.requires.judging c.args.owners.now c.args.at c.args.reached.now c.is_among.result false _ c.requires.reached
    c.requires.names c.requires.owned (c.is_among.ensures ∙ ap (holds_number c.args.reached.now) c.requires.own) c.if-is_among.false
    (inr (refl, c.if-at-eq0.true, ap length (c.is_empty.ensures.0 c.if-is_empty.true))) refl
