use Rattle.std.proofs.Common.{◌+◌, length, sym, ap, ◌∙◌}
use Rattle.extend_resolve.proofs.Judging.{lost_least, component_least, kept_below, ready_composed}
use Rattle.extend_resolve.proofs.judge.Judge.judge_component.Goals as goal

pub returns-in_default-clause-least : goal.returns-in_default-clause-least
returns-in_default-clause-least c =
    lost_least c.args.self.now c.args.index c.args.uploaded.now c.requires.judging c.args.at c.args.of.now c.found_where.result c.requires.component (sym c.number.ensures ∙ c.in_default.is) c.found_where.ensures

pub is_composed-requires-clause-within : goal.is_composed-requires-clause-within
is_composed-requires-clause-within c = kept_below c.args.self.now c.requires.judging.judge c.args.of.now c.in-Some.part (sym c.number.ensures ∙ c.in-Some.is)

pub returns-clause-least : goal.returns-clause-least
returns-clause-least c =
    component_least c.args.self.now c.args.index c.args.uploaded.now c.requires.judging c.args.at c.args.of.now c.in-Some.part c.in_ok-composed.composed c.found_where-2.result c.requires.component
    (sym c.number.ensures ∙ c.in-Some.is) c.in_ok-composed.ensures.composed c.found_where-2.ensures

pub returns-clause-ready : goal.returns-clause-ready
returns-clause-ready c =
    ready_composed c.args.self.now c.args.scratch.now (c.args.index + 1) c.is_composed.new.marks c.is_composed.new.known c.requires.ready
    (c.is_composed.auto.marks ∙ ap length c.as_mut_slice.ensures.value) (c.is_composed.auto.known ∙ ap length c.as_mut_slice-2.ensures.value)
    c.in_ok-composed.ensures.clear c.in_ok-composed.ensures.known
