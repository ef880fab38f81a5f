use Rattle.std.proofs.Common.{string_bytes, arith}
use Rattle.json_tree.specs.View.{view}
use Rattle.json_tree.proofs.TreeItems.{stands_below, tokens_before, on_ok}
use Rattle.json_tree.proofs.pointers.+points.Goals as goal

pub push_steps-requires : goal.push_steps-requires
push_steps-requires t c =
    let step = c.in_ok-part-in-Some.ensures in let cases = c.in-Some.ensures.cases in (
      omega (arith, c.decreases, cases.1),
      stands_below (view c.args.tree.now) c.args.steps.now c.in-Some.step.now c.in-Some.rest.now step.0 (view c.in_ok-part-in-Some.part.now) cases.0 step.1 c.requires,
    )

pub returns-in_ok-part-in-Some : goal.returns-in_ok-part-in-Some
returns-in_ok-part-in-Some t c =
    let step = c.in_ok-part-in-Some.ensures in let cases = c.in-Some.ensures.cases in
    on_ok c.push_steps.result
    (tokens_before (view c.args.tree.now) c.args.steps.now c.in-Some.step.now c.in-Some.rest.now step.0 (view c.in_ok-part-in-Some.part.now)
    (string_bytes c.args.out.now) (string_bytes c.push_step.new.out) (string_bytes c.push_steps.new.out) cases.0 step.1 step.2)
    c.push_steps.ensures
