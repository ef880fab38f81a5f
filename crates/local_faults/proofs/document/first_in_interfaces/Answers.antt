use Rattle.std.proofs.Common.{arith}
use Rattle.json_tree.specs.View.{view, elements_view}
use Rattle.json_tree.proofs.Parts.{item_part}
use Rattle.local_faults.proofs.Parts.{item_within}
use Rattle.local_faults.proofs.Documents.{clear_next, found_next, clear_whole}
use Rattle.local_faults.proofs.document.first_in_interfaces.Goals as goal

pub returns-in-Some : goal.returns-in-Some
returns-in-Some c =
    let part = item_part c.args.interfaces.now c.loop-at.at c.index-interfaces-at.result c.loop-at-test.true c.index-interfaces-at.is in
    found_next (elements_view c.args.interfaces.now) c.loop-at.at (view c.index-interfaces-at.result) c.in-Some.found c.in_ok-found-2.found c.in_ok-found.field-0
    c.loop-at.invariant part c.in_ok-found.ensures c.in-Some.is c.in_ok-found-2.ensures

pub loop-at-preserved : goal.loop-at-preserved
loop-at-preserved c =
    let part = item_part c.args.interfaces.now c.loop-at.at c.index-interfaces-at.result c.loop-at-test.true c.index-interfaces-at.is in
    clear_next (elements_view c.args.interfaces.now) c.loop-at.at (view c.index-interfaces-at.result) c.in_ok-found.field-0 c.loop-at.invariant part c.in_ok-found.ensures c.in_default.is

pub returns : goal.returns
returns c =
    clear_whole (elements_view c.args.interfaces.now) c.loop-at.at c.loop-at.invariant
    (λ i part p. let h = item_within c.args.interfaces.now i part p in omega (arith, h, c.loop-at-test.false))
