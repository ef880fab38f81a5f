use Rattle.json_tree.specs.View.{view}
use Rattle.json_tree.proofs.Stepped.{match_map}
use Rattle.json_tree.proofs.Evaluated.{first_boundary, bad_start, has_front, blocked, leads_on, leads_nowhere}
use Rattle.json_tree.proofs.evaluation.+at.Goals as goal

pub returns-then-bytes-ne47 : goal.returns-then-bytes-ne47
returns-then-bytes-ne47 t c = bad_start (view c.args.tree.now) c.args.pointer.now c.as_bytes-bytes.result.now c.as_bytes-bytes.ensures.value c.if-is_empty.ensures c.if-bytes-ne47.true

pub range-requires-clause-start_boundary : goal.range-requires-clause-start_boundary
range-requires-clause-start_boundary t c =
    λ _. first_boundary c.args.pointer.now c.as_bytes-bytes.result.now c.as_bytes-bytes.ensures.value c.as_bytes-bytes.ensures.utf8 c.if-is_empty.ensures c.if-bytes-ne47.false

pub returns-in_err-part : goal.returns-in_err-part
returns-in_err-part t c =
    let ends = c.token_end-end.ensures in
    let front = has_front c.args.pointer.now c.as_bytes-bytes.result.now c.token_end-end.result c.as_bytes-bytes.ensures.value c.if-is_empty.ensures c.if-bytes-ne47.false ends.forward ends.token ends.next in
    rw c.from_residual.ensures (blocked (view c.args.tree.now) c.args.pointer.now c.range.result.now c.token_end-end.result front c.range.ensures.value c.in_err-part.ensures.found)

pub returns : goal.returns
returns t c =
    let ends = c.token_end-end.ensures in
    let front = has_front c.args.pointer.now c.as_bytes-bytes.result.now c.token_end-end.result c.as_bytes-bytes.ensures.value c.if-is_empty.ensures c.if-bytes-ne47.false ends.forward ends.token ends.next in
    match_map c.at.result
    (leads_nowhere (view c.args.tree.now) (view c.in_ok-part.part.now) c.args.pointer.now c.range.result.now c.range_from.result.now c.token_end-end.result front c.range.ensures.value c.range_from.ensures.value c.part_of.ensures.only c.in_ok-part.ensures.found)
    (λ p. leads_on (view c.args.tree.now) (view c.in_ok-part.part.now) c.args.pointer.now c.range.result.now c.range_from.result.now c.token_end-end.result front c.range.ensures.value c.range_from.ensures.value c.in_ok-part.ensures.found (view p.now))
    c.at.ensures
