use Rattle.json_tree.proofs.Stepped.{no_item, past_items}
use Rattle.json_tree.proofs.Parts.{item_part}
use Rattle.json_tree.proofs.evaluation.element_of.Goals as goal

pub returns-in_err-i-clause-found : goal.returns-in_err-i-clause-found
returns-in_err-i-clause-found c = rw c.from_residual.ensures (no_item c.args.items.now c.args.token.now c.well_formed.0.0 c.in_err-i.ensures)

pub returns-then-i-items-clause-found : goal.returns-then-i-items-clause-found
returns-then-i-items-clause-found c = (c.in_ok-i.i, c.in_ok-i.ensures.1, item_part c.args.items.now c.in_ok-i.i c.index-items-i.result c.if-i-items.true c.index-items-i.is)

pub returns-else-i-items-clause-found : goal.returns-else-i-items-clause-found
returns-else-i-items-clause-found c = past_items c.args.items.now c.args.token.now c.in_ok-i.i c.well_formed.0.0 c.in_ok-i.ensures.0 c.in_ok-i.ensures.1 c.if-i-items.false
