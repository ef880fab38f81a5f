use Rattle.json_tree.specs.View.{view}
use Rattle.json_tree.proofs.Stepped.{match_map, one_item, one_member, no_item_step, item_step, no_member_step, member_step}
use Rattle.json_tree.proofs.evaluation.part_of.Goals as goal

pub returns-in-List-clause-only : goal.returns-in-List-clause-only
returns-in-List-clause-only c = one_item c.args.tree.now c.in-List.items c.as_slice.result.now c.in-List.is c.as_slice.ensures c.element_of.ensures.few

pub returns-in-List-clause-found : goal.returns-in-List-clause-found
returns-in-List-clause-found c = match_map c.element_of.result
    (no_item_step c.args.tree.now c.in-List.items c.as_slice.result.now c.args.token.now c.in-List.is c.as_slice.ensures c.element_of.ensures.few)
    (λ p. item_step c.args.tree.now c.in-List.items c.as_slice.result.now c.args.token.now c.in-List.is c.as_slice.ensures c.element_of.ensures.few (view p.now))
    c.element_of.ensures.found

pub returns-in-Members-clause-only : goal.returns-in-Members-clause-only
returns-in-Members-clause-only c = one_member c.args.tree.now c.in-Members.members c.as_slice-in-Members.result.now c.in-Members.is c.as_slice-in-Members.ensures

pub returns-in-Members-clause-found : goal.returns-in-Members-clause-found
returns-in-Members-clause-found c = match_map c.member_of.result
    (no_member_step c.args.tree.now c.in-Members.members c.as_slice-in-Members.result.now c.args.token.now c.in-Members.is c.as_slice-in-Members.ensures)
    (λ p. member_step c.args.tree.now c.in-Members.members c.as_slice-in-Members.result.now c.args.token.now c.in-Members.is c.as_slice-in-Members.ensures (view p.now))
    c.member_of.ensures
