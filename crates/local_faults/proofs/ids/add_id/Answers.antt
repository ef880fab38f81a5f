use Rattle.std.proofs.Common.{refl}
use Rattle.local_faults.proofs.IdSets.{is_not_noted, is_noted, text_added}
use Rattle.local_faults.proofs.ids.add_id.Goals as goal

pub returns-then-branch : goal.returns-then-branch
returns-then-branch c =
    (is_not_noted c.args.ids.now c.args.id c.in_ok-insert.field-0 c.in_ok-insert.ensures.added c.if-branch.true, text_added c.args.ids.now c.insert.new.self c.args.id c.in_ok-insert.ensures.updates)

pub returns-else-branch : goal.returns-else-branch
returns-else-branch c = (is_noted c.args.ids.now c.args.id c.in_ok-insert.field-0 c.in_ok-insert.ensures.added c.if-branch.false, refl)
