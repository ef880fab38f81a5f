use Rattle.json_tree.specs.View.{view}
use Rattle.local_rules.specs.Declarations.{IsTextOfLanguage}
use Rattle.model_read.proofs.Grown.{members_step}
use Rattle.json_tree.proofs.Parts.{member_part}
use Rattle.model_read.proofs.localized.entries_of.Goals as goal

pub loop-member-preserved : goal.loop-member-preserved
loop-member-preserved c = rw c.in_ok-push.ensures.items
    (members_step IsTextOfLanguage c.args.members.now c.loop-member.member-index c.member-item.result
    c.loop-member.entries.items c.in_ok-entry_of.field-0 c.loop-member-test.true c.member-item.is c.loop-member.invariant c.in_ok-entry_of.ensures)

pub entry_of-requires : goal.entry_of-requires
entry_of-requires c = c.requires c.loop-member.member-index c.member-item.result.key (view c.member-item.result.value)
    (member_part c.args.members.now c.loop-member.member-index c.member-item.result c.loop-member-test.true c.member-item.is)
