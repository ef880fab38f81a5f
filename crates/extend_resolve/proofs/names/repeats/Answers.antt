use Rattle.std.proofs.Common.{◌-◌, get_or}
use Rattle.extend_resolve.proofs.Members.{equal_numbers}
use Rattle.extend_resolve.proofs.Naming.{nothing, repeats_where, repeats_nowhere}
use Rattle.extend_resolve.proofs.names.repeats.Goals as goal

pub returns-then-before_first-first : goal.returns-then-before_first-first
returns-then-before_first-first c =
    repeats_where c.args.entries.now c.args.index nothing c.eq.result c.requires.index c.if-index-eq0.false c.if-before_first-first.true c.eq.ensures

pub returns-else-before_first-first : goal.returns-else-before_first-first
returns-else-before_first-first c =
    let entries = c.args.entries.now in
    let index = c.args.index in (
      λ yes. absurd (c.if-before_first-first.false (equal_numbers (get_or entries (index - 1) nothing).0 (get_or entries index nothing).0 yes)),
      λ again. absurd (repeats_nowhere entries index nothing c.requires.index c.if-before_first-first.false again),
    )
