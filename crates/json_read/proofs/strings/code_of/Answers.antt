use Rattle.std.proofs.Common.{◌<◌, length, sym, ◌∙◌, arith}
use Rattle.json_read.specs.Machinery.Automaton.{escaped}
use Rattle.json_read.proofs.EscapeSpans.{char_dead, unicode_on, short_reads, short_some, escape_none, leads_map}
use Rattle.json_read.proofs.strings.code_of.Goals as goal

pub returns-then-mark-eq117-clause-read : goal.returns-then-mark-eq117-clause-read
returns-then-mark-eq117-clause-read c u content d k =
    let mark = c.if-mark-eq117.true in
    let within : c.args.at < length c.args.bytes.now = c.byte_at-mark.ensures.within (omega arith) in
    let front = unicode_on c.args.bytes.now c.args.at u content d k within (sym c.byte_at-mark.ensures.value ∙ mark) in
    leads_map c.args.bytes.now _ _ c.unicode_of.result _ _ front (λ x h. front ∙ h) (c.unicode_of.ensures.read u content d k)

pub returns-in-Some-clause-read : goal.returns-in-Some-clause-read
returns-in-Some-clause-read c u content d k =
    let short = c.in-Some.ensures in
    let within : c.args.at < length c.args.bytes.now = c.byte_at-mark.ensures.within (short_some _ _ short) in
    short_reads c.args.bytes.now c.args.at c.in-Some.code u content d k within (rw (← c.byte_at-mark.ensures.value) short)

pub returns-in-None-clause-read : goal.returns-in-None-clause-read
returns-in-None-clause-read c u content d k =
    char_dead c.args.bytes.now c.args.at c.fault_at.result escaped u content d k c.fault_at.ensures
    (λ h. rw (← c.byte_at-mark.ensures.value) (escape_none c.byte_at-mark.result c.if-mark-eq117.false c.in-None.ensures))
