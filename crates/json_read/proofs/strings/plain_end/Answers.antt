use Rattle.std.proofs.Common.{arith}
use Rattle.json_read.proofs.Slices.{told}
use Rattle.json_read.proofs.TextSpans.{plain_more, plain_two, plain_three, plain_four, plain_join}
use Rattle.json_read.proofs.strings.plain_end.Goals as goal

pub returns-then-not-is_plain-2-clause-plain : goal.returns-then-not-is_plain-2-clause-plain
returns-then-not-is_plain-2-clause-plain c =
    let first = told c.is_plain.result _ c.is_plain.ensures c.if-not-is_plain.false in
    plain_more c.args.bytes.now c.args.at c.fours.at c.fours.invariant.forward (omega (arith, c.fours-test.true)) first c.fours.invariant.plain

pub returns-then-not-is_plain-3-clause-plain : goal.returns-then-not-is_plain-3-clause-plain
returns-then-not-is_plain-3-clause-plain c =
    let first = told c.is_plain.result _ c.is_plain.ensures c.if-not-is_plain.false in
    let second = told c.is_plain-in-fours.result _ c.is_plain-in-fours.ensures c.if-not-is_plain-2.false in
    plain_two c.args.bytes.now c.args.at c.fours.at c.fours.invariant.forward c.fours-test.true first second c.fours.invariant.plain

pub returns-then-not-is_plain-4-clause-plain : goal.returns-then-not-is_plain-4-clause-plain
returns-then-not-is_plain-4-clause-plain c =
    let first = told c.is_plain.result _ c.is_plain.ensures c.if-not-is_plain.false in
    let second = told c.is_plain-in-fours.result _ c.is_plain-in-fours.ensures c.if-not-is_plain-2.false in
    let third = told c.is_plain-in-fours-2.result _ c.is_plain-in-fours-2.ensures c.if-not-is_plain-3.false in
    plain_three c.args.bytes.now c.args.at c.fours.at c.fours.invariant.forward c.fours-test.true first second third c.fours.invariant.plain

pub fours-preserved : goal.fours-preserved
fours-preserved c =
    let first = told c.is_plain.result _ c.is_plain.ensures c.if-not-is_plain.false in
    let second = told c.is_plain-in-fours.result _ c.is_plain-in-fours.ensures c.if-not-is_plain-2.false in
    let third = told c.is_plain-in-fours-2.result _ c.is_plain-in-fours-2.ensures c.if-not-is_plain-3.false in
    let fourth = told c.is_plain-in-fours-3.result _ c.is_plain-in-fours-3.ensures c.if-not-is_plain-4.false in
    let forward = c.fours.invariant.forward in
    let some = c.fours-test.true in
    record {
      forward = omega arith;
      within = omega arith;
      plain = plain_four c.args.bytes.now c.args.at c.fours.at forward some first second third fourth c.fours.invariant.plain;
    }

pub returns-clause-plain : goal.returns-clause-plain
returns-clause-plain c =
    plain_join c.args.bytes.now c.args.at c.fours.at c.last_plain_end.result c.fours.invariant.forward c.last_plain_end.ensures.forward
    c.fours.invariant.plain c.last_plain_end.ensures.plain
