use Rattle.std.proofs.Common.{◌≡◌, ◌==◌, eqb, false, eq-eqb}
use Rattle.std.proofs.lemmas.Bool.{ne_eqb}
use Rattle.std.proofs.lemmas.List.Elements.{All-more}
use Rattle.local_rules.proofs.Hyphens.{first_part, one_part}
use Rattle.local_rules.proofs.languages.first_subtag.Goals as goal

pub returns-then-byte-eq45-clause-split : goal.returns-then-byte-eq45-clause-split
returns-then-byte-eq45-clause-split c = first_part (λ b. b == 45) c.args.bytes.now c.loop-at.at 0 c.loop-at-test.true (eq-eqb _ 45 c.if-byte-eq45.true) c.loop-at.invariant

pub loop-at-preserved : goal.loop-at-preserved
loop-at-preserved c = All-more (λ b. eqb b 45 ≡ false) c.args.bytes.now c.loop-at.at 0 c.loop-at-test.true c.loop-at.invariant (ne_eqb _ 45 c.if-byte-eq45.false)

pub returns-clause-split : goal.returns-clause-split
returns-clause-split c = one_part (λ b. b == 45) c.args.bytes.now c.loop-at.at c.loop-at-test.false c.loop-at.invariant
