use Rattle.std.proofs.Common.{◌≡◌, ℕ, sym, subst, add-one, arith, refl}
use Rattle.json_tree.specs.View.{members_view}
use Rattle.local_faults.specs.Machinery.Measured.{AreMeasured}
use Rattle.local_faults.proofs.Tabled.{settled}
use Rattle.local_faults.proofs.rounds.settle.Goals as goal

pub returns-then-not-round : goal.returns-then-not-round
returns-then-not-round c =
    settled (members_view c.args.names.now) c.loop-round._round 6 c.loop-round.table c.round.new.table (c.if-not-round.ensures.same refl) c.round.ensures.right c.loop-round.invariant

pub loop-round-preserved : goal.loop-round-preserved
loop-round-preserved c =
    let P : ℕ → Type 0 = λ n. AreMeasured (members_view c.args.names.now) n c.round.new.table in
    subst P (sym (add-one c.loop-round._round)) (c.round.ensures.right c.loop-round._round c.loop-round.invariant)

pub returns : goal.returns
returns c =
    let last : c.loop-round._round ≡ 6 = omega (arith, c.loop-round-test.false, c.loop-round.auto._round-end) in
    let P : ℕ → Type 0 = λ n. AreMeasured (members_view c.args.names.now) n c.loop-round.table in
    subst P last c.loop-round.invariant
