use Rattle.std.proofs.Common.{◌≡◌, ℕ, ◌+◌, ◌<◌, ◌∙◌, sym, ap, refl, arith, get_or}
use Rattle.extend_resolve.specs.Machinery.Judges.{nodes_in}
use Rattle.extend_resolve.proofs.Crowds.{counted_more, counted_same}
use Rattle.extend_resolve.proofs.Judging.{node_read}
use Rattle.extend_resolve.proofs.judge.Judge.count_contents.Goals as goal
use Rattle.extend_resolve.proofs.judge.Judge.count_contents.Goals.{then-is_rest, else-is_rest}

pub numbers-preserved : goal.numbers-preserved
numbers-preserved c =
    let j = c.args.self.now in
    let y : ℕ = get_or c.args.numbers.now c.numbers.number-index 0 in
    elim c.if-is_rest.branch [
      | then-is_rest w ↦
          let more = counted_more (nodes_in j) c.args.index c.args.own c.args.numbers.now c.numbers.number-index y c.numbers-test.true refl w.index.result.now.now (sym w.if-is_rest.ensures)
          (node_read j c.args.numbers.now c.numbers.number-index 0 w.index.result.now c.numbers-test.true c.requires w.index.ensures) in
          omega (arith, more, w.total-is, w.saturating_add-total.ensures, w.len.ensures, c.numbers.invariant)
      | else-is_rest w ↦
          let same = counted_same (nodes_in j) c.args.index c.args.own c.args.numbers.now c.numbers.number-index y c.numbers-test.true refl (sym w.if-is_rest.ensures) in
          omega (arith, same, w.total-is, c.numbers.invariant)
    ]
