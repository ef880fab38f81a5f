use Rattle.std.proofs.Common.{ap, ◌∙◌, arith, length, take}
use Rattle.std.specs.List.{fold}
use Rattle.std.proofs.Math.Nat.{min_comm}
use Rattle.std.proofs.lemmas.List.{take_all, take_min}
use Rattle.extend_resolve.specs.Machinery.Names.{first_bytes, then_byte}
use Rattle.extend_resolve.proofs.names.first_bytes.Goals as goal

pub returns : goal.returns
unfolding first_bytes
returns c =
    let bytes = c.as_bytes-bytes.result.now in
    let all = take_all c.bytes.byte-index (take c.min.result bytes) (omega (arith, c.bytes-test.false)) in
    let eight = ap (λ n. take n bytes) (c.min.ensures ∙ min_comm (length bytes) 8) ∙ take_min 8 bytes ∙ ap (take 8) c.as_bytes-bytes.ensures.value in
    c.bytes.invariant ∙ ap (fold then_byte 0) (all ∙ eight)
