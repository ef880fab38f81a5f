use Rattle.std.proofs.Common.{◌≡◌, ◌<◌, None, rules}
use Rattle.json_length.proofs.Lengths.{text_ends}
use Rattle.json_length.proofs.texts.left_after_text.Goals as goal

pub returns-in_err-rest-2 : goal.returns-in_err-rest-2
returns-in_err-rest-2 c =
    let none : c.from_residual-in_err-rest-2.result ≡ None = search rules in
    let less : c.loop-byte.rest < c.more_bytes-more.result = search rules in
    rw (none, ← c.as_bytes-bytes.ensures.value) (text_ends _ _ _ _ _ c.loop-byte-test.true c.more_bytes-more.ensures less c.loop-byte.invariant)
