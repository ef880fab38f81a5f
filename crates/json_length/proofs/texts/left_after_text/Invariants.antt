use Rattle.std.proofs.Common.{◌≡◌, ◌+◌, length, drop}
use Rattle.json_tree.specs.Printing.{escaped, quoted}
use Rattle.json_length.proofs.texts.left_after_text.Given as goal

-- beside the first byte of each, which is spent before, what is spent so far and the length of the bytes that are left
-- are that of all
abbrev pub invariant-loop-byte : goal.invariant-loop-byte
invariant-loop-byte l =
    l.fn.left + length (escaped (drop l.byte-index l.bytes)) ≡ l.rest + length (drop l.byte-index l.bytes) + length (quoted l.bytes)
