use Rattle.std.proofs.Common.{◌≡◌, ◌<◌, ◌≤◌, ◌-◌, ℕ, length, get_or, true}
use Rattle.query_terms.specs.tokens.Spellings.{is_space}
use Rattle.query_lexer.proofs.bytes.space_len.Given as goal

abbrev pub invariant-bytes : goal.invariant-bytes
invariant-bytes l = (l.end ≤ length l.bytes) × ((k : ℕ) → k < l.end → is_space (get_or l.bytes k 0) ≡ true)

abbrev pub decreases-bytes : goal.decreases-bytes
decreases-bytes l = length l.bytes - l.end
