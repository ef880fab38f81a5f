use Rattle.std.proofs.Common.{◌≡◌, ◌<◌, ◌≤◌, ◌-◌, ℕ, length, get_or, true}
use Rattle.query_terms.specs.tokens.Spellings.{is_query_name_byte}
use Rattle.query_lexer.proofs.bytes.name_len.Given as goal

abbrev pub invariant-bytes : goal.invariant-bytes
invariant-bytes l = (l.end ≤ length l.bytes) × ((k : ℕ) → k < l.end → is_query_name_byte (get_or l.bytes k 0) ≡ true)

abbrev pub decreases-bytes : goal.decreases-bytes
decreases-bytes l = length l.bytes - l.end
