use Rattle.std.proofs.Common.{◌≡◌, length, reverse}
use Rattle.httparse.specs.Grammar.{skip_ows}
use Rattle.http_ends.proofs.fields.trim_end.Given as goal

abbrev pub invariant-trimming : goal.invariant-trimming
invariant-trimming l = skip_ows (reverse l.text) ≡ skip_ows (reverse l.fn.text)

abbrev pub decreases-trimming : goal.decreases-trimming
decreases-trimming l = length l.text
