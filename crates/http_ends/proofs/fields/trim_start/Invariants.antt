use Rattle.std.proofs.Common.{◌≡◌, length}
use Rattle.httparse.specs.Grammar.{skip_ows}
use Rattle.http_ends.proofs.fields.trim_start.Given as goal

abbrev pub invariant-trimming : goal.invariant-trimming
invariant-trimming l = skip_ows l.text ≡ skip_ows l.fn.text

abbrev pub decreases-trimming : goal.decreases-trimming
decreases-trimming l = length l.text
