use Rattle.std.proofs.Common.{◌≡◌, ◌++◌, ◌-◌, length, take, string_bytes}
use Rattle.std.specs.Str.{IsCharBoundary}
use Rattle.query_text.specs.Printed.{escaped_query}
use Rattle.query_text.proofs.escapes.push_escaped.Given as goal

abbrev pub invariant-runs : goal.invariant-runs
invariant-runs l = record {
  boundary : IsCharBoundary l.bytes l.at;
  escaped_query : string_bytes l.out ≡ string_bytes l.fn.out ++ escaped_query (take l.at l.bytes);
}

abbrev pub decreases-runs : goal.decreases-runs
decreases-runs l = length l.bytes - l.at
