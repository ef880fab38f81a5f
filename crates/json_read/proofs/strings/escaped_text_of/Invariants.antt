use Rattle.std.proofs.Common.{◌≡◌, ℕ, List, length, ◌-◌, ◌≤◌, get_or, string_bytes}
use Rattle.json_read.specs.Machinery.Automaton.{Frame, Use, in_text, reading}
use Rattle.json_read.specs.Machinery.Spans.{StopsRun}
use Rattle.json_read.proofs.strings.escaped_text_of.Given as goal

abbrev pub invariant-escapes : goal.invariant-escapes
invariant-escapes l = record {
  forward : l.fn.at ≤ l.at;
  within : l.at ≤ length l.bytes;
  stops : StopsRun (get_or l.bytes l.at 0);
  read : (u : Use) (d : ℕ) (k : List Frame) → reading l.bytes (in_text u l.fn.run d k) l.fn.at
      ≡ reading l.bytes (in_text u (string_bytes l.content) d k) l.at;
}

abbrev pub decreases-escapes : goal.decreases-escapes
decreases-escapes l = length l.bytes - l.at
