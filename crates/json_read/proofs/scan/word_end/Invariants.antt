use Rattle.std.proofs.Common.{ℕ, List, length, drop, ◌≡◌, ◌≤◌}
use Rattle.json_tree.specs.Values.{Raw}
use Rattle.json_read.specs.Machinery.Automaton.{Frame, word_next, reading}
use Rattle.json_read.proofs.scan.word_end.Given as goal

abbrev pub invariant-word : goal.invariant-word
invariant-word l = record {
  forward : l.initial.at ≤ l.at;
  within : l.at ≤ length l.bytes;
  read : (v : Raw) (d : ℕ) (k : List Frame) → reading l.bytes (word_next l.word v d k) l.initial.at
      ≡ reading l.bytes (word_next (drop l.byte-index l.word) v d k) l.at;
}
