use Rattle.std.proofs.Common.{◌≡◌, ◌++◌, length, drop}
use Rattle.extend_resolve.specs.Machinery.Names.{all_contents, rows_of}
use Rattle.extend_resolve.proofs.names.rows_of.Given as goal

abbrev pub invariant-nodes : goal.invariant-nodes
invariant-nodes l = record {
  size : length l.left ≡ length (all_contents (drop l.node-index l.nodes));
  rows : l.rows.items ++ rows_of (drop l.node-index l.nodes) l.left ≡ rows_of l.nodes l.numbers;
}
