use Rattle.std.proofs.Common.{◌≡◌, length, drop}
use Rattle.extend_resolve.specs.Machinery.Owners.{add_names}
use Rattle.extend_resolve.proofs.owners.add.Given as goal

abbrev pub invariant-names : goal.invariant-names
invariant-names l = record {
  added : add_names l.round l.number l.fn.owners l.names ≡ add_names l.round l.number l.owners (drop l.name-index l.names);
  bound : length l.owners ≡ length l.fn.owners;
}
