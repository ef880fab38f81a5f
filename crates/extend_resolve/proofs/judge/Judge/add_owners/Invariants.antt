use Rattle.std.proofs.Common.{◌≡◌, length, drop}
use Rattle.extend_resolve.specs.Machinery.Owners.{add_reached}
use Rattle.extend_resolve.proofs.judge.Judge.add_owners.Given as goal

abbrev pub invariant-reached : goal.invariant-reached
invariant-reached l = record {
  added : add_reached l.self.names.declared.items l.index l.fn.owners l.reached ≡ add_reached l.self.names.declared.items l.index l.owners (drop l.number-index l.reached);
  bound : length l.owners ≡ length l.fn.owners;
}
