use Rattle.std.proofs.Common.{◌≡◌, drop}
use Rattle.extend_resolve.specs.Machinery.Owners.{any_reached}
use Rattle.extend_resolve.proofs.judge.Judge.clashes.Given as goal

-- one is still looked for among those that follow
abbrev pub invariant-reached : goal.invariant-reached
invariant-reached l =
    any_reached l.self.names.declared.items l.index l.owners l.reached ≡ any_reached l.self.names.declared.items l.index l.owners (drop l.number-index l.reached)
