use Rattle.std.proofs.Common.{◌≡◌, ◌+◌, ◌<◌, length}
use Rattle.extend_resolve.specs.Machinery.Firsts.{IsLeastFound}
use Rattle.extend_resolve.specs.Machinery.Judges.{Broken, OfParents, IsReady, KnowsOwners}
use Rattle.extend_resolve.proofs.judge.Judge.judge_parents.Given as goal

abbrev pub invariant-parents : goal.invariant-parents
invariant-parents l = record {
  ready : IsReady l.self l.scratch (l.index + 1);
  owned : l.at < length l.uploaded.interface.parents → KnowsOwners l.self l.scratch.owners.items l.index l.uploaded l.at;
  least : IsLeastFound l.uploaded (OfParents (Broken l.self l.index l.uploaded) l.at) l.first;
}
