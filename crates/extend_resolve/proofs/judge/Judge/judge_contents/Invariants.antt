use Rattle.std.proofs.Common.{◌+◌}
use Rattle.extend_resolve.specs.Machinery.Firsts.{IsLeastFound}
use Rattle.extend_resolve.specs.Machinery.Judges.{Broken, OfContents, IsReady}
use Rattle.extend_resolve.proofs.judge.Judge.judge_contents.Given as goal

abbrev pub invariant-contents : goal.invariant-contents
invariant-contents l = record {
  ready : IsReady l.self l.scratch (l.index + 1);
  least : IsLeastFound l.uploaded (OfContents (Broken l.self l.index l.uploaded) l.at) l.first;
}
