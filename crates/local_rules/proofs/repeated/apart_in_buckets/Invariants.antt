use Rattle.std.proofs.Common.{map, take}
use Rattle.json_tree.specs.View.{view}
use Rattle.local_rules.specs.Machinery.Repeated.{AreInBuckets}
use Rattle.local_rules.proofs.Compared.{AreApartTo}
use Rattle.local_rules.proofs.repeated.apart_in_buckets.Given as goal

-- the entries so far are apart, and the texts that they are compared by have buckets that are used
abbrev pub invariant-loop-at : goal.invariant-loop-at
invariant-loop-at l = record {
  apart : AreApartTo l.comparison l.entries l.at;
  put : AreInBuckets l.comparison (map view (take l.at l.entries)) l.buckets;
}
