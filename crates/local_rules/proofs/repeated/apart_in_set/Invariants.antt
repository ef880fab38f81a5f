use Rattle.local_rules.proofs.Compared.{AreApartTo, HasSeenAll}
use Rattle.local_rules.proofs.repeated.apart_in_set.Given as goal

-- the entries so far are apart, and what they are compared by was seen
abbrev pub invariant-loop-at : goal.invariant-loop-at
invariant-loop-at l = record {
  apart : AreApartTo l.comparison l.entries l.at;
  seen : HasSeenAll l.comparison l.entries l.at l.seen;
}
