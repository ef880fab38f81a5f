use Rattle.std.proofs.Common.{inl, refl}
use Rattle.graph_judges.proofs.twins.limits.within_limits.Goals as goal

pub within_graph-requires-clause-size : goal.within_graph-requires-clause-size
within_graph-requires-clause-size c = c.in-Some.ensures.0

pub within_graph-requires-clause-short : goal.within_graph-requires-clause-short
within_graph-requires-clause-short c = c.in-Some.ensures.1

pub returns-in-None-clause-full : goal.returns-in-None-clause-full
returns-in-None-clause-full c = inl (c.in-None.ensures, refl)
