use Rattle.std.proofs.Common.{◌≤◌, ◌<◌, ◌-◌}
use Rattle.http_ends.specs.Streams.{stream_of}
use Rattle.http_session.specs.Turns.{Going, world}
use Rattle.http_session.proofs.links.serve_link.Given as goal

-- the requests so far were answered
abbrev pub invariant-turns : goal.invariant-turns
invariant-turns g l = record {
  going : Going g.D.Service.goes g.D.Service.own g.D.Service.enters l.replies (world (g.L.Source.left l.fn.link) (g.L.Sink.taken l.fn.link) l.fn.service) (world (stream_of l.buffer (g.L.Source.left l.link)) (g.L.Sink.taken l.link) l.service);
  few : l.replies < 1000000;
  ready : g.D.Service.ready l.service;
  count : g.L.Sink.faults l.fn.link ≤ g.L.Sink.faults l.link;
}

abbrev pub decreases-turns : goal.decreases-turns
decreases-turns g l = 1000000 - l.replies
