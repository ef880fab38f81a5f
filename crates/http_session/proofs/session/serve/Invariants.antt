use Rattle.std.proofs.Common.{◌≤◌, ◌<◌, ◌-◌, ◌≡◌}
use Rattle.http_ends.specs.Streams.{stream_of}
use Rattle.http_session.specs.Turns.{Going, world}
use Rattle.http_session.proofs.session.serve.Given as goal

-- the requests so far were answered
abbrev pub invariant-turns : goal.invariant-turns
invariant-turns g l = record {
  going : Going g.D.Service.goes g.D.Service.own g.D.Service.enters l.replies (world (g.S.Source.left l.fn.source) (g.K.Sink.taken l.fn.sink) l.fn.service) (world (stream_of l.buffer (g.S.Source.left l.source)) (g.K.Sink.taken l.sink) l.service);
  few : l.replies < 1000000;
  ready : g.D.Service.ready l.service;
  read_count : g.S.Source.faults l.fn.source ≤ g.S.Source.faults l.source;
  write_count : g.K.Sink.faults l.fn.sink ≤ g.K.Sink.faults l.sink;
  beside_source : g.S.Source.aside l.source ≡ g.S.Source.aside l.fn.source;
  beside_sink : g.K.Sink.aside l.sink ≡ g.K.Sink.aside l.fn.sink;
}

abbrev pub decreases-turns : goal.decreases-turns
decreases-turns g l = 1000000 - l.replies
