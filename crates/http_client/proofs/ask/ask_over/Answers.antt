use Rattle.std.proofs.Common.{List, Option, sym, subst}
use Rattle.std.specs.Option.{option_copied}
use Rattle.connections.specs.Records.{LinkRecord, Gains}
use Rattle.http_ends.specs.Requests.{request_text}
use Rattle.http_client.specs.Ends.{dial_record}
use Rattle.http_client.specs.Exchanges.{link_record}
use Rattle.http_client.proofs.AskLemmas.{handed_back}
use Rattle.http_client.proofs.ask.ask_over.Goals as goal

pub returns-clause-ends : goal.returns-clause-ends
returns-clause-ends g c =
    let record_of = dial_record g.D.Dial.ahead g.D.Dial.gone g.D.Dial.lost in
    let first = link_record g.D.Link.Source.left g.D.Link.Sink.taken g.D.Link.Source.faults c.in-Ok.link in
    let last = link_record g.D.Link.Source.left g.D.Link.Sink.taken g.D.Link.Source.faults c.exchange-answer.new.link in
    handed_back (request_text c.args.host.now c.args.port c.args.method.now c.args.target.now (option_copied c.args.body))
    (record_of c.args.dial.now) (record_of c.done.new.self) c.exchange-answer.result (record {
      first = first;
      last = last;
      given = c.in-Ok.ensures.given;
      fresh = c.in-Ok.ensures.fresh;
      exchanged = c.exchange-answer.ensures;
      handed = subst (λ (gone : Option (List LinkRecord)). Gains gone (g.D.Dial.gone c.done.new.self) last) c.dial.ensures.gone c.done.ensures.gone;
      sound = λ none. rw (sym c.dial.ensures.lost) (c.done.ensures.sound none);
      broken = λ some. rw (sym c.dial.ensures.lost) (c.done.ensures.broken some);
    })
