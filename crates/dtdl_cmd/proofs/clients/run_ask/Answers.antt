use Rattle.std.proofs.Common.{◌≡◌, ℕ, List, Some, refl, sym, ap, inl, inr, subst, ◌∙◌}
use Rattle.std.specs.Option.{option_copied}
use Rattle.http_client.specs.Ends.{dial_record}
use Rattle.dtdl_cmd.specs.ClientRuns.{Asks, dial_change, request_of, stream_change}
use Rattle.dtdl_cmd.specs.Machinery.ClientWords.{client_view}
use Rattle.dtdl_cmd.proofs.clients.run_ask.Goals.{in-Some-body, in-None}
use Rattle.dtdl_cmd.proofs.clients.run_ask.Goals as goal

pub returns-in_default-clause-ends : goal.returns-in_default-clause-ends
returns-in_default-clause-ends g c = inl (c.in_default.ensures, c.say.ensures.said)

pub returns-in-Err-TooLong-clause-ends : goal.returns-in-Err-TooLong-clause-ends
returns-in-Err-TooLong-clause-ends g c =
    inr (client_view c.in-Some.client, c.in-Some.ensures, inl (c.in-Err-TooLong.ensures.asked, inl (c.in-Err-TooLong.ensures.long (let is = c.in-Err-TooLong.field-0-is in cc), c.say-in-Err-TooLong.ensures.said), (refl, refl)))

pub returns-clause-ends : goal.returns-clause-ends
returns-clause-ends g c =
    let client = client_view c.in-Some.client in
    let told : option_copied c.match-body.told ≡ c.in-Ok.body = elim c.match-body.branch [
      | in-Some-body w ↦ ap option_copied w.told-is ∙ ap (λ (b : List ℕ). Some b) w.as_slice.ensures ∙ sym w.in-Some-body.is
      | in-None w ↦ ap option_copied w.told-is ∙ sym w.in-None.is
    ] in
    inr (
      client,
      c.in-Some.ensures,
      inr (
        c.in-Ok.body,
        c.in-Ok.ensures.given,
        subst (λ b. Asks (request_of client b)
            (dial_change (dial_record g.D.Dial.ahead g.D.Dial.gone g.D.Dial.lost) g.D.Dial.faults c.args.dial.now c.ask_server.new.dial)
            (stream_change g.K.Sink.taken g.K.Sink.faults c.args.output.now c.ask_server.new.output) c.ask_server.result) told c.ask_server.ensures.asks,
      ),
    )
