use Rattle.std.proofs.Common.{refl}
use Rattle.std.proofs.lemmas.Result.{on_ok_weaker}
use Rattle.graph_steps.specs.held.Held.{state_of}
use Rattle.graph_server.proofs.Answering.{decided, made}
use Rattle.dtdl_cmd.proofs.making.Leading.{asked, refused}
use Rattle.dtdl_cmd.proofs.making.maker.Maker.take.Goals as goal

pub returns-in-Own : goal.returns-in-Own
returns-in-Own c =
    let s = state_of c.args.self.now.machine in
    refused s s c.args.request.now c.in-Own.refusal (decided c.args.request.now c.in-Ok.prepared c.in-Own.refusal c.in-Ok.ensures c.in-Own.is) refl

pub take_ask-taken-requires : goal.take_ask-taken-requires
take_ask-taken-requires c = c.prepared_is_right.ensures.sound c.args.request.now c.in-Ask.ask (made c.args.request.now c.in-Ok.prepared c.in-Ask.ask c.in-Ok.ensures c.in-Ask.is)

pub returns-in-Ask : goal.returns-in-Ask
returns-in-Ask c =
    let is = made c.args.request.now c.in-Ok.prepared c.in-Ask.ask c.in-Ok.ensures c.in-Ask.is in
    on_ok_weaker c.take_ask-taken.result (λ h.
    asked (state_of c.args.self.now.machine) (state_of c.take_ask-taken.new.self.machine) c.args.request.now c.in-Ask.ask h.0 is
    (c.prepared_is_right.ensures.sound c.args.request.now c.in-Ask.ask is) h.1 h.2
    ) c.take_ask-taken.ensures
