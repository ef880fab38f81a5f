use Rattle.std.proofs.Common.{drop, map, ◌∙◌, inl}
use Rattle.std.specs.Prelude.{string_bytes}
use Rattle.dtdl_cmd.specs.declared.status.Status.TheVariants as status
use Rattle.dtdl_cmd.proofs.Ended.{said, no_command, answered, none_named, rest_whole}
use Rattle.dtdl_cmd.proofs.run.run_plain.Goals as goal

pub returns-in_default-command_of-clause-ends : goal.returns-in_default-command_of-clause-ends
returns-in_default-command_of-clause-ends g c =
    inl (said c.args.words.now _ _ _ status.Usage c.say.result _
    (no_command c.args.words.now _ _ c.in_default-command_of.ensures (λ h. let wrong = c.if-are_replay.ensures.1 h in cc) c.in_default.ensures) c.say.ensures.said)

pub returns-in-Ok-clause-ends : goal.returns-in-Ok-clause-ends
returns-in-Ok-clause-ends g c =
    inl (said c.args.words.now _ _ _ c.in-Ok.answer.status c.say-in-Ok.result c.in-Ok.answer.line
    (answered c.args.words.now _ _ c.in-Some-command_of.command (map string_bytes (drop 1 c.args.words.now)) c.in-Ok.answer.status c.in-Ok.answer.line c.in-Some-command_of.ensures
    (rw (rest_whole c.args.words.now) at c.in-Ok.ensures.given))
    (rw c.as_slice.ensures at c.say-in-Ok.ensures.said))

pub returns-in-Ok-clause-unasked : goal.returns-in-Ok-clause-unasked
returns-in-Ok-clause-unasked g c = λ none. c.answer_to.ensures.unasked (rest_whole c.args.words.now ∙ none_named c.args.words.now (drop 1 c.args.words.now) c.in-Some-command_of.command c.in-Some-command_of.ensures none)
