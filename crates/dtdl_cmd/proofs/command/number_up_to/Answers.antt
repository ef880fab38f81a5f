use Rattle.std.proofs.Common.{refl, arith}
use Rattle.dtdl_cmd.proofs.Names.{not_true}
use Rattle.dtdl_cmd.proofs.Numbers.{first_digit, number_found, number_read}
use Rattle.dtdl_cmd.proofs.command.number_up_to.Goals as goal

pub returns-then-not-begins_past_zero : goal.returns-then-not-begins_past_zero
returns-then-not-begins_past_zero c = λ n is. not_true (c.if-not-begins_past_zero.ensures.1 (first_digit c.args.most c.requires.modest c.args.word.now n is))

pub returns-in_default : goal.returns-in_default
returns-in_default c = λ n is. c.in_default.not-Ok n (number_found c.args.most c.requires.modest c.args.word.now n c.parse.result is c.parse.ensures.value.0)

pub returns-then-number-most : goal.returns-then-number-most
returns-then-number-most c = λ n is.
    let found = number_found c.args.most c.requires.modest c.args.word.now n c.parse.result is c.parse.ensures.value.0 in
    grind (arith, found, c.in-Ok.is, c.if-number-most, is.2)

pub returns : goal.returns
returns c = number_read c.args.most c.requires.modest c.args.word.now c.in-Ok.number c.parse.result (c.if-not-begins_past_zero.ensures.0 refl) c.in-Ok.is (omega (arith, c.if-number-most)) c.parse.ensures.value.0
