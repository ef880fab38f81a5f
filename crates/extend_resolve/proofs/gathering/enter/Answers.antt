use Rattle.std.proofs.Common.{ap, ◌∙◌, arith, unwrap_or}
use Rattle.std.specs.Option.{option_or}
use Rattle.extend_resolve.specs.Machinery.Numbers.{kept_at, number_for}
use Rattle.extend_resolve.proofs.Numbers.{number_entered}
use Rattle.extend_resolve.proofs.gathering.enter.Goals as goal

pub returns : goal.returns
returns c q =
    let number = c.or_insert.result.now in
    let known = c.args.numbers.now.entries in
    let entered = c.in_ok-numbers.ensures in
    let told = number_entered c.in_ok-key.key c.args.number number known _
    (c.or_insert.ensures.value ∙ ap (λ o. unwrap_or o c.args.number) entered.value)
    (λ p. (entered.update.0 number).0 p)
    q in
    ap (kept_at q) (grind arith) ∙ told ∙ ap (λ id. option_or (kept_at q known) (number_for id c.args.number q)) c.in_ok-key.ensures
