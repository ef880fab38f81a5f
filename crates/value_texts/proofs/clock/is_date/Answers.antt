use Rattle.std.proofs.Common.{◌≡◌, ◌↔◌, IsTrue, Bool, sym, subst, ◌∙◌, ap}
use Rattle.value_texts.specs.Clock.{IsDate}
use Rattle.value_texts.specs.Machinery.Reading.{is_whole, after_date}
use Rattle.value_texts.proofs.Dates.{date_exact}
use Rattle.value_texts.proofs.clock.is_date.Goals as goal

pub returns : goal.returns
returns c =
    let e : c.is_whole.result ≡ is_whole (after_date c.args.text.now) = c.is_whole.ensures ∙ ap is_whole (c.after_date.ensures ∙ ap after_date c.as_bytes.ensures.value) in
    subst (λ (b : Bool). IsTrue b ↔ IsDate c.args.text.now) (sym e) (date_exact c.args.text.now)
