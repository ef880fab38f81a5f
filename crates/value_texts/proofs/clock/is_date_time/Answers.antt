use Rattle.std.proofs.Common.{◌≡◌, ◌↔◌, IsTrue, Bool, sym, subst, ◌∙◌, ap}
use Rattle.value_texts.specs.Clock.{IsDateTime}
use Rattle.value_texts.specs.Machinery.Reading.{is_whole, after_date_time}
use Rattle.value_texts.proofs.Times.{date_time_exact}
use Rattle.value_texts.proofs.clock.is_date_time.Goals as goal

pub returns : goal.returns
returns c =
    let e : c.is_whole.result ≡ is_whole (after_date_time c.args.text.now) = c.is_whole.ensures ∙ ap is_whole (c.after_date_time.ensures ∙ ap after_date_time c.as_bytes.ensures.value) in
    subst (λ (b : Bool). IsTrue b ↔ IsDateTime c.args.text.now) (sym e) (date_time_exact c.args.text.now)
