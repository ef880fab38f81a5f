use Rattle.std.proofs.Common.{◌≡◌, ◌↔◌, IsTrue, Bool, sym, subst, ◌∙◌, ap}
use Rattle.value_texts.specs.Clock.{IsTime}
use Rattle.value_texts.specs.Machinery.Reading.{is_whole, after_time}
use Rattle.value_texts.proofs.Times.{time_exact}
use Rattle.value_texts.proofs.clock.is_time.Goals as goal

pub returns : goal.returns
returns c =
    let e : c.is_whole.result ≡ is_whole (after_time c.args.text.now) = c.is_whole.ensures ∙ ap is_whole (c.after_time.ensures ∙ ap after_time c.as_bytes.ensures.value) in
    subst (λ (b : Bool). IsTrue b ↔ IsTime c.args.text.now) (sym e) (time_exact c.args.text.now)
