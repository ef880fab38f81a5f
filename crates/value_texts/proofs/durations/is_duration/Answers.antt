use Rattle.std.proofs.Common.{◌≡◌, ◌↔◌, IsTrue, Bool, sym, subst, ◌∙◌, ap}
use Rattle.value_texts.specs.Durations.{IsDuration}
use Rattle.value_texts.specs.Machinery.Reading.{is_duration}
use Rattle.value_texts.proofs.Lasting.{duration_exact}
use Rattle.value_texts.proofs.durations.is_duration.Goals as goal

pub returns : goal.returns
returns c =
    let e : c.reads_duration.result ≡ is_duration c.args.text.now = c.reads_duration.ensures ∙ ap is_duration c.as_bytes.ensures.value in
    subst (λ (b : Bool). IsTrue b ↔ IsDuration c.args.text.now) (sym e) (duration_exact c.args.text.now)
