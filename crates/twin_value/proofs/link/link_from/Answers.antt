use Rattle.std.proofs.Common.{Some, ap, sym, ◌∙◌}
use Rattle.twin_value.proofs.link.link_from.Goals as goal

pub returns : goal.returns
returns c =
    let made = c.with_values.ensures in record {
      source = made.ends.0 ∙ c.in_ok-bare.ensures.ends.0;
      id = made.names.0 ∙ c.in_ok-bare.ensures.names.0;
      name = c.text_under-name.ensures ∙ ap Some (sym (made.names.1 ∙ c.in_ok-bare.ensures.names.1));
      target = c.text_under-target.ensures ∙ ap Some (sym (made.ends.1 ∙ c.in_ok-bare.ensures.ends.1));
      payload = rw made.payload c.in-Ok.ensures;
    }
