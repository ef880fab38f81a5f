use Rattle.std.proofs.Common.{ap, sym, ◌∙◌, ◌+◌, length}
use Rattle.std.specs.Option.{option_copied, option_map}
use Rattle.std.proofs.lemmas.List.{length-map}
use Rattle.graph_steps.specs.held.Held.{state_of, twin_of}
use Rattle.graph_judges.proofs.twins.Sizes.{same_count, more_count}
use Rattle.graph_judges.proofs.twins.limits.twins_with.Goals as goal

pub returns-in-Some : goal.returns-in-Some
returns-in-Some c = λ t at.
    c.len-twins.ensures.len ∙ ap length c.twins.ensures ∙ sym (length-map c.args.lent.now.twins twin_of)
    ∙ same_count (state_of c.args.lent.now) c.requires.typed t (twin_of c.in-Some.field-0.now) (sym (ap (λ o. option_map twin_of (option_copied o)) c.in-Some.is) ∙ at)

pub returns-in-None : goal.returns-in-None
returns-in-None c = λ t at.
    ap (λ n. n + 1) (c.len-twins.ensures.len ∙ ap length c.twins.ensures ∙ sym (length-map c.args.lent.now.twins twin_of))
    ∙ more_count (state_of c.args.lent.now) c.requires.typed t (sym (ap (λ o. option_map twin_of (option_copied o)) c.in-None.is) ∙ at)
