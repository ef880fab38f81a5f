use Rattle.std.proofs.Common.{◌≡◌, ◌+◌, ◌∙◌, length, map, sym, ap, arith}
use Rattle.std.specs.Option.{option_copied, option_map}
use Rattle.std.proofs.lemmas.List.{length-map}
use Rattle.graph_steps.specs.held.Held.{link_of, state_of}
use Rattle.graph_judges.proofs.links.Passed.{links_over, links_new}
use Rattle.graph_judges.proofs.links.limits.links_with.Goals as goal

pub returns-in-Some : goal.returns-in-Some
returns-in-Some c = λ l at.
    c.len-links.ensures.len ∙ ap length c.links.ensures ∙ sym (length-map c.args.lent.now.links link_of)
    ∙ links_over (state_of c.args.lent.now) c.requires.typed l (link_of c.in-Some.field-0.now)
    (sym at ∙ ap (λ o. option_map link_of (option_copied o)) c.in-Some.is)

pub overflow_add-result : goal.overflow_add-result
overflow_add-result c =
    let same : c.len-links.result ≡ length (map link_of c.args.lent.now.links) = c.len-links.ensures.len ∙ ap length c.links.ensures ∙ sym (length-map c.args.lent.now.links link_of) in
    let few = c.requires.typed.limits.links in
    omega (arith, same, few)

pub returns-in-None : goal.returns-in-None
returns-in-None c = λ l at.
    ap (λ n. n + 1) (c.len-links.ensures.len ∙ ap length c.links.ensures ∙ sym (length-map c.args.lent.now.links link_of))
    ∙ links_new (state_of c.args.lent.now) c.requires.typed l
    (sym at ∙ ap (λ o. option_map link_of (option_copied o)) c.in-None.is)
