use Rattle.std.proofs.Common.{◌++◌, string_bytes, ap, ◌∙◌, arith}
use Rattle.graph_steps.proofs.paging.Encoding.{encoded-token_part}
use Rattle.graph_steps.proofs.paging.token.push_part.Goals as goal

pub returns : goal.returns
returns c =
    c.in_ok-append_to.ensures.ok
    ∙ ap (λ x. string_bytes c.args.text.now ++ x) (c.percent_encode.ensures.text ∙ encoded-token_part c.args.id.now (λ i. omega (arith, c.type_inv.id i)))
