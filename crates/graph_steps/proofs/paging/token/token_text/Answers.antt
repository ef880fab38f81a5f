use Rattle.std.proofs.Common.{◌++◌, sym, ap, ◌∙◌, take}
use Rattle.graph_steps.specs.Pages.{token_part, token_of}
use Rattle.graph_steps.specs.paging.Machinery.Joining.{separator}
use Rattle.graph_steps.proofs.paging.Joined.{token-more}
use Rattle.graph_steps.proofs.paging.token.token_text.Goals as goal

pub ids-preserved : goal.ids-preserved
ids-preserved c =
    c.in_ok-push_part.ensures
    ∙ ap (λ t. t ++ token_part c.as_bytes.result.now) (c.in_ok-separate.ensures ∙ ap (λ t. t ++ separator c.ids.i) c.ids.invariant)
    ∙ ap (λ b. (token_of (take c.ids.i c.args.ids.now) ++ separator c.ids.i) ++ token_part b) (c.as_bytes.ensures ∙ c.index-ids-i.is)
    ∙ sym (token-more c.args.ids.now c.ids.i c.index-ids-i.result c.ids-test.true)
