use Rattle.std.proofs.Common.{◌+◌, map, take, sym, subst}
use Rattle.page_tokens.specs.Tokens.{NameIds}
use Rattle.page_tokens.proofs.Naming.{not_named, named_more}
use Rattle.page_tokens.proofs.tokens.ids_of_parts.Goals as goal

pub returns-in-None : goal.returns-in-None
returns-in-None c = not_named c.args.parts.now c.parts.part-index _ c.parts-test.true (rw c.in-None.is at c.in_ok-id.ensures)

pub parts-preserved : goal.parts-preserved
parts-preserved c =
    subst (NameIds (map (λ p. p.now) (take (c.parts.part-index + 1) c.args.parts.now))) (sym c.in_ok-push-in-Some.ensures.items)
    (named_more c.args.parts.now c.parts.part-index _ c.parts.ids.items c.in-Some.id c.parts-test.true c.parts.invariant (rw c.in-Some.is at c.in_ok-id.ensures))
