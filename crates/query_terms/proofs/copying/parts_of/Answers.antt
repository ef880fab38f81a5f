use Rattle.std.proofs.Common.{◌≡◌, ◌<◌, ◌∷◌, map, sym, ap, ◌∙◌, arith}
use Rattle.std.specs.Option.{option_and_then}
use Rattle.query_terms.specs.Machinery.Weights.{total_weight}
use Rattle.query_terms.specs.Machinery.Parts.{rebuilt, stacked}
use Rattle.query_terms.proofs.Parts.{now, rebuilt_more, stacked_more, total_more}
use Rattle.query_terms.proofs.copying.parts_of.Goals as goal

pub waiting-smaller : goal.waiting-smaller
waiting-smaller c =
    let whole = ap (λ xs. total_weight (map now xs)) c.in-Some.ensures.items ∙ total_more c.pop.new.self.items c.in-Some.next in
    let lighter = c.in_ok-wait_for_parts.ensures.lighter in
    let smaller : total_weight (map now c.wait_for_parts.new.waiting.items) < total_weight (map now c.waiting.waiting.items) = omega (arith, whole, lighter) in
    smaller

pub waiting-preserved : goal.waiting-preserved
waiting-preserved c =
    let parts = c.waiting.parts.items in
    let next = c.in-Some.next in
    let before = stacked (map now c.pop.new.self.items) in
    let behind = stacked (map now c.wait_for_parts.new.waiting.items) in
    let popped : stacked (map now c.waiting.waiting.items) ≡ _ ∷ before =
    ap (λ xs. stacked (map now xs)) c.in-Some.ensures.items ∙ stacked_more c.pop.new.self.items next in
    ap (λ xs. rebuilt (map now xs) behind) c.in_ok-push-2.ensures.items
    ∙ rebuilt_more parts next behind
    ∙ ap (λ o. option_and_then (rebuilt (map now parts)) o) c.in_ok-wait_for_parts.ensures.parts
    ∙ ap (λ xs. rebuilt (map now parts) xs) (sym popped)
    ∙ c.waiting.invariant
