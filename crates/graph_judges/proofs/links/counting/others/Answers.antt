use Rattle.std.proofs.Common.{◌∙◌, ℕ, List, bytes_eq, sym, ap, arith}
use Rattle.std.specs.Option.{option_copied}
use Rattle.graph_judges.proofs.links.Counts.{held_free, held_same, held_else}
use Rattle.graph_judges.proofs.links.counting.others.Goals as goal

pub returns-in_default : goal.returns-in_default
returns-in_default c =
    c.count-count.ensures
    ∙ held_free c.args.lent.now c.args.source.now c.args.id.now c.args.name.now c.links-links.result.now c.links-links.ensures c.len-ordered.ensures.ordered
    (sym c.get.ensures ∙ ap option_copied c.in_default.is)

pub overflow_sub-result : goal.overflow_sub-result
overflow_sub-result c =
    let more =
    held_same c.args.lent.now c.args.source.now c.args.id.now c.args.name.now c.links-links.result.now c.links-links.ensures c.len-ordered.ensures.ordered c.in-Some.edge.now (sym c.get.ensures ∙ ap option_copied c.in-Some.is)
    (ap (λ (n : List ℕ). bytes_eq c.in-Some.edge.now.name n) (sym c.as_str-2.ensures) ∙ ap (λ (n : List ℕ). bytes_eq n c.as_str-2.result.now) (sym c.as_str.ensures) ∙ sym c.eq.ensures ∙ c.if-eq.true) in
    let count = c.count-count.ensures in
    omega (arith, more, count)

pub returns-then-eq : goal.returns-then-eq
returns-then-eq c =
    let more =
    held_same c.args.lent.now c.args.source.now c.args.id.now c.args.name.now c.links-links.result.now c.links-links.ensures c.len-ordered.ensures.ordered c.in-Some.edge.now (sym c.get.ensures ∙ ap option_copied c.in-Some.is)
    (ap (λ (n : List ℕ). bytes_eq c.in-Some.edge.now.name n) (sym c.as_str-2.ensures) ∙ ap (λ (n : List ℕ). bytes_eq n c.as_str-2.result.now) (sym c.as_str.ensures) ∙ sym c.eq.ensures ∙ c.if-eq.true) in
    let count = c.count-count.ensures in
    omega (arith, more, count)

pub returns : goal.returns
returns c =
    c.count-count.ensures
    ∙ held_else c.args.lent.now c.args.source.now c.args.id.now c.args.name.now c.links-links.result.now c.links-links.ensures c.len-ordered.ensures.ordered c.in-Some.edge.now (sym c.get.ensures ∙ ap option_copied c.in-Some.is)
    (ap (λ (n : List ℕ). bytes_eq c.in-Some.edge.now.name n) (sym c.as_str-2.ensures) ∙ ap (λ (n : List ℕ). bytes_eq n c.as_str-2.result.now) (sym c.as_str.ensures) ∙ sym c.eq.ensures ∙ c.if-eq.false)
