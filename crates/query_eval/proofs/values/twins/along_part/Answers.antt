use Rattle.std.proofs.Common.{◌∙◌, ℕ, List, bytes_eq, codes, Some, None, sym, ap}
use Rattle.json_tree.specs.View.{view}
use Rattle.query_eval.proofs.values.Led.{part_empty, part_held}
use Rattle.query_eval.proofs.values.twins.along_part.Goals as goal

pub returns-then-eq : goal.returns-then-eq
returns-then-eq c =
    c.along_empty.ensures
    ∙ part_empty (view c.args.values.now) c.requires.sorted c.in-Some.name.now c.in-Some.rest.now c.args.names.now c.in-Some.ensures.cases.0
    (ap (λ (n : List ℕ). bytes_eq n (codes "$metadata")) (sym c.as_str.ensures) ∙ sym c.eq.ensures ∙ c.if-eq.true)

pub returns-in-Some-value_in : goal.returns-in-Some-value_in
returns-in-Some-value_in c =
    c.along_held.ensures
    ∙ part_held (view c.args.values.now) c.requires.sorted c.in-Some.name.now c.in-Some.rest.now c.args.names.now c.in-Some.ensures.cases.0
    (Some (view c.in-Some-value_in.value.now)) c.as_str-2.result.now c.as_str-2.ensures c.in-Some-value_in.ensures
    (ap (λ (n : List ℕ). bytes_eq n (codes "$metadata")) (sym c.as_str.ensures) ∙ sym c.eq.ensures ∙ c.if-eq.false)

pub returns-in-None : goal.returns-in-None
returns-in-None c =
    part_held (view c.args.values.now) c.requires.sorted c.in-Some.name.now c.in-Some.rest.now c.args.names.now c.in-Some.ensures.cases.0
    None c.as_str-2.result.now c.as_str-2.ensures c.in-None.ensures
    (ap (λ (n : List ℕ). bytes_eq n (codes "$metadata")) (sym c.as_str.ensures) ∙ sym c.eq.ensures ∙ c.if-eq.false)
