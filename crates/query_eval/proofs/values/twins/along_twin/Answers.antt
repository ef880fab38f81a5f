use Rattle.std.proofs.Common.{◌∙◌, ℕ, List, bytes_eq, codes, sym, ap}
use Rattle.std.specs.Option.{option_and_then}
use Rattle.json_tree.specs.Values.{text}
use Rattle.graph_steps.specs.Conditions.{value_along}
use Rattle.graph_steps.specs.bodies.Kept.{twin_view}
use Rattle.query_eval.proofs.values.Led.{led}
use Rattle.query_eval.proofs.values.Members.{id_in, metadata_in, other_in}
use Rattle.query_eval.proofs.values.twins.along_twin.Goals as goal

pub returns-then-eq : goal.returns-then-eq
returns-then-eq c =
    led c.along_text.result _ _
    (ap (λ (b : List ℕ). value_along c.args.rest.now (text b)) c.as_str-then-eq.ensures
    ∙ ap (option_and_then (value_along c.args.rest.now))
    (sym (id_in (twin_view c.args.twin.now) c.requires c.args.name.now (ap (λ (n : List ℕ). bytes_eq n (codes "$dtId")) (sym c.as_str.ensures) ∙ sym c.eq.ensures ∙ c.if-eq.true))))
    c.along_text.ensures

pub returns-then-eq-2 : goal.returns-then-eq-2
returns-then-eq-2 c =
    led c.along_metadata.result _ _
    (ap (option_and_then (value_along c.args.rest.now))
    (sym (metadata_in (twin_view c.args.twin.now) c.requires c.args.name.now
    (ap (λ (n : List ℕ). bytes_eq n (codes "$dtId")) (sym c.as_str.ensures) ∙ sym c.eq.ensures ∙ c.if-eq.false)
    (ap (λ (n : List ℕ). bytes_eq n (codes "$metadata")) (sym c.as_str-2.ensures) ∙ sym c.eq-2.ensures ∙ c.if-eq-2.true))))
    c.along_metadata.ensures

pub returns : goal.returns
returns c =
    led c.along_content.result _ _
    (ap (option_and_then (value_along c.args.rest.now))
    (sym (other_in (twin_view c.args.twin.now) c.requires c.args.name.now
    (ap (λ (n : List ℕ). bytes_eq n (codes "$dtId")) (sym c.as_str.ensures) ∙ sym c.eq.ensures ∙ c.if-eq.false)
    (ap (λ (n : List ℕ). bytes_eq n (codes "$metadata")) (sym c.as_str-2.ensures) ∙ sym c.eq-2.ensures ∙ c.if-eq-2.false))))
    c.along_content.ensures
