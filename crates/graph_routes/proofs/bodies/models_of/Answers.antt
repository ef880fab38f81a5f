use Rattle.std.proofs.Common.{inl, inr, refl}
use Rattle.std.specs.Prelude.{IsTrue, false}
use Rattle.json_tree.specs.View.{view}
use Rattle.graph_routes.specs.Bodies.{IsTooMany}
use Rattle.graph_routes.proofs.bodies.models_of.Goals as goal

pub returns-in_ok-breach_refusal-in-Err-Fault : goal.returns-in_ok-breach_refusal-in-Err-Fault
returns-in_ok-breach_refusal-in-Err-Fault c =
    let few : IsTooMany (view c.args.tree.now) → ⊥ = λ many. (let no : IsTrue false = c.if-is_too_many.ensures.1 many in cc) in
    inr (inl (few, (c.in_ok-breach_refusal-in-Err-Fault.field-0, c.in_ok-breach_refusal-in-Err-Fault.ensures, refl)))
