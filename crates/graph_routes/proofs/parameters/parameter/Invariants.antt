use Rattle.std.proofs.Common.{◌≡◌}
use Rattle.std.specs.Prelude.{bytes_eq}
use Rattle.std.specs.List.{find}
use Rattle.form_urlencoded.specs.Form.{raw_pairs}
use Rattle.form_urlencoded.specs.Parse.{raw_pairs_left}
use Rattle.graph_routes.specs.Parameters.{form_text}
use Rattle.graph_routes.proofs.parameters.parameter.Given as goal

-- no pair so far has the name
abbrev pub invariant-pairs : goal.invariant-pairs
invariant-pairs l =
    find (λ p. bytes_eq (form_text p.0) l.name) (raw_pairs_left l.key-iterator) ≡ find (λ p. bytes_eq (form_text p.0) l.name) (raw_pairs l.query)
