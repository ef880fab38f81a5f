use Rattle.std.proofs.Common.{◌≡◌, ◌++◌, map, drop, string_bytes}
use Rattle.json_tree.specs.Values.{elements_of}
use Rattle.json_tree.specs.Printing.{printed_elements}
use Rattle.dtdl_terms.specs.TermViews.{schema_term}
use Rattle.canon_text.specs.Canonical.{schema_value}
use Rattle.canon_print.specs.Machinery.Bodies.{elements_left}
use Rattle.canon_print.proofs.declared.push_lent_schemas.Given as goal

-- the text so far and that of the schemas that are left are the whole
abbrev pub invariant-loop-position : goal.invariant-loop-position
invariant-loop-position l = string_bytes l.out ++ elements_left l.position (elements_of (map (λ s. schema_value (schema_term s.now)) (drop l.position l.schemas)))
    ≡ string_bytes l.fn.out ++ printed_elements (elements_of (map (λ s. schema_value (schema_term s.now)) l.schemas))
