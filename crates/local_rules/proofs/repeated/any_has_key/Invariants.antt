use Rattle.std.proofs.Common.{◌≡◌, map, drop}
use Rattle.std.specs.List.{list_any}
use Rattle.json_tree.specs.View.{view}
use Rattle.local_rules.specs.Machinery.Repeated.{compared, value_by}
use Rattle.local_rules.specs.Repeats.{holds_some, same_value}
use Rattle.local_rules.proofs.repeated.any_has_key.Given as goal

-- no entry so far has the key
abbrev pub invariant-loop-entry : goal.invariant-loop-entry
invariant-loop-entry l = list_any (holds_some (λ v. same_value v (value_by l.key))) (map (compared l.comparison) (map view (drop l.entry-index l.entries)))
    ≡ list_any (holds_some (λ v. same_value v (value_by l.key))) (map (compared l.comparison) (map view l.entries))
