use Rattle.std.proofs.Common.{◌≡◌, ◌++◌, map, drop, option_to_list}
use Rattle.std.specs.List.{filter_map}
use Rattle.json_tree.specs.View.{view}
use Rattle.local_rules.specs.Roles.{named_by, only}
use Rattle.local_rules.proofs.roles.only_type.Given as goal

-- the types so far are the one that was found, or none
abbrev pub invariant-loop-entry : goal.invariant-loop-entry
invariant-loop-entry l = only (option_to_list l.found ++ filter_map (named_by l.position) (map view (drop l.entry-index l.entries)))
    ≡ only (filter_map (named_by l.position) (map view l.entries))
