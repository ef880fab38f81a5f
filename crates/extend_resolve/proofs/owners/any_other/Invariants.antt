use Rattle.std.proofs.Common.{◌≡◌, drop}
use Rattle.std.specs.List.{list_any}
use Rattle.extend_resolve.specs.Machinery.Owners.{other_at}
use Rattle.extend_resolve.proofs.owners.any_other.Given as goal

-- one is still looked for among those that follow
abbrev pub invariant-names : goal.invariant-names
invariant-names l =
    list_any (λ x. other_at l.owners l.round x l.number) l.names ≡ list_any (λ x. other_at l.owners l.round x l.number) (drop l.name-index l.names)
