use Rattle.std.proofs.Common.{◌≡◌, drop}
use Rattle.std.specs.List.{find}
use Rattle.twin_value.specs.Named.{is_called}
use Rattle.twin_value.proofs.index.first_called.Given as goal

-- no item so far has the name
abbrev pub invariant-loop-item : goal.invariant-loop-item
invariant-loop-item g l = find (λ x. is_called l.name (g.T.Keyed.key_of x)) (drop l.item-index l.items) ≡ find (λ x. is_called l.name (g.T.Keyed.key_of x)) l.items
