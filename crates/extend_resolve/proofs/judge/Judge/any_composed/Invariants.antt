use Rattle.std.proofs.Common.{◌≡◌, false, drop, get_or}
use Rattle.std.specs.List.{list_any}
use Rattle.extend_resolve.proofs.judge.Judge.any_composed.Given as goal

-- one is still looked for among those that follow
abbrev pub invariant-numbers : goal.invariant-numbers
invariant-numbers l =
    list_any (λ y. get_or l.self.world.composed.items y false) l.numbers ≡ list_any (λ y. get_or l.self.world.composed.items y false) (drop l.number-index l.numbers)
