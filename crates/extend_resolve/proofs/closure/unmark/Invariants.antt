use Rattle.std.proofs.Common.{◌≡◌, ℕ, true, false, length, drop, get_or}
use Rattle.extend_resolve.specs.Machinery.Links.{IsIn}
use Rattle.extend_resolve.proofs.closure.unmark.Given as goal

-- what is still marked is still to come
abbrev pub invariant-found : goal.invariant-found
invariant-found l = record {
  marked : (y : ℕ) → get_or l.marks y false ≡ true → IsIn y (drop l.number-index l.found);
  bound : length l.marks ≡ length l.fn.marks;
}
