use Rattle.std.proofs.Common.{◌≡◌, ◌+◌, ◌<◌, ◌≤◌, ℕ, Some, take}
use Rattle.dt_base.specs.names.Machinery.Walking.{need, run, Lives}
use Rattle.dt_base.proofs.names.walk.walk.Given as goal

abbrev pub invariant-loop-at : goal.invariant-loop-at
invariant-loop-at l = record {
  here : run l.fn.start (take l.at l.bytes) ≡ Some l.state;
  fits : l.at + need l.state ≤ l.bound;
  before : (n : ℕ) → n < l.at → Lives l.fn.start l.bound (take (n + 1) l.bytes);
}
