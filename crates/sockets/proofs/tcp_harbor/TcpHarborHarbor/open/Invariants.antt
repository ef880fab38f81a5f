use Rattle.std.proofs.Common.{◌≡◌, length}
use Rattle.std.specs.Prelude.{All, ⊤}
use Rattle.sockets.proofs.tcp_harbor.TcpHarborHarbor.open.Given as goal

-- the doors that are open have all their turns, and nothing has happened at them
abbrev pub invariant-opening : goal.invariant-opening
invariant-opening g l = record {
  number : length l.doors.items ≡ l.counter;
  left : All (λ door. door.left ≡ l.each) l.doors.items;
  counts : All (λ door. door.faults ≡ 0) l.doors.items;
  lost : All (λ door. door.lost ≡ 0) l.doors.items;
  gone : All (λ door. ⊤) l.doors.items;
}
