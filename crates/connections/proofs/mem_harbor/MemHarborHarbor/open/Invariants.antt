use Rattle.std.proofs.Common.{◌≡◌, ℕ, ◌+◌, List, [], ◌++◌, length, map, reverse, replicate}
use Rattle.std.specs.Prelude.{Option, Some, None, All}
use Rattle.connections.specs.Records.{LinkRecord}
use Rattle.connections.specs.Turns.{turn_record, asked_doors, doors_ahead}
use Rattle.connections.specs.declared.mem_door.MemDoor.{MemDoor}
use Rattle.connections.proofs.mem_harbor.MemHarborHarbor.open.Given as goal

-- what is ahead of a door
abbrev pub ahead_of : MemDoor → Option (List (Option LinkRecord))
ahead_of door = Some (map turn_record (reverse door.turns.items) ++ replicate door.failing None)

-- the doors that are open, and behind them those that are still to be opened, are those that were asked for
abbrev pub invariant-opening : goal.invariant-opening
invariant-opening l = record {
  number : length l.doors.items ≡ l.counter;
  ahead : (n : ℕ) → n + l.counter ≡ l.workers →
      map ahead_of l.doors.items ++ map Some (asked_doors n l.each (doors_ahead l.self.doors.items))
      ≡ map Some (asked_doors l.workers l.each (doors_ahead l.fn.self.doors.items));
  left : All (λ door. length door.turns.items + door.failing ≡ l.each) l.doors.items;
  counts : All (λ door. door.faults ≡ 0) l.doors.items;
  lost : All (λ door. door.lost ≡ 0) l.doors.items;
  gone : All (λ door. door.gone ≡ []) l.doors.items;
  count : l.self.faults ≡ l.fn.self.faults;
}
