use Rattle.std.proofs.Math.Logic.{∥∥₁_map}
use Rattle.std.proofs.lemmas.List.Elements.{All-pop}
use Rattle.std.specs.Prelude.{All, Some}
use Rattle.connections.specs.Turns.{IsFresh}
use Rattle.connections.proofs.mem_harbor.MemHarbor.next_door.Goals as goal

pub invariant_of-self : goal.invariant_of-self
invariant_of-self c = record {
  fresh = ∥∥₁_map c.args.self.now.fresh
      (λ all. (All-pop (All IsFresh) c.args.self.now.doors.items c.pop.new.self.items c.pop.result c.pop.ensures.items all).0);
}

pub with_turns-requires : goal.with_turns-requires
with_turns-requires c = record {
  fresh = ∥∥₁_map c.args.self.now.fresh
      (λ all. (All-pop (All IsFresh) c.args.self.now.doors.items c.pop.new.self.items (Some c.in-Some.turns) c.in-Some.ensures.items all).1);
}
