use Rattle.std.proofs.Common.{arith}
use Rattle.std.proofs.Math.Logic.{∥∥₁_elim, ∥∥₁_map}
use Rattle.std.proofs.Props.{props}
use Rattle.std.proofs.lemmas.List.Elements.{All-pop}
use Rattle.std.specs.Prelude.{Some}
use Rattle.connections.specs.Turns.{IsFresh}
use Rattle.connections.proofs.mem_door.MemDoorDoor.next.Goals as goal

pub invariant_of-self : goal.invariant_of-self
invariant_of-self c = record {
  few = omega (arith, c.pop.ensures.len, c.args.self.now.few);
  fresh = ∥∥₁_map c.args.self.now.fresh (λ all. (All-pop IsFresh c.args.self.now.turns.items c.pop.new.self.items c.pop.result c.pop.ensures.items all).0);
}

pub returns-in-Some-turn-clause-fresh : goal.returns-in-Some-turn-clause-fresh
returns-in-Some-turn-clause-fresh c = ∥∥₁_elim c.args.self.now.fresh (hlevel props)
    (λ all. rw c.in-Some-turn.is at (All-pop IsFresh c.args.self.now.turns.items c.pop.new.self.items (Some c.in-Some.turn) c.in-Some.ensures.items all).1)
