use Rattle.std.proofs.Common.{◌≡◌, ◌-◌, length, map, reverse, take, min, ap, sym, subst, ◌∙◌, refl, arith}
use Rattle.std.proofs.Math.Logic.{∥∥₁_map}
use Rattle.std.proofs.lemmas.List.{reverse-reverse, length-map, length-reverse, length-take, take-map}
use Rattle.std.proofs.lemmas.List.Elements.{All-take}
use Rattle.std.proofs.lemmas.List.Sorted.{All-permutation}
use Rattle.std.specs.Prelude.{All, None}
use Rattle.connections.specs.Turns.{turn_record, IsFresh}
use Rattle.connections.proofs.Filled.{filled-is}
use Rattle.connections.proofs.mem_door.MemDoor.with_turns.Goals as goal

pub invariant_of-result : goal.invariant_of-result
invariant_of-result c =
    let same : c.turns.inside.items.items ≡ c.args.turns = cc in
    let cut : length c.truncate.new.self.items ≡ min c.args.each (length c.turns.inside.items.items) = ap length c.truncate.ensures.items ∙ length-take c.args.each c.turns.inside.items.items in
    let size : length c.reverse.new.self.items ≡ length c.truncate.new.self.items = ap length c.reverse.ensures.items ∙ length-reverse c.truncate.new.self.items in
    record {
      few = omega (arith, cut, size, c.len.ensures, c.reverse.new.self.ok.0, c.ranges.each.fits);
      fresh = ∥∥₁_map c.requires.fresh (λ all. All-permutation IsFresh c.truncate.new.self.items c.reverse.new.self.items c.reverse.ensures.permutation
          (subst (All IsFresh) (sym c.truncate.ensures.items) (All-take IsFresh c.args.each c.turns.inside.items.items (subst (All IsFresh) (sym same) all))));
    }

pub returns-clause-ahead : goal.returns-clause-ahead
returns-clause-ahead c =
    let same : c.turns.inside.items.items ≡ c.args.turns = cc in
    let front : reverse c.reverse.new.self.items ≡ take c.args.each c.args.turns =
    ap reverse c.reverse.ensures.items ∙ reverse-reverse c.truncate.new.self.items ∙ c.truncate.ensures.items ∙ ap (take c.args.each) same in
    let cut : length c.truncate.new.self.items ≡ min c.args.each (length c.args.turns) =
    ap length c.truncate.ensures.items ∙ length-take c.args.each c.turns.inside.items.items ∙ ap (λ xs. min c.args.each (length xs)) same in
    let size : length c.reverse.new.self.items ≡ length c.truncate.new.self.items = ap length c.reverse.ensures.items ∙ length-reverse c.truncate.new.self.items in
    let lacking : c.args.each - c.len.result ≡ c.args.each - length (map turn_record c.args.turns) =
    omega (arith, cut, size, c.len.ensures, c.reverse.new.self.ok.0, length-map c.args.turns turn_record) in
    rw (front, lacking, filled-is None c.args.each (map turn_record c.args.turns), take-map turn_record c.args.each c.args.turns) refl
