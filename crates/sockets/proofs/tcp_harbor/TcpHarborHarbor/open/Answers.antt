use Rattle.std.proofs.Common.{◌≡◌, ◌+◌, List, [], ◌∷◌, ◌++◌, length, ap, sym, subst, ◌∙◌, arith}
use Rattle.std.specs.Prelude.{All}
use Rattle.std.proofs.lemmas.List.{length-append}
use Rattle.std.proofs.lemmas.List.Elements.{All-push}
use Rattle.sockets.specs.declared.tcp_door.TcpDoor.{TcpDoor}
use Rattle.sockets.proofs.tcp_harbor.TcpHarborHarbor.open.Goals as goal

-- what holds of each item and of the one that is put behind them
pushed : {X : Type 0} (P : X → Type 0) (xs ys : List X) (x : X) → ys ≡ xs ++ x ∷ [] → All P xs → P x → All P ys
pushed P xs ys x same all one = subst (All P) (sym same) (All-push P xs x all one)

pub opening-preserved : goal.opening-preserved
opening-preserved g c =
    let doors = c.opening.doors.items in
    let door = c.new-door.result in
    let kept = c.opening.invariant in
    let items : c.push.new.self.items ≡ c.opening.doors.items ++ c.new-door.result ∷ [] = c.in-Ok-push.ensures.items in
    let size : length c.push.new.self.items ≡ length c.opening.doors.items + 1 = ap length items ∙ length-append c.opening.doors.items (c.new-door.result ∷ []) in
    record {
      number = omega (arith, size, kept.number);
      left = pushed {X = TcpDoor g.row.R.Denot} (λ d. d.left ≡ c.args.each) doors c.push.new.self.items door items kept.left c.new-door.ensures.left;
      counts = pushed {X = TcpDoor g.row.R.Denot} (λ d. d.faults ≡ 0) doors c.push.new.self.items door items kept.counts c.new-door.ensures.faults;
      lost = pushed {X = TcpDoor g.row.R.Denot} (λ d. d.lost ≡ 0) doors c.push.new.self.items door items kept.lost c.new-door.ensures.lost;
      gone = λ _ _ _. tt;
    }
