use Rattle.std.proofs.Common.{◌≡◌, ℕ, ◌+◌, ◌-◌, ◌≤◌, List, length, take, drop, ◌++◌, sym, ◌∙◌, ap, arith}
use Rattle.std.proofs.lemmas.List.{take_at, take-append-drop, drop-drop, length-take-le, length-drop}
use Rattle.dt_base.proofs.mem_source.MemSource.turn.Goals as goal

-- what was copied is the front of what was left
copied : (t m : ℕ) (bytes new rest : List ℕ) → m + t ≤ length bytes → new ≡ take (t + m - t) (drop t bytes)
    → drop t bytes ≡ take m (new ++ rest) ++ drop (t + m) bytes
copied t m bytes new rest room same =
    let amount : t + m - t ≡ m = omega arith in
    let front : new ≡ take m (drop t bytes) = same ∙ ap (λ n. take n (drop t bytes)) amount in
    let within : m ≤ length (drop t bytes) = omega (arith, length-drop t bytes) in
    let size : length new ≡ m = ap length front ∙ length-take-le m (drop t bytes) within in
    rw (take_at new rest m size, front, ← drop-drop m t bytes) (sym (take-append-drop m (drop t bytes)))

pub returns-clause-moved : goal.returns-clause-moved
returns-clause-moved c =
    let room : c.min-most.result + c.args.self.now.taken ≤ length c.args.self.now.bytes = omega (arith, c.args.self.now.within) in
    copied c.args.self.now.taken c.min-most.result c.args.self.now.bytes c.copy_from_slice.new.self (drop c.min-most.result c.args.into.now) room
    (rw c.as_slice.ensures at c.copy_from_slice.ensures.after)
