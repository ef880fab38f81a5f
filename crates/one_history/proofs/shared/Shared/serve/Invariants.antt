use Rattle.std.proofs.Common.{◌≡◌}
use Rattle.one_history.proofs.shared.Shared.serve.Given as goal

abbrev pub ghosts-enter : goal.ghosts-enter
ghosts-enter g a = record { told = λ x y. (x ≡ a.ask.now) × (y ≡ a.reply.now) }
