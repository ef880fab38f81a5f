use Rattle.std.proofs.Common.{◌≡◌, ◌++◌, map, drop}
use Rattle.model_life.proofs.adding.ids_of.Given as goal

abbrev pub invariant-new : goal.invariant-new
invariant-new l = l.ids.items ++ map (λ u. u.interface.id) (drop l.upload-index l.new) ≡ map (λ u. u.interface.id) l.new
