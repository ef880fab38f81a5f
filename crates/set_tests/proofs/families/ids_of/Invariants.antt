use Rattle.std.proofs.Common.{◌≡◌, ◌++◌, map, drop}
use Rattle.set_tests.proofs.families.ids_of.Given as goal

abbrev pub invariant-uploads : goal.invariant-uploads
invariant-uploads l = l.ids.items ++ map (λ u. u.interface.id) (drop l.upload-index l.uploads) ≡ map (λ u. u.interface.id) l.uploads
