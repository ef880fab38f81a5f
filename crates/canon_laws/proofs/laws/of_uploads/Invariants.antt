use Rattle.std.proofs.Common.{take}
use Rattle.std.specs.List.{AllByRecursion}
use Rattle.canon_text.specs.Identified.{InterfaceIsIdentified}
use Rattle.canon_laws.proofs.laws.of_uploads.Given as goal

abbrev pub invariant-loop-upload : goal.invariant-loop-upload
invariant-loop-upload l = AllByRecursion (λ u. InterfaceIsIdentified u.interface) (take l.upload-index l.uploads)
