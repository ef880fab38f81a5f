use Rattle.std.proofs.Common.{ℕ, List, refl, sym, subst}
use Rattle.json_tree.specs.View.{view}
use Rattle.json_tree.specs.Places.{StandsAt}
use Rattle.model_read.proofs.read.one_upload.Goals as goal

pub uploaded_in-upload-requires-clause-placed : goal.uploaded_in-upload-requires-clause-placed
uploaded_in-upload-requires-clause-placed c =
    let v = view c.args.tree.now in
    (v, subst (λ (steps : List ℕ). StandsAt v steps v) (sym c.new.ensures) refl)
