use Rattle.std.proofs.Common.{subst}
use Rattle.std.specs.Prelude.{MatchResult}
use Rattle.json_tree.specs.Sorting.{IsSortedOf}
use Rattle.json_tree.specs.View.{view}
use Rattle.twin_value.specs.Breaches.{IsBodyBreach, HasNoBreach, EndsBy}
use Rattle.twin_value.specs.Roles.{Role}
use Rattle.twin_value.specs.Twins.{without_metadata}
use Rattle.twin_value.proofs.part.read_part.Goals as goal

pub returns : goal.returns
returns c =
    let v = view c.args.tree.now in
    let role = rw (c.in_ok-library.ensures, c.in-Ok.ensures, c.as_slice.ensures) at c.twin_role.ensures in
    subst (λ (r : Role). MatchResult c.part_by-values.result (λ values. HasNoBreach (IsBodyBreach r v) × IsSortedOf (without_metadata v) (view values)) (EndsBy (IsBodyBreach r v))) role c.part_by-values.ensures
