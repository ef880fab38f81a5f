use Rattle.std.proofs.Common.{List, subst}
use Rattle.std.specs.Prelude.{MatchResult}
use Rattle.json_tree.specs.Values.{object}
use Rattle.json_tree.specs.View.{view}
use Rattle.json_tree.specs.Sorting.{IsSortedOf}
use Rattle.dtdl_terms.specs.declared.resolved.ResolvedContent.{ResolvedContent}
use Rattle.twin_value.specs.Roles.{Library, Role, twin_body}
use Rattle.twin_value.specs.Breaches.{IsBodyBreach, HasNoBreach, EndsBy}
use Rattle.twin_value.specs.Twins.{property_members, component_members}
use Rattle.twin_value.proofs.twin.read_values.Goals as goal

pub returns : goal.returns
returns c =
    let answers = λ (r : Role). MatchResult c.values_by-made.result
    (λ made. HasNoBreach (IsBodyBreach r (view c.args.tree.now)) × IsSortedOf (object (property_members r (view c.args.tree.now))) (view made.0)
    × IsSortedOf (object (component_members r (view c.args.tree.now))) (view made.1))
    (EndsBy (IsBodyBreach r (view c.args.tree.now))) in
    subst (λ (l : Library). answers (twin_body l c.args.resolved.now.contents)) c.in_ok-library.ensures
    (subst (λ (cs : List ResolvedContent). answers (twin_body c.in_ok-library.library cs)) c.as_slice.ensures c.values_by-made.ensures)
