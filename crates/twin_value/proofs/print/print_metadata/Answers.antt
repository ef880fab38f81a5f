use Rattle.std.proofs.Common.{List, ℕ, codes, subst}
use Rattle.json_tree.specs.Values.{object, text, no_members, member}
use Rattle.json_tree.specs.View.{view}
use Rattle.json_tree.specs.Sorting.{IsSortedOf}
use Rattle.twin_value.proofs.Gathered.{none_at}
use Rattle.twin_value.proofs.print.print_metadata.Goals as goal

pub returns : goal.returns
returns c =
    subst (λ (bytes : List ℕ). IsSortedOf (object (member (codes "$model") (text bytes) no_members)) (view c.ordered.result)) c.as_str.ensures.same
    (c.ordered.ensures (member (codes "$model") (text c.as_str.result.now) no_members) (c.in_ok-push_text.ensures no_members (none_at _ c.in_ok-members.ensures.items)))
