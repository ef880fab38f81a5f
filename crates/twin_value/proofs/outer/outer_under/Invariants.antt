use Rattle.std.proofs.Common.{◌≡◌, ℕ, List}
use Rattle.json_tree.specs.Values.{object}
use Rattle.json_tree.specs.View.{members_view}
use Rattle.twin_value.specs.Roles.{Role, body_member_role}
use Rattle.twin_value.specs.Machinery.Outer.{IsOuterClearTo}
use Rattle.twin_value.specs.Machinery.Views.{keys_role}
use Rattle.twin_value.proofs.outer.outer_under.Given as goal

-- in each role whose members these keys judge
abbrev pub invariant-loop-at : goal.invariant-loop-at
invariant-loop-at l = (r : Role) → ((key : List ℕ) → keys_role l.keys key ≡ body_member_role r key) → IsOuterClearTo r (object (members_view l.members)) l.at
