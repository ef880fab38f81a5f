use Rattle.std.proofs.Common.{◌≡◌, ℕ, List, take}
use Rattle.json_tree.specs.Values.{array, object}
use Rattle.json_tree.specs.View.{elements_view, members_view}
use Rattle.twin_value.specs.Roles.{Role, element_role, body_member_role}
use Rattle.twin_value.specs.Machinery.Sound.{ElementsSound, MembersSound}
use Rattle.twin_value.specs.Machinery.Views.{role_view, keys_role}
use Rattle.twin_value.specs.Machinery.Walks.{IsClearTo}
use Rattle.twin_value.proofs.walk.+walk.Given as goal

abbrev pub invariant-first_in_elements-loop-at : goal.invariant-first_in_elements-loop-at
invariant-first_in_elements-loop-at l = IsClearTo (role_view l.fn.role) (array (elements_view l.elements)) l.at
    × ElementsSound (element_role (role_view l.fn.role)) (elements_view (take l.at l.elements))

-- in each role whose members these keys judge
abbrev pub invariant-first_under-loop-at : goal.invariant-first_under-loop-at
invariant-first_under-loop-at l = (r : Role) → ((key : List ℕ) → keys_role l.keys key ≡ body_member_role r key)
    → IsClearTo r (object (members_view l.members)) l.at × MembersSound (body_member_role r) (members_view (take l.at l.members))
