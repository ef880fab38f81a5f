use Rattle.std.proofs.Common.{◌≡◌, ◌↔◌, ℕ, List, drop}
use Rattle.json_tree.specs.Values.{Json}
use Rattle.json_tree.specs.View.{members_view}
use Rattle.json_tree.specs.Pointers.{token_text, IsFirstMember}
use Rattle.json_tree.proofs.evaluation.member_of.Given as goal

abbrev pub invariant-loop-member : goal.invariant-loop-member
invariant-loop-member l = (key : List ℕ) (part : Json) → l.token ≡ token_text key
    → IsFirstMember key (members_view l.members) part ↔ IsFirstMember key (members_view (drop l.member-index l.members)) part
