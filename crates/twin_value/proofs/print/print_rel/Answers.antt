use Rattle.std.proofs.Common.{List, ℕ, codes, subst}
use Rattle.json_decimal.specs.Number.{Number}
use Rattle.json_tree.specs.Values.{object, text, Members, no_members, member}
use Rattle.json_tree.specs.View.{view, members_view}
use Rattle.json_tree.specs.Sorting.{IsSortedOf}
use Rattle.twin_value.proofs.Gathered.{none_at, printed_link}
use Rattle.twin_value.proofs.print.print_rel.Goals as goal

pub returns : goal.returns
returns c =
    let id = c.as_str.result.now in
    let name = c.as_str-2.result.now in
    let source = c.as_str-3.result.now in
    let target = c.as_str-4.result.now in
    let values = members_view c.members_in-values.result.now in
    let first = c.in_ok-push_text.ensures no_members (none_at _ c.in_ok-members.ensures.items) in
    let second = c.in_ok-push_text-2.ensures (member (codes "$relationshipId") (text id) no_members) first in
    let third = c.in_ok-push_text-3.ensures (member (codes "$relationshipId") (text id) (member (codes "$relationshipName") (text name) no_members)) second in
    let fourth = c.in_ok-push_text-4.ensures (member (codes "$relationshipId") (text id) (member (codes "$relationshipName") (text name) (member (codes "$sourceId") (text source) no_members))) third in
    let all = c.ordered.ensures (printed_link id name source target values) (c.in_ok-push_all.ensures (printed_link id name source target no_members) fourth) in
    subst (λ (vs : Members Number). IsSortedOf (object (printed_link c.args.r.now.id c.args.r.now.name c.args.r.now.source c.args.r.now.target vs)) (view c.ordered.result)) c.members_in-values.ensures
    (subst (λ (t : List ℕ). IsSortedOf (object (printed_link c.args.r.now.id c.args.r.now.name c.args.r.now.source t values)) (view c.ordered.result)) c.as_str-4.ensures
    (subst (λ (t : List ℕ). IsSortedOf (object (printed_link c.args.r.now.id c.args.r.now.name t target values)) (view c.ordered.result)) c.as_str-3.ensures
    (subst (λ (t : List ℕ). IsSortedOf (object (printed_link c.args.r.now.id t source target values)) (view c.ordered.result)) c.as_str-2.ensures
    (subst (λ (t : List ℕ). IsSortedOf (object (printed_link t name source target values)) (view c.ordered.result)) c.as_str.ensures all))))
