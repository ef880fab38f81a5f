use Rattle.std.proofs.Common.{List, ℕ, codes, subst}
use Rattle.json_decimal.specs.Number.{Number}
use Rattle.json_tree.specs.Values.{Json, object, text, Members, no_members, member}
use Rattle.json_tree.specs.View.{view, members_view}
use Rattle.json_tree.specs.Sorting.{IsSortedOf}
use Rattle.json_tree.specs.Members.{members_in}
use Rattle.dt_base.specs.names.Grammar.{dtmi_text}
use Rattle.twin_value.specs.Twins.{picked, joined_members, any_key, with_metadata}
use Rattle.twin_value.proofs.Gathered.{none_at}
use Rattle.twin_value.proofs.print.print_twin.Goals as goal

pub returns : goal.returns
returns c =
    let model : Json = object (member (codes "$model") (text (dtmi_text c.args.t.now.model)) no_members) in
    let id = c.as_str.result.now in
    let values = members_view c.members_in-values.result.now in
    let parts = picked any_key with_metadata (members_view c.members_in-parts.result.now) in
    let first = c.in_ok-push_text.ensures no_members (none_at _ c.in_ok-members.ensures.items) in
    let second = c.in_ok-push_made.ensures model c.in_ok-metadata.ensures (member (codes "$dtId") (text id) no_members) first in
    let third = c.in_ok-push_all.ensures (member (codes "$dtId") (text id) (member (codes "$metadata") model no_members)) second in
    let fourth = c.in_ok-push_parts.ensures (member (codes "$dtId") (text id) (member (codes "$metadata") model values)) third in
    let all = c.ordered.ensures (member (codes "$dtId") (text id) (member (codes "$metadata") model (joined_members values parts))) fourth in
    subst (λ (ps : Members Number). IsSortedOf (object (member (codes "$dtId") (text c.args.t.now.id) (member (codes "$metadata") model
    (joined_members (members_in (view c.args.t.now.values)) (picked any_key with_metadata ps))))) (view c.ordered.result)) c.members_in-parts.ensures
    (subst (λ (vs : Members Number). IsSortedOf (object (member (codes "$dtId") (text c.args.t.now.id) (member (codes "$metadata") model (joined_members vs parts)))) (view c.ordered.result)) c.members_in-values.ensures
    (subst (λ (bytes : List ℕ). IsSortedOf (object (member (codes "$dtId") (text bytes) (member (codes "$metadata") model (joined_members values parts)))) (view c.ordered.result)) c.as_str.ensures all))
