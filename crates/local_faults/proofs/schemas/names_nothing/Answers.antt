use Rattle.json_tree.specs.View.{view, members_view}
use Rattle.local_faults.specs.Machinery.Named.{IsUnknownName}
use Rattle.local_faults.proofs.Judged.{of_text, by_text, no_text}
use Rattle.local_faults.proofs.schemas.names_nothing.Goals as goal

pub returns-in-Some : goal.returns-in-Some
returns-in-Some c =
    let P = IsUnknownName (members_view c.args.names.now) in
    let v = view c.args.tree.now in
    let b = c.in-Some.name.now in
    (λ on. of_text P v b c.in-Some.ensures (c.is_unknown_name.ensures.0 on), λ h. c.is_unknown_name.ensures.1 (by_text P v b c.in-Some.ensures h))

pub returns-in-None : goal.returns-in-None
returns-in-None c =
    let P = IsUnknownName (members_view c.args.names.now) in
    let v = view c.args.tree.now in
    (λ on. cc, λ h. absurd (no_text P v c.in-None.ensures h))
