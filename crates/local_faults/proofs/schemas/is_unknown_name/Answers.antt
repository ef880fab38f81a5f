use Rattle.std.proofs.Common.{◌≡◌, sym, ◌∙◌, Some, None}
use Rattle.json_tree.specs.Values.{object}
use Rattle.json_tree.specs.View.{members_view}
use Rattle.local_rules.specs.Levels.{has_id}
use Rattle.local_faults.specs.Machinery.Named.{schema_entries}
use Rattle.local_faults.proofs.Tabled.{named_at, found_none}
use Rattle.local_faults.proofs.schemas.is_unknown_name.Goals as goal

pub returns-in-Some : goal.returns-in-Some
returns-in-Some c =
    let it = named_at (members_view c.args.names.now) c.args.name.now c.in-Some.field-0 (sym c.in-Some.ensures) in
    (λ on. cc, λ h. let e : None ≡ Some (object it.members) = sym h.1 ∙ it.named in cc)

pub returns-in-None : goal.returns-in-None
returns-in-None c =
    let none = found_none (has_id c.args.name.now) (schema_entries (members_view c.args.names.now)) (sym c.in-None.ensures) in
    (λ on. (λ p. let off = c.if-is_primitive.ensures.1 p in cc, none), λ h. cc)
