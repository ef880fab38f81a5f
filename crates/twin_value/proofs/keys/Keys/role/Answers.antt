use Rattle.std.proofs.Common.{ap, sym, ◌∙◌}
use Rattle.twin_value.specs.Machinery.Views.{keys_role, payload_role}
use Rattle.twin_value.proofs.keys.Keys.role.Goals as goal

pub returns-in-Fields : goal.returns-in-Fields
returns-in-Fields c =
    c.field_role.ensures ∙ (ap (payload_role c.in-Fields.named.now) c.get.ensures ∙ sym (ap (λ k. keys_role k c.args.key.now) c.in-Fields.is))
