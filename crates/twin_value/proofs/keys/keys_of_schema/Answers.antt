use Rattle.std.proofs.Common.{◌∙◌}
use Rattle.twin_value.proofs.Schemas.{object_keys}
use Rattle.twin_value.proofs.keys.keys_of_schema.Goals as goal

pub returns-in_ok-fields-in-Object : goal.returns-in_ok-fields-in-Object
returns-in_ok-fields-in-Object c =
    object_keys c.args.named.now c.args.schema.now c.in-Object._common c.in-Object.fields c.in_ok-fields-in-Object.fields c.in-Object.is (c.in_ok-fields-in-Object.ensures ∙ c.as_slice.ensures)
