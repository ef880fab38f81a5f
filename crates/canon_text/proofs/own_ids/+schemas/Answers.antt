use Rattle.canon_text.proofs.Own.{own_payloads}
use Rattle.canon_text.proofs.own_ids.+schemas.Goals as goal

pub of_fields-returns : goal.of_fields-returns
of_fields-returns t c = own_payloads c.args.fields.now c.of_payloads.ensures
