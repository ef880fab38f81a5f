use Rattle.canon_text.proofs.Own.{own_contents}
use Rattle.canon_text.proofs.own_ids.+contents.Goals as goal

pub of_properties-returns : goal.of_properties-returns
of_properties-returns t c = own_contents c.args.properties.now c.of_contents.ensures
