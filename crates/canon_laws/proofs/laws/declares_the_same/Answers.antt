use Rattle.canon_laws.proofs.Documents.{set_same}
use Rattle.canon_laws.proofs.laws.declares_the_same.Goals as goal

pub returns : goal.returns
returns c = λ nth types g. set_same c.args.interfaces.now nth c.args.uploads.now c.each_identified.ensures c.of_uploads.ensures types g
