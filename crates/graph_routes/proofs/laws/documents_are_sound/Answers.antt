use Rattle.graph_routes.proofs.Documents as lemmas
use Rattle.graph_routes.proofs.laws.documents_are_sound.Goals as goal

pub returns : goal.returns
returns c = lemmas.documents_are_sound
