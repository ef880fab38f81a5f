use Rattle.graph_routes.proofs.SoundAsks.{lacks_method, lists_methods, sound_ask}
use Rattle.graph_routes.proofs.laws.prepared_is_right.Goals as goal

pub returns-clause-sound : goal.returns-clause-sound
returns-clause-sound c = sound_ask

pub returns-clause-written : goal.returns-clause-written
returns-clause-written c = lists_methods

pub returns-clause-lacks : goal.returns-clause-lacks
returns-clause-lacks c = lacks_method
