use Rattle.query_bodies.proofs.Soundly.{sound}
use Rattle.query_bodies.proofs.laws.sound_ask.Goals as goal

pub returns : goal.returns
returns c = sound
