use Rattle.dtdl_cmd.proofs.DeclaredSets.{all_sound, ids_apart}
use Rattle.dtdl_cmd.proofs.laws.declared_set.Goals as goal

pub returns-clause-sound : goal.returns-clause-sound
returns-clause-sound c = all_sound

pub returns-clause-apart : goal.returns-clause-apart
returns-clause-apart c = ids_apart
