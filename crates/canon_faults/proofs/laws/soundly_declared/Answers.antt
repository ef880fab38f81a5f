use Rattle.canon_faults.proofs.Uploads.{all_sound, sound_interface}
use Rattle.canon_faults.proofs.laws.soundly_declared.Goals as goal

pub returns-clause-uploads : goal.returns-clause-uploads
returns-clause-uploads c = all_sound

pub returns-clause-sound : goal.returns-clause-sound
returns-clause-sound c = sound_interface
