use Rattle.desk_base.proofs.tables.TrialSound.{trial_sound}
use Rattle.desk_base.proofs.laws.trial_is_sound.Goals as goal

pub returns : goal.returns
returns c = trial_sound
