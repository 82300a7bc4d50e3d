-- Each store opens over sound tables.
use Rattle.desk_base.specs.rules.Sound.{IsSound}
use Rattle.desk_base.proofs.tables.TrialSound.{trial_sound, empty_sound}
use Rattle.desk_batch.specs.declared.words.Store.{Store}
use Rattle.desk_batch.specs.declared.words.Store.TheVariants.{Trial, Empty}
use Rattle.desk_batch.specs.Words.{tables_of}

pub store_sound : (store : Store) → IsSound (tables_of store)
store_sound Trial = trial_sound
store_sound Empty = empty_sound
