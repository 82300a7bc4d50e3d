-- What sound tables are ready for.
use Rattle.desk_base.specs.declared.rows.tables.Tables.{Tables}
use Rattle.desk_base.specs.rows.Lookups.{KeysRise}
use Rattle.desk_base.specs.rules.Sound.{IsSound}
use Rattle.desk_base.proofs.tables.Sounds.{keys_rise}

-- the keys of each table rise
pub rise : (t : Tables) → IsSound t → KeysRise t
rise t s table = keys_rise t table s
