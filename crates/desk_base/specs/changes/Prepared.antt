-- A change whose memory is taken, and the tables before it.
use Rattle.desk_base.specs.rows.Types.{Tables}
use Rattle.desk_base.specs.declared.asked.acts.Change.{Change}

-- the tables, which are as before, and the change that is to be applied to them
pub record PreparedChange : Type 0 where
  pub tables : Tables
  pub change : Change
