-- Tables with a change that can still be taken back.
use Rattle.std.specs.Prelude.{ℕ}
use Rattle.desk_base.specs.rows.Types.{Tables}

-- the tables before the change and with it
pub record TriedChange : Type 0 where
  pub before : Tables
  pub tables : Tables

-- the tables with other counters
abbrev pub with_counters : Tables → ℕ → ℕ → Tables
with_counters t revision last = record t { revision = revision; last_booking = last }
