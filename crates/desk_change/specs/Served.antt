-- Which changes are served.
use Rattle.std.specs.Prelude.{Bool, true, false, ◌≡◌, ⊤}
use Rattle.desk_base.specs.declared.rows.tables.Table.{Table}
use Rattle.desk_base.specs.declared.rows.tables.Table.TheVariants.{Group, Booking, Caller, BookingNumbers}
use Rattle.desk_base.specs.declared.asked.acts.Act.{Act}
use Rattle.desk_base.specs.declared.asked.acts.Act.TheVariants as act
use Rattle.desk_base.specs.rows.Rows.{key_of}

-- rows of this table are put and taken out one by one: the tables up to memberships
abbrev pub is_master : Table → Bool
is_master Group = false
is_master Booking = false
is_master Caller = false
is_master BookingNumbers = false
is_master _ = true

-- a change that is served: only rows of these tables are put and taken out
abbrev pub IsServed : Act → Type 0
IsServed (act.Put row) = is_master (key_of row).table ≡ true
IsServed (act.Remove key) = is_master key.table ≡ true
IsServed _ = ⊤
