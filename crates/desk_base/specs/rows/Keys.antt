-- The keys of rows, in an order of their own.
use Rattle.std.specs.Prelude.{ℕ}
use Rattle.std.specs.declared.cmp.Ordering.{Ordering}
use Rattle.std.specs.Ordering.{nat_cmp, ordering_then}
use Rattle.desk_base.specs.rows.Types.{Table, Key}
use Rattle.desk_base.specs.declared.rows.tables.Table.TheVariants.{Zone, Calendar, Work, Break, Day, Off, Unit, Site, Role, Characteristic, Territory, Resource, HasRole, HasCharacteristic, HasTerritory, Member, Group, Booking, Caller, BookingNumbers}

-- the number of a table, by which keys are ordered first
abbrev pub table_number : Table → ℕ
table_number Zone = 1
table_number Calendar = 2
table_number Work = 3
table_number Break = 4
table_number Day = 5
table_number Off = 6
table_number Unit = 7
table_number Site = 8
table_number Role = 9
table_number Characteristic = 10
table_number Territory = 11
table_number Resource = 12
table_number HasRole = 13
table_number HasCharacteristic = 14
table_number HasTerritory = 15
table_number Member = 16
table_number Group = 17
table_number Booking = 18
table_number Caller = 19
table_number BookingNumbers = 20

-- by table, then by the numbers in turn
abbrev pub key_cmp : Key → Key → Ordering
key_cmp x y = ordering_then (nat_cmp (table_number x.table) (table_number y.table)) (ordering_then (nat_cmp x.a y.a) (ordering_then (nat_cmp x.b y.b) (nat_cmp x.c y.c)))

-- the key of a row that is known by one number
abbrev pub id_key : Table → ℕ → Key
id_key table id = record { table = table; a = id; b = 0; c = 0 }
