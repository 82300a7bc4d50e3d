-- What is told of a keeper's tables.
use Rattle.std.specs.Prelude.{◌≡◌, Option, IfSome}
use Rattle.desk_base.specs.declared.rows.tables.Tables.{Tables}
use Rattle.desk_base.specs.rows.Lookups.{KeysRise}
use Rattle.desk_keeper.specs.Kept.{Kept}

-- in the tables, where they are told, the keys rise
abbrev pub ToldRise : Option Kept → Type 0
ToldRise told = IfSome told (λ k. KeysRise k.tables)

-- the tables, where they are told, are these
abbrev pub Tells : Option Kept → Tables → Type 0
Tells told tables = IfSome told (λ k. k.tables ≡ tables)
