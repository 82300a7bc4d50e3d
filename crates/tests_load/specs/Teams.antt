-- The trial tables with a crew, a pool and a time off.
use Rattle.std.specs.Prelude.{ℕ, List, [], ◌∷◌, None, codes}
use Rattle.desk_base.specs.declared.rows.tables.AnyRow.{AnyRow}
use Rattle.desk_base.specs.declared.rows.tables.AnyRow.TheVariants.{Resource, Member, Off}
use Rattle.desk_base.specs.declared.rows.resources.Kind.{Kind}
use Rattle.desk_base.specs.declared.rows.resources.Kind.TheVariants.{Crew, Pool}

-- a crew or a pool
abbrev pub team : ℕ → Kind → AnyRow
team id kind = Resource (record { id = id; name = codes "X"; kind = kind; calendar = None; unit = 1; site = 1 })

-- who is in it on Monday 2025-01-06 from 08:00 to 10:00
abbrev pub early_member : ℕ → ℕ → AnyRow
early_member group member = Member (record { group = group; member = member; from = 28935840; to = 28935960 })

-- Ann is off from 11:00 to 12:00
abbrev pub off_late : AnyRow
off_late = Off (record { resource = 1; from = 28936020; to = 28936080 })

-- crew 10, pool 20, who is in each, and a time off
abbrev pub teams : List AnyRow
teams = team 10 Crew ∷ team 20 Pool ∷ early_member 10 2 ∷ early_member 20 1 ∷ off_late ∷ []
