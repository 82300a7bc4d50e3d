-- What resources may have in common.
use Rattle.std.specs.Prelude.{ℕ}
use Rattle.desk_base.specs.declared.rows.tables.Tables.{Tables}
use Rattle.desk_base.specs.meaning.Picks.{unit_of, site_of}
use Rattle.desk_need.specs.declared.same.marks.Mark.{Mark}
use Rattle.desk_need.specs.declared.same.marks.Mark.TheVariants.{OfUnit, OfSite}

-- the unit or the site of r
abbrev pub mark_of : Mark → Tables → ℕ → ℕ
mark_of OfUnit t r = unit_of t r
mark_of OfSite t r = site_of t r
