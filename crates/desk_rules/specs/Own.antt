-- The memberships with which a row is judged.
use Rattle.std.specs.Prelude.{◌≡◌, ⊤, List}
use Rattle.desk_base.specs.declared.rows.tables.Tables.{Tables}
use Rattle.desk_base.specs.declared.rows.tables.AnyRow.{AnyRow}
use Rattle.desk_base.specs.declared.rows.tables.AnyRow.TheVariants.{Member}
use Rattle.desk_base.specs.declared.rows.resources.MemberRow.{MemberRow}
use Rattle.desk_member.specs.Memberships.{of_member}

-- where the row is a membership, these are all those of its member
abbrev pub AreOwn : Tables → AnyRow → List MemberRow → Type 0
AreOwn t (Member x) rows = rows ≡ of_member x.member t.members
AreOwn t _ rows = ⊤
