-- Memberships by member.
use Rattle.std.specs.Prelude.{◌≡◌, ℕ, Bool, ◌==◌, ◌&&◌, ◌||◌, nat_lt, List, filter}
use Rattle.desk_base.specs.declared.rows.tables.Tables.{Tables}
use Rattle.desk_base.specs.declared.rows.resources.MemberRow.{MemberRow}

-- the memberships of a resource among these
abbrev pub of_member : ℕ → List MemberRow → List MemberRow
of_member r rows = filter (λ x. x.member == r) rows

-- these are the memberships of the tables, in whatever order of their members: each resource has the same, in the same order
pub record AreMemberships (t : Tables) (rows : List MemberRow) : Type 0 where
  pub each : (r : ℕ) → of_member r rows ≡ of_member r t.members

-- the first stands before the second: by member, then by crew or pool, then by minute
abbrev pub comes_before : MemberRow → MemberRow → Bool
comes_before x y = nat_lt x.member y.member || ((x.member == y.member) && (nat_lt x.group y.group || ((x.group == y.group) && nat_lt x.from y.from)))
