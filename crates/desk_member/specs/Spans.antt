-- When who is a member.
use Rattle.std.specs.Prelude.{ℕ, ◌==◌, nat_lt, max, min, List, map, filter}
use Rattle.desk_base.specs.declared.rows.tables.Tables.{Tables}
use Rattle.desk_base.specs.declared.rows.resources.MemberRow.{MemberRow}
use Rattle.desk_base.specs.declared.values.minutes.Window.{Window}
use Rattle.desk_base.specs.meaning.Time.{covers}
use Rattle.desk_member.specs.declared.spans.MemberSpan.{MemberSpan}

-- the rows of a crew or a pool
abbrev pub rows_of_group : Tables → ℕ → List MemberRow
rows_of_group t g = filter (λ x. x.group == g) t.members

-- what of a membership lies in a window
abbrev pub span_in : Window → MemberRow → MemberSpan
span_in w x = record { member = x.member; from = max w.from x.from; to = min w.to x.to }

-- what of these memberships lies in a window, where that is anything
abbrev pub spans_of : Window → List MemberRow → List MemberSpan
spans_of w rows = filter (λ s. nat_lt s.from s.to) (map (span_in w) rows)

-- the same of the memberships of a crew or a pool
abbrev pub spans_in : Tables → ℕ → Window → List MemberSpan
spans_in t g w = spans_of w (rows_of_group t g)

-- the members at m, by such spans
abbrev pub members_among : List MemberSpan → ℕ → List ℕ
members_among spans m = map (λ s. s.member) (filter (λ s. covers s.from s.to m) spans)
