-- What a booking takes through memberships.
use Rattle.std.specs.Prelude.{ℕ, if◌then◌else◌}
use Rattle.desk_base.specs.declared.rows.tables.Tables.{Tables}
use Rattle.desk_base.specs.declared.rows.resources.MemberRow.{MemberRow}
use Rattle.desk_base.specs.meaning.Time.{covers}
use Rattle.desk_base.specs.meaning.Load.{plain_load}
use Rattle.desk_base.specs.meaning.Capacity.{capacity}
use Rattle.desk_load.specs.declared.view.demand.Demand.{Demand}
use Rattle.desk_load.specs.Views.{demand_at}

-- what a booking takes of the member of a membership, while that lasts
abbrev pub share_through : Tables → Demand → MemberRow → ℕ → ℕ
share_through t d x k = if covers x.from x.to k then plain_load t x.member k (demand_at d k) else 0

-- what the member of a membership can do, while that lasts
abbrev pub capacity_through : Tables → MemberRow → ℕ → ℕ
capacity_through t x k = if covers x.from x.to k then capacity t x.member k else 0
