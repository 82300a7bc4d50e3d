-- Resources that were looked at, and the least of them on which a booking has no room.
use Rattle.std.specs.Prelude.{ℕ, ◌<◌, ◌≤◌, List, [], ◌∷◌, ◌++◌, map, filter, Option, Some, None, Contains, nat_lt, if◌then◌else◌}
use Rattle.desk_base.specs.declared.rows.tables.Tables.{Tables}
use Rattle.desk_base.specs.declared.rows.resources.MemberRow.{MemberRow}
use Rattle.desk_base.specs.meaning.Time.{covers}
use Rattle.desk_base.specs.meaning.Load.{LoadSort, plain, crew, pool, unknown, sort_of}
use Rattle.desk_base.specs.rules.Limits.{end_of_minutes}
use Rattle.desk_spans.specs.Minutes.{EachMinute}
use Rattle.desk_member.specs.Memberships.{of_member}
use Rattle.desk_member.specs.Spans.{rows_of_group}
use Rattle.desk_load.specs.declared.view.demand.Demand.{Demand}
use Rattle.desk_load.specs.Views.{ViewParts, HasRoomOn, IsShortOn, HasRoomAt, demand_at}

-- on none of the resources the booking is short of room at k, or this is the least of them on which it is
abbrev pub IsLeastShort : ViewParts → Demand → List ℕ → ℕ → Option ℕ → Type 0
IsLeastShort v d seen k None = (q : ℕ) → Contains seen q → HasRoomOn v (demand_at d k) k q
IsLeastShort v d seen k (Some r) = (HasRoomOn v (demand_at d k) k r → ⊥) × ((q : ℕ) → Contains seen q → q < r → HasRoomOn v (demand_at d k) k q)

-- of the resources seen at each minute, what was found at m stays until another minute of the horizon
pub record IsScan (v : ViewParts) (d : Demand) (seen : ℕ → List ℕ) (m : ℕ) (short : Option ℕ) (until : ℕ) : Type 0 where
  pub later : m < until
  pub inside : until ≤ end_of_minutes
  pub least : EachMinute m until (λ k. IsLeastShort v d (seen k) k short)

-- the crews and pools of memberships that last at k
abbrev pub groups_at : List MemberRow → ℕ → List ℕ
groups_at rows k = map (λ x. x.group) (filter (λ x. covers x.from x.to k) rows)

-- a plain resource, and the crew and the pool that it is in
abbrev pub plain_and_groups : Tables → ℕ → ℕ → List ℕ
plain_and_groups t r k = r ∷ groups_at (of_member r t.members) k

-- the members of memberships that last at k, and the crews and pools that they are in
abbrev pub members_and_groups : Tables → List MemberRow → ℕ → List ℕ
members_and_groups t [] k = []
members_and_groups t (x ∷ xs) k = (if covers x.from x.to k then plain_and_groups t x.member k else []) ++ members_and_groups t xs k

-- the resources on which a booking on r may count at k: r, the members of a crew, and the crews and pools that these are in
abbrev pub counted_by : LoadSort → Tables → ℕ → ℕ → List ℕ
counted_by plain t r k = plain_and_groups t r k
counted_by crew t r k = r ∷ members_and_groups t (rows_of_group t r) k
counted_by pool t r k = r ∷ []
counted_by unknown t r k = []

abbrev pub counted_on : Tables → ℕ → ℕ → List ℕ
counted_on t r k = counted_by (sort_of t r) t r k

-- the lesser of two, where there is a first
abbrev pub lesser : Option ℕ → ℕ → ℕ
lesser None r = r
lesser (Some q) r = if nat_lt q r then q else r

-- at k the booking has room on each resource, or this is the least on which it has none
abbrev pub IsShortAt : ViewParts → Demand → ℕ → Option ℕ → Type 0
IsShortAt v d k None = HasRoomAt v (demand_at d k) k
IsShortAt v d k (Some r) = IsShortOn v (demand_at d k) k r
