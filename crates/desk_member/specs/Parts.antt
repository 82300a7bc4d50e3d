-- Pieces, and what of them lies in a membership.
use Rattle.std.specs.Prelude.{ℕ, Bool, true, false, max, min, List, All, if◌then◌else◌}
use Rattle.desk_base.specs.declared.rows.tables.Tables.{Tables}
use Rattle.desk_base.specs.declared.search.results.Ask.{Ask}
use Rattle.desk_base.specs.declared.rows.resources.MemberRow.{MemberRow}
use Rattle.desk_base.specs.meaning.Load.{LoadSort, pool, sort_of, load}
use Rattle.desk_member.specs.declared.items.Item.{Item}
use Rattle.desk_member.specs.Pieces.{IsItemOf, item_at}

-- it is the sort of a pool
abbrev pub is_pool : LoadSort → Bool
is_pool pool = true
is_pool _ = false

-- the piece as a booking of its own
abbrev pub ask_of_item : Item → Ask
ask_of_item i = record { resource = i.resource; window = record { from = i.from; to = i.to }; effort = i.effort }

-- what of a piece lies in a membership, as a piece of this resource
abbrev pub part_in : Item → MemberRow → ℕ → Item
part_in i x r = record { resource = r; from = max i.from x.from; to = min i.to x.to; effort = i.effort }

-- what a piece takes of r at m through a membership of its resource, where that is one of a pool
abbrev pub pool_share : Tables → Item → ℕ → ℕ → MemberRow → ℕ
pool_share t i r m x = if is_pool (sort_of t x.group) then item_at r m (part_in i x x.group) else 0

-- what a piece on a crew takes of r at m through a membership of the crew: what a booking on the member takes
abbrev pub crew_share : Tables → Item → ℕ → ℕ → MemberRow → ℕ
crew_share t i r m x = load t r m (ask_of_item (part_in i x x.member))

-- of whatever booking the piece is one, the new list is one of its pieces where the old list is
abbrev pub KeepsItems : Tables → Item → List Item → List Item → Type 0
KeepsItems t piece old new = (a : Ask) → IsItemOf t a piece → All (IsItemOf t a) old → All (IsItemOf t a) new
