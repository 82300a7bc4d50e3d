-- Whether bookings have room, in the minutes of the new ones.
use Rattle.std.specs.Prelude.{ℕ, Bool, true, nat_le, List, ◌++◌, Option}
use Rattle.std.specs.List.{list_all}
use Rattle.std.specs.Option.{option_map_or}
use Rattle.desk_base.specs.declared.rows.tables.Tables.{Tables}
use Rattle.desk_base.specs.declared.rows.resources.ResourceRow.{ResourceRow}
use Rattle.desk_base.specs.declared.search.results.Ask.{Ask}
use Rattle.desk_base.specs.meaning.Time.{minutes_of}
use Rattle.desk_base.specs.meaning.Load.{weight, room}

-- a weight is within a room, which may be without bound
abbrev pub is_within_room : ℕ → Option ℕ → Bool
is_within_room w n = option_map_or (λ k. nat_le w k) n true

-- the bookings have room at a minute, in one resource
unfoldable pub has_room_at : Tables → List Ask → ℕ → ℕ → Bool
has_room_at t asks m r = is_within_room (weight t asks r m) (room t r m)

-- they have room at a minute, in each resource
unfoldable pub have_room_at : Tables → List Ask → ℕ → Bool
have_room_at t asks m = list_all (λ (x : ResourceRow). has_room_at t asks m x.id) t.resources

-- they have room at each minute of one booking
unfoldable pub have_room_during : Tables → List Ask → Ask → Bool
have_room_during t asks a = list_all (have_room_at t asks) (minutes_of a.window)

-- others and new ones together have room at each minute of each new one
unfoldable pub have_room : Tables → List Ask → List Ask → Bool
have_room t others new = list_all (have_room_during t (others ++ new)) new
