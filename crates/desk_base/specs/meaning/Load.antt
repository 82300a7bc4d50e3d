-- Members, loads, rooms, and whether bookings fit.
use Rattle.std.specs.Prelude.{ℕ, ◌+◌, ◌≤◌, Bool, false, true, ◌&&◌, ◌||◌, ◌==◌, nat_lt, List, [], ◌∷◌, ◌++◌, map, filter, find, sum_by, Option, Some, None, option_map, IfSome, ◌≡◌, ◌<◌, if◌then◌else◌}
use Rattle.std.specs.List.{list_any}
use Rattle.std.specs.Option.{option_map_or}
use Rattle.desk_base.specs.rows.Types.{Tables, BookingRow, Ask, Kind}
use Rattle.desk_base.specs.declared.rows.resources.Kind.TheVariants.{Crew, Pool}
use Rattle.desk_base.specs.meaning.Time.{covers, IsMinute}
use Rattle.desk_base.specs.meaning.Capacity.{resource_of, capacity}

-- how a resource is loaded: as a plain one, as a crew, as a pool, or, where it is unknown, not at all
pub data LoadSort : Type 0 where
  plain : LoadSort
  crew : LoadSort
  pool : LoadSort
  unknown : LoadSort

-- every kind but Crew and Pool is plain
abbrev pub sort_of_kind : Kind → LoadSort
sort_of_kind Crew = crew
sort_of_kind Pool = pool
sort_of_kind _ = plain

-- what is no resource is of an unknown sort
abbrev pub sort_of : Tables → ℕ → LoadSort
sort_of t r = option_map_or (λ x. sort_of_kind x.kind) (resource_of t r) unknown

-- it is the sort of a crew
abbrev pub is_crew : LoadSort → Bool
is_crew crew = true
is_crew _ = false

-- the members of a crew or a pool at m
abbrev pub members : Tables → ℕ → ℕ → List ℕ
members t g m = map (λ x. x.member) (filter (λ x. (x.group == g) && covers x.from x.to m) t.members)

-- a booking on r loads r, and so does one on a crew of which r is a member at m
abbrev pub loads : Tables → ℕ → ℕ → ℕ → Bool
loads t on r m = (on == r) || (is_crew (sort_of t on) && list_any (λ x. x == r) (members t on m))

-- the effort of a booking where it covers m
abbrev pub effort_at : ℕ → Ask → ℕ
effort_at m a = if covers a.window.from a.window.to m then a.effort else 0

-- the effort at m of a booking that stands on r itself
unfoldable pub own_load : ℕ → ℕ → Ask → ℕ
own_load r m a = if a.resource == r then effort_at m a else 0

-- the effort at m of a booking that loads the plain resource r
unfoldable pub plain_load : Tables → ℕ → ℕ → Ask → ℕ
plain_load t r m a = if loads t a.resource r m then effort_at m a else 0

-- what a booking takes of r at m, by the sort of r: a crew bears what stands on it, and a pool also what loads its members of that minute
abbrev pub load_by : LoadSort → Tables → ℕ → ℕ → Ask → ℕ
load_by plain t r m a = plain_load t r m a
load_by crew t r m a = own_load r m a
load_by pool t r m a = own_load r m a + sum_by (λ x. plain_load t x m a) (members t r m)
load_by unknown t r m a = 0

-- what a booking takes of r at m
unfoldable pub load : Tables → ℕ → ℕ → Ask → ℕ
load t r m a = load_by (sort_of t r) t r m a

-- what the bookings take of r at m
abbrev pub weight : Tables → List Ask → ℕ → ℕ → ℕ
weight t asks r m = sum_by (load t r m) asks

-- a booking counts in the weight of r at m
abbrev pub counts : Tables → ℕ → ℕ → Ask → Bool
counts t r m a = nat_lt 0 (load t r m a)

-- a crew without a member has no room, and with one it has room without bound
abbrev pub room_of_crew : List ℕ → Option ℕ
room_of_crew [] = Some 0
room_of_crew (x ∷ xs) = None

-- what r has to give at m, by its sort: its own capacity, or that of its members together
abbrev pub room_by : LoadSort → Tables → ℕ → ℕ → Option ℕ
room_by plain t r m = Some (capacity t r m)
room_by crew t r m = room_of_crew (members t r m)
room_by pool t r m = Some (sum_by (λ x. capacity t x m) (members t r m))
room_by unknown t r m = Some 0

-- what r has to give at m; `None` is room without bound
unfoldable pub room : Tables → ℕ → ℕ → Option ℕ
room t r m = room_by (sort_of t r) t r m

-- at r and m the weight of the bookings is within the room
abbrev pub IsWithinRoom : Tables → List Ask → ℕ → ℕ → Type 0
IsWithinRoom t asks r m = IfSome (room t r m) (λ n. weight t asks r m ≤ n)

-- the bookings fit: at each resource and minute they are within the room
pub record Fits (t : Tables) (asks : List Ask) : Type 0 where
  pub at : (r m : ℕ) → IsMinute m → IsWithinRoom t asks r m

-- a standing booking, as use of its resource
abbrev pub ask_of : BookingRow → Ask
ask_of b = record { resource = b.resource; window = record { from = b.from; to = b.to }; effort = b.effort }

-- of bookings that rise by number, the least that counts in the weight of r at m
abbrev pub shown_at : Tables → List BookingRow → ℕ → ℕ → Option ℕ
shown_at t bookings r m = option_map (λ b. b.id) (find (λ b. counts t r m (ask_of b)) bookings)

-- standing and asked together are above the room n of r at m, which is the least such minute and there the least such resource
pub record IsClash (t : Tables) (standing : List BookingRow) (asked : List Ask) (r m n : ℕ) : Type 0 where
  pub minute : IsMinute m
  pub capacity : room t r m ≡ Some n
  pub over : n < weight t (map ask_of standing) r m + weight t asked r m
  pub earlier : (r' m' : ℕ) → IsMinute m' → m' < m → IsWithinRoom t (map ask_of standing ++ asked) r' m'
  pub lower : (r' : ℕ) → r' < r → IsWithinRoom t (map ask_of standing ++ asked) r' m
