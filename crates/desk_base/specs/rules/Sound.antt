-- What loaded tables keep.
use Rattle.std.specs.Prelude.{ℕ, Bool, true, ◌&&◌, ◌==◌, nat_le, List, [], ◌∷◌, ◌++◌, map, filter, length, Option, is_none, ◌≡◌, ◌≢◌, ◌<◌, ◌≤◌, ◌*◌, ◌⊎◌, IsTrue, Contains}
use Rattle.std.specs.List.{list_all}
use Rattle.std.specs.declared.cmp.Ordering.TheVariants.{Less}
use Rattle.desk_base.specs.rows.Types.{Tables, Table, Key, AnyRow, TableRule, GroupRow, BookingRow}
use Rattle.desk_base.specs.declared.rows.tables.Table.TheVariants.{Off, Resource as ResourceTable, Group as GroupTable, Booking as BookingTable}
use Rattle.desk_base.specs.declared.rows.tables.AnyRow.TheVariants.{Group}
use Rattle.desk_base.specs.declared.asked.rules.TableRule.TheVariants.{Order, Limit, Field, Citation, Fits as FitsRule, Booked, Count}
use Rattle.desk_base.specs.rules.Limits.{revision_limit, serial_limit}
use Rattle.desk_base.specs.rules.TableLimits.{limit_of}
use Rattle.desk_base.specs.meaning.Time.{IsMinute}
use Rattle.desk_base.specs.rules.Rules.{first_broken}
use Rattle.desk_base.specs.rows.Keys.{key_cmp, id_key}
use Rattle.desk_base.specs.rows.Rows.{rows_in, key_of, keys_in, citations_of, rules_of}
use Rattle.desk_base.specs.rules.TreeRules.{tree_fault}
use Rattle.desk_base.specs.meaning.Load.{IsWithinRoom, ask_of}
use Rattle.desk_base.specs.meaning.Trees.{tree_of, patterns}
use Rattle.desk_base.specs.meaning.Picks.{pattern_of, choices_of}
use Rattle.desk_base.specs.search.Listing.{IsOnGrid, ask_for}

-- a group's nodes and leaves break no tree rule
abbrev pub has_tree : AnyRow → Bool
has_tree (Group g) = is_none (tree_fault g.nodes (length g.leaves))
has_tree _ = true

-- the row breaks no field rule and no tree rule
abbrev pub keeps_fields : Tables → AnyRow → Bool
keeps_fields t row = is_none (first_broken (rules_of t row)) && has_tree row

-- the group's standing bookings
abbrev pub bookings_of : Tables → GroupRow → List BookingRow
bookings_of t g = filter (λ b. b.group == g.id) t.bookings

-- the group has for each chosen leaf of one pattern one booking, from one start on its grid
pub record IsBooked (t : Tables) (g : GroupRow) : Type 0 where
  pub start : ℕ
  pub picks : List (Option ℕ)
  pub grid : IsOnGrid g start
  pub pattern : Contains (patterns (tree_of g.nodes)) (pattern_of picks)
  pub each : (j : ℕ) → map ask_of (filter (λ b. b.leaf == j) (bookings_of t g)) ≡ map (ask_for start) (filter (λ c. c.number == j) (choices_of 0 g.leaves picks))

-- the counters are within their limits, and no booking is above its counter
abbrev pub is_counted : Tables → Bool
is_counted t = nat_le t.revision revision_limit && nat_le t.last_booking serial_limit && list_all (λ b. nat_le b.id t.last_booking) t.bookings

-- at this key the tables keep the rule
abbrev pub Keeps : TableRule → Tables → Key → Type 0
-- it is above the key before it in its table
Keeps Order t k = (before after : List Key) (j : Key) → keys_in t k.table ≡ before ++ j ∷ k ∷ after → key_cmp j k ≡ Less
-- it is not the first past the limit of its table
Keeps Limit t k = (before after : List Key) → keys_in t k.table ≡ before ++ k ∷ after → length before ≢ limit_of k.table
-- its row keeps the rules of its fields and of its tree
Keeps Field t k = (row : AnyRow) → Contains (rows_in t k.table) row → key_of row ≡ k → IsTrue (keeps_fields t row)
-- each row that its row names is there
Keeps Citation t k = (row : AnyRow) (c : Key) → Contains (rows_in t k.table) row → key_of row ≡ k → Contains (citations_of row) c → Contains (keys_in t c.table) c
-- the standing bookings are within the room of its resource at each minute
Keeps FitsRule t k = k ≡ id_key ResourceTable k.a → (m : ℕ) → IsMinute m → IsWithinRoom t (map ask_of t.bookings) k.a m
-- its group has no booking, or is booked whole
Keeps Booked t k = (g : GroupRow) → Contains t.groups g → id_key GroupTable g.id ≡ k → (bookings_of t g ≡ []) ⊎ IsBooked t g
-- the counters hold, which is judged at the key 0 of bookings
Keeps Count t k = k ≡ id_key BookingTable 0 → IsTrue (is_counted t)

-- every rule is kept at every key
pub record IsSound (t : Tables) : Type 0 where
  pub keeps : (rule : TableRule) (k : Key) → Keeps rule t k

-- how many rows of a table calls take: of times off and of bookings ten times as many as a schedule keeps
abbrev pub taken_limit_of : Table → ℕ
taken_limit_of Off = 10 * limit_of Off
taken_limit_of BookingTable = 10 * limit_of BookingTable
taken_limit_of table = limit_of table

-- what calls ask of the tables that they are given: keys rise, no table is too long, each row keeps its field and tree rules, and what it names is there
pub record AreWellFormed (t : Tables) : Type 0 where
  pub order : (k : Key) → Keeps Order t k
  pub limit : (table : Table) → length (rows_in t table) ≤ taken_limit_of table
  pub field : (k : Key) → Keeps Field t k
  pub citation : (k : Key) → Keeps Citation t k

-- the place of a rule in the order in which they are judged
abbrev pub rule_number : TableRule → ℕ
rule_number Order = 1
rule_number Limit = 2
rule_number Field = 3
rule_number Citation = 4
rule_number FitsRule = 5
rule_number Booked = 6
rule_number Count = 7

-- the first rule that is broken, and the least key at which it is
pub record IsBadAt (t : Tables) (rule : TableRule) (k : Key) : Type 0 where
  pub broken : Keeps rule t k → ⊥
  pub least : (j : Key) → key_cmp j k ≡ Less → Keeps rule t j
  pub first : (earlier : TableRule) → rule_number earlier < rule_number rule → (j : Key) → Keeps earlier t j
