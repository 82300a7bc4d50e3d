-- How far an index has followed a change, booking by booking.
use Rattle.std.specs.Prelude.{◌≡◌, ℕ, ◌+◌, ◌<◌, ◌≤◌, ◌⊎◌, ◌==◌, true, length, IsSome, Contains}
use Rattle.std.specs.List.{AllByRecursion, list_any}
use Rattle.std.specs.List.Sorted.{IsStrictlySortedBy}
use Rattle.desk_base.specs.declared.rows.tables.Tables.{Tables}
use Rattle.desk_base.specs.declared.rows.bookings.BookingRow.{BookingRow}
use Rattle.desk_base.specs.declared.rows.tables.AnyRow.TheVariants.{Booking}
use Rattle.desk_base.specs.declared.rows.tables.Table.TheVariants.{Resource as ResourceTable, Member as MemberTable, Group as GroupTable, Booking as BookingTable}
use Rattle.desk_base.specs.declared.rows.tables.Key.{Key}
use Rattle.desk_base.specs.rows.Keys.{key_cmp, id_key}
use Rattle.desk_base.specs.rows.Lookups.{keys_by}
use Rattle.desk_base.specs.rules.Limits.{effort_limit}
use Rattle.desk_base.specs.rules.Sound.{taken_limit_of}
use Rattle.desk_base.specs.meaning.Capacity.{resource_of}
use Rattle.desk_load.specs.declared.changes.follow.Named.{Named}
use Rattle.desk_load.specs.declared.changes.follow.Named.TheVariants.{Booking as NamedBooking, Group as NamedGroup, Resource as NamedResource, Member as NamedMember}
use Rattle.desk_load.specs.declared.changes.memberships.MemberKey.{MemberKey}
use Rattle.desk_load.specs.declared.changes.follow.Phase.{Phase}
use Rattle.desk_load.specs.declared.changes.follow.Phase.TheVariants.{Open, Closed}
use Rattle.desk_load.specs.Parted.{IndexParts}
use Rattle.desk_load.specs.Index.{IsIndexOf, group_numbers}
use Rattle.desk_load.specs.Changed.{IsOrdered}

-- a booking that an index follows: of a resource of the tables, not empty, and of an effort that may be
pub record IsUsable (t : Tables) (b : BookingRow) : Type 0 where
  pub there : IsSome (resource_of t b.resource)
  pub not_empty : b.from < b.to
  pub light : b.effort ≤ effort_limit

-- as many bookings as well-formed tables have at most
abbrev pub most_bookings : ℕ
most_bookings = taken_limit_of BookingTable

-- the index is one of tables s, which have the resources, the memberships and at least the groups of the tables t, and usable bookings; each booking from the number `next` on is one of t, and there may be so many more
pub record IsStage (t s : Tables) (next more : ℕ) (i : IndexParts) : Type 0 where
  pub resources : s.resources ≡ t.resources
  pub members : s.members ≡ t.members
  pub groups : (n : ℕ) → list_any (λ k. k == n) (group_numbers t) ≡ true → list_any (λ k. k == n) (group_numbers s) ≡ true
  pub rise : IsStrictlySortedBy key_cmp (keys_by Booking s.bookings)
  pub usable : AllByRecursion (IsUsable t) s.bookings
  pub known : AllByRecursion (λ (b : BookingRow). (b.id < next) ⊎ Contains t.bookings b) s.bookings
  pub few : length s.bookings + more ≤ most_bookings
  pub index : IsIndexOf s i
  pub order : IsOrdered i

-- the key of a membership
abbrev pub key_of_member : MemberKey → Key
key_of_member k = record { table = MemberTable; a = k.group; b = k.member; c = k.from }

-- the key under which it stands
abbrev pub key_of_named : Named → Key
key_of_named (NamedBooking id) = id_key BookingTable id
key_of_named (NamedGroup number) = id_key GroupTable number
key_of_named (NamedResource number) = id_key ResourceTable number
key_of_named (NamedMember k) = key_of_member k

-- how far a change was followed: bookings may be put from a number on, or the index is one of the tables, and only rows that are not indexed may follow
abbrev pub IsPhase : Tables → Tables → Phase → ℕ → IndexParts → Type 0
IsPhase t s (Open next) more i = IsStage t s next more i
IsPhase t s Closed more i = IsIndexOf s i × IsOrdered i
