-- The refusals that the rows alone show, each with its values, and their order.
use Rattle.std.specs.Prelude.{ℕ, ◌+◌, ◌-◌, ◌==◌, Bool, not, ◌||◌, nat_le, nat_lt, List, [], ◌∷◌, ◌++◌, map, flat_map, find, length, Option, Some, None, option_map, option_to_list, if◌then◌else◌}
use Rattle.std.specs.List.{list_any}
use Rattle.std.specs.Option.{option_or}
use Rattle.std.specs.Ordering.{is_eq}
use Rattle.desk_base.specs.rows.Types.{Tables, Table, Key, AnyRow}
use Rattle.desk_base.specs.declared.rows.tables.Table.TheVariants.{Zone, Calendar, Work, Break, Day, Off, Unit, Site, Role, Characteristic, Territory, Resource, HasRole, HasCharacteristic, HasTerritory, Member, Group, Booking, Caller, BookingNumbers}
use Rattle.desk_base.specs.declared.rows.tables.AnyRow.TheVariants as row
use Rattle.desk_base.specs.declared.asked.rules.Field.TheVariants.{Picks}
use Rattle.desk_base.specs.declared.asked.acts.Act.{Act}
use Rattle.desk_base.specs.declared.asked.acts.Act.TheVariants as act
use Rattle.desk_base.specs.declared.asked.acts.Call.{Call}
use Rattle.desk_base.specs.declared.asked.acts.Entry.{Entry}
use Rattle.desk_base.specs.declared.asked.refusals.Refusal.{Refusal}
use Rattle.desk_base.specs.declared.asked.refusals.Refusal.TheVariants.{JournalFull, OldNumber, SkippedNumber, UnknownId, BadField, BadTree, InUse, Full, NotOpen, NotBooked}
use Rattle.desk_base.specs.rules.Limits.{journal_limit, revision_limit, leaf_limit}
use Rattle.desk_base.specs.rules.TableLimits.{limit_of}
use Rattle.desk_base.specs.rules.Rules.{first_broken}
use Rattle.desk_base.specs.rows.Keys.{key_cmp, id_key}
use Rattle.desk_base.specs.rows.Rows.{rows_in, key_of, keys_in, citations_of, rules_of}
use Rattle.desk_base.specs.rules.TreeRules.{tree_fault}
use Rattle.desk_base.specs.asked.Callers.{last_number}
use Rattle.desk_base.specs.asked.Groups.{booked_for, is_booked}

-- two keys are one
abbrev pub is_key : Key → Key → Bool
is_key k j = is_eq (key_cmp k j)

-- a row stands under the key
abbrev pub is_there : Tables → Key → Bool
is_there t k = list_any (is_key k) (keys_in t k.table)

-- the row that an act puts, but for bookings
abbrev pub row_of : Act → Option AnyRow
row_of (act.Put row) = Some row
row_of (act.PutGroup g) = Some (row.Group g)
row_of _ = None

-- the resources that are picked, in the order of the leaves
abbrev pub picked : List (Option ℕ) → List ℕ
picked picks = flat_map option_to_list picks

-- the keys of the rows that an act names, in the order of its fields. A removal names the row that it takes out alone
abbrev pub cited_by : Act → List Key
cited_by (act.Put row) = citations_of row
cited_by (act.Remove key) = key ∷ []
cited_by (act.PutGroup g) = citations_of (row.Group g)
cited_by (act.DropGroup group) = id_key Group group ∷ []
cited_by (act.BookGroup group start picks) = id_key Group group ∷ map (id_key Resource) (picked picks)
cited_by (act.MoveGroup group start picks) = id_key Group group ∷ map (id_key Resource) (picked picks)
cited_by (act.CancelGroup group) = id_key Group group ∷ []

-- the journal of this opening is full, or the revision is at its limit
abbrev pub refused_entry : Tables → List Entry → Option Refusal
refused_entry t journal = if nat_le journal_limit (length journal) || (t.revision == revision_limit) then Some (JournalFull (length journal)) else None

-- the number is not the one after the caller's last
abbrev pub refused_number : ℕ → ℕ → Option Refusal
refused_number last number = if nat_lt number last then Some (OldNumber last) else if nat_lt (last + 1) number then Some (SkippedNumber last) else None

-- the first of the keys under which no row stands
abbrev pub unknown_among : Tables → List Key → Option Refusal
unknown_among t keys = option_map UnknownId (find (λ k. not (is_there t k)) keys)

-- there are more picks than a tree may have leaves
abbrev pub too_many : List (Option ℕ) → Option Refusal
too_many picks = if nat_le (length picks) leaf_limit then None else Some (BadField Picks)

-- the first field rule that is broken
abbrev pub refused_field : Tables → Act → Option Refusal
refused_field t (act.Put row) = option_map BadField (first_broken (rules_of t row))
refused_field t (act.PutGroup g) = option_map BadField (first_broken (rules_of t (row.Group g)))
refused_field t (act.BookGroup group start picks) = too_many picks
refused_field t (act.MoveGroup group start picks) = too_many picks
refused_field t _ = None

-- the first tree rule that is broken, and its node
abbrev pub refused_tree : Act → Option Refusal
refused_tree (act.PutGroup g) = option_map (λ f. BadTree f.rule f.node) (tree_fault g.nodes (length g.leaves))
refused_tree _ = None

-- the tables in the order of their numbers
abbrev pub all_tables : List Table
all_tables =
    Zone ∷ Calendar ∷ Work ∷ Break ∷ Day ∷ Off ∷ Unit ∷ Site ∷ Role ∷ Characteristic ∷ Territory ∷ Resource ∷ HasRole ∷ HasCharacteristic ∷ HasTerritory
    ∷ Member ∷ Group ∷ Booking ∷ Caller ∷ []

-- a row names the key
abbrev pub cites : Key → AnyRow → Bool
cites k row = list_any (is_key k) (citations_of row)

-- the row that is to be removed is named by another: the one of the least key
abbrev pub refused_removal : Tables → Act → Option Refusal
refused_removal t (act.Remove key) = option_map (λ by. InUse key (key_of by)) (find (cites key) (flat_map (rows_in t) all_tables))
refused_removal t _ = None

-- a row of this key has a place in its table: in that of the row that stands under it, or as one more
abbrev pub has_place : Tables → Key → Bool
has_place t k = is_there t k || nat_lt (length (rows_in t k.table)) (limit_of k.table)

-- so many new bookings have a place among those that stand, and numbers
abbrev pub booking_places : Tables → ℕ → ℕ → List (Bool × Table)
booking_places t standing new =
    (nat_le (standing + new) (limit_of Booking), Booking) ∷ (nat_le (t.last_booking + new) (limit_of BookingNumbers), BookingNumbers) ∷ []

-- what an act needs a place for, but for the caller's row
abbrev pub places_for : Tables → Act → List (Bool × Table)
places_for t (act.Put row) = (has_place t (key_of row), (key_of row).table) ∷ []
places_for t (act.PutGroup g) = (has_place t (id_key Group g.id), Group) ∷ []
places_for t (act.BookGroup group start picks) = booking_places t (length t.bookings) (length (picked picks))
places_for t (act.MoveGroup group start picks) = booking_places t (length t.bookings - length (booked_for t group)) (length (picked picks))
places_for t _ = []

-- the caller's row among the places, which stand in the order of the tables
abbrev pub with_caller_place : Bool × Table → List (Bool × Table) → List (Bool × Table)
with_caller_place c (x ∷ y ∷ []) = x ∷ c ∷ y ∷ []
with_caller_place c xs = xs ++ c ∷ []

-- the first table that would pass its limit
abbrev pub refused_place : Tables → Call → Act → Option Refusal
refused_place t call a = option_map Full (first_broken (with_caller_place (has_place t (id_key Caller call.caller), Caller) (places_for t a)))

-- the group that an act asks to be open
abbrev pub refused_booked : Tables → Act → Option Refusal
refused_booked t (act.PutGroup g) = if is_booked t g.id then Some (NotOpen g.id) else None
refused_booked t (act.DropGroup group) = if is_booked t group then Some (NotOpen group) else None
refused_booked t (act.BookGroup group start picks) = if is_booked t group then Some (NotOpen group) else None
refused_booked t _ = None

-- the group that an act asks to be booked
abbrev pub refused_open : Tables → Act → Option Refusal
refused_open t (act.MoveGroup group start picks) = if is_booked t group then None else Some (NotBooked group)
refused_open t (act.CancelGroup group) = if is_booked t group then None else Some (NotBooked group)
refused_open t _ = None

-- the first of these refusals, in the order in which they are judged
abbrev pub first_some : {A : Type 0} → List (Option A) → Option A
first_some [] = None
first_some (x ∷ xs) = option_or x (first_some xs)

-- the refusals of a change that the rows alone show, in the order in which they are judged
abbrev pub early_refusals : Tables → List Entry → Call → Act → List (Option Refusal)
early_refusals t journal call a =
    refused_entry t journal ∷ refused_number (last_number t call.caller) call.number ∷ unknown_among t (cited_by a) ∷ refused_field t a ∷ refused_tree a
    ∷ refused_removal t a ∷ refused_place t call a ∷ refused_booked t a ∷ refused_open t a ∷ []

-- the first of them that applies
unfoldable pub early_refusal : Tables → List Entry → Call → Act → Option Refusal
early_refusal t journal call a = first_some (early_refusals t journal call a)
