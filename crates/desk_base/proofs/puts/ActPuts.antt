-- Sound tables stay sound after an act that puts a row.
use Rattle.std.proofs.Common.{◌≡◌, ◌≢◌, ℕ, ◌+◌, ◌<◌, Bool, true, false, ◌&&◌, ◌||◌, nat_le, nat_lt, map, length, refl, sym, ap, ◌∙◌, subst, arith}
use Rattle.std.proofs.lemmas.Bool.{false≢true}
use Rattle.std.proofs.lemmas.Bool.Decides.{nat_tests}
use Rattle.std.specs.Prelude.{Contains}
use Rattle.std.specs.List.{list_all, list_any}
use Rattle.desk_base.specs.rows.Types.{Tables, Table, Key, AnyRow, GroupRow, BookingRow, CallerRow, TableRule}
use Rattle.desk_base.specs.declared.rows.tables.Table.TheVariants.{Zone as ZoneTable, Booking as BookingTable, Caller as CallerTable}
use Rattle.desk_base.specs.declared.rows.tables.AnyRow.TheVariants.{Zone, Group, Caller}
use Rattle.desk_base.specs.declared.asked.rules.TableRule.TheVariants.{Order, Limit, Field, Citation, Fits as FitsRule, Booked, Count}
use Rattle.desk_base.specs.declared.rows.bookings.Receipt.TheVariants as receipt
use Rattle.desk_base.specs.declared.asked.acts.Act.TheVariants as act
use Rattle.desk_base.specs.declared.asked.acts.Call.{Call}
use Rattle.desk_base.specs.rules.Limits.{revision_limit, serial_limit}
use Rattle.desk_base.specs.rules.TableLimits.{limit_of}
use Rattle.desk_base.specs.rows.Keys.{id_key}
use Rattle.desk_base.specs.rows.Rows.{rows_in, key_of}
use Rattle.desk_base.specs.meaning.Capacity.{capacity, calendar_capacity}
use Rattle.desk_base.specs.meaning.Load.{Fits, ask_of}
use Rattle.desk_base.specs.asked.Refusing.{is_key, has_place}
use Rattle.desk_base.specs.changes.Changes.{with_row, with_change}
use Rattle.desk_base.specs.asked.Acts.{after_act}
use Rattle.desk_base.specs.asked.Steps.{bears_on_room}
use Rattle.desk_base.specs.rules.Sound.{Keeps, IsSound, keeps_fields, is_counted, rule_number}
use Rattle.desk_base.proofs.lists.Tests.{and_left, and_right}
use Rattle.desk_base.proofs.tables.Sounds.{bookings_fit}
use Rattle.desk_base.proofs.puts.RoomPuts.{HaveSameRoom, same_room_back, Fits-same, quiet_caller, fits_with_quiet}
use Rattle.desk_base.proofs.puts.Suits.{Suits}
use Rattle.desk_base.proofs.puts.SoundPuts.{rest_put, booked_alike, sound_with_row}

-- ---- other counters

-- the tables with these counters
abbrev pub counted : Tables → ℕ → ℕ → Tables
counted t revision last = record t { revision = revision; last_booking = last }

counted_rows : (t : Tables) (revision last : ℕ) (table : Table) → rows_in (counted t revision last) table ≡ rows_in t table
counted_rows t revision last ZoneTable = refl
counted_rows t revision last _ = refl

counted_fields : (t : Tables) (revision last : ℕ) (row : AnyRow) → keeps_fields (counted t revision last) row ≡ keeps_fields t row
counted_fields t revision last (Zone x) = refl
counted_fields t revision last _ = refl

counted_room : (t : Tables) (revision last : ℕ) → HaveSameRoom t (counted t revision last)
unfolding capacity calendar_capacity
counted_room t revision last = record { sorts = λ r. refl; members = λ g m. refl; capacities = λ r m. refl }

-- the rules but the last do not look at the counters
pub counted_keeps_rows : (t : Tables) (revision last : ℕ) → IsSound t → (rule : TableRule) (k : Key) → rule_number rule < 7 → Keeps rule (counted t revision last) k
counted_keeps_rows t revision last s Order k low = λ before after j e. s.keeps Order k before after j (ap (map key_of) (sym (counted_rows t revision last k.table)) ∙ e)
counted_keeps_rows t revision last s Limit k low = λ before after e. s.keeps Limit k before after (ap (map key_of) (sym (counted_rows t revision last k.table)) ∙ e)
counted_keeps_rows t revision last s Field k low = λ row c e. counted_fields t revision last row ∙ s.keeps Field k row (subst (λ l. Contains l row) (counted_rows t revision last k.table) c) e
counted_keeps_rows t revision last s Citation k low = λ row c r e i.
    subst (λ l. Contains (map key_of l) c) (sym (counted_rows t revision last c.table)) (s.keeps Citation k row c (subst (λ l. Contains l row) (counted_rows t revision last k.table) r) e i)
counted_keeps_rows t revision last s FitsRule k low = λ e m i. (Fits-same t (counted t revision last) (counted_room t revision last) (map ask_of t.bookings) (bookings_fit t s)).at k.a m i
counted_keeps_rows t revision last s Booked k low = λ g c e. booked_alike t (counted t revision last) g refl (s.keeps Booked k g c e)
counted_keeps_rows t revision last s Count k low = absurd (omega (arith, low))

counted_keeps : (t : Tables) (revision last : ℕ) → IsSound t → is_counted (counted t revision last) ≡ true → (rule : TableRule) (k : Key) → Keeps rule (counted t revision last) k
counted_keeps t revision last s h Order k = counted_keeps_rows t revision last s Order k (omega arith)
counted_keeps t revision last s h Limit k = counted_keeps_rows t revision last s Limit k (omega arith)
counted_keeps t revision last s h Field k = counted_keeps_rows t revision last s Field k (omega arith)
counted_keeps t revision last s h Citation k = counted_keeps_rows t revision last s Citation k (omega arith)
counted_keeps t revision last s h FitsRule k = counted_keeps_rows t revision last s FitsRule k (omega arith)
counted_keeps t revision last s h Booked k = counted_keeps_rows t revision last s Booked k (omega arith)
counted_keeps t revision last s h Count k = λ e. h

-- sound tables stay sound with other counters that hold
pub sound_counted : (t : Tables) (revision last : ℕ) → IsSound t → is_counted (counted t revision last) ≡ true → IsSound (counted t revision last)
sound_counted t revision last s h = record { keeps = counted_keeps t revision last s h }

pub next_revision : (n : ℕ) → nat_le n revision_limit ≡ true → n ≢ revision_limit → nat_le (n + 1) revision_limit ≡ true
next_revision n h k = grind (arith, nat_tests)

-- each counter is within its limit, and no booking is above its own
pub counts_kept : (t : Tables) → is_counted t ≡ true → (nat_le t.revision revision_limit ≡ true) × (nat_le t.last_booking serial_limit ≡ true) × (list_all (λ (b : BookingRow). nat_le b.id t.last_booking) t.bookings ≡ true)
counts_kept t h =
    let both = nat_le t.revision revision_limit && nat_le t.last_booking serial_limit in
    let numbered = list_all (λ (b : BookingRow). nat_le b.id t.last_booking) t.bookings in
    let first = and_left both numbered h in
    (and_left (nat_le t.revision revision_limit) (nat_le t.last_booking serial_limit) first, and_right (nat_le t.revision revision_limit) (nat_le t.last_booking serial_limit) first, and_right both numbered h)

-- the next revision leaves sound tables sound
pub sound_next_revision : (t : Tables) → IsSound t → t.revision < revision_limit → IsSound (record t { revision = t.revision + 1 })
sound_next_revision t s l =
    let c = counts_kept t (s.keeps Count (id_key BookingTable 0) refl) in
    let revision = next_revision t.revision c.0 (omega arith) in
    sound_counted t (t.revision + 1) t.last_booking s (λ i. revision i && c.1 i && c.2 i)

no_more : (n : ℕ) → n + 0 ≡ n
no_more n = omega arith

-- the counters after an act that makes no booking
pub next_counted : (t : Tables) → is_counted t ≡ true → t.revision ≢ revision_limit → is_counted (counted t (t.revision + 1) (t.last_booking + 0)) ≡ true
next_counted t h k =
    let c = counts_kept t h in
    let revision = next_revision t.revision c.0 k in
    let last = ap (λ n. nat_le n serial_limit) (no_more t.last_booking) ∙ c.1 in
    let bookings = ap (λ n. list_all (λ (b : BookingRow). nat_le b.id n) t.bookings) (no_more t.last_booking) ∙ c.2 in
    λ i. revision i && last i && bookings i

-- ---- the row and the caller's row, one after the other

-- it is the row of a caller
abbrev pub is_caller : AnyRow → Bool
is_caller (Caller x) = true
is_caller _ = false

callers_stay : (t : Tables) (row : AnyRow) → is_caller row ≡ false → rows_in (with_row t row) CallerTable ≡ rows_in t CallerTable
callers_stay t (Caller x) e = absurd (false≢true (sym e))
callers_stay t row e = refl

-- a caller has a place as before
caller_suits : (t : Tables) (row : AnyRow) (x : CallerRow) → is_caller row ≡ false → has_place t (id_key CallerTable x.caller) ≡ true → Suits (with_row t row) (Caller x)
caller_suits t row x e h = record {
  cited = refl;
  fields = refl;
  place = ap (λ l. list_any (is_key (id_key CallerTable x.caller)) (map key_of l) || nat_lt (length l) (limit_of CallerTable)) (callers_stay t row e) ∙ h;
  unbooked = refl;
}

-- with a row, the row of a caller and the next revision
abbrev after_row : Tables → AnyRow → CallerRow → Tables
after_row t row x = counted (with_row (with_row t row) (Caller x)) (t.revision + 1) (t.last_booking + 0)

sound_after_row : (t : Tables) (row : AnyRow) (x : CallerRow) → IsSound t → Suits t row → is_caller row ≡ false → has_place t (id_key CallerTable x.caller) ≡ true → t.revision ≢ revision_limit
    → Fits (after_row t row x) (map ask_of t.bookings) → IsSound (after_row t row x)
sound_after_row t row x s fit e h k room =
    let rest = rest_put t row fit.unbooked in
    let u = with_row t row in
    let before = Fits-same (after_row t row x) u (same_room_back u (after_row t row x) (quiet_caller u x (t.revision + 1) (t.last_booking + 0))) (map ask_of t.bookings) room in
    let sound = sound_with_row t row s fit before in
    let fits = fits_with_quiet u (Caller x) (map ask_of u.bookings) refl (bookings_fit u sound) in
    sound_counted (with_row u (Caller x)) (t.revision + 1) (t.last_booking + 0) (sound_with_row u (Caller x) sound (caller_suits t row x e h) fits)
    ((λ i. nat_le (t.revision + 1) revision_limit && nat_le (t.last_booking + 0) serial_limit && list_all (λ (b : BookingRow). nat_le b.id (t.last_booking + 0)) (rest.0 i))
    ∙ next_counted t (s.keeps Count (id_key BookingTable 0) refl) k)

-- ---- the acts

-- the act of putting a row, where the standing bookings fit after it
pub sound_after_put : (t : Tables) (call : Call) (row : AnyRow) → IsSound t → Suits t row → is_caller row ≡ false → has_place t (id_key CallerTable call.caller) ≡ true → t.revision ≢ revision_limit
    → Fits (after_act t call (act.Put row)) (map ask_of t.bookings) → IsSound (after_act t call (act.Put row))
unfolding after_act with_change
sound_after_put t call row s fit e h k room = sound_after_row t row (record { caller = call.caller; last = call.number; receipt = receipt.Put }) s fit e h k room

-- a row that does not bear on room leaves what fits
pub fits_after_quiet_row : (t : Tables) (row : AnyRow) (x : CallerRow) → bears_on_room (key_of row).table ≡ false → Fits t (map ask_of t.bookings) → Fits (after_row t row x) (map ask_of t.bookings)
fits_after_quiet_row t row x q f =
    Fits-same (with_row t row) (after_row t row x) (quiet_caller (with_row t row) x (t.revision + 1) (t.last_booking + 0)) (map ask_of t.bookings) (fits_with_quiet t row (map ask_of t.bookings) q f)

-- the act of putting a row that does not bear on room
pub sound_after_quiet_put : (t : Tables) (call : Call) (row : AnyRow) → IsSound t → Suits t row → is_caller row ≡ false → bears_on_room (key_of row).table ≡ false → has_place t (id_key CallerTable call.caller) ≡ true → t.revision ≢ revision_limit
    → IsSound (after_act t call (act.Put row))
unfolding after_act with_change
sound_after_quiet_put t call row s fit e q h k =
    let x : CallerRow = record { caller = call.caller; last = call.number; receipt = receipt.Put } in
    sound_after_row t row x s fit e h k (fits_after_quiet_row t row x q (bookings_fit t s))

-- the act of putting a group
pub sound_after_put_group : (t : Tables) (call : Call) (g : GroupRow) → IsSound t → Suits t (Group g) → has_place t (id_key CallerTable call.caller) ≡ true → t.revision ≢ revision_limit → IsSound (after_act t call (act.PutGroup g))
unfolding after_act with_change
sound_after_put_group t call g s fit h k =
    let x : CallerRow = record { caller = call.caller; last = call.number; receipt = receipt.Put } in
    sound_after_row t (Group g) x s fit refl h k (fits_after_quiet_row t (Group g) x refl (bookings_fit t s))
