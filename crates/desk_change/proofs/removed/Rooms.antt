-- Tables without a row: what says nothing of room leaves what fits, and where bookings clash, as it is.
use Rattle.std.proofs.Common.{◌≡◌, ℕ, ◌+◌, ◌<◌, ◌≤◌, false, List, [], ◌++◌, map, nat_lt, refl, sym, ap, ◌∙◌, subst}
use Rattle.std.proofs.lemmas.Bool.{false≢true}
use Rattle.std.specs.Prelude.{IfSome, find, option_map}
use Rattle.std.specs.Option.{option_map_or}
use Rattle.desk_base.specs.declared.rows.tables.Tables.{Tables}
use Rattle.desk_base.specs.declared.rows.tables.Table.{Table}
use Rattle.desk_base.specs.declared.rows.tables.Key.{Key}
use Rattle.desk_base.specs.declared.search.results.Ask.{Ask}
use Rattle.desk_base.specs.declared.rows.bookings.BookingRow.{BookingRow}
use Rattle.desk_base.specs.declared.rows.tables.Table.TheVariants.{Zone as ZoneTable, Calendar as CalendarTable, Work as WorkTable, Break as BreakTable, Day as DayTable, Off as OffTable, Resource as ResourceTable, Member as MemberTable}
use Rattle.desk_base.specs.declared.asked.acts.Act.TheVariants as act
use Rattle.desk_base.specs.declared.rows.bookings.Receipt.TheVariants as receipt
use Rattle.desk_base.specs.declared.asked.acts.Call.{Call}
use Rattle.desk_base.specs.declared.asked.refusals.Clash.{Clash}
use Rattle.desk_base.specs.declared.asked.refusals.Shown.TheVariants as shown
use Rattle.desk_base.specs.meaning.Capacity.{capacity, calendar_capacity}
use Rattle.desk_base.specs.meaning.Load.{weight, room, IsWithinRoom, Fits, ask_of, shown_at, IsClash}
use Rattle.desk_base.specs.changes.Changes.{without_row, without_key, with_change}
use Rattle.desk_base.specs.asked.Acts.{after_act}
use Rattle.desk_base.specs.asked.Steps.{bears_on_room, IsConflict}
use Rattle.desk_base.proofs.puts.RoomPuts.{HaveSameRoom, same_room, same_load, same_weight, Fits-same, quiet_caller}
use Rattle.desk_change.proofs.removed.Noted.{row_left}

-- ---- tables of the same resources, members and capacities have the same conflicts

module _ (t u : Tables) (h : HaveSameRoom t u) where
  same_within : (asks : List Ask) (r m : ℕ) → IsWithinRoom t asks r m → IsWithinRoom u asks r m
  same_within asks r m f = subst (λ o. IfSome o (λ n. weight u asks r m ≤ n)) (sym (same_room t u h r m)) (subst (λ w. IfSome (room t r m) (λ n. w ≤ n)) (sym (same_weight t u h asks r m)) f)

  same_shown : (standing : List BookingRow) (r m : ℕ) → shown_at u standing r m ≡ shown_at t standing r m
  same_shown standing r m = λ i. option_map (λ (b : BookingRow). b.id) (find (λ (b : BookingRow). nat_lt 0 (same_load t u h r m (ask_of b) i)) standing)

  same_clash : (standing : List BookingRow) (asked : List Ask) (r m n : ℕ) → IsClash t standing asked r m n → IsClash u standing asked r m n
  same_clash standing asked r m n c = record {
    minute = c.minute;
    capacity = same_room t u h r m ∙ c.capacity;
    over = subst (λ w. n < w + weight u asked r m) (sym (same_weight t u h (map ask_of standing) r m)) (subst (λ w. n < weight t (map ask_of standing) r m + w) (sym (same_weight t u h asked r m)) c.over);
    earlier = λ r' m' i l. same_within (map ask_of standing ++ asked) r' m' (c.earlier r' m' i l);
    lower = λ r' l. same_within (map ask_of standing ++ asked) r' m (c.lower r' l);
  }

  pub same_conflict : (standing : List BookingRow) (asked : List Ask) (c : Clash) → IsConflict t standing asked c → IsConflict u standing asked c
  same_conflict standing asked c k = record {
    clash = same_clash standing asked c.resource c.minute c.capacity k.clash;
    standing_weight = k.standing_weight ∙ sym (same_weight t u h (map ask_of standing) c.resource c.minute);
    asked_weight = k.asked_weight ∙ sym (same_weight t u h asked c.resource c.minute);
    shown = k.shown ∙ sym (ap (λ o. option_map_or shown.Booking o shown.Gap) (same_shown standing c.resource c.minute));
  }

-- ---- rows that do not bear on room

without_quiet_row : (t : Tables) (table : Table) (k : Key) → bears_on_room table ≡ false → HaveSameRoom t (without_row t table k)
unfolding capacity calendar_capacity
without_quiet_row t ZoneTable k e = absurd (false≢true (sym e))
without_quiet_row t CalendarTable k e = absurd (false≢true (sym e))
without_quiet_row t WorkTable k e = absurd (false≢true (sym e))
without_quiet_row t BreakTable k e = absurd (false≢true (sym e))
without_quiet_row t DayTable k e = absurd (false≢true (sym e))
without_quiet_row t OffTable k e = absurd (false≢true (sym e))
without_quiet_row t ResourceTable k e = absurd (false≢true (sym e))
without_quiet_row t MemberTable k e = absurd (false≢true (sym e))
without_quiet_row t table k e = record { sorts = λ r. refl; members = λ g m. refl; capacities = λ r m. refl }

-- without such a row all bookings fit that did
pub fits_without_quiet : (t : Tables) (k : Key) (asks : List Ask) → bears_on_room k.table ≡ false → Fits t asks → Fits (without_key t k) asks
fits_without_quiet t k asks e f = Fits-same t (without_key t k) (without_quiet_row t k.table k e) asks f

-- ---- the caller's row and the counters

module _ (t : Tables) (call : Call) (key : Key) where
  same_after_removal : HaveSameRoom (without_key t key) (after_act t call (act.Remove key))
  unfolding after_act with_change
  same_after_removal = quiet_caller (without_key t key) (row_left call receipt.Removed) (t.revision + 1) (t.last_booking + 0)

  -- what fits without the row fits after the removal
  pub fits_without : (asks : List Ask) → Fits (without_key t key) asks → Fits (after_act t call (act.Remove key)) asks
  fits_without asks f = Fits-same (without_key t key) (after_act t call (act.Remove key)) same_after_removal asks f

  -- and what clashes without the row does so after the removal
  pub conflict_without : (c : Clash) → IsConflict (without_key t key) t.bookings [] c → IsConflict (after_act t call (act.Remove key)) t.bookings [] c
  conflict_without c k = same_conflict (without_key t key) (after_act t call (act.Remove key)) same_after_removal t.bookings [] c k
