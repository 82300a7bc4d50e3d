-- On which tables a change is judged, and what that says of the tables after it.
use Rattle.std.proofs.Common.{◌≡◌, Bool, true, false, cond, List, [], map, Some, None, refl, sym, subst}
use Rattle.std.proofs.lemmas.Bool.{false≢true}
use Rattle.std.specs.Prelude.{Result, Ok, Err, OnOk, IfErr}
use Rattle.desk_base.specs.declared.rows.tables.Tables.{Tables}
use Rattle.desk_base.specs.declared.rows.bookings.Receipt.{Receipt}
use Rattle.desk_base.specs.declared.rows.tables.Key.{Key}
use Rattle.desk_base.specs.declared.rows.tables.AnyRow.{AnyRow}
use Rattle.desk_base.specs.declared.rows.tables.AnyRow.TheVariants.{Booking}
use Rattle.desk_base.specs.declared.rows.bookings.BookingRow.{BookingRow}
use Rattle.desk_base.specs.declared.asked.acts.Act.{Act}
use Rattle.desk_base.specs.declared.asked.acts.Act.TheVariants as act
use Rattle.desk_base.specs.declared.asked.acts.Call.{Call}
use Rattle.desk_base.specs.declared.asked.acts.Entry.{Entry}
use Rattle.desk_base.specs.declared.asked.refusals.Clash.{Clash}
use Rattle.desk_base.specs.declared.asked.refusals.Refusal.TheVariants.{Conflict}
use Rattle.desk_base.specs.rows.Rows.{key_of}
use Rattle.desk_base.specs.meaning.Load.{Fits, ask_of}
use Rattle.desk_base.specs.changes.Changes.{with_change, without_key}
use Rattle.desk_base.specs.asked.Refusing.{early_refusal}
use Rattle.desk_base.specs.asked.Acts.{after_act, change_of}
use Rattle.desk_base.specs.asked.Steps.{bears_on_room, IsConflict}
use Rattle.desk_base.specs.rules.Sound.{IsSound, AreWellFormed}
use Rattle.desk_base.proofs.tables.Sounds.{well_formed, bookings_fit, keys_rise}
use Rattle.desk_base.proofs.puts.AcceptedPuts.{sound_put_group}
use Rattle.desk_base.proofs.booked.AcceptedBookings.{sound_cancel}
use Rattle.desk_load.specs.Effects.{KeepIndexed}
use Rattle.desk_load.proofs.Differing.{differs_with_change_put}
use Rattle.desk_change.specs.Served.{is_master, IsServed}
use Rattle.desk_change.proofs.WellFormedPuts.{well_formed_put}
use Rattle.desk_change.proofs.removed.Removals.{well_formed_without, well_formed_remove, of_master}
use Rattle.desk_change.proofs.removed.Rooms.{fits_without, conflict_without}
use Rattle.desk_change.proofs.removed.SoundWithout.{rest_stays}
use Rattle.desk_change.proofs.removed.Drops.{sound_drop}
use Rattle.desk_core.specs.declared.entering.NotEntered.{NotEntered}
use Rattle.desk_core.specs.declared.entering.NotEntered.TheVariants.{Refused, NoMemory}
use Rattle.desk_core.specs.Effects.{IsPlaced}
use Rattle.desk_core.specs.Entered.{judged, CanBeEntered, FitAfter, FitIn, IsClashing, IsClashingIn, IsLateHindrance, IsOf}
use Rattle.desk_core.proofs.Booked.{sound_placed_book, sound_placed_move}

pub after_is : (t : Tables) (call : Call) (a : Act) → after_act t call a ≡ with_change t (change_of t call a)
unfolding after_act
after_is t call a = refl

-- ---- rows that are put or taken out leave the bookings

bookings_stay : (t : Tables) (call : Call) (row : AnyRow) → is_master (key_of row).table ≡ true → (with_change t (change_of t call (act.Put row))).bookings ≡ t.bookings
unfolding with_change
bookings_stay t call (Booking x) m = absurd (false≢true m)
bookings_stay t call row m = refl

-- a removal keeps what an index keeps of the tables without the row
kept_indexed : (t : Tables) (call : Call) (key : Key) → KeepIndexed (with_change t (change_of t call (act.Remove key))) (without_key t key)
unfolding with_change
kept_indexed t call key = record { resources = refl; members = refl; groups = refl; bookings = refl }

-- ---- what is needed to enter a change

module _ (t : Tables) (journal : List Entry) (call : Call) (s : IsSound t) where
  formed_after : (a : Act) → IsServed a → early_refusal t journal call a ≡ None → IsPlaced t a → AreWellFormed (after_act t call a)
  formed_after (act.Put row) m e p = well_formed_put t journal call row s m e
  formed_after (act.Remove key) m e p = well_formed_remove t journal call key s m e
  formed_after (act.PutGroup g) m e p = well_formed (after_act t call (act.PutGroup g)) (sound_put_group t journal call g s e)
  formed_after (act.DropGroup group) m e p = well_formed (after_act t call (act.DropGroup group)) (sound_drop t journal call group s e)
  formed_after (act.BookGroup group start picks) m e p = well_formed (after_act t call (act.BookGroup group start picks)) (sound_placed_book t journal call group start picks s e p)
  formed_after (act.MoveGroup group start picks) m e p = well_formed (after_act t call (act.MoveGroup group start picks)) (sound_placed_move t journal call group start picks s e p)
  formed_after (act.CancelGroup group) m e p = well_formed (after_act t call (act.CancelGroup group)) (sound_cancel t journal call group s e)

  is_of : (a : Act) → IsServed a → early_refusal t journal call a ≡ None → IsOf t a (change_of t call a)
  is_of (act.Put row) m e = (refl, λ q. differs_with_change_put t call row (λ table. keys_rise t table s) q)
  is_of (act.Remove key) m e = (well_formed_without t journal call key s m e, kept_indexed t call key)
  is_of (act.PutGroup g) m e = tt
  is_of (act.DropGroup group) m e = tt
  is_of (act.BookGroup group start picks) m e = tt
  is_of (act.MoveGroup group start picks) m e = tt
  is_of (act.CancelGroup group) m e = tt

  pub can_be_entered : (a : Act) → IsServed a → early_refusal t journal call a ≡ None → IsPlaced t a → CanBeEntered t a (change_of t call a)
  can_be_entered a m e p = record { before = record { formed = well_formed t s; fits = bookings_fit t s }; changed = subst AreWellFormed (after_is t call a) (formed_after a m e p); of = is_of a m e }

-- ---- what the judgement says of the tables after the act

-- tables that are judged, where a row of their table bears on room
abbrev judged_if : Bool → Tables → NotEntered → Type 0
judged_if b u why = IsClashingIn (cond b (Some u) None) why

fit_put : (t : Tables) (call : Call) (row : AnyRow) (b : Bool) → is_master (key_of row).table ≡ true → FitIn (cond b (Some (with_change t (change_of t call (act.Put row)))) None) → b ≡ true → Fits (after_act t call (act.Put row)) (map ask_of t.bookings)
fit_put t call row true m f e =
    subst (λ (u : Tables). Fits u (map ask_of t.bookings)) (sym (after_is t call (act.Put row)))
    (subst (λ (bs : List BookingRow). Fits (with_change t (change_of t call (act.Put row))) (map ask_of bs)) (bookings_stay t call row m) f)
fit_put t call row false m f e = absurd (false≢true e)

fit_remove : (t : Tables) (call : Call) (key : Key) (b : Bool) → is_master key.table ≡ true → FitIn (cond b (Some (without_key t key)) None) → b ≡ true → Fits (after_act t call (act.Remove key)) (map ask_of t.bookings)
fit_remove t call key true m f e =
    fits_without t call key (map ask_of t.bookings) (subst (λ (bs : List BookingRow). Fits (without_key t key) (map ask_of bs)) (rest_stays t key.table key (of_master key.table m).0).0 f)
fit_remove t call key false m f e = absurd (false≢true e)

pub fit_after : (t : Tables) (call : Call) (a : Act) → IsServed a → FitIn (judged t a (change_of t call a)) → FitAfter t call a
fit_after t call (act.Put row) m f = fit_put t call row (bears_on_room (key_of row).table) m f
fit_after t call (act.Remove key) m f = fit_remove t call key (bears_on_room key.table) m f
fit_after t call (act.PutGroup g) m f = λ e. absurd (false≢true e)
fit_after t call (act.DropGroup group) m f = λ e. absurd (false≢true e)
fit_after t call (act.BookGroup group start picks) m f = λ e. absurd (false≢true e)
fit_after t call (act.MoveGroup group start picks) m f = λ e. absurd (false≢true e)
fit_after t call (act.CancelGroup group) m f = λ e. absurd (false≢true e)

clash_put : (t : Tables) (call : Call) (row : AnyRow) (c : Clash) (b : Bool) → bears_on_room (key_of row).table ≡ b → is_master (key_of row).table ≡ true
    → judged_if b (with_change t (change_of t call (act.Put row))) (Refused (Conflict c)) → (bears_on_room (key_of row).table ≡ true) × IsConflict (after_act t call (act.Put row)) t.bookings [] c
clash_put t call row c true q m h = (
  q,
  subst (λ (u : Tables). IsConflict u t.bookings [] c) (sym (after_is t call (act.Put row)))
      (subst (λ (bs : List BookingRow). IsConflict (with_change t (change_of t call (act.Put row))) bs [] c) (bookings_stay t call row m) h),
)
clash_put t call row c false q m h = absurd h

clash_remove : (t : Tables) (call : Call) (key : Key) (c : Clash) (b : Bool) → bears_on_room key.table ≡ b → is_master key.table ≡ true
    → judged_if b (without_key t key) (Refused (Conflict c)) → (bears_on_room key.table ≡ true) × IsConflict (after_act t call (act.Remove key)) t.bookings [] c
clash_remove t call key c true q m h = (
  q,
  conflict_without t call key c (subst (λ (bs : List BookingRow). IsConflict (without_key t key) bs [] c) (rest_stays t key.table key (of_master key.table m).0).0 h),
)
clash_remove t call key c false q m h = absurd h

other_refusal : (b : Bool) (u : Tables) (why : NotEntered) → (IsClashing u why → ⊥) → (IsClashingIn None why → ⊥) → judged_if b u why → ⊥
other_refusal true u why n m h = n h
other_refusal false u why n m h = m h

pub late_hindrance : (t : Tables) (call : Call) (a : Act) (why : NotEntered) → IsServed a → IsClashingIn (judged t a (change_of t call a)) why → IsLateHindrance t call a why
late_hindrance t call a NoMemory m h = tt
late_hindrance t call (act.Put row) (Refused (Conflict c)) m h = clash_put t call row c (bears_on_room (key_of row).table) refl m h
late_hindrance t call (act.Remove key) (Refused (Conflict c)) m h = clash_remove t call key c (bears_on_room key.table) refl m h
late_hindrance t call (act.Put row) (Refused why) m h = absurd (other_refusal (bears_on_room (key_of row).table) (with_change t (change_of t call (act.Put row))) (Refused why) (λ k. k) (λ k. k) h)
late_hindrance t call (act.Remove key) (Refused why) m h = absurd (other_refusal (bears_on_room key.table) (without_key t key) (Refused why) (λ k. k) (λ k. k) h)
late_hindrance t call (act.PutGroup g) (Refused why) m h = absurd h
late_hindrance t call (act.DropGroup group) (Refused why) m h = absurd h
late_hindrance t call (act.BookGroup group start picks) (Refused why) m h = absurd h
late_hindrance t call (act.MoveGroup group start picks) (Refused why) m h = absurd h
late_hindrance t call (act.CancelGroup group) (Refused why) m h = absurd h

-- ---- the same, where it was entered or not

pub fit_entered : (t : Tables) (call : Call) (a : Act) (r : Result Receipt NotEntered) → IsServed a → OnOk r (FitIn (judged t a (change_of t call a))) → OnOk r (FitAfter t call a)
fit_entered t call a (Ok x) m f = fit_after t call a m f
fit_entered t call a (Err x) m f = tt

pub late_entered : (t : Tables) (call : Call) (a : Act) (r : Result Receipt NotEntered) → IsServed a → IfErr r (IsClashingIn (judged t a (change_of t call a))) → IfErr r (IsLateHindrance t call a)
late_entered t call a (Ok x) m h = tt
late_entered t call a (Err x) m h = late_hindrance t call a x m h
