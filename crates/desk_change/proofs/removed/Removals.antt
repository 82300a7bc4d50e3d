-- Removals that no refusal meets: they are accepted, and leave sound tables, which are well formed even where the bookings do not fit.
use Rattle.std.proofs.Common.{◌≡◌, true, false, List, [], map, None, refl, sym, ◌∙◌, subst}
use Rattle.std.proofs.lemmas.Bool.{false≢true}
use Rattle.std.proofs.lemmas.List.{append-nil}
use Rattle.desk_base.specs.declared.rows.tables.Tables.{Tables}
use Rattle.desk_base.specs.declared.rows.tables.Table.{Table}
use Rattle.desk_base.specs.declared.rows.tables.Key.{Key}
use Rattle.desk_base.specs.declared.rows.tables.Table.TheVariants.{Zone as ZoneTable, Group as GroupTable, Booking as BookingTable, Caller as CallerTable, BookingNumbers}
use Rattle.desk_base.specs.declared.rows.bookings.Receipt.TheVariants as receipt
use Rattle.desk_base.specs.declared.asked.acts.Act.TheVariants as act
use Rattle.desk_base.specs.declared.asked.acts.Call.{Call}
use Rattle.desk_base.specs.declared.asked.acts.Entry.{Entry}
use Rattle.desk_base.specs.declared.asked.refusals.Refusal.{Refusal}
use Rattle.desk_base.specs.declared.asked.refusals.Refusal.TheVariants as refusal
use Rattle.desk_base.specs.meaning.Load.{Fits, ask_of}
use Rattle.desk_base.specs.asked.Refusing.{early_refusal}
use Rattle.desk_base.specs.asked.Acts.{after_act}
use Rattle.desk_base.specs.asked.Steps.{bears_on_room, IsLateRefusal, IsAccepted}
use Rattle.desk_base.specs.changes.Changes.{without_key}
use Rattle.desk_base.specs.rules.Sound.{IsSound, AreWellFormed}
use Rattle.desk_base.proofs.tables.Sounds.{bookings_fit}
use Rattle.desk_base.proofs.puts.PutRefusals.{revision_goes_on, no_clash}
use Rattle.desk_base.proofs.booked.Rebooked.{is_bookings}
use Rattle.desk_change.specs.Served.{is_master}
use Rattle.desk_change.proofs.removed.FieldsWithout.{IsUncited}
use Rattle.desk_change.proofs.removed.SoundWithout.{well_formed_without_uncited, sound_without_uncited}
use Rattle.desk_change.proofs.removed.Noted.{noted, is_callers, after_remove, sound_noted, uncited_noted}
use Rattle.desk_change.proofs.removed.Refusals.{caller_of_removal, uncited_removal}
use Rattle.desk_change.proofs.removed.Rooms.{fits_without_quiet}

-- the tables of rows that are put and taken out one by one are neither that of bookings nor that of callers
pub of_master : (table : Table) → is_master table ≡ true → (is_bookings table ≡ false) × (is_callers table ≡ false)
of_master GroupTable e = absurd (false≢true e)
of_master BookingTable e = absurd (false≢true e)
of_master CallerTable e = absurd (false≢true e)
of_master BookingNumbers e = absurd (false≢true e)
of_master ZoneTable e = (refl, refl)
of_master _ e = (refl, refl)

module _ (t : Tables) (journal : List Entry) (call : Call) (key : Key) where
  -- ---- what no refusal meets is accepted

  fitting_late : Fits (after_act t call (act.Remove key)) (map ask_of t.bookings) → (why : Refusal) → ¬ (IsLateRefusal t call (act.Remove key) why)
  fitting_late f (refusal.Conflict c) h = no_clash (after_act t call (act.Remove key)) t.bookings [] (subst (Fits (after_act t call (act.Remove key))) (sym (append-nil (map ask_of t.bookings))) f) c h.1
  fitting_late f _ h = h

  quiet_late : bears_on_room key.table ≡ false → (why : Refusal) → ¬ (IsLateRefusal t call (act.Remove key) why)
  quiet_late q (refusal.Conflict c) h = false≢true (sym q ∙ h.0)
  quiet_late q _ h = h

  -- a removal after which the standing bookings fit
  pub accepted_remove : early_refusal t journal call (act.Remove key) ≡ None → Fits (after_act t call (act.Remove key)) (map ask_of t.bookings) → IsAccepted t journal call (act.Remove key)
  accepted_remove e f = record { early = e; late = fitting_late f }

  -- a removal of a row that does not bear on room
  pub accepted_quiet_remove : early_refusal t journal call (act.Remove key) ≡ None → bears_on_room key.table ≡ false → IsAccepted t journal call (act.Remove key)
  accepted_quiet_remove e q = record { early = e; late = quiet_late q }

  -- ---- the tables without the row

  module _ (s : IsSound t) (m : is_master key.table ≡ true) (e : early_refusal t journal call (act.Remove key) ≡ None) where
    -- they are well formed, whether or not the bookings fit
    pub well_formed_without : AreWellFormed (without_key t key)
    well_formed_without = well_formed_without_uncited t key s (uncited_removal t journal call key e)

    -- ---- the tables after it

    abbrev before : Tables
    before = noted t call receipt.Removed

    after : after_act t call (act.Remove key) ≡ without_key before key
    after = after_remove t call key (of_master key.table m).1

    sound_before : IsSound before
    sound_before = sound_noted t call receipt.Removed s (caller_of_removal t journal call key e) (revision_goes_on t journal call (act.Remove key) e)

    uncited_before : IsUncited before key
    uncited_before = uncited_noted t call receipt.Removed key (uncited_removal t journal call key e)

    pub well_formed_remove : AreWellFormed (after_act t call (act.Remove key))
    well_formed_remove = subst AreWellFormed (sym after) (well_formed_without_uncited before key sound_before uncited_before)

    pub sound_remove : Fits (after_act t call (act.Remove key)) (map ask_of t.bookings) → IsSound (after_act t call (act.Remove key))
    sound_remove f = subst IsSound (sym after) (sound_without_uncited before key sound_before uncited_before (of_master key.table m).0 (subst (λ u. Fits u (map ask_of t.bookings)) after f))

    pub sound_quiet_remove : bears_on_room key.table ≡ false → IsSound (after_act t call (act.Remove key))
    sound_quiet_remove q =
        subst IsSound (sym after) (sound_without_uncited before key sound_before uncited_before (of_master key.table m).0 (fits_without_quiet before key (map ask_of t.bookings) q (bookings_fit before sound_before)))
