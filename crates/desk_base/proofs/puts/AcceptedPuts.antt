-- Puts that no refusal meets: they are accepted, and leave sound tables.
use Rattle.std.proofs.Common.{◌≡◌, Bool, true, false, List, map, None, refl, sym, ◌∙◌}
use Rattle.std.proofs.lemmas.Bool.{false≢true}
use Rattle.desk_base.specs.rows.Types.{Tables, AnyRow, GroupRow}
use Rattle.desk_base.specs.declared.rows.tables.AnyRow.TheVariants.{Group, Booking, Caller}
use Rattle.desk_base.specs.declared.asked.acts.Act.TheVariants as act
use Rattle.desk_base.specs.declared.asked.acts.Call.{Call}
use Rattle.desk_base.specs.declared.asked.acts.Entry.{Entry}
use Rattle.desk_base.specs.declared.asked.refusals.Refusal.{Refusal}
use Rattle.desk_base.specs.declared.asked.refusals.Refusal.TheVariants as refusal
use Rattle.desk_base.specs.rows.Rows.{key_of}
use Rattle.desk_base.specs.meaning.Load.{Fits, ask_of}
use Rattle.desk_base.specs.asked.Refusing.{early_refusal}
use Rattle.desk_base.specs.asked.Acts.{after_act}
use Rattle.desk_base.specs.asked.Steps.{bears_on_room, IsLateRefusal, IsAccepted}
use Rattle.desk_base.specs.rules.Sound.{IsSound, has_tree}
use Rattle.desk_base.proofs.puts.Suits.{is_unbooked}
use Rattle.desk_base.proofs.puts.ActPuts.{is_caller, sound_after_put, sound_after_quiet_put, sound_after_put_group}
use Rattle.desk_base.proofs.puts.PutRefusals.{revision_goes_on, suits_put, caller_of_put, suits_put_group, caller_of_put_group, no_late_refusal}

-- ---- rows of the tables up to memberships

-- the row is of one of the tables up to memberships
abbrev pub is_put_row : AnyRow → Bool
is_put_row (Group x) = false
is_put_row (Booking x) = false
is_put_row (Caller x) = false
is_put_row _ = true

pub put_row : (t : Tables) (row : AnyRow) → is_put_row row ≡ true → (has_tree row ≡ true) × (is_unbooked t row ≡ true) × (is_caller row ≡ false)
put_row t (Group x) e = absurd (false≢true e)
put_row t (Booking x) e = absurd (false≢true e)
put_row t (Caller x) e = absurd (false≢true e)
put_row t row e = (refl, refl, refl)

module _ (t : Tables) (journal : List Entry) (call : Call) where
  -- ---- what no refusal meets is accepted

  -- a put after which the standing bookings fit
  pub accepted_put : (row : AnyRow) → early_refusal t journal call (act.Put row) ≡ None → Fits (after_act t call (act.Put row)) (map ask_of t.bookings) → IsAccepted t journal call (act.Put row)
  accepted_put row e f = record { early = e; late = no_late_refusal t call row f }

  quiet_late : (row : AnyRow) → bears_on_room (key_of row).table ≡ false → (why : Refusal) → ¬ (IsLateRefusal t call (act.Put row) why)
  quiet_late row q (refusal.Conflict c) h = false≢true (sym q ∙ h.0)
  quiet_late row q _ h = h

  -- a put of a row that does not bear on room
  pub accepted_quiet_put : (row : AnyRow) → early_refusal t journal call (act.Put row) ≡ None → bears_on_room (key_of row).table ≡ false → IsAccepted t journal call (act.Put row)
  accepted_quiet_put row e q = record { early = e; late = quiet_late row q }

  -- a put of a group
  pub accepted_put_group : (g : GroupRow) → early_refusal t journal call (act.PutGroup g) ≡ None → IsAccepted t journal call (act.PutGroup g)
  accepted_put_group g e = record { early = e; late = λ why h. h }

  -- ---- the tables after it are sound

  pub sound_put : (row : AnyRow) → IsSound t → is_put_row row ≡ true → early_refusal t journal call (act.Put row) ≡ None → Fits (after_act t call (act.Put row)) (map ask_of t.bookings) → IsSound (after_act t call (act.Put row))
  sound_put row s p e f =
      let r = put_row t row p in
      sound_after_put t call row s (suits_put t journal call row e r.0 r.1) r.2 (caller_of_put t journal call row e) (revision_goes_on t journal call (act.Put row) e) f

  pub sound_quiet_put : (row : AnyRow) → IsSound t → is_put_row row ≡ true → bears_on_room (key_of row).table ≡ false → early_refusal t journal call (act.Put row) ≡ None → IsSound (after_act t call (act.Put row))
  sound_quiet_put row s p q e =
      let r = put_row t row p in
      sound_after_quiet_put t call row s (suits_put t journal call row e r.0 r.1) r.2 q (caller_of_put t journal call row e) (revision_goes_on t journal call (act.Put row) e)

  pub sound_put_group : (g : GroupRow) → IsSound t → early_refusal t journal call (act.PutGroup g) ≡ None → IsSound (after_act t call (act.PutGroup g))
  sound_put_group g s e =
      sound_after_put_group t call g s (suits_put_group t journal call g e) (caller_of_put_group t journal call g e) (revision_goes_on t journal call (act.PutGroup g) e)
