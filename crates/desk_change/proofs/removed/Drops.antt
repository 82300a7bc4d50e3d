-- Droppings of groups that no refusal meets: they are accepted, and leave sound tables.
use Rattle.std.proofs.Common.{◌≡◌, ℕ, map, List, None, refl, sym, subst}
use Rattle.desk_base.specs.declared.rows.tables.Tables.{Tables}
use Rattle.desk_base.specs.declared.rows.tables.Table.TheVariants.{Group as GroupTable}
use Rattle.desk_base.specs.declared.rows.bookings.Receipt.TheVariants as receipt
use Rattle.desk_base.specs.declared.asked.acts.Act.TheVariants as act
use Rattle.desk_base.specs.declared.asked.acts.Call.{Call}
use Rattle.desk_base.specs.declared.asked.acts.Entry.{Entry}
use Rattle.desk_base.specs.rows.Keys.{id_key}
use Rattle.desk_base.specs.meaning.Load.{ask_of}
use Rattle.desk_base.specs.asked.Refusing.{early_refusal}
use Rattle.desk_base.specs.asked.Acts.{after_act}
use Rattle.desk_base.specs.asked.Steps.{IsAccepted}
use Rattle.desk_base.specs.changes.Changes.{without_key, with_change}
use Rattle.desk_base.specs.rules.Sound.{IsSound}
use Rattle.desk_base.proofs.tables.Sounds.{bookings_fit}
use Rattle.desk_base.proofs.puts.PutRefusals.{revision_goes_on}
use Rattle.desk_change.proofs.removed.SoundWithout.{sound_without_uncited}
use Rattle.desk_change.proofs.removed.Noted.{noted, sound_noted, uncited_noted}
use Rattle.desk_change.proofs.removed.Refusals.{caller_of_drop, uncited_drop}
use Rattle.desk_change.proofs.removed.Rooms.{fits_without_quiet}

module _ (t : Tables) (journal : List Entry) (call : Call) (group : ℕ) where
  pub accepted_drop : early_refusal t journal call (act.DropGroup group) ≡ None → IsAccepted t journal call (act.DropGroup group)
  accepted_drop e = record { early = e; late = λ why h. h }

  after_drop : after_act t call (act.DropGroup group) ≡ without_key (noted t call receipt.Removed) (id_key GroupTable group)
  unfolding after_act with_change
  after_drop = refl

  pub sound_drop : IsSound t → early_refusal t journal call (act.DropGroup group) ≡ None → IsSound (after_act t call (act.DropGroup group))
  sound_drop s e =
      let before = noted t call receipt.Removed in
      let key = id_key GroupTable group in
      let sound = sound_noted t call receipt.Removed s (caller_of_drop t journal call group e) (revision_goes_on t journal call (act.DropGroup group) e) in
      let free = uncited_noted t call receipt.Removed key (uncited_drop t journal call group e) in
      subst IsSound (sym after_drop) (sound_without_uncited before key sound free refl (fits_without_quiet before key (map ask_of t.bookings) refl (bookings_fit before sound)))
