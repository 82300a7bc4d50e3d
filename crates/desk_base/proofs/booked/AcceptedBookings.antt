-- Bookings, movings and cancellings that no refusal meets: they are accepted, and leave sound tables.
use Rattle.std.proofs.Common.{◌≡◌, ℕ, Bool, true, false, not, ◌==◌, List, [], ◌++◌, map, length, Option, Some, None, inl, inr, refl, sym, ap, ◌∙◌, subst, arith}
use Rattle.std.proofs.lemmas.Bool.{false≢true, leb-true}
use Rattle.std.proofs.lemmas.List.{append-nil}
use Rattle.std.proofs.lemmas.List.Filters.{length-filter_both}
use Rattle.std.specs.List.Sorted.{IsStrictlySortedBy}
use Rattle.desk_base.specs.rows.Types.{Tables, GroupRow, BookingRow}
use Rattle.desk_base.specs.declared.rows.tables.Table.TheVariants.{Booking as BookingTable}
use Rattle.desk_base.specs.declared.asked.rules.TableRule.TheVariants.{Count}
use Rattle.desk_base.specs.declared.asked.rules.Verdict.{Verdict}
use Rattle.desk_base.specs.declared.asked.rules.Verdict.TheVariants as verdict
use Rattle.desk_base.specs.declared.asked.acts.Act.TheVariants as act
use Rattle.desk_base.specs.declared.asked.acts.Call.{Call}
use Rattle.desk_base.specs.declared.asked.acts.Entry.{Entry}
use Rattle.desk_base.specs.declared.asked.refusals.Refusal.{Refusal}
use Rattle.desk_base.specs.declared.asked.refusals.Refusal.TheVariants as refusal
use Rattle.desk_base.specs.rules.Limits.{serial_limit}
use Rattle.desk_base.specs.rows.Keys.{id_key}
use Rattle.desk_base.specs.meaning.Load.{Fits, ask_of}
use Rattle.desk_base.specs.asked.Groups.{group_of}
use Rattle.desk_base.specs.search.Listing.{IsFeasible}
use Rattle.desk_base.specs.search.Verdicts.{IsVerdict}
use Rattle.desk_base.specs.asked.Refusing.{early_refusal}
use Rattle.desk_base.specs.asked.Acts.{receipt_of, after_act}
use Rattle.desk_base.specs.asked.Steps.{others_of, IsPlaceRefusal, IsPlaceRefusalOf, IsAccepted}
use Rattle.desk_base.specs.rules.Sound.{IsSound}
use Rattle.desk_base.proofs.tables.Sounds.{keys_rise, bookings_fit}
use Rattle.desk_base.proofs.meaning.Shapes.{few_bookings}
use Rattle.desk_base.proofs.meaning.Fewer.{Fits-fewer, fewer_filtered}
use Rattle.desk_base.proofs.searched.VerdictLemmas.{one_verdict}
use Rattle.desk_base.proofs.puts.PutRefusals.{revision_goes_on}
use Rattle.desk_base.proofs.puts.ActPuts.{counts_kept}
use Rattle.desk_base.proofs.booked.BookedRows.{others_unbooked, row_after, after_book, after_move, after_cancel}
use Rattle.desk_base.proofs.booked.SoundBookings.{AreNew, all_rise, sound_with_bookings}
use Rattle.desk_base.proofs.booked.BookRefusals.{book_places, book_known, book_open, move_places, move_known, cancel_place}
use Rattle.desk_base.proofs.booked.FeasibleBookings.{bookings_for, few_new, new_is, are_new, new_fit, own_booked}

-- ---- what is feasible is not refused

abbrev is_feasible : Verdict → Bool
is_feasible verdict.Feasible = true
is_feasible _ = false

module _ (t : Tables) (g : GroupRow) (start : ℕ) (picks : List (Option ℕ)) (feasible : IsFeasible t g start picks) where
  no_other : (v : Verdict) → is_feasible v ≡ false → ¬ (IsVerdict t g start picks v)
  no_other v e h = false≢true (sym e ∙ ap is_feasible (one_verdict t g start picks v verdict.Feasible h feasible))

  not_refused : (why : Refusal) → ¬ (IsPlaceRefusal t g start picks why)
  not_refused (refusal.OffGrid m) h = no_other verdict.OffGrid refl h.0
  not_refused (refusal.BadShape j) h = no_other (verdict.BadShape j) refl h
  not_refused (refusal.NotEligible j r rule) h = no_other (verdict.NotEligible j r rule) refl h
  not_refused (refusal.NotSame node) h = no_other (verdict.NotSame node) refl h
  not_refused (refusal.Conflict c) h = no_other verdict.Unfit refl h.0
  not_refused _ h = h

-- ---- a booking and a moving

module _ (t : Tables) (journal : List Entry) (call : Call) (group start : ℕ) (picks : List (Option ℕ)) (g : GroupRow) where
  not_refused_of : group_of t group ≡ Some g → IsFeasible t g start picks → (why : Refusal) → ¬ (IsPlaceRefusalOf t (group_of t group) start picks why)
  not_refused_of found feasible why h = not_refused t g start picks feasible why (subst (λ o. IsPlaceRefusalOf t o start picks why) found h)

  pub accepted_book : early_refusal t journal call (act.BookGroup group start picks) ≡ None → group_of t group ≡ Some g → IsFeasible t g start picks → IsAccepted t journal call (act.BookGroup group start picks)
  accepted_book e found feasible = record { early = e; late = not_refused_of found feasible }

  pub accepted_move : early_refusal t journal call (act.MoveGroup group start picks) ≡ None → group_of t group ≡ Some g → IsFeasible t g start picks → IsAccepted t journal call (act.MoveGroup group start picks)
  accepted_move e found feasible = record { early = e; late = not_refused_of found feasible }

  pub sound_book : IsSound t → early_refusal t journal call (act.BookGroup group start picks) ≡ None → group_of t group ≡ Some g → IsFeasible t g start picks → IsSound (after_act t call (act.BookGroup group start picks))
  sound_book s e found feasible =
      let a = act.BookGroup group start picks in
      let made = bookings_for t g start picks in
      let rise = keys_rise t BookingTable s in
      let open_group = book_open t journal call group start picks e in
      let new = are_new t group start picks g found s (book_known t journal call group start picks e) in
      let places = book_places t journal call group start picks e in
      let more = few_new t g start picks in
      let old = ap length (others_unbooked t group open_group) in
      subst IsSound (sym (after_book t group rise call start picks made open_group (new_is t group start picks g found) (all_rise t group made s new)))
      (sound_with_bookings t group made s new (row_after t group rise call (receipt_of t a)) places.caller (revision_goes_on t journal call a e) (omega (arith, places.rows, more, old)) (omega (arith, places.numbers, more))
      (new_fit t group start picks g found feasible) (λ x c f. inr (own_booked t group start picks g found feasible s x c f)))

  pub sound_move : IsSound t → early_refusal t journal call (act.MoveGroup group start picks) ≡ None → group_of t group ≡ Some g → IsFeasible t g start picks → IsSound (after_act t call (act.MoveGroup group start picks))
  sound_move s e found feasible =
      let a = act.MoveGroup group start picks in
      let made = bookings_for t g start picks in
      let rise = keys_rise t BookingTable s in
      let new = are_new t group start picks g found s (move_known t journal call group start picks e) in
      let places = move_places t journal call group start picks e in
      let more = few_new t g start picks in
      let parts = length-filter_both (λ (b : BookingRow). b.group == group) (λ (b : BookingRow). not (b.group == group)) (λ b. refl) t.bookings in
      subst IsSound (sym (after_move t group rise call start picks made (new_is t group start picks g found) (all_rise t group made s new)))
      (sound_with_bookings t group made s new (row_after t group rise call (receipt_of t a)) places.caller (revision_goes_on t journal call a e) (omega (arith, places.rows, more, parts)) (omega (arith, places.numbers, more))
      (new_fit t group start picks g found feasible) (λ x c f. inr (own_booked t group start picks g found feasible s x c f)))

-- ---- a cancelling

module _ (t : Tables) (journal : List Entry) (call : Call) (group : ℕ) where
  pub accepted_cancel : early_refusal t journal call (act.CancelGroup group) ≡ None → IsAccepted t journal call (act.CancelGroup group)
  accepted_cancel e = record { early = e; late = λ why h. h }

  none_new : AreNew t group []
  unfolding IsStrictlySortedBy
  none_new = record { order = tt; above = λ b i. absurd i; within = λ b i. absurd i; group = λ b i. absurd i; field = λ b i. absurd i; citation = λ b k i. absurd i }

  rest_fits : IsSound t → Fits t (map ask_of (others_of t group ++ []))
  rest_fits s = subst (λ l. Fits t (map ask_of l)) (sym (append-nil (others_of t group))) (Fits-fewer t (map ask_of (others_of t group)) (map ask_of t.bookings) (fewer_filtered (λ (b : BookingRow). not (b.group == group)) t.bookings) (bookings_fit t s))

  pub sound_cancel : IsSound t → early_refusal t journal call (act.CancelGroup group) ≡ None → IsSound (after_act t call (act.CancelGroup group))
  sound_cancel s e =
      let a = act.CancelGroup group in
      let rise = keys_rise t BookingTable s in
      let few = few_bookings t s in
      let parts = length-filter_both (λ (b : BookingRow). b.group == group) (λ (b : BookingRow). not (b.group == group)) (λ b. refl) t.bookings in
      let numbers = leb-true t.last_booking serial_limit (counts_kept t (s.keeps Count (id_key BookingTable 0) refl)).1 in
      subst IsSound (sym (after_cancel t group rise call (all_rise t group [] s none_new)))
      (sound_with_bookings t group [] s none_new (row_after t group rise call (receipt_of t a)) (cancel_place t journal call group e) (revision_goes_on t journal call a e) (omega (arith, few, parts)) (omega (arith, numbers)) (rest_fits s) (λ x c f. inl refl))
