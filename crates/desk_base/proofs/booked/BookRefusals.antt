-- What the refusals of a booking, a moving and a cancelling that do not apply give: places, numbers and resources that are there.
use Rattle.std.proofs.Common.{◌≡◌, ℕ, ◌+◌, ◌-◌, ◌≤◌, true, false, nat_le, List, [], ◌∷◌, map, length, Option, None}
use Rattle.std.proofs.lemmas.Bool.{leb-true}
use Rattle.std.specs.Prelude.{option_map}
use Rattle.std.specs.List.{list_all}
use Rattle.desk_base.specs.rows.Types.{Tables}
use Rattle.desk_base.specs.declared.rows.tables.Table.TheVariants.{Resource as ResourceTable, Group as GroupTable, Booking as BookingTable, Caller as CallerTable, BookingNumbers}
use Rattle.desk_base.specs.declared.asked.acts.Act.TheVariants as act
use Rattle.desk_base.specs.declared.asked.acts.Call.{Call}
use Rattle.desk_base.specs.declared.asked.acts.Entry.{Entry}
use Rattle.desk_base.specs.declared.asked.refusals.Refusal.TheVariants as refusal
use Rattle.desk_base.specs.rules.Limits.{serial_limit}
use Rattle.desk_base.specs.rules.TableLimits.{limit_of}
use Rattle.desk_base.specs.rules.Rules.{first_broken}
use Rattle.desk_base.specs.rows.Keys.{id_key}
use Rattle.desk_base.specs.asked.Groups.{booked_for, is_booked}
use Rattle.desk_base.specs.asked.Refusing.{is_there, picked, has_place, booking_places, with_caller_place, early_refusal}
use Rattle.desk_base.proofs.lists.Tests.{and_right}
use Rattle.desk_base.proofs.meaning.Shapes.{rules_kept}
use Rattle.desk_base.proofs.puts.PutRefusals.{map_none, test_fails, all_there, early_none}

-- so many new bookings have places beside those that stay, and numbers, and the row of the caller has a place
pub record HavePlaces (t : Tables) (call : Call) (standing new : ℕ) : Type 0 where
  pub rows : standing + new ≤ limit_of BookingTable
  pub numbers : t.last_booking + new ≤ serial_limit
  pub caller : has_place t (id_key CallerTable call.caller) ≡ true

places_from : (t : Tables) (call : Call) (standing new : ℕ) → option_map refusal.Full (first_broken (with_caller_place (has_place t (id_key CallerTable call.caller), CallerTable) (booking_places t standing new))) ≡ None → HavePlaces t call standing new
places_from t call standing new e =
    let h = rules_kept ((nat_le (standing + new) (limit_of BookingTable), BookingTable) ∷ (has_place t (id_key CallerTable call.caller), CallerTable) ∷ (nat_le (t.last_booking + new) (limit_of BookingNumbers), BookingNumbers) ∷ []) (map_none refusal.Full _ e) in
    record { rows = leb-true (standing + new) (limit_of BookingTable) h.0; numbers = leb-true (t.last_booking + new) (limit_of BookingNumbers) h.1.1.0; caller = h.1.0 }

module _ (t : Tables) (journal : List Entry) (call : Call) (id : ℕ) where
  module _ (start : ℕ) (picks : List (Option ℕ)) where
    -- ---- a booking

    pub book_places : early_refusal t journal call (act.BookGroup id start picks) ≡ None → HavePlaces t call (length t.bookings) (length (picked picks))
    book_places e = places_from t call (length t.bookings) (length (picked picks)) (early_none t journal call (act.BookGroup id start picks) e).place

    pub book_known : early_refusal t journal call (act.BookGroup id start picks) ≡ None → list_all (is_there t) (map (id_key ResourceTable) (picked picks)) ≡ true
    book_known e =
        and_right (is_there t (id_key GroupTable id)) (list_all (is_there t) (map (id_key ResourceTable) (picked picks)))
        (all_there t (id_key GroupTable id ∷ map (id_key ResourceTable) (picked picks)) (map_none refusal.UnknownId _ (early_none t journal call (act.BookGroup id start picks) e).known))

    pub book_open : early_refusal t journal call (act.BookGroup id start picks) ≡ None → is_booked t id ≡ false
    book_open e = test_fails (is_booked t id) _ (early_none t journal call (act.BookGroup id start picks) e).booked

    -- ---- a moving

    pub move_places : early_refusal t journal call (act.MoveGroup id start picks) ≡ None → HavePlaces t call (length t.bookings - length (booked_for t id)) (length (picked picks))
    move_places e = places_from t call (length t.bookings - length (booked_for t id)) (length (picked picks)) (early_none t journal call (act.MoveGroup id start picks) e).place

    pub move_known : early_refusal t journal call (act.MoveGroup id start picks) ≡ None → list_all (is_there t) (map (id_key ResourceTable) (picked picks)) ≡ true
    move_known e =
        and_right (is_there t (id_key GroupTable id)) (list_all (is_there t) (map (id_key ResourceTable) (picked picks)))
        (all_there t (id_key GroupTable id ∷ map (id_key ResourceTable) (picked picks)) (map_none refusal.UnknownId _ (early_none t journal call (act.MoveGroup id start picks) e).known))

  -- ---- a cancelling

  pub cancel_place : early_refusal t journal call (act.CancelGroup id) ≡ None → has_place t (id_key CallerTable call.caller) ≡ true
  cancel_place e = (rules_kept ((has_place t (id_key CallerTable call.caller), CallerTable) ∷ []) (map_none refusal.Full _ (early_none t journal call (act.CancelGroup id) e).place)).0
