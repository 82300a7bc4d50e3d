-- Bookings and callers are read again as they were written.
use Rattle.std.proofs.Common.{refl, arith, le-leb}
use Rattle.json.proofs.Printed.Utf8.{IsUtf8-are_ascii}
use Rattle.desk_base.specs.rules.Limits.{id_limit, serial_limit}
use Rattle.desk_base.specs.declared.rows.bookings.BookingRow.{BookingRow}
use Rattle.desk_base.specs.declared.rows.bookings.CallerRow.{CallerRow}
use Rattle.desk_base.specs.declared.rows.bookings.Receipt.{Receipt}
use Rattle.desk_base.specs.declared.rows.bookings.Receipt.TheVariants as receipt
use Rattle.desk_base.specs.declared.rows.tables.AnyRow.TheVariants.{Booking, Caller}
use Rattle.desk_base.specs.declared.asked.rules.Field.TheVariants as field
use Rattle.desk_json.specs.Reading.{greatest_u8, greatest_u64, text_in}
use Rattle.desk_json.specs.Forms.{under}
use Rattle.desk_kept.specs.Bookings.{booking_data, booked_for_form, taken_form, booking_form}
use Rattle.desk_kept.specs.Callers.{receipt_data, minutes_form, amount_form, made_form, removed_form, deed_named, deed_in, receipt_in, caller_data, caller_form}
use Rattle.desk_kept.specs.Kept.{kept_form}
use Rattle.desk_kept.specs.TypedRows.{IsBooking, IsReceipt, IsCaller}
use Rattle.desk_kept.proofs.KeptValues.{IsKept, whole_kept, u32_kept, id_kept, serial_kept, moment_kept}
use Rattle.desk_kept.proofs.ReadRows.{IsReadBack, read_in}

pub booking_back : (b : BookingRow) → IsBooking b → IsReadBack (Booking b)
unfolding kept_form booking_form booked_for_form taken_form under
booking_back b is =
    let effort = u32_kept b.effort is.effort in
    let from = moment_kept b.from is.from in
    let group = id_kept b.group is.group in
    let leaf = whole_kept greatest_u8 b.leaf is.leaf (omega arith) in
    let resource = id_kept b.resource is.resource in
    let to = moment_kept b.to is.to in
    record {
      sound = ((refl, effort.sound, (refl, from.sound, (refl, group.sound, (refl, leaf.sound, (refl, resource.sound, (refl, to.sound, tt)))))), refl);
      deep = omega (arith, effort.deep, from.deep, group.deep, leaf.deep, resource.deep, to.deep);
      reads =
          read_in (Booking b) (booking_data b) refl
          (rw (le-leb 1 b.id is.id.0, le-leb b.id serial_limit is.id.1, group.reads field.Group, leaf.reads field.Body, resource.reads field.Resource, from.reads field.From, to.reads field.To, effort.reads field.Effort) refl)
          refl;
    }

receipt_kept : (r : Receipt) → IsReceipt r → IsKept receipt_in 1 (receipt_data r) r
unfolding receipt_in deed_in deed_named made_form removed_form amount_form minutes_form text_in under
receipt_kept receipt.Put is = record { reads = λ f. refl; sound = ((refl, IsUtf8-are_ascii _ refl, tt), refl); deep = omega arith }
receipt_kept receipt.Removed is = record { reads = λ f. refl; sound = ((refl, IsUtf8-are_ascii _ refl, tt), refl); deep = omega arith }
receipt_kept (receipt.Booked first count effort_minutes) is =
    let counted = whole_kept greatest_u8 count is.1.0 (omega arith) in
    let spent = whole_kept greatest_u64 effort_minutes is.1.1 (omega arith) in
    let begun = serial_kept first is.0 in
    record {
      reads = λ f. rw (begun.reads f, counted.reads f, spent.reads f) refl;
      sound = ((refl, counted.sound, (refl, IsUtf8-are_ascii _ refl, (refl, spent.sound, (refl, begun.sound, tt)))), refl);
      deep = omega (arith, counted.deep, spent.deep, begun.deep);
    }
receipt_kept (receipt.Cancelled count effort_minutes) is =
    let counted = whole_kept greatest_u8 count is.0 (omega arith) in
    let spent = whole_kept greatest_u64 effort_minutes is.1 (omega arith) in
    record {
      reads = λ f. rw (counted.reads f, spent.reads f) refl;
      sound = ((refl, counted.sound, (refl, IsUtf8-are_ascii _ refl, (refl, spent.sound, tt))), refl);
      deep = omega (arith, counted.deep, spent.deep);
    }

pub caller_back : (c : CallerRow) → IsCaller c → IsReadBack (Caller c)
unfolding kept_form caller_form under
caller_back c is =
    let last = serial_kept c.last is.last in
    let given = receipt_kept c.receipt is.receipt in
    record {
      sound = ((refl, last.sound, (refl, given.sound, tt)), refl);
      deep = omega (arith, last.deep, given.deep);
      reads = read_in (Caller c) (caller_data c) refl (rw (le-leb 1 c.caller is.caller.0, le-leb c.caller id_limit is.caller.1, last.reads field.Number, given.reads field.Body) refl) refl;
    }
