-- What is kept of callers, each with the receipt of its last change, and what it is read as. The number of a caller stands in its
-- key alone.
use Rattle.std.specs.Prelude.{ℕ, List, [], ◌∷◌, codes, Option, Result}
use Rattle.serde_json.specs.Data.{Data, string, object, no_members, member}
use Rattle.desk_base.specs.rules.Limits.{id_limit}
use Rattle.desk_base.specs.declared.rows.bookings.CallerRow.{CallerRow}
use Rattle.desk_base.specs.declared.rows.bookings.Receipt.{Receipt}
use Rattle.desk_base.specs.declared.rows.bookings.Receipt.TheVariants as receipt
use Rattle.desk_base.specs.declared.asked.rules.Field.{Field}
use Rattle.desk_base.specs.declared.asked.rules.Field.TheVariants as field
use Rattle.desk_json.specs.declared.faults.BodyError.{BodyError}
use Rattle.desk_json.specs.declared.faults.BodyRule.TheVariants.{Sort, Range}
use Rattle.desk_json.specs.Faults.{fault, ◌>>=◌}
use Rattle.desk_json.specs.Values.{whole_number}
use Rattle.desk_json.specs.Reading.{greatest_u8, greatest_u64, whole_in, serial_in, text_in, named, or_fault}
use Rattle.desk_json.specs.TreeReading.{object_in, with_only}
use Rattle.desk_json.specs.Forms.{Form, nothing, under, part, both, three, made}
use Rattle.desk_kept.specs.Bookings.{of_key}
use Rattle.desk_kept.specs.declared.callers.Deed.{Deed}
use Rattle.desk_kept.specs.declared.callers.Deed.TheVariants as deed

-- ---- receipts

-- a row that was put or removed
abbrev pub done_data : List ℕ → Data
done_data done = object (member (codes "done") (string done) no_members)

-- bookings that were made
abbrev pub booked_data : ℕ → ℕ → ℕ → Data
booked_data first count effort_minutes =
    object (member (codes "count") (whole_number count)
    (member (codes "done") (string (codes "booked"))
    (member (codes "effort_minutes") (whole_number effort_minutes)
    (member (codes "first") (whole_number first) no_members))))

-- bookings that were removed
abbrev pub cancelled_data : ℕ → ℕ → Data
cancelled_data count effort_minutes =
    object (member (codes "count") (whole_number count)
    (member (codes "done") (string (codes "cancelled"))
    (member (codes "effort_minutes") (whole_number effort_minutes) no_members)))

abbrev pub receipt_data : Receipt → Data
receipt_data receipt.Put = done_data (codes "put")
receipt_data receipt.Removed = done_data (codes "removed")
receipt_data (receipt.Booked first count effort_minutes) = booked_data first count effort_minutes
receipt_data (receipt.Cancelled count effort_minutes) = cancelled_data count effort_minutes

-- how much effort
unfoldable pub minutes_form : Field → Form ℕ
minutes_form f = part (codes "effort_minutes") f (whole_in greatest_u64)

-- how many, and how much effort
unfoldable pub amount_form : Field → Form (ℕ × ℕ)
amount_form f = both (part (codes "count") f (whole_in greatest_u8)) (minutes_form f)

-- the first booking, and the amount
unfoldable pub made_form : Field → Form Receipt
made_form f = made (λ x. receipt.Booked x.0 x.1.0 x.1.1) (both (part (codes "first") f serial_in) (amount_form f))

-- the amount
unfoldable pub removed_form : Field → Form Receipt
removed_form f = made (λ x. receipt.Cancelled x.0 x.1) (amount_form f)

-- what was done, by its name
abbrev pub deeds : List (List ℕ × Deed)
deeds = (codes "put", deed.Put) ∷ (codes "removed", deed.Removed) ∷ (codes "booked", deed.Booked) ∷ (codes "cancelled", deed.Cancelled) ∷ []

-- what has this name
unfoldable pub deed_named : List ℕ → Option Deed
deed_named text = named deeds text

-- what was done is its name
unfoldable pub deed_in : Field → Data → Result Deed BodyError
deed_in f d = text_in f d >>= λ text. or_fault (fault Range f) (deed_named text)

-- the fields of a receipt besides what was done
abbrev pub receipt_form : Deed → Field → Form Receipt
receipt_form deed.Put f = made (λ _. receipt.Put) nothing
receipt_form deed.Removed f = made (λ _. receipt.Removed) nothing
receipt_form deed.Booked f = made_form f
receipt_form deed.Cancelled f = removed_form f

-- the names of a receipt
abbrev pub receipt_names : Deed → Field → List (List ℕ)
receipt_names deed f = codes "done" ∷ (receipt_form deed f).names

-- a receipt, which has no other names
unfoldable pub receipt_in : Field → Data → Result Receipt BodyError
receipt_in f d =
    object_in Sort f d >>= λ _.
    under (codes "done") f deed_in d >>= λ deed. (receipt_form deed f).read d >>= with_only (receipt_names deed f) f d

-- ---- callers

abbrev pub caller_data : CallerRow → Data
caller_data c = object (member (codes "last") (whole_number c.last) (member (codes "receipt") (receipt_data c.receipt) no_members))

-- a caller of this number
unfoldable pub caller_form : ℕ → Form CallerRow
caller_form number =
    made (λ x. record { caller = x.0; last = x.1; receipt = x.2 })
    (three (of_key id_limit number) (part (codes "last") field.Number serial_in) (part (codes "receipt") field.Body receipt_in))
