-- What is kept of bookings, and what it is read as. The number of a booking stands in its key alone.
use Rattle.std.specs.Prelude.{ℕ, [], codes}
use Rattle.serde_json.specs.Data.{Data, object, no_members, member}
use Rattle.desk_base.specs.rules.Limits.{serial_limit}
use Rattle.desk_base.specs.declared.rows.bookings.BookingRow.{BookingRow}
use Rattle.desk_base.specs.declared.asked.rules.Field.TheVariants as field
use Rattle.desk_json.specs.Values.{whole_number, moment_data}
use Rattle.desk_json.specs.Reading.{greatest_u8, whole_in, u32_in, id_in, from_one, moment_in}
use Rattle.desk_json.specs.Forms.{Form, part, one, three, made}

abbrev pub booking_data : BookingRow → Data
booking_data b =
    object (member (codes "effort") (whole_number b.effort)
    (member (codes "from") (moment_data b.from)
    (member (codes "group") (whole_number b.group)
    (member (codes "leaf") (whole_number b.leaf)
    (member (codes "resource") (whole_number b.resource)
    (member (codes "to") (moment_data b.to) no_members))))))

-- a number of the key, from 1 up to a limit
abbrev pub of_key : ℕ → ℕ → Form ℕ
of_key limit number = record { names = []; read = λ d. from_one limit field.Body number }

-- for what it is booked
unfoldable pub booked_for_form : Form (ℕ × ℕ × ℕ)
booked_for_form = three (one field.Group id_in) (part (codes "leaf") field.Body (whole_in greatest_u8)) (one field.Resource id_in)

-- when, and with which effort
unfoldable pub taken_form : Form (ℕ × ℕ × ℕ)
taken_form = three (one field.From moment_in) (one field.To moment_in) (one field.Effort u32_in)

-- a booking of this number
unfoldable pub booking_form : ℕ → Form BookingRow
booking_form number =
    made (λ x. record { id = x.0; group = x.1.0; leaf = x.1.1; resource = x.1.2; from = x.2.0; to = x.2.1; effort = x.2.2 })
    (three (of_key serial_limit number) booked_for_form taken_form)
