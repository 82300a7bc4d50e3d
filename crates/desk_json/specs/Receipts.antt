-- The JSON of what an accepted change gave.
use Rattle.std.specs.Prelude.{ℕ, Bool, List, map, codes}
use Rattle.std.specs.List.{range_with_len}
use Rattle.serde_json.specs.Data.{Data, boolean, string, object, no_members, member}
use Rattle.desk_base.specs.declared.rows.bookings.Receipt.{Receipt}
use Rattle.desk_base.specs.declared.rows.bookings.Receipt.TheVariants.{Put, Removed, Booked, Cancelled}
use Rattle.desk_json.specs.Values.{whole_number, list_of}

-- so many numbers of bookings, from the first on
abbrev pub bookings_data : ℕ → ℕ → Data
bookings_data first count = list_of (map whole_number (range_with_len first count))

-- what was done with a row, whether the change was repeated, and the revision
abbrev pub done_data : Bool → ℕ → List ℕ → Data
done_data repeated revision done =
    object (member (codes "done") (string done)
    (member (codes "repeated") (boolean repeated)
    (member (codes "revision") (whole_number revision) no_members)))

-- the bookings that were made
abbrev pub booked_data : Bool → ℕ → Data → ℕ → Data
booked_data repeated revision bookings effort_minutes =
    object (member (codes "bookings") bookings
    (member (codes "done") (string (codes "booked"))
    (member (codes "effort_minutes") (whole_number effort_minutes)
    (member (codes "repeated") (boolean repeated)
    (member (codes "revision") (whole_number revision) no_members)))))

-- how many bookings were removed
abbrev pub cancelled_data : Bool → ℕ → ℕ → ℕ → Data
cancelled_data repeated revision count effort_minutes =
    object (member (codes "count") (whole_number count)
    (member (codes "done") (string (codes "cancelled"))
    (member (codes "effort_minutes") (whole_number effort_minutes)
    (member (codes "repeated") (boolean repeated)
    (member (codes "revision") (whole_number revision) no_members)))))

-- what an accepted change gave, now or before
abbrev pub receipt_data : Bool → ℕ → Receipt → Data
receipt_data repeated revision Put = done_data repeated revision (codes "put")
receipt_data repeated revision Removed = done_data repeated revision (codes "removed")
receipt_data repeated revision (Booked first count effort_minutes) = booked_data repeated revision (bookings_data first count) effort_minutes
receipt_data repeated revision (Cancelled count effort_minutes) = cancelled_data repeated revision count effort_minutes
