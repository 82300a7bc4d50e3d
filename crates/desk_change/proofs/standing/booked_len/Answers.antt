use Rattle.std.proofs.Common.{◌==◌, length, arith, ap}
use Rattle.std.proofs.lemmas.List.Sums.{length-filter, count_by-le-length}
use Rattle.desk_base.specs.declared.rows.bookings.BookingRow.{BookingRow}
use Rattle.desk_base.proofs.tables.Sounds.{well_formed}
use Rattle.desk_change.proofs.standing.booked_len.Goals as goal

pub returns-clause-count : goal.returns-clause-count
returns-clause-count c =
    let t = c.args.tables.now in
    ap length (c.bookings_of.ensures t (well_formed t c.requires.sound) c.requires.index)

pub returns-clause-within : goal.returns-clause-within
returns-clause-within c =
    let t = c.args.tables.now in
    let own = λ (b : BookingRow). b.group == c.args.group in
    omega (arith, length-filter own t.bookings, count_by-le-length own t.bookings, ap length (c.bookings_of.ensures t (well_formed t c.requires.sound) c.requires.index))
