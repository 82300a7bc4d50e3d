use Rattle.std.proofs.Common.{◌==◌, ap, sym, ◌∙◌}
use Rattle.std.specs.Prelude.{ℕ, filter}
use Rattle.desk_base.specs.declared.rows.bookings.BookingRow.{BookingRow}
use Rattle.desk_base.specs.declared.rows.resources.ResourceRow.{ResourceRow}
use Rattle.desk_base.proofs.tables.Sounds.{well_formed}
use Rattle.desk_change.proofs.Named.{found_number, no_bookings}
use Rattle.desk_change.proofs.in_use.ranges.bookings_on.Goals as goal

pub returns-in-Some : goal.returns-in-Some
returns-in-Some c =
    let t = c.args.tables.now in
    c.standing_on.ensures t (well_formed t c.requires.sound) c.requires.index
    ∙ ap (λ (n : ℕ). filter (λ (x : BookingRow). x.resource == n) t.bookings) (found_number (λ (y : ResourceRow). y.id) c.args.resource t.resources c.in-Some.row.now c.in-Some.ensures)

pub returns-in-None : goal.returns-in-None
returns-in-None c = let t = c.args.tables.now in sym (no_bookings t c.args.resource (well_formed t c.requires.sound) c.in-None.ensures)
