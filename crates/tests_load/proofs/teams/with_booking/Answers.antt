use Rattle.std.proofs.Common.{◌≡◌, List, refl, sym, ap, ◌∙◌, subst, [], ◌∷◌}
use Rattle.desk_base.specs.declared.asked.acts.Change.{Change}
use Rattle.desk_base.specs.declared.rows.tables.AnyRow.{AnyRow}
use Rattle.desk_base.specs.declared.rows.tables.AnyRow.TheVariants.{Booking}
use Rattle.desk_base.specs.declared.rows.tables.Key.{Key}
use Rattle.desk_base.specs.declared.rows.tables.Tables.{Tables}
use Rattle.desk_base.specs.declared.rows.bookings.BookingRow.{BookingRow}
use Rattle.desk_base.specs.changes.Changes.{with_change, with_row}
use Rattle.desk_base.specs.rules.Sound.{AreWellFormed}
use Rattle.tests_load.proofs.Formed.{formed_with_booking}
use Rattle.tests_load.proofs.teams.with_booking.Goals as goal

abbrev change_of : Tables → List AnyRow → List Key → Change
change_of t puts removes = record { puts = puts; removes = removes; revision = t.revision; last_booking = t.last_booking }

changed : (t : Tables) (b : BookingRow) → with_change t (change_of t (Booking b ∷ []) []) ≡ with_row t (Booking b)
unfolding with_change
changed t b = refl

pub returns-in-Ok : goal.returns-in-Ok
returns-in-Ok c =
    let t = c.args.tables in
    let b = c.args.row in
    let e = c.in-Ok.ensures in
    let made = e.change ∙ ap (λ l. change_of t l c.new.result) c.in_ok-puts_of.ensures ∙ ap (change_of t (Booking b ∷ [])) c.new.ensures in
    subst AreWellFormed (sym (c.apply.ensures ∙ ap (λ u. with_change u c.in-Ok.prepared.change) e.tables ∙ ap (with_change t) made ∙ changed t b)) (formed_with_booking t b c.requires.well_formed c.requires.placed)
