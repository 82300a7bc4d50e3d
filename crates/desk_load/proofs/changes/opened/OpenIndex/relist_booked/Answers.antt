use Rattle.std.proofs.Common.{◌∙◌, ap}
use Rattle.desk_load.specs.Parted.{IndexParts}
use Rattle.desk_load.proofs.Relisted.{put_list}
use Rattle.desk_load.proofs.changes.opened.OpenIndex.relist_booked.Goals as goal

pub returns-clause-booked : goal.returns-clause-booked
returns-clause-booked c =
    ap (λ (i : IndexParts). i.booked) c.in_ok-put_booked.ensures.parts
    ∙ put_list c.args.turn c.args.booking.now c.args.booking.now.group c.get-number.result c.in-Some.at c.args.self.now.booked.items c.as_slice.result.now c.index.result.now c.in_ok-bookings.bookings c.requires.2 c.as_slice.ensures.value c.in-Some.ensures.inside (c.in-Some.ensures.there c.index.result.now) c.get-number.ensures.value c.index.ensures
    c.in_ok-bookings.ensures
