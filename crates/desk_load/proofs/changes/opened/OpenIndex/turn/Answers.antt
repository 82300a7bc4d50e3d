use Rattle.desk_load.specs.Changed.{parts_of}
use Rattle.desk_load.proofs.Raised.{order_stays}
use Rattle.desk_load.proofs.Relisted.{order_relisted}
use Rattle.desk_load.proofs.changes.opened.OpenIndex.turn.Goals as goal

pub relist_booked-requires : goal.relist_booked-requires
relist_booked-requires c =
    let a = c.in_ok-add_items.ensures in
    let b = c.in_ok-relist_standing.ensures in
    order_relisted c.args.turn c.args.booking.now.resource c.args.booking.now (parts_of c.add_items.new.self) (parts_of c.relist_standing.new.self)
    (order_stays (parts_of c.args.self.now) (parts_of c.add_items.new.self) c.requires.order a.weights.numbers a.standing a.booked) b.weights b.standing b.booked
