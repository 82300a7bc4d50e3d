use Rattle.std.proofs.Common.{suc}
use Rattle.desk_base.specs.declared.rows.tables.Table.TheVariants.{Booking as BookingTable}
use Rattle.desk_base.specs.changes.Changes.{without_row}
use Rattle.desk_base.specs.rows.Keys.{id_key}
use Rattle.desk_load.specs.Changed.{parts_of}
use Rattle.desk_load.proofs.Reweighed.{are_whole}
use Rattle.desk_load.proofs.Following.{stage_memberships, came_bounds, put_after}
use Rattle.desk_load.proofs.changes.opened.OpenIndex.put_in.Goals as goal

pub turn-requires-clause-memberships : goal.turn-requires-clause-memberships
turn-requires-clause-memberships c =
    let q = c.requires.stage in
    let s = without_row q.0 BookingTable (id_key BookingTable c.args.booking.now.id) in
    stage_memberships c.args.tables.now s c.args.next (suc q.1.0) (parts_of c.take_out.new.self) (c.in_ok-take_out.ensures.out q.0 (suc q.1.0) q.1.1)

pub turn-requires-clause-order : goal.turn-requires-clause-order
turn-requires-clause-order c = let q = c.requires.stage in (c.in_ok-take_out.ensures.out q.0 (suc q.1.0) q.1.1).order

pub turn-requires-clause-whole : goal.turn-requires-clause-whole
turn-requires-clause-whole c =
    let q = c.requires.stage in
    are_whole (without_row q.0 BookingTable (id_key BookingTable c.args.booking.now.id)) c.take_out.new.self.weights.items (c.in_ok-take_out.ensures.out q.0 (suc q.1.0) q.1.1).index.weights

pub turn-requires-clause-bounds : goal.turn-requires-clause-bounds
turn-requires-clause-bounds c =
    let q = c.requires.stage in
    let s = without_row q.0 BookingTable (id_key BookingTable c.args.booking.now.id) in
    came_bounds c.args.tables.now s c.args.next q.1.0 (parts_of c.take_out.new.self) c.args.booking.now (c.in_ok-take_out.ensures.out q.0 (suc q.1.0) q.1.1) c.requires.well_formed c.requires.usable

pub returns-clause-came : goal.returns-clause-came
returns-clause-came c s more h =
    put_after c.args.tables.now s c.args.next more (parts_of c.args.self.now) (parts_of c.take_out.new.self) (parts_of c.turn.new.self) c.args.booking.now c.requires.later c.requires.usable (c.in_ok-take_out.ensures.out s (suc more) h) c.in_ok-turn.ensures.turned
