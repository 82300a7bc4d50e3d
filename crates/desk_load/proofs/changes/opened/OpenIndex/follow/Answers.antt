use Rattle.std.proofs.Common.{arith}
use Rattle.desk_load.specs.Changed.{parts_of}
use Rattle.desk_load.proofs.Following.{first_stage, counted}
use Rattle.desk_load.proofs.changes.opened.OpenIndex.follow.Goals as goal

pub take_out_all-requires-clause-stage : goal.take_out_all-requires-clause-stage
take_out_all-requires-clause-stage c =
    let a = c.if-standing-len.false in
    let b = c.len.ensures in
    let d = c.if-standing-gt-MOST_BOOKINGS.false in
    let e = c.len-standing.ensures in
    first_stage c.args.tables.now _ (parts_of c.args.self.now) c.requires.well_formed c.requires.index c.requires.order (omega (arith, a, b, d, e))

pub returns-clause-index : goal.returns-clause-index
returns-clause-index c = counted c.args.tables.now c.args.change.now (parts_of c.put_all.new.self) c.in_ok-put_all.ensures.index
