use Rattle.desk_load.proofs.Scanned.{scan_noted}
use Rattle.desk_load.proofs.view.free.FreeView.look_at.Goals as goal

pub returns : goal.returns
returns c seen s =
    let e = c.has_room_on.ensures in
    let n = c.noted.ensures in
    scan_noted c.args.self.now c.args.demand.now c.has_room_on.result.holds seen c.args.resource c.args.minute c.args.scan.short c.noted.result.short c.args.scan.until c.has_room_on.result.until c.noted.result.until e.later e.inside e.room e.short n.kept n.short n.until s
