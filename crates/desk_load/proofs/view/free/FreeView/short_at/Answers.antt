use Rattle.std.proofs.Common.{[], subst, arith}
use Rattle.desk_base.specs.rules.Sound.{AreWellFormed}
use Rattle.desk_load.specs.Views.{ViewParts}
use Rattle.desk_load.proofs.Scanned.{scan_nothing, scanned}
use Rattle.desk_load.proofs.view.free.FreeView.short_at.Goals as goal

pub returns-clause-later : goal.returns-clause-later
returns-clause-later c = (c.look_at_all.ensures (λ k. []) (scan_nothing c.args.self.now c.args.demand.now c.args.minute _ c.requires.end (omega arith))).later

pub returns-clause-inside : goal.returns-clause-inside
returns-clause-inside c = (c.look_at_all.ensures (λ k. []) (scan_nothing c.args.self.now c.args.demand.now c.args.minute _ c.requires.end (omega arith))).inside

pub returns-clause-short : goal.returns-clause-short
returns-clause-short c k lo hi =
    let v = c.args.self.now in
    let w : AreWellFormed v.tables = subst (λ (v : ViewParts). AreWellFormed v.tables) c.self.view_is c.self.invariant.0 in
    scanned v c.args.demand.now k c.look_at_all.result.short w ((c.look_at_all.ensures (λ k. []) (scan_nothing v c.args.demand.now c.args.minute _ c.requires.end (omega arith))).least k lo hi)
