use Rattle.std.proofs.Common.{ℕ, sym, arith}
use Rattle.desk_base.specs.meaning.Load.{loads, plain_load}
use Rattle.desk_load.specs.Views.{demand_at}
use Rattle.desk_load.proofs.Staying.{stays_as, stays_where}
use Rattle.desk_load.proofs.Used.{plain_is}
use Rattle.desk_load.proofs.view.free.FreeView.plain_use.Goals as goal

pub returns-clause-taken : goal.returns-clause-taken
returns-clause-taken c =
    let t = c.args.self.now.tables in
    let d = c.args.demand.now in
    let r : ℕ = c.args.resource in
    let m : ℕ = c.args.minute in
    let s = stays_where (loads t d.resource r) d.effort m c.loads.result.until c.loads.result.holds c.loads.ensures in
    stays_as _ (λ k. plain_load t r k (demand_at d k)) m _ c.where_held.result.value c.loads.result.until c.where_held.result.until s (omega (arith, s.later, c.where_held.ensures.until)) (omega (arith, c.where_held.ensures.until)) (sym c.where_held.ensures.value) (λ k lo hi. plain_is d k t r)
