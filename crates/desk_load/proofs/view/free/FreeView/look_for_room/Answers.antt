use Rattle.std.proofs.Common.{ℕ, ◌<◌, ◌≤◌, subst, arith}
use Rattle.desk_load.specs.Views.{HasRoomAt, IsShortOn, demand_at}
use Rattle.desk_load.proofs.Probing.{has_room, is_short}
use Rattle.desk_load.proofs.view.free.FreeView.look_for_room.Goals as goal

pub returns-in-Some-clause-probe : goal.returns-in-Some-clause-probe
returns-in-Some-clause-probe c =
    let v = c.args.self.now in
    let a = c.args.ask.now in
    let e = c.in-Some.ensures in
    let m : ℕ = c.in-Some.gap.minute in
    let low : a.window.from ≤ m = omega (arith, e.low, c.get-from.ensures.value) in
    let high : m < a.window.to = omega (arith, e.high, c.get-to.ensures.value) in (
      low,
      high,
      is_short v a m low high c.in-Some.gap.resource (subst (λ d. IsShortOn v (demand_at d m) m c.in-Some.gap.resource) c.demand_of.ensures (e.short m (omega arith) e.later)),
      (λ k lo hi. has_room v a k lo (omega (arith, hi, high)) (subst (λ d. HasRoomAt v (demand_at d k) k) c.demand_of.ensures (e.before k (omega (arith, lo, c.get-from.ensures.value)) hi))),
    )

pub returns-in-None-clause-probe : goal.returns-in-None-clause-probe
returns-in-None-clause-probe c k lo hi =
    let v = c.args.self.now in
    let a = c.args.ask.now in
    has_room v a k lo hi (subst (λ d. HasRoomAt v (demand_at d k) k) c.demand_of.ensures (c.in-None.ensures.none k (omega (arith, lo, c.get-from.ensures.value)) (omega (arith, hi, c.get-to.ensures.value))))
