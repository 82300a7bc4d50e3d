use Rattle.std.proofs.Common.{ℕ, refl, sym, arith}
use Rattle.std.specs.Prelude.{sum_by}
use Rattle.desk_base.specs.rules.Limits.{end_of_minutes}
use Rattle.desk_base.specs.meaning.Load.{plain, crew, pool, unknown, members, own_load, plain_load, load}
use Rattle.desk_load.specs.Views.{demand_at}
use Rattle.desk_load.proofs.Staying.{stays_as, stays_sum, stays_always}
use Rattle.desk_load.proofs.Used.{load_as}
use Rattle.desk_load.proofs.view.free.FreeView.use_of.Goals as goal

pub returns-in-Plain-clause-taken : goal.returns-in-Plain-clause-taken
returns-in-Plain-clause-taken c =
    let t = c.args.self.now.tables in
    let d = c.args.demand.now in
    let r : ℕ = c.args.resource in
    let s = c.plain_use.ensures.taken in
    stays_as _ (λ k. load t r k (demand_at d k)) c.args.minute _ _ c.plain_use.result.until _ s s.later (omega arith) refl (λ k lo hi. load_as plain t r k (demand_at d k) c.in-Plain.ensures)

pub returns-in-Crew-clause-taken : goal.returns-in-Crew-clause-taken
returns-in-Crew-clause-taken c =
    let t = c.args.self.now.tables in
    let d = c.args.demand.now in
    let r : ℕ = c.args.resource in
    let s = c.own_use.ensures.taken c.args.minute c.requires in
    stays_as _ (λ k. load t r k (demand_at d k)) c.args.minute _ _ c.own_use.result.until _ s s.later (omega arith) refl (λ k lo hi. load_as crew t r k (demand_at d k) c.in-Crew.ensures)

pub returns-in-Pool-clause-taken : goal.returns-in-Pool-clause-taken
returns-in-Pool-clause-taken c =
    let t = c.args.self.now.tables in
    let d = c.args.demand.now in
    let r : ℕ = c.args.resource in
    let m : ℕ = c.args.minute in
    let own = c.own_use-in-Pool.ensures.taken m c.requires in
    let s = stays_sum (λ k. own_load r k (demand_at d k)) (λ k. sum_by (λ x. plain_load t x k (demand_at d k)) (members t r k)) m _ _ _ _ own c.members_use.ensures.taken in
    let e = c.together.ensures in
    stays_as _ (λ k. load t r k (demand_at d k)) m _ c.together.result.value _ c.together.result.until s (omega (arith, s.later, e.until)) (omega (arith, e.until)) (sym e.value) (λ k lo hi. load_as pool t r k (demand_at d k) c.in-Pool.ensures)

pub returns-in-Unknown-clause-taken : goal.returns-in-Unknown-clause-taken
returns-in-Unknown-clause-taken c =
    let t = c.args.self.now.tables in
    let d = c.args.demand.now in
    let r : ℕ = c.args.resource in
    let e = c.always.ensures in
    let s = stays_always (λ k. load t r k (demand_at d k)) c.args.minute 0 c.requires (λ k. load_as unknown t r k (demand_at d k) c.in-Unknown.ensures) in
    stays_as _ (λ k. load t r k (demand_at d k)) c.args.minute 0 c.always.result.value end_of_minutes c.always.result.until s (omega (arith, c.requires, e.until)) (omega (arith, e.until)) (sym e.value) (λ k lo hi. refl)
