use Rattle.std.proofs.Common.{ℕ, ◌+◌, ◌<◌, arith, inl, inr}
use Rattle.std.proofs.lemmas.Bool.{cases_lt}
use Rattle.desk_load.specs.Views.{demand_over}
use Rattle.desk_load.proofs.Probing.{has_room, lacks_room}
use Rattle.desk_load.proofs.view.free.FreeView.first_fit.Goals as goal

pub returns-in-None-clause-free : goal.returns-in-None-clause-free
returns-in-None-clause-free g c k lo hi =
    let s : ℕ = c.loop-start.start in
    has_room c.args.self.now (demand_over c.args.demand.now s (s + c.args.duration)) k lo hi (c.in-None.ensures.none k lo hi)

pub returns-in-None-clause-least : goal.returns-in-None-clause-least
returns-in-None-clause-least g c r a l free = c.loop-start.invariant.none r a.among l free

pub loop-start-preserved : goal.loop-start-preserved
loop-start-preserved g c =
    let v = c.args.self.now in
    let e = c.in-Some.ensures in
    let x : ℕ = c.in-Some.gap.resource in
    let m : ℕ = c.in-Some.gap.minute in
    let d : ℕ = c.args.duration in
    let start : ℕ = c.loop-start.start in
    let ask = λ (s : ℕ). demand_over c.args.demand.now s (s + d) in
    record {
      among = c.start_from-start.ensures.start;
      low = omega (arith, c.start_from-start.ensures.later, c.loop-start.invariant.low);
      none = λ s a l free. elim (cases_lt s start) [
        | inl before ↦ c.loop-start.invariant.none s a before free
        | inr here ↦
            let sooner : s < c.in-Some.gap.until = c.start_from-start.ensures.least s a here l in
            elim (cases_lt m s) [
              | inl past ↦ lacks_room v (ask s) s (omega arith) (omega (arith, c.requires.some)) x (e.short s (omega (arith, past)) sooner) (free s (omega arith) (omega (arith, c.requires.some)))
              | inr ahead ↦
                  let high : m < s + d = omega (arith, e.high, here) in
                  lacks_room v (ask s) m ahead high x (e.short m (omega arith) e.later) (free m ahead high)
            ]
      ];
    }

pub returns-clause-none : goal.returns-clause-none
returns-clause-none g c s a free = c.loop-start.invariant.none s a.among (omega (arith, a.last, c.loop-start-test.false)) free
