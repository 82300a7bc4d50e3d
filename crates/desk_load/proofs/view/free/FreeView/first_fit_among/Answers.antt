use Rattle.std.proofs.Common.{ℕ, ◌+◌, ◌<◌, ◌≤◌, arith, inl, inr}
use Rattle.std.proofs.lemmas.Bool.{cases_lt}
use Rattle.desk_load.specs.Views.{demand_over}
use Rattle.desk_load.proofs.Probing.{has_room, lacks_room}
use Rattle.desk_load.proofs.view.free.FreeView.first_fit_among.Goals as goal

pub returns-in-None-gap_in-clause-free : goal.returns-in-None-gap_in-clause-free
returns-in-None-gap_in-clause-free g c k lo hi =
    let s : ℕ = c.in-Some.start in
    has_room c.args.self.now (demand_over c.args.demand.now s (s + c.args.duration)) k lo hi (c.in-None-gap_in.ensures.none k lo hi)

pub fits-preserved : goal.fits-preserved
fits-preserved g c =
    let v = c.args.self.now in
    let e = c.in-Some-gap_in.ensures in
    let x : ℕ = c.in-Some-gap_in.gap.resource in
    let m : ℕ = c.in-Some-gap_in.gap.minute in
    let d : ℕ = c.args.duration in
    let start : ℕ = c.in-Some.start in
    let ask = λ (s : ℕ). demand_over c.args.demand.now s (s + d) in
    let lasts : 1 ≤ d = omega (arith, e.low, e.high) in
    record {
      high = e.inside;
      none = λ s has l free. elim (cases_lt s start) [
        | inl before ↦
            elim (cases_lt s c.fits.minute) [
              | inl early ↦ c.fits.invariant.none s has early free
              | inr late ↦ c.in-Some.ensures.2 s late before has
            ]
        | inr here ↦
            elim (cases_lt m s) [
              | inl past ↦ lacks_room v (ask s) s (omega arith) (omega (arith, lasts)) x (e.short s (omega (arith, past)) l) (free s (omega arith) (omega (arith, lasts)))
              | inr ahead ↦
                  let high : m < s + d = omega (arith, e.high, here) in
                  lacks_room v (ask s) m ahead high x (e.short m (omega arith) e.later) (free m ahead high)
            ]
      ];
    }
