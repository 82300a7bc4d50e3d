use Rattle.std.proofs.Common.{◌≡◌, ℕ, map, sym, ap, ◌∙◌, arith}
use Rattle.std.proofs.lemmas.Int.{ints, clamps}
use Rattle.desk_base.specs.rules.Limits.{end_of_minutes}
use Rattle.desk_base.specs.meaning.Load.{weight, ask_of}
use Rattle.desk_load.specs.Views.{ViewParts}
use Rattle.desk_load.proofs.Finding.{weight_found}
use Rattle.desk_load.proofs.RoomLemmas.{no_weight, unknown_weighs}
use Rattle.desk_load.proofs.Staying.{stays_as, stays_always}
use Rattle.desk_load.proofs.view.free.FreeView.standing.Goals as goal

pub stretch_at-stretch-requires-clause-from : goal.stretch_at-stretch-requires-clause-from
stretch_at-stretch-requires-clause-from c =
    let w = weight_found c.self.inside.tables.now c.self.inside.index.now.weights c.args.resource c.in-Some.entry.now c.self.invariant.1.weights (sym c.in-Some.ensures) in
    omega (arith, w.begin, c.requires.first)

pub stretch_at-stretch-requires-clause-to : goal.stretch_at-stretch-requires-clause-to
stretch_at-stretch-requires-clause-to c =
    let w = weight_found c.self.inside.tables.now c.self.inside.index.now.weights c.args.resource c.in-Some.entry.now c.self.invariant.1.weights (sym c.in-Some.ensures) in
    omega (arith, w.end, c.requires.end)

pub count_of-requires : goal.count_of-requires
count_of-requires c =
    let w = weight_found c.self.inside.tables.now c.self.inside.index.now.weights c.args.resource c.in-Some.entry.now c.self.invariant.1.weights (sym c.in-Some.ensures) in
    omega (arith, ints, clamps, w.weight_at c.args.minute c.requires.first c.requires.end, c.stretch_at-stretch.ensures.value)

pub returns-in-Some-clause-weight : goal.returns-in-Some-clause-weight
returns-in-Some-clause-weight c =
    let w = weight_found c.self.inside.tables.now c.self.inside.index.now.weights c.args.resource c.in-Some.entry.now c.self.invariant.1.weights (sym c.in-Some.ensures) in
    let s = c.stretch_at-stretch.ensures in
    let r : ℕ = c.args.resource in
    let m : ℕ = c.args.minute in
    let t = c.self.inside.tables.now in
    record {
      later = s.later;
      inside = omega (arith, s.inside, w.end);
      value_at = λ k lo hi.
          ap (λ (v : ViewParts). weight v.tables (map ask_of v.tables.bookings) r k) (sym c.self.view_is)
          ∙ (let z : weight t (map ask_of t.bookings) r k ≡ c.count_of.result = omega (arith, ints, clamps, w.weight_at k (omega (arith, lo, c.requires.first)) (omega (arith, hi, s.inside, w.end)), s.same k lo hi, s.value, c.count_of.ensures.value) in z);
    }

pub returns-in-None-clause-weight : goal.returns-in-None-clause-weight
returns-in-None-clause-weight c =
    let r : ℕ = c.args.resource in
    let m : ℕ = c.args.minute in
    let t = c.self.inside.tables.now in
    let e = c.always.ensures in
    let none = no_weight t c.self.inside.index.now.weights r c.self.invariant.1.weights (sym c.in-None.ensures) in
    let s = stays_always (λ k. weight t (map ask_of t.bookings) r k) m 0 c.requires.end (λ k. unknown_weighs t (map ask_of t.bookings) r k none) in
    stays_as _ (weight c.args.self.now.tables (map ask_of c.args.self.now.tables.bookings) r) m 0 c.always.result.value end_of_minutes c.always.result.until s (omega (arith, c.requires.end, e.until)) (omega (arith, e.until)) (sym e.value)
    (λ k lo hi. ap (λ (v : ViewParts). weight v.tables (map ask_of v.tables.bookings) r k) (sym c.self.view_is))
