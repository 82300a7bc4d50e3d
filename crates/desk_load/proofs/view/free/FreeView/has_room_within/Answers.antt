use Rattle.std.proofs.Common.{◌≡◌, ℕ, length, sym, ap, ◌∙◌, arith}
use Rattle.desk_base.specs.meaning.Load.{weight}
use Rattle.desk_load.specs.Views.{ViewParts, standing, own_asks}
use Rattle.desk_load.proofs.RoomLemmas.{weight_standing, few_own, enough_is}
use Rattle.desk_load.proofs.view.free.FreeView.has_room_within.Goals as goal

pub weight_of-own-requires-clause-few : goal.weight_of-own-requires-clause-few
weight_of-own-requires-clause-few c =
    let t = c.self.inside.tables.now in
    let e = c.as_slice.ensures.value ∙ c.self.invariant.2 in
    omega (arith, few_own t c.self.inside.without c.self.invariant.0, ap length e)

pub is_enough-requires-clause-own : goal.is_enough-requires-clause-own
is_enough-requires-clause-own c =
    let t = c.self.inside.tables.now in
    let e = c.as_slice.ensures.value ∙ c.self.invariant.2 in
    omega (arith, few_own t c.self.inside.without c.self.invariant.0, ap length e, c.weight_of-own.ensures.small)

pub returns : goal.returns
returns c =
    let v = c.args.self.now in
    let r : ℕ = c.args.resource in
    let m : ℕ = c.args.minute in
    let s = c.standing-standing.ensures.weight in
    let o = c.weight_of-own.ensures.taken in
    let l = c.weight_of-laid.ensures.taken in
    let own_is : c.as_slice.result.now ≡ own_asks v.tables v.without = c.as_slice.ensures.value ∙ c.self.invariant.2 ∙ ap (λ (v : ViewParts). own_asks v.tables v.without) c.self.view_is in
    let laid_is : c.as_slice-2.result.now ≡ v.overlay = c.as_slice-2.ensures.value ∙ ap (λ (v : ViewParts). v.overlay) c.self.view_is in
    record {
      later = omega (arith, s.later, o.later, l.later, c.min.ensures, c.min-2.ensures);
      inside = omega (arith, s.inside, c.min.ensures, c.min-2.ensures);
      value_at = λ k lo hi.
          let a = s.value_at k lo (omega (arith, hi, c.min.ensures, c.min-2.ensures)) in
          let b = ap (λ xs. weight v.tables xs r k) (sym own_is) ∙ o.value_at k lo (omega (arith, hi, c.min.ensures, c.min-2.ensures)) in
          let d = ap (λ xs. weight v.tables xs r k) (sym laid_is) ∙ l.value_at k lo (omega (arith, hi, c.min.ensures, c.min-2.ensures)) in
          enough_is (weight v.tables (standing v) r k) c.weight_of-own.result.value c.standing-standing.result.value c.weight_of-laid.result.value c.args.taken c.args.bound
          (omega (arith, weight_standing v r k, a, b, d)) ∙ sym c.is_enough.ensures;
    }
