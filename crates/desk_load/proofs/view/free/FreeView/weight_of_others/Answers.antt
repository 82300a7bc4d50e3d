use Rattle.std.proofs.Common.{◌≡◌, ℕ, length, sym, ap, ◌∙◌, arith}
use Rattle.desk_base.specs.meaning.Load.{weight}
use Rattle.desk_load.specs.Views.{ViewParts, own_asks}
use Rattle.desk_load.proofs.RoomLemmas.{few_own, weight_others}
use Rattle.desk_load.proofs.view.free.FreeView.weight_of_others.Goals as goal

pub weight_of-own-requires-clause-few : goal.weight_of-own-requires-clause-few
weight_of-own-requires-clause-few c = omega (arith, few_own c.self.inside.tables.now c.self.inside.without c.self.invariant.0, ap length (c.as_slice.ensures.value ∙ c.self.invariant.2))

pub overflow_sub-result : goal.overflow_sub-result
overflow_sub-result c =
    let v = c.args.self.now in
    let r : ℕ = c.args.place.now.resource in
    let m : ℕ = c.args.place.now.minute in
    let own_is : c.as_slice.result.now ≡ own_asks v.tables v.without = c.as_slice.ensures.value ∙ c.self.invariant.2 ∙ ap (λ (v : ViewParts). own_asks v.tables v.without) c.self.view_is in
    let s = c.standing-standing.ensures.weight.value_at m (omega arith) c.standing-standing.ensures.weight.later in
    let o = ap (λ xs. weight v.tables xs r m) (sym own_is) ∙ c.weight_of-own.ensures.taken.value_at m (omega arith) c.weight_of-own.ensures.taken.later in
    omega (arith, weight_others v.tables v.without r m, s, o)

pub returns : goal.returns
returns c =
    let v = c.args.self.now in
    let r : ℕ = c.args.place.now.resource in
    let m : ℕ = c.args.place.now.minute in
    let own_is : c.as_slice.result.now ≡ own_asks v.tables v.without = c.as_slice.ensures.value ∙ c.self.invariant.2 ∙ ap (λ (v : ViewParts). own_asks v.tables v.without) c.self.view_is in
    let s = c.standing-standing.ensures.weight.value_at m (omega arith) c.standing-standing.ensures.weight.later in
    let o = ap (λ xs. weight v.tables xs r m) (sym own_is) ∙ c.weight_of-own.ensures.taken.value_at m (omega arith) c.weight_of-own.ensures.taken.later in
    omega (arith, weight_others v.tables v.without r m, s, o)
