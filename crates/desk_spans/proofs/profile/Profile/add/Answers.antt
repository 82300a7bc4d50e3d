use Rattle.std.proofs.Common.{◌≡◌, ℤ, pos, ◌+ℤ◌, arith, w64, FitsSigned, ap, sym, subst, ◌∙◌}
use Rattle.std.specs.Int.{int_wrap}
use Rattle.std.proofs.lemmas.Int.{ints, to_z-of_z, int_wrap_fits}
use Rattle.desk_spans.specs.Timeline.{Timeline, value_at}
use Rattle.desk_spans.proofs.PieceLemmas.{share_inside, share_before, share_behind}
use Rattle.desk_spans.proofs.profile.Profile.add.Goals as goal

-- a sum that fits is held whole
held : (sum old more value : ℤ) → sum ≡ int_wrap w64 (old +ℤ more) → more ≡ value → FitsSigned w64 (old +ℤ value) → sum ≡ old +ℤ value
held sum old more value is same fits = rw same at is ∙ int_wrap_fits w64 (old +ℤ value) fits

-- and where nothing is added, the value stays
stays : (sum old more : ℤ) → sum ≡ int_wrap w64 (old +ℤ more) → more ≡ pos 0 → old ≡ int_wrap w64 old → sum ≡ old
stays sum old more is none whole =
    let alone : old +ℤ pos 0 ≡ old = omega (arith, ints) in
    rw none at is ∙ ap (int_wrap w64) alone ∙ sym whole

pub returns-clause-raised : goal.returns-clause-raised
returns-clause-raised c m from to =
    let claim : Timeline → Type 0 = λ t. value_at t m ≡ value_at c.args.self.now m +ℤ c.args.value in
    let more = c.in_ok-more.ensures.values m (omega arith) (omega arith) ∙ share_inside _ m from to ∙ to_z-of_z w64 _ c.ranges.value in
    let sum = c.in_ok-sum.ensures.values m (omega arith) (omega arith) in
    let fits : FitsSigned w64 (value_at c.args.self.now m +ℤ c.args.value) = omega (arith, ints, c.requires.bounds m from to) in
    subst claim (sym c.drop.view_is) (held _ _ _ _ sum more fits)

pub returns-clause-before : goal.returns-clause-before
returns-clause-before c m from to =
    let claim : Timeline → Type 0 = λ t. value_at t m ≡ value_at c.args.self.now m in
    let more = c.in_ok-more.ensures.values m (omega arith) (omega arith) ∙ share_before _ m to in
    let sum = c.in_ok-sum.ensures.values m (omega arith) (omega arith) in
    subst claim (sym c.drop.view_is) (stays _ _ _ sum more (c.in_ok-sum.ensures.whole m (omega arith) (omega arith)))

pub returns-clause-after : goal.returns-clause-after
returns-clause-after c m from to =
    let claim : Timeline → Type 0 = λ t. value_at t m ≡ value_at c.args.self.now m in
    let more = c.in_ok-more.ensures.values m (omega arith) (omega arith) ∙ share_behind _ m from in
    let sum = c.in_ok-sum.ensures.values m (omega arith) (omega arith) in
    subst claim (sym c.drop.view_is) (stays _ _ _ sum more (c.in_ok-sum.ensures.whole m (omega arith) (omega arith)))
