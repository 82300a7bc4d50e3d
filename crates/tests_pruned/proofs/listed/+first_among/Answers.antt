use Rattle.std.proofs.Common.{◌≤◌, ◌-◌, ◌∷◌, take, drop, length, refl, sym, ◌∙◌, subst, arith, Some}
use Rattle.std.proofs.lemmas.Bool.{false≢true}
use Rattle.tests_pruned.specs.Listed.{IsFirstAmong}
use Rattle.tests_pruned.proofs.Among.{first_split, among_first, among_rest}
use Rattle.tests_pruned.proofs.listed.+first_among.Goals as goal

pub returns-then-is_alone : goal.returns-then-is_alone
returns-then-is_alone t c =
    let some : 1 ≤ length c.args.lives.now = omega arith in
    let rest = take (length c.args.lives.now - 1) (drop 1 c.args.lives.now) in
    let alone = c.is_alone.ensures.0 c.if-is_alone.true in
    subst (λ l. IsFirstAmong l c.args.pick.now c.args.from (Some c.earlier.result)) (sym (first_split c.args.lives.now rest c.first-item.result some c.first-item.is refl))
    (subst (λ n. IsFirstAmong (c.first-item.result ∷ rest) c.args.pick.now c.args.from (Some n)) (sym c.earlier.ensures) (among_first c.first-item.result rest c.args.pick.now c.args.from c.first_among-rest.result alone.0 alone.1 c.first_among-rest.ensures))

pub returns-else-is_alone : goal.returns-else-is_alone
returns-else-is_alone t c =
    let some : 1 ≤ length c.args.lives.now = omega arith in
    subst (λ l. IsFirstAmong l c.args.pick.now c.args.from c.first_among-rest.result) (sym (first_split c.args.lives.now _ c.first-item.result some c.first-item.is refl))
    (among_rest c.first-item.result _ c.args.pick.now c.args.from c.first_among-rest.result (λ l e. false≢true (sym c.if-is_alone.false ∙ c.is_alone.ensures.1 (l, e))) c.first_among-rest.ensures)
