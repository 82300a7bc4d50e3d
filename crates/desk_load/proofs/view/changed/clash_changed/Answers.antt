use Rattle.std.proofs.Common.{sym, ap, ◌∙◌, subst}
use Rattle.std.specs.Prelude.{Contains}
use Rattle.desk_load.specs.Differing.{suspects_of}
use Rattle.desk_load.proofs.Bearing.{others_within}
use Rattle.desk_load.proofs.view.changed.clash_changed.Goals as goal

pub clash_standing-requires-clause-others : goal.clash_standing-requires-clause-others
clash_standing-requires-clause-others c r m i n =
    let k = c.args.key.now in
    let named = c.as_slice.ensures.value ∙ c.in_ok-suspects.ensures ∙ ap (λ t. suspects_of t k) c.of_all-view.ensures.tables in
    others_within c.args.before.value c.args.tables.now k c.requires.changed c.requires.fits r m i (λ j. n (subst (λ l. Contains l r) (sym named) j))
