use Rattle.std.proofs.Common.{sym, ap, ◌∙◌}
use Rattle.tests_pruned.specs.Sound.{rises}
use Rattle.tests_pruned.proofs.Sounding.{rising, sound_from}
use Rattle.tests_pruned.proofs.sound.is_sound.Goals as goal

pub returns : goal.returns
returns c = λ e.
    let s = c.args.listed.now in
    sound_from s (rising s.lives (ap rises (sym c.as_slice.ensures) ∙ sym c.rises.ensures ∙ c.if-not-rises.false)) (c.all_are_placed.ensures c.if-not-all_are_placed.false) (c.all_are_choices.ensures e)
