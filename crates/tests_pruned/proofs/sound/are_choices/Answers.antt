use Rattle.std.proofs.Common.{sym, ◌∙◌, arith}
use Rattle.std.proofs.lemmas.Grind.{common_steps}
use Rattle.tests_pruned.proofs.Sounding.{picks_rising}
use Rattle.tests_pruned.proofs.sound.are_choices.Goals as goal

pub returns-then-picks_rise : goal.returns-then-picks_rise
returns-then-picks_rise c = λ e. record {
  rise = picks_rising c.args.choices.now (sym c.picks_rise.ensures ∙ c.if-picks_rise.true);
  few = grind (arith, common_steps);
}
