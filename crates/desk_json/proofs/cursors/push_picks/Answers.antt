use Rattle.std.proofs.Common.{rules, arith}
use Rattle.std.proofs.lemmas.Grind.{common_steps}
use Rattle.std.proofs.lemmas.List.Elements.{All-more}
use Rattle.desk_json.specs.CursorReading.{IsPick}
use Rattle.desk_json.proofs.cursors.push_picks.Goals as goal

pub loop-pick-preserved : goal.loop-pick-preserved
loop-pick-preserved c = (grind (arith, common_steps), All-more IsPick c.args.picks.now c.loop-pick.pick-index c.pick-item.result (omega arith) c.loop-pick.invariant.1 (search rules))
