use Rattle.desk_batch.proofs.Served.{requested_built}
use Rattle.desk_batch.proofs.turns.stepped.Goals as goal

pub step-answer-requires : goal.step-answer-requires
step-answer-requires c = requested_built c.args.command.now c.requires
