use Rattle.desk_base.proofs.meaning.Fewer.{Fits-others}
use Rattle.desk_bench.proofs.works.refusals.has_conflict.Goals as goal

pub place_refusal-requires-clause-fits : goal.place_refusal-requires-clause-fits
place_refusal-requires-clause-fits c = Fits-others c.args.tables.now c.args.group.now c.requires.fits
