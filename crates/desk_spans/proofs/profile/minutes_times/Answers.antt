use Rattle.std.proofs.Common.{rules}
use Rattle.std.proofs.lemmas.Int.{to_z-of_z}
use Rattle.desk_spans.proofs.Sizes.{unsigned_abs-times}
use Rattle.desk_spans.proofs.profile.minutes_times.Goals as goal

pub returns-clause-size : goal.returns-clause-size
returns-clause-size c = search (rules, to_z-of_z, unsigned_abs-times c.args.minutes c.args.value c.ranges.value)
