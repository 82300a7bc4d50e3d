use Rattle.std.proofs.Common.{take, ap, ◌∙◌}
use Rattle.std.proofs.lemmas.List.{take_min}
use Rattle.desk_base.specs.rules.Limits.{summary_limit}
use Rattle.desk_core.proofs.journaled.first_of.Goals as goal

pub returns : goal.returns
returns c = ap (λ n. take n c.args.entries.now) c.min.ensures ∙ take_min summary_limit c.args.entries.now
