use Rattle.desk_rules.proofs.WellFormed.{kept_if_none}
use Rattle.desk_rules.proofs.formed.keep.Goals as goal

pub returns : goal.returns
returns c = kept_if_none c.args.rule c.args.tables.now c.least_broken-broken.result c.is_none.result c.is_none.ensures c.least_broken-broken.ensures
