use Rattle.std.proofs.Common.{◌∙◌}
use Rattle.desk_change.proofs.Citers.{by_citers}
use Rattle.desk_change.proofs.in_use.citing_row.Goals as goal

pub returns : goal.returns
returns c = c.citing_among_citers.ensures ∙ by_citers c.args.tables.now c.args.key.now c.requires.master
