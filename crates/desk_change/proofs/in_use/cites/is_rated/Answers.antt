use Rattle.std.proofs.Common.{sym, ◌∙◌}
use Rattle.desk_change.proofs.Naming.{other_ratings}
use Rattle.desk_change.proofs.in_use.cites.is_rated.Goals as goal

pub returns-else-is_of_table : goal.returns-else-is_of_table
returns-else-is_of_table c = c.if-is_of_table.false ∙ sym (other_ratings c.args.key.now c.args.ratings.now (sym c.is_of_table.ensures ∙ c.if-is_of_table.false))
