use Rattle.std.proofs.Common.{List, map, ap, ◌∙◌}
use Rattle.std.specs.Prelude.{find, option_map}
use Rattle.desk_base.specs.declared.rows.calendars.DayRow.{DayRow}
use Rattle.desk_base.specs.declared.rows.tables.AnyRow.TheVariants.{Day}
use Rattle.desk_base.specs.rows.Rows.{key_of}
use Rattle.desk_base.specs.asked.Refusing.{cites}
use Rattle.desk_change.proofs.Naming.{of_days}
use Rattle.desk_change.proofs.in_use.lists.citing_day.Goals as goal

pub returns : goal.returns
returns c =
    let k = c.args.key.now in
    c.first_citing.ensures ∙ ap (λ (rows : List DayRow). option_map key_of (find (cites k) (map Day rows))) c.days_of.ensures ∙ of_days c.args.tables.now k
