use Rattle.std.proofs.Common.{List, map, ap, ◌∙◌}
use Rattle.std.specs.Prelude.{find, option_map}
use Rattle.desk_base.specs.declared.rows.calendars.BreakRow.{BreakRow}
use Rattle.desk_base.specs.declared.rows.tables.AnyRow.TheVariants.{Break}
use Rattle.desk_base.specs.rows.Rows.{key_of}
use Rattle.desk_base.specs.asked.Refusing.{cites}
use Rattle.desk_change.proofs.Naming.{of_breaks}
use Rattle.desk_change.proofs.in_use.lists.citing_break.Goals as goal

pub returns : goal.returns
returns c =
    let k = c.args.key.now in
    c.first_citing.ensures ∙ ap (λ (rows : List BreakRow). option_map key_of (find (cites k) (map Break rows))) c.breaks_of.ensures ∙ of_breaks c.args.tables.now k
