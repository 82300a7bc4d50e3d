use Rattle.std.proofs.Common.{List, map, ap, ◌∙◌}
use Rattle.std.specs.Prelude.{find, option_map}
use Rattle.desk_base.specs.declared.rows.calendars.WorkRow.{WorkRow}
use Rattle.desk_base.specs.declared.rows.tables.AnyRow.TheVariants.{Work}
use Rattle.desk_base.specs.rows.Rows.{key_of}
use Rattle.desk_base.specs.asked.Refusing.{cites}
use Rattle.desk_change.proofs.Naming.{of_works}
use Rattle.desk_change.proofs.in_use.lists.citing_work.Goals as goal

pub returns : goal.returns
returns c =
    let k = c.args.key.now in
    c.first_citing.ensures ∙ ap (λ (rows : List WorkRow). option_map key_of (find (cites k) (map Work rows))) c.works_of.ensures ∙ of_works c.args.tables.now k
