use Rattle.std.proofs.Common.{List, map, ap, ◌∙◌}
use Rattle.std.specs.Prelude.{find, option_map}
use Rattle.desk_base.specs.declared.rows.calendars.OffRow.{OffRow}
use Rattle.desk_base.specs.declared.rows.tables.AnyRow.TheVariants.{Off}
use Rattle.desk_base.specs.rows.Rows.{key_of}
use Rattle.desk_base.specs.asked.Refusing.{cites}
use Rattle.desk_change.proofs.Naming.{of_offs}
use Rattle.desk_change.proofs.in_use.lists.citing_off.Goals as goal

pub returns : goal.returns
returns c =
    let k = c.args.key.now in
    c.first_citing.ensures ∙ ap (λ (rows : List OffRow). option_map key_of (find (cites k) (map Off rows))) c.offs_of.ensures ∙ of_offs c.args.tables.now k
