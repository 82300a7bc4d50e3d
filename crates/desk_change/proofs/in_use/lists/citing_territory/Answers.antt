use Rattle.std.proofs.Common.{List, map, ap, ◌∙◌}
use Rattle.std.specs.Prelude.{find, option_map}
use Rattle.desk_base.specs.declared.rows.resources.HasRow.{HasRow}
use Rattle.desk_base.specs.declared.rows.tables.AnyRow.TheVariants.{HasTerritory}
use Rattle.desk_base.specs.rows.Rows.{key_of}
use Rattle.desk_base.specs.asked.Refusing.{cites}
use Rattle.desk_change.proofs.Naming.{of_territories}
use Rattle.desk_change.proofs.in_use.lists.citing_territory.Goals as goal

pub returns-in-Resource : goal.returns-in-Resource
returns-in-Resource c =
    let k = c.args.key.now in
    c.first_citing.ensures ∙ ap (λ (rows : List HasRow). option_map key_of (find (cites k) (map HasTerritory rows))) c.territories_of.ensures ∙ of_territories c.args.tables.now k c.in-Resource.is
