use Rattle.std.proofs.Common.{ap, ◌∙◌, ◌-◌, take, drop, length}
use Rattle.std.specs.Prelude.{flat_map}
use Rattle.std.specs.Option.{option_or}
use Rattle.desk_base.specs.rows.Rows.{leaf_citations}
use Rattle.desk_rules.specs.Missing.{missing}
use Rattle.desk_rules.proofs.FirstOfAll.{missing_first}
use Rattle.desk_rules.proofs.citations.+of_leaves.Goals as goal

pub returns-in-None : goal.returns-in-None
returns-in-None t c =
    let leaves = c.args.leaves.now in
    let tables = c.args.tables.now in
    c.of_leaves.ensures ∙ ap (λ o. option_or o (missing tables (flat_map leaf_citations (take (length leaves - 1) (drop 1 leaves))))) c.in-None.ensures
    ∙ missing_first tables leaves c.first-item.result c.in-len1-up.len_at_least c.first-item.is
