use Rattle.std.proofs.Common.{not, ap, ◌∙◌}
use Rattle.std.specs.Prelude.{option_map}
use Rattle.desk_base.specs.rows.Rows.{key_of}
use Rattle.desk_rules.specs.Broken.{cites_there}
use Rattle.desk_rules.proofs.Firsts.{found_key}
use Rattle.desk_rules.proofs.judging.first_uncited.Goals as goal

pub returns : goal.returns
returns g c =
    let any = g.R.Judged.any c.args.table in
    c.key_of_found.ensures ∙ ap (option_map (λ row. key_of (any row))) c.uncited-found.ensures
    ∙ found_key key_of any (λ row. not (cites_there c.args.tables.now row)) c.args.rows.now
