use Rattle.std.proofs.Common.{ap, ◌∙◌}
use Rattle.std.specs.Prelude.{option_map}
use Rattle.desk_base.specs.rows.Rows.{key_of}
use Rattle.desk_base.specs.asked.Refusing.{cites}
use Rattle.desk_rules.proofs.Firsts.{found_key}
use Rattle.desk_change.proofs.in_use.lists.first_citing.Goals as goal

pub returns : goal.returns
returns g c =
    let any = g.R.Citing.any c.args.table in
    c.key_of_found.ensures ∙ ap (option_map (λ row. key_of (any row))) c.citing-found.ensures
    ∙ found_key key_of any (cites c.args.key.now) c.args.rows.now
