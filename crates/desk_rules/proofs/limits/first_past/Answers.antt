use Rattle.std.proofs.Common.{ℕ, ap, map, ◌∙◌}
use Rattle.std.specs.Prelude.{option_map}
use Rattle.std.specs.List.{slice_get}
use Rattle.desk_base.specs.rows.Rows.{key_of}
use Rattle.desk_rules.proofs.Firsts.{got_key}
use Rattle.desk_rules.proofs.limits.first_past.Goals as goal

pub returns : goal.returns
returns g c =
    let any = g.R.Judged.any c.args.table in
    c.key_of_found.ensures ∙ ap (option_map (λ row. key_of (any row))) c.row_at-past.ensures
    ∙ got_key key_of any c.args.rows.now c.limit.result ∙ ap (λ (n : ℕ). slice_get (map key_of (map any c.args.rows.now)) n) c.limit.ensures
