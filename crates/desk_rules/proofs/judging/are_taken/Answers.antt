use Rattle.std.proofs.Common.{length, nat_le, List, ap, sym, ◌∙◌, subst}
use Rattle.std.specs.List.{list_all}
use Rattle.std.specs.Prelude.{IsTrue, ◌↔◌, ◌≤◌}
use Rattle.desk_base.specs.declared.rows.tables.Table.{Table}
use Rattle.desk_base.specs.rows.Rows.{rows_in}
use Rattle.desk_base.specs.rules.Sound.{taken_limit_of}
use Rattle.desk_rules.proofs.Walk.{few_in_all}
use Rattle.desk_rules.proofs.judging.are_taken.Goals as goal

pub returns : goal.returns
returns c =
    let t = c.args.tables.now in
    let e = c.are_few.ensures ∙ ap (λ (all : List Table). list_all (λ table. nat_le (length (rows_in t table)) (taken_limit_of table)) all) c.all_tables-all.ensures in
    subst (λ b. IsTrue b ↔ ((table : Table) → length (rows_in t table) ≤ taken_limit_of table)) (sym e) (few_in_all t)
