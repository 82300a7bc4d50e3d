use Rattle.std.proofs.Common.{◌≡◌, true, sym, ◌∙◌}
use Rattle.desk_kept.specs.Stored.{is_header}
use Rattle.desk_kept.proofs.HeldRows.{header_holds_none}
use Rattle.desk_kept.proofs.loading.put_kept.Goals as goal

pub returns-then-is_header-clause-tables : goal.returns-then-is_header-clause-tables
returns-then-is_header-clause-tables c =
    let is : is_header c.args.kept.now ≡ true = sym c.is_header.ensures ∙ c.if-is_header.true in
    header_holds_none c.args.version c.args.kept.now c.args.tables.now is
