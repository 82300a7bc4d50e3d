use Rattle.std.proofs.Common.{Err, rules, arith}
use Rattle.desk_kept.specs.Stored.{tables_held, IsStored}
use Rattle.desk_kept.proofs.HeldRows.{all_read, refused}
use Rattle.desk_kept.proofs.loading.read_rows.Goals as goal

pub returns-in_err-put_kept : goal.returns-in_err-put_kept
returns-in_err-put_kept c =
    let why = c.in_err-put_kept.field-0.0 in
    let h : IsStored (tables_held c.args.version c.args.rows.now) (Err why) =
    refused c.args.version c.loop-kept.before c.loop-kept.tables c.args.rows.now c.loop-kept.kept-index c.kept-item.result why (omega arith) c.kept-item.is c.loop-kept.invariant c.in_err-put_kept.ensures.bad in
    search (rules, h)

pub returns : goal.returns
returns c = all_read c.args.version c.loop-kept.before c.loop-kept.tables c.args.rows.now c.loop-kept.kept-index (omega arith) c.loop-kept.invariant
