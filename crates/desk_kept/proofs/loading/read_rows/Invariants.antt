use Rattle.std.proofs.Common.{◌≡◌, None, drop}
use Rattle.desk_base.specs.rows.Trial.{no_rows}
use Rattle.desk_kept.proofs.HeldRows.{held_after}
use Rattle.desk_kept.proofs.loading.read_rows.Given as goal

abbrev pub invariant-loop-kept : goal.invariant-loop-kept
invariant-loop-kept l = held_after l.version None no_rows l.fn.rows ≡ held_after l.version l.before l.tables (drop l.kept-index l.rows)
