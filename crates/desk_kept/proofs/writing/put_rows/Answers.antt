use Rattle.std.proofs.Common.{refl, sym, subst, arith}
use Rattle.desk_kept.specs.Typed.{HasHorizon}
use Rattle.desk_kept.proofs.RowSteps.{next_mapped}
use Rattle.desk_kept.proofs.writing.put_rows.Goals as goal

pub kept_row-requires : goal.kept_row-requires
kept_row-requires g c =
    subst HasHorizon (sym c.in_ok-row.ensures)
    (next_mapped HasHorizon (g.R.Written.any c.args.table) c.args.rows.now c.args.rows.now refl c.loop-row.row-index c.row-item.result (omega arith) c.row-item.is c.requires)
