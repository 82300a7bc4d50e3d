use Rattle.std.proofs.Common.{◌≤◌, ◌*◌, ◌^◌, take}
use Rattle.std.specs.Prelude.{sum_by}
use Rattle.desk_base.specs.declared.rows.resources.MemberRow.{MemberRow}
use Rattle.desk_load.specs.Steady.{Stays}
use Rattle.desk_load.specs.Uses.{share_through}
use Rattle.desk_load.proofs.view.free.FreeView.members_use.Given as goal

abbrev pub invariant-loop-row : goal.invariant-loop-row
invariant-loop-row l = record {
  taken : Stays (λ k. sum_by (λ (x : MemberRow). share_through l.self.tables l.demand x k) (take l.row-index l.row-items)) l.minute l.sum.value l.sum.until;
  small : l.sum.value ≤ l.row-index * 2 ^ 32;
}
