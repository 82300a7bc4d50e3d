use Rattle.std.proofs.Common.{ℕ, ◌+◌, take, ◌∙◌, refl, sym, ap, arith}
use Rattle.std.specs.Prelude.{sum_by}
use Rattle.desk_base.specs.declared.rows.resources.MemberRow.{MemberRow}
use Rattle.desk_base.specs.meaning.Capacity.{capacity}
use Rattle.desk_base.specs.meaning.Load.{members}
use Rattle.desk_load.specs.Uses.{capacity_through}
use Rattle.desk_load.proofs.Staying.{stays_as, sum_more, sum_all}
use Rattle.desk_load.proofs.Used.{capacity_of_members}
use Rattle.desk_load.proofs.view.free.FreeView.pool_room.Goals as goal

pub loop-row-preserved : goal.loop-row-preserved
loop-row-preserved c =
    let t = c.args.self.now.tables in
    let m : ℕ = c.args.minute in
    let rows = c.rows_of-row-items.result.now in
    let i : ℕ = c.loop-row.row-index in
    let s = sum_more (capacity_through t) m c.loop-row.sum.value c.capacity_share.result.value c.loop-row.sum.until c.capacity_share.result.until i rows c.row-item.result c.loop-row-test.true c.row-item.is c.loop-row.invariant.room c.capacity_share.ensures.room in
    let e = c.together-sum.ensures in
    record {
      room = stays_as _ (λ k. sum_by (λ (x : MemberRow). capacity_through t x k) (take (i + 1) rows)) m _ c.together-sum.result.value _ c.together-sum.result.until s (omega (arith, s.later, e.until)) (omega (arith, e.until)) (sym e.value) (λ k lo hi. refl);
      small = omega (arith, e.value, c.loop-row.invariant.small, c.capacity_share.ensures.small);
    }

pub returns-clause-room : goal.returns-clause-room
returns-clause-room c =
    let t = c.args.self.now.tables in
    let m : ℕ = c.args.minute in
    let rows = c.rows_of-row-items.result.now in
    let s = sum_all (capacity_through t) m c.loop-row.sum.value c.loop-row.sum.until c.loop-row.row-index rows c.loop-row-test.false c.loop-row.invariant.room in
    stays_as _ (λ k. sum_by (λ x. capacity t x k) (members t c.args.pool k)) m _ _ _ c.loop-row.sum.until s s.later (omega arith) refl
    (λ k lo hi. capacity_of_members t c.args.pool k ∙ ap (sum_by (λ (x : MemberRow). capacity_through t x k)) (sym c.rows_of-row-items.ensures.rows))
