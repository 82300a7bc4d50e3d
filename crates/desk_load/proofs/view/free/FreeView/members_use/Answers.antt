use Rattle.std.proofs.Common.{ℕ, ◌+◌, take, ◌∙◌, refl, sym, ap, arith}
use Rattle.std.specs.Prelude.{sum_by}
use Rattle.desk_base.specs.declared.rows.resources.MemberRow.{MemberRow}
use Rattle.desk_base.specs.meaning.Load.{members, plain_load}
use Rattle.desk_load.specs.Uses.{share_through}
use Rattle.desk_load.specs.Views.{demand_at}
use Rattle.desk_load.proofs.Staying.{stays_as, sum_more, sum_all}
use Rattle.desk_load.proofs.Used.{use_of_members}
use Rattle.desk_load.proofs.view.free.FreeView.members_use.Goals as goal

pub loop-row-preserved : goal.loop-row-preserved
loop-row-preserved c =
    let t = c.args.self.now.tables in
    let d = c.args.demand.now in
    let m : ℕ = c.args.minute in
    let rows = c.rows_of-row-items.result.now in
    let i : ℕ = c.loop-row.row-index in
    let s = sum_more (share_through t d) m c.loop-row.sum.value c.share.result.value c.loop-row.sum.until c.share.result.until i rows c.row-item.result c.loop-row-test.true c.row-item.is c.loop-row.invariant.taken c.share.ensures.taken in
    let e = c.together-sum.ensures in
    record {
      taken = stays_as _ (λ k. sum_by (λ (x : MemberRow). share_through t d x k) (take (i + 1) rows)) m _ c.together-sum.result.value _ c.together-sum.result.until s (omega (arith, s.later, e.until)) (omega (arith, e.until)) (sym e.value) (λ k lo hi. refl);
      small = omega (arith, e.value, c.loop-row.invariant.small, c.share.ensures.small);
    }

pub returns-clause-taken : goal.returns-clause-taken
returns-clause-taken c =
    let t = c.args.self.now.tables in
    let d = c.args.demand.now in
    let m : ℕ = c.args.minute in
    let rows = c.rows_of-row-items.result.now in
    let s = sum_all (share_through t d) m c.loop-row.sum.value c.loop-row.sum.until c.loop-row.row-index rows c.loop-row-test.false c.loop-row.invariant.taken in
    stays_as _ (λ k. sum_by (λ x. plain_load t x k (demand_at d k)) (members t c.args.pool k)) m _ _ _ c.loop-row.sum.until s s.later (omega arith) refl
    (λ k lo hi. use_of_members t c.args.pool k d ∙ ap (sum_by (λ (x : MemberRow). share_through t d x k)) (sym c.rows_of-row-items.ensures.rows))
