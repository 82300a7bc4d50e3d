use Rattle.std.proofs.Common.{◌<◌, length, ap, ◌∙◌, arith}
use Rattle.std.proofs.lemmas.List.Sums.{sum_by_more}
use Rattle.std.specs.Prelude.{sum_by}
use Rattle.desk_base.proofs.lists.Bounds.{take_whole}
use Rattle.desk_member.specs.Parts.{pool_share}
use Rattle.desk_member.proofs.Shares.{plain_shares}
use Rattle.desk_member.proofs.Adding.{keeps_push, keeps_then, takes_more}
use Rattle.desk_member.proofs.pieces.add_plain.Goals as goal

pub loop-row-init : goal.loop-row-init
loop-row-init c = record { each = λ a i h. h; sums = λ r m. omega arith }

pub loop-row-preserved : goal.loop-row-preserved
loop-row-preserved c =
    let t = c.args.tables.now in let p = c.args.piece.now in
    let inside : c.loop-row.row-index < length c.of_member-row-items.result.now = omega arith in
    record {
      each = keeps_then t p _ _ _ c.loop-row.invariant.each c.in_ok-add_pool.ensures.each;
      sums = λ r m.
          let more = sum_by_more (pool_share t p r m) c.of_member-row-items.result.now c.loop-row.row-index c.row-item.result inside in
          let same = ap (pool_share t p r m) c.row-item.is in
          omega (arith, more, same, c.loop-row.invariant.sums r m, c.in_ok-add_pool.ensures.sums r m);
    }

pub returns-clause-each : goal.returns-clause-each
returns-clause-each c = keeps_then c.args.tables.now c.args.piece.now _ _ _
    (keeps_push c.args.tables.now c.args.piece.now c.args.piece.now c.args.items.now _ c.in_ok-push.ensures.ok (λ a i. i)) c.loop-row.invariant.each

pub returns-clause-sums : goal.returns-clause-sums
returns-clause-sums c r m =
    let t = c.args.tables.now in let p = c.args.piece.now in
    let rows = c.of_member-row-items.result.now in
    let all = ap (λ l. sum_by (pool_share t p r m) l) (take_whole rows c.loop-row.row-index c.loop-row-test.false ∙ c.of_member-row-items.ensures ∙ c.requires.memberships.each p.resource) in
    omega (arith, all, c.loop-row.invariant.sums r m, takes_more p c.args.items.now c.push.new.self r m c.in_ok-push.ensures.ok, plain_shares t p r m c.requires.plain)
