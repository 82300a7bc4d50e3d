use Rattle.std.proofs.Common.{◌≡◌, ◌+◌, ◌<◌, sym, ap, subst, ◌∙◌, arith}
use Rattle.std.proofs.lemmas.Bool.{false≢true}
use Rattle.desk_base.specs.meaning.Load.{sort_of, pool}
use Rattle.desk_member.specs.declared.items.Item.{Item}
use Rattle.desk_member.specs.Pieces.{taken, item_at, IsItemOf}
use Rattle.desk_member.proofs.Adding.{on_ok, is_there, keeps_push, takes_more, part_item, no_pool_share, pool_share_is, empty_pool_share}
use Rattle.desk_member.proofs.pieces.add_pool.Goals as goal

pub returns-then-not-is_pool-clause-each : goal.returns-then-not-is_pool-clause-each
returns-then-not-is_pool-clause-each c = λ a i h. h

pub returns-then-not-is_pool-clause-sums : goal.returns-then-not-is_pool-clause-sums
returns-then-not-is_pool-clause-sums c r m =
    let n = no_pool_share c.args.tables.now c.args.piece.now r m c.args.row.now (λ s. false≢true (sym c.if-not-is_pool.true ∙ c.is_pool.ensures.1 s)) in omega (arith, n)

pub returns-in-Some-clause-each : goal.returns-in-Some-clause-each
returns-in-Some-clause-each c =
    let t = c.args.tables.now in let p = c.args.piece.now in let x = c.args.row.now in
    let s : sort_of t x.group ≡ pool = c.is_pool.ensures.0 c.if-not-is_pool.false in
    on_ok c.push.result _ _ (λ e. keeps_push t p c.in-Some.part c.args.items.now c.push.new.self e
    (λ a i. subst (IsItemOf t a) (sym c.in-Some.ensures.some)
    (part_item t a p x x.group i (is_there t x.group (λ u. absurd (let z = sym s ∙ u in cc))) (subst (λ (q : Item). q.from < q.to) c.in-Some.ensures.some c.in-Some.ensures.not_empty)))) c.push.ensures.ok

pub returns-in-Some-clause-sums : goal.returns-in-Some-clause-sums
returns-in-Some-clause-sums c =
    let t = c.args.tables.now in let p = c.args.piece.now in let x = c.args.row.now in
    let s : sort_of t x.group ≡ pool = c.is_pool.ensures.0 c.if-not-is_pool.false in
    on_ok c.push.result _ _ (λ e. λ r m.
    takes_more c.in-Some.part c.args.items.now c.push.new.self r m e
    ∙ ap (λ q. taken c.args.items.now r m + item_at r m q) c.in-Some.ensures.some
    ∙ ap (λ n. taken c.args.items.now r m + n) (sym (pool_share_is t p r m x s))) c.push.ensures.ok

pub returns-in-None-clause-each : goal.returns-in-None-clause-each
returns-in-None-clause-each c = λ a i h. h

pub returns-in-None-clause-sums : goal.returns-in-None-clause-sums
returns-in-None-clause-sums c r m =
    let n = empty_pool_share c.args.tables.now c.args.piece.now r m c.args.row.now c.in-None.ensures.none in omega (arith, n)
