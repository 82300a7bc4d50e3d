use Rattle.std.proofs.Common.{◌+◌, sym, ap, ◌∙◌}
use Rattle.std.proofs.lemmas.Bool.{false≢true}
use Rattle.desk_member.specs.Pieces.{taken}
use Rattle.desk_member.proofs.Shares.{pool_alone}
use Rattle.desk_member.proofs.Adding.{on_ok, keeps_push, takes_more, is_plain_from}
use Rattle.desk_member.proofs.pieces.add_piece.Goals as goal

pub add_crew-requires-clause-crew : goal.add_crew-requires-clause-crew
add_crew-requires-clause-crew c = c.is_crew.ensures.0 c.if-is_crew.true

pub returns-then-is_pool-clause-each : goal.returns-then-is_pool-clause-each
returns-then-is_pool-clause-each c = on_ok c.push.result _ _ (λ e. keeps_push c.args.tables.now c.args.piece.now c.args.piece.now c.args.items.now c.push.new.self e (λ a i. i)) c.push.ensures.ok

pub returns-then-is_pool-clause-sums : goal.returns-then-is_pool-clause-sums
returns-then-is_pool-clause-sums c =
    let t = c.args.tables.now in let p = c.args.piece.now in
    on_ok c.push.result _ _ (λ e. λ r m. takes_more p c.args.items.now c.push.new.self r m e ∙ ap (λ n. taken c.args.items.now r m + n) (sym (pool_alone t p r m c.requires.well_formed (c.is_pool.ensures.0 c.if-is_pool.true)))) c.push.ensures.ok

pub add_plain-requires-clause-plain : goal.add_plain-requires-clause-plain
add_plain-requires-clause-plain c = is_plain_from c.args.tables.now c.args.piece.now.resource c.requires.there
    (λ s. false≢true (sym c.if-is_crew.false ∙ c.is_crew.ensures.1 s)) (λ s. false≢true (sym c.if-is_pool.false ∙ c.is_pool.ensures.1 s))
