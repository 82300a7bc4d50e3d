use Rattle.std.proofs.Common.{◌+◌, ◌<◌, sym, ap, subst, ◌∙◌, arith}
use Rattle.desk_base.specs.meaning.Load.{sort_of, load}
use Rattle.desk_member.specs.declared.items.Item.{Item}
use Rattle.desk_member.specs.Pieces.{taken}
use Rattle.desk_member.specs.Parts.{ask_of_item, part_in, KeepsItems}
use Rattle.desk_member.proofs.Shares.{nothing_taken}
use Rattle.desk_member.proofs.Adding.{on_ok, is_there, keeps_part}
use Rattle.desk_member.proofs.pieces.add_member.Goals as goal

pub add_plain-requires-clause-plain : goal.add_plain-requires-clause-plain
add_plain-requires-clause-plain c = ap (λ (i : Item). sort_of c.args.tables.now i.resource) c.in-Some.ensures.some ∙ c.requires.plain

pub returns-in-Some-clause-each : goal.returns-in-Some-clause-each
returns-in-Some-clause-each c =
    let t = c.args.tables.now in let p = c.args.piece.now in let x = c.args.row.now in
    on_ok c.add_plain.result _ _ (λ k. keeps_part t p x x.member c.args.items.now c.add_plain.new.items (is_there t x.member (λ u. absurd (let z = sym c.requires.plain ∙ u in cc)))
    (subst (λ (q : Item). q.from < q.to) c.in-Some.ensures.some c.in-Some.ensures.not_empty)
    (subst (λ q. KeepsItems t q c.args.items.now c.add_plain.new.items) c.in-Some.ensures.some k)) c.add_plain.ensures.each

pub returns-in-Some-clause-sums : goal.returns-in-Some-clause-sums
returns-in-Some-clause-sums c =
    let t = c.args.tables.now in
    on_ok c.add_plain.result _ _ (λ k. λ r m. k r m ∙ ap (λ q. taken c.args.items.now r m + load t r m (ask_of_item q)) c.in-Some.ensures.some) c.add_plain.ensures.sums

pub returns-in-None-clause-each : goal.returns-in-None-clause-each
returns-in-None-clause-each c = λ a i h. h

pub returns-in-None-clause-sums : goal.returns-in-None-clause-sums
returns-in-None-clause-sums c r m =
    let n = nothing_taken c.args.tables.now r m (part_in c.args.piece.now c.args.row.now c.args.row.now.member) c.in-None.ensures.none in omega (arith, n)
