use Rattle.std.proofs.Common.{◌<◌, ◌==◌, length, ap, subst, ◌∙◌, arith}
use Rattle.std.proofs.lemmas.List.Sums.{sum_by_more}
use Rattle.std.specs.Prelude.{sum_by}
use Rattle.desk_base.specs.declared.rows.resources.MemberRow.{MemberRow}
use Rattle.desk_base.proofs.lists.Bounds.{take_whole}
use Rattle.desk_base.proofs.lists.Members.{IsIn, in-filter}
use Rattle.desk_member.specs.Parts.{crew_share}
use Rattle.desk_member.proofs.MemberRows.{member_plain}
use Rattle.desk_member.proofs.Shares.{crew_shares}
use Rattle.desk_member.proofs.Adding.{keeps_push, keeps_then, takes_more, get_in}
use Rattle.desk_member.proofs.pieces.add_crew.Goals as goal

pub add_member-requires-clause-plain : goal.add_member-requires-clause-plain
add_member-requires-clause-plain c =
    let rows = c.memberships_of-row-items.result.now in
    let inside : c.loop-row.row-index < length rows = omega arith in
    let here = get_in rows c.loop-row.row-index c.row-item.result inside c.row-item.is in
    let row = subst (IsIn c.row-item.result) c.memberships_of-row-items.ensures here in
    member_plain c.args.tables.now c.row-item.result c.requires.well_formed (in-filter (λ (x : MemberRow). x.group == c.args.piece.now.resource) c.row-item.result c.args.tables.now.members row).0

pub loop-row-init : goal.loop-row-init
loop-row-init c = record { each = λ a i h. h; sums = λ r m. omega arith }

pub loop-row-preserved : goal.loop-row-preserved
loop-row-preserved c =
    let t = c.args.tables.now in let p = c.args.piece.now in
    let inside : c.loop-row.row-index < length c.memberships_of-row-items.result.now = omega arith in
    record {
      each = keeps_then t p _ _ _ c.loop-row.invariant.each c.in_ok-add_member.ensures.each;
      sums = λ r m.
          let more = sum_by_more (crew_share t p r m) c.memberships_of-row-items.result.now c.loop-row.row-index c.row-item.result inside in
          let same = ap (crew_share t p r m) c.row-item.is in
          omega (arith, more, same, c.loop-row.invariant.sums r m, c.in_ok-add_member.ensures.sums r m);
    }

pub returns-clause-each : goal.returns-clause-each
returns-clause-each c = keeps_then c.args.tables.now c.args.piece.now _ _ _
    (keeps_push c.args.tables.now c.args.piece.now c.args.piece.now c.args.items.now _ c.in_ok-push.ensures.ok (λ a i. i)) c.loop-row.invariant.each

pub returns-clause-sums : goal.returns-clause-sums
returns-clause-sums c r m =
    let t = c.args.tables.now in let p = c.args.piece.now in
    let rows = c.memberships_of-row-items.result.now in
    let all = ap (λ l. sum_by (crew_share t p r m) l) (take_whole rows c.loop-row.row-index c.loop-row-test.false ∙ c.memberships_of-row-items.ensures) in
    omega (arith, all, c.loop-row.invariant.sums r m, takes_more p c.args.items.now c.push.new.self r m c.in_ok-push.ensures.ok, crew_shares t p m c.requires.well_formed c.requires.crew r)
