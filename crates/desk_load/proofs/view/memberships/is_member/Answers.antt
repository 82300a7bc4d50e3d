use Rattle.std.proofs.Common.{ℕ, ◌∙◌, sym, ap, arith, ◌==◌}
use Rattle.std.specs.List.{list_any}
use Rattle.desk_base.specs.declared.rows.resources.MemberRow.{MemberRow}
use Rattle.desk_base.specs.meaning.Load.{members}
use Rattle.desk_load.proofs.Staying.{stays_as, any_stays}
use Rattle.desk_load.proofs.Used.{joins, member_by_rows}
use Rattle.desk_load.proofs.view.memberships.is_member.Goals as goal

pub returns : goal.returns
returns c t same =
    let g : ℕ = c.args.group in
    let r : ℕ = c.args.resource in
    let m : ℕ = c.args.minute in
    let rows = c.of_member-rows.result.now in
    let is_rows = c.of_member-rows.ensures ∙ same.each r in
    let e = c.next_bound.ensures in
    let s = any_stays (λ (x : MemberRow). x.group == g) (λ x. x.from) (λ x. x.to) m c.next_bound.result rows (e.later c.requires) e.below e.still in
    stays_as _ (λ k. list_any (λ x. x == r) (members t g k)) m _ _ c.next_bound.result c.next_bound.result s (e.later c.requires) (omega arith) (sym c.any_joins.ensures) (λ k lo hi. member_by_rows t g r k ∙ ap (list_any (joins g k)) (sym is_rows))
