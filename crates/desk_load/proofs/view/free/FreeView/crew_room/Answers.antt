use Rattle.std.proofs.Common.{ℕ, true, cond, Some, None, ◌∙◌, sym, ap}
use Rattle.std.specs.List.{list_any}
use Rattle.desk_base.specs.declared.rows.resources.MemberRow.{MemberRow}
use Rattle.desk_base.specs.meaning.Time.{covers}
use Rattle.desk_load.proofs.Staying.{any_stays}
use Rattle.desk_load.proofs.Used.{crew_room_by_rows}
use Rattle.desk_load.proofs.view.free.FreeView.crew_room.Goals as goal

pub returns-clause-room : goal.returns-clause-room
returns-clause-room c =
    let t = c.args.self.now.tables in
    let g : ℕ = c.args.crew in
    let rows = c.rows_of-rows.result.now in
    let e = c.next_bound.ensures in
    let s = any_stays (λ (x : MemberRow). true) (λ x. x.from) (λ x. x.to) c.args.minute c.next_bound.result rows (e.later c.requires) e.below e.still in
    record {
      later = s.later;
      inside = s.inside;
      value_at = λ k lo hi.
          crew_room_by_rows t g k
          ∙ ap (λ l. cond (list_any (λ (x : MemberRow). covers x.from x.to k) l) None (Some 0)) (sym c.rows_of-rows.ensures.rows)
          ∙ ap (λ b. cond b None (Some 0)) (s.value_at k lo hi ∙ sym c.any_covers.ensures)
          ∙ sym c.bound_of_crew.ensures;
    }
