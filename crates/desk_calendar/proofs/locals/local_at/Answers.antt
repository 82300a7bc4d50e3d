use Rattle.std.proofs.Common.{◌≡◌, ◌/◌, ◌∙◌, sym, false, true, ◌==◌, length}
use Rattle.desk_base.specs.rules.Limits.{minutes_a_day}
use Rattle.desk_calendar.proofs.LocalLemmas.{by_days, by_week}
use Rattle.desk_calendar.proofs.locals.local_at.Goals as goal

pub returns-then-not-is_empty-clause-capacity : goal.returns-then-not-is_empty-clause-capacity
returns-then-not-is_empty-clause-capacity c =
    let some : (length c.days_at-days.result.now == 0) ≡ false = sym c.is_empty.ensures ∙ c.if-not-is_empty.true in
    c.of_day.ensures.capacity ∙ sym (by_days c.args.tables.now c.args.calendar (c.args.shown / minutes_a_day) c.days_at-days.result.now _ c.days_at-days.ensures some)

pub returns-then-not-is_empty-clause-steady : goal.returns-then-not-is_empty-clause-steady
returns-then-not-is_empty-clause-steady c k l h =
    let some : (length c.days_at-days.result.now == 0) ≡ false = sym c.is_empty.ensures ∙ c.if-not-is_empty.true in
    by_days c.args.tables.now c.args.calendar (c.args.shown / minutes_a_day) c.days_at-days.result.now k c.days_at-days.ensures some ∙ c.of_day.ensures.steady k l h ∙ sym c.of_day.ensures.capacity

pub returns-clause-capacity : goal.returns-clause-capacity
returns-clause-capacity c =
    let none : (length c.days_at-days.result.now == 0) ≡ true = sym c.is_empty.ensures ∙ c.if-not-is_empty.false in
    c.of_week.ensures.capacity ∙ sym (by_week c.args.tables.now c.args.calendar (c.args.shown / minutes_a_day) c.days_at-days.result.now c.breaks_at.result.now c.works_at.result.now _ c.days_at-days.ensures none c.breaks_at.ensures c.works_at.ensures)

pub returns-clause-steady : goal.returns-clause-steady
returns-clause-steady c k l h =
    let none : (length c.days_at-days.result.now == 0) ≡ true = sym c.is_empty.ensures ∙ c.if-not-is_empty.false in
    by_week c.args.tables.now c.args.calendar (c.args.shown / minutes_a_day) c.days_at-days.result.now c.breaks_at.result.now c.works_at.result.now k c.days_at-days.ensures none c.breaks_at.ensures c.works_at.ensures ∙ c.of_week.ensures.steady k l h ∙ sym c.of_week.ensures.capacity
