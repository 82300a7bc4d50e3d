use Rattle.std.proofs.Common.{◌==◌, ◌&&◌, not, ap, ◌∙◌}
use Rattle.std.specs.List.{list_any}
use Rattle.desk_base.specs.declared.rows.calendars.DayRow.{DayRow}
use Rattle.desk_base.specs.rules.Fields.{overlaps}
use Rattle.desk_rules.proofs.Tests.{any_within_pair}
use Rattle.desk_rules.proofs.fields.calendars.meets_other_day.Goals as goal

pub returns : goal.returns
returns c =
    let d : DayRow = c.args.day.now in
    let meets = λ (x : DayRow). not (x.from == d.from) && overlaps x.from x.to d.from d.to in
    c.meets_day.ensures ∙ ap (list_any meets) c.days_at-others.ensures
    ∙ any_within_pair (λ (x : DayRow). (x.calendar == d.calendar) && (x.day == d.day)) (λ x. not (x.from == d.from)) (λ x. overlaps x.from x.to d.from d.to) c.args.tables.now.days
