use Rattle.std.proofs.Common.{ℕ, ◌==◌, ◌&&◌, not, ap, ◌∙◌}
use Rattle.std.specs.Prelude.{filter}
use Rattle.std.specs.List.{list_any}
use Rattle.desk_base.specs.declared.rows.calendars.WorkRow.{WorkRow}
use Rattle.desk_base.specs.rules.Fields.{overlaps}
use Rattle.desk_rules.proofs.Tests.{any_within_pair}
use Rattle.desk_rules.proofs.fields.calendars.meets_other_work.Goals as goal

pub returns : goal.returns
returns c =
    let w : WorkRow = c.args.work.now in
    let works = c.args.tables.now.works in
    let meets = λ (x : WorkRow). not (x.from == w.from) && overlaps x.from x.to w.from w.to in
    c.meets_work.ensures ∙ ap (list_any meets) c.works_at-others.ensures
    ∙ ap (λ (n : ℕ). list_any meets (filter (λ (x : WorkRow). (x.calendar == w.calendar) && (x.weekday == n)) works)) c.from.ensures
    ∙ any_within_pair (λ (x : WorkRow). (x.calendar == w.calendar) && (x.weekday == w.weekday)) (λ x. not (x.from == w.from)) (λ x. overlaps x.from x.to w.from w.to) works
