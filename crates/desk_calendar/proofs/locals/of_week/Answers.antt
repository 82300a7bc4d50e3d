use Rattle.std.proofs.Common.{◌∙◌, ap, sym, cond, arith, is_some}
use Rattle.std.specs.Prelude.{find}
use Rattle.std.specs.Option.{option_map_or}
use Rattle.desk_base.specs.declared.rows.calendars.WorkRow.{WorkRow}
use Rattle.desk_base.specs.declared.rows.calendars.BreakRow.{BreakRow}
use Rattle.desk_base.specs.meaning.Time.{covers}
use Rattle.desk_base.proofs.lists.Bounds.{any_found}
use Rattle.desk_calendar.proofs.LocalLemmas.{week_still}
use Rattle.desk_calendar.proofs.locals.of_week.Goals as goal

pub returns-in-Some-clause-capacity : goal.returns-in-Some-clause-capacity
returns-in-Some-clause-capacity c =
    let works = c.args.works.now in
    let breaks = c.args.breaks.now in
    let m = c.args.minute in
    let found = any_found (λ (b : BreakRow). covers b.from b.to m) breaks ∙ ap is_some (sym c.in-Some.ensures) in
    sym (ap (λ b. cond b 0 (option_map_or (λ (w : WorkRow). w.capacity) (find (λ (w : WorkRow). covers w.from w.to m) works) 0)) found)

pub returns-in-None-clause-capacity : goal.returns-in-None-clause-capacity
returns-in-None-clause-capacity c =
    let works = c.args.works.now in
    let breaks = c.args.breaks.now in
    let m = c.args.minute in
    let found = any_found (λ (b : BreakRow). covers b.from b.to m) breaks ∙ ap is_some (sym c.in-None.ensures) in
    c.of_works.ensures.value ∙ sym (ap (λ b. cond b 0 (option_map_or (λ (w : WorkRow). w.capacity) (find (λ (w : WorkRow). covers w.from w.to m) works) 0)) found)

pub returns-in-Some-clause-steady : goal.returns-in-Some-clause-steady
returns-in-Some-clause-steady c k l h = week_still c.args.breaks.now c.args.works.now c.args.minute k (c.next_bound-near.ensures.still.at k l (omega (arith, c.next_bound-until.ensures.below))) (c.next_bound-until.ensures.still.at k l h)

pub returns-in-None-clause-steady : goal.returns-in-None-clause-steady
returns-in-None-clause-steady c k l h = week_still c.args.breaks.now c.args.works.now c.args.minute k (c.next_bound-near.ensures.still.at k l (omega (arith, c.next_bound-until.ensures.below))) (c.next_bound-until.ensures.still.at k l h)
