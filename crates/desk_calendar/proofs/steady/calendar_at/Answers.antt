use Rattle.std.proofs.Common.{◌≡◌, ℕ, ◌<◌, ◌+◌, ◌/◌, ◌%◌, ◌∙◌, ap, sym, arith}
use Rattle.desk_base.specs.rules.Limits.{minutes_a_day}
use Rattle.desk_base.specs.meaning.Time.{clock_minute}
use Rattle.desk_base.specs.meaning.Capacity.{calendar_capacity, shifts_of}
use Rattle.desk_calendar.proofs.ClockLemmas.{same_day}
use Rattle.desk_calendar.proofs.steady.calendar_at.Goals as goal

pub returns-clause-steady : goal.returns-clause-steady
returns-clause-steady c k l h =
    let t = c.args.tables.now in
    let id : ℕ = c.args.calendar in
    let s : ℕ = c.clock_at-shown.result.shown in
    let on = c.clock_at-shown.ensures.on.on k l (omega (arith, h, c.min.ensures)) in
    let e : ℕ = on.0 in
    let clock : clock_minute (shifts_of t id) k ≡ s + e = on.2 ∙ ap (λ n. n + e) (sym c.clock_at-shown.ensures.shown) in
    let inside : s % minutes_a_day + e < c.local_at-local.result.until = omega (arith, h, c.min.ensures, on.1) in
    let day = same_day s e (omega (arith, inside, c.local_at-local.ensures.until)) in
    ap (λ n. calendar_capacity t id (record { day = n / minutes_a_day; minute = n % minutes_a_day })) clock
    ∙ ap (λ n. calendar_capacity t id (record { day = n; minute = (s + e) % minutes_a_day })) day.0
    ∙ ap (λ n. calendar_capacity t id (record { day = s / minutes_a_day; minute = n })) day.1
    ∙ c.local_at-local.ensures.steady (s % minutes_a_day + e) (omega arith) inside
