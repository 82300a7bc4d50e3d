use Rattle.std.proofs.Common.{◌≡◌, take, pos}
use Rattle.desk_base.specs.rules.Limits.{end_of_minutes}
use Rattle.desk_calendar.proofs.ClockLemmas.{last_offset, next_shift}
use Rattle.desk_calendar.proofs.clocks.by_shifts.Given as goal

abbrev pub invariant-loop-shift : goal.invariant-loop-shift
invariant-loop-shift l = record {
  offset : l.offset ≡ last_offset l.minute (pos 0) (take l.shift-index l.shifts);
  until : l.until ≡ next_shift l.minute end_of_minutes (take l.shift-index l.shifts);
}
