use Rattle.std.proofs.Common.{◌≡◌, map, take}
use Rattle.desk_base.specs.asked.Summaries.{summary_of}
use Rattle.desk_core.proofs.journaled.summaries_of.Given as goal

abbrev pub invariant-loop-entry : goal.invariant-loop-entry
invariant-loop-entry l = l.shown ≡ map summary_of (take l.entry-index l.entries)
