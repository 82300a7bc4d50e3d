use Rattle.desk_load.specs.Index.{IsIndexOf}
use Rattle.desk_bench.proofs.works.bookings.prepared.Given as goal

abbrev pub invariant-loop : goal.invariant-loop
invariant-loop l = IsIndexOf l.tables l.index
