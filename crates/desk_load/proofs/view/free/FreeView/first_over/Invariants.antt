use Rattle.std.proofs.Common.{take}
use Rattle.desk_load.specs.Overs.{IsFirstAmong}
use Rattle.desk_load.proofs.view.free.FreeView.first_over.Given as goal

abbrev pub invariant-loop-resource : goal.invariant-loop-resource
invariant-loop-resource l = IsFirstAmong l.self.tables (take l.resource-index l.suspects) l.found
