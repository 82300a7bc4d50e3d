use Rattle.std.proofs.Common.{ℕ, ◌≡◌, List, ◌++◌, take}
use Rattle.desk_load.specs.Scans.{members_and_groups}
use Rattle.desk_load.specs.Shown.{first_on}
use Rattle.desk_load.proofs.view.free.FreeView.first_with_members.Given as goal

abbrev pub invariant-loop-row : goal.invariant-loop-row
invariant-loop-row l = (seen : List ℕ) → l.fn.found ≡ first_on l.self l.place seen → l.least ≡ first_on l.self l.place (seen ++ members_and_groups l.self.tables (take l.row-index l.row-items) l.place.minute)
