-- Where the keys rise in the tables that a keeper tells, they rise after a call too.
use Rattle.std.proofs.Common.{Option, Some, None}
use Rattle.desk_base.specs.declared.asked.acts.Change.{Change}
use Rattle.desk_base.proofs.tables.KeyRises.{rise-with_change}
use Rattle.desk_keeper.specs.Kept.{Kept, after_call, after_commit}
use Rattle.tests_keeper.specs.Telling.{ToldRise}

pub rise_commit : (change : Change) (told : Option Kept) → ToldRise told → ToldRise (after_commit change told)
rise_commit change None h = tt
rise_commit change (Some k) h = rise-with_change k.tables change h

pub rise_call : (told : Option Kept) → ToldRise told → ToldRise (after_call told)
rise_call None h = tt
rise_call (Some k) h = h
