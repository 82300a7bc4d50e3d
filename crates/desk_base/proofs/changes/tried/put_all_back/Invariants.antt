use Rattle.std.proofs.Common.{◌≡◌, vec_len}
use Rattle.desk_base.specs.rows.Lookups.{KeysRise}
use Rattle.desk_base.specs.changes.OpenTables.{tables_of}
use Rattle.desk_base.specs.changes.Formers.{taken_back, HavePlaces}
use Rattle.desk_base.proofs.changes.tried.put_all_back.Given as goal

abbrev pub invariant-loop-former : goal.invariant-loop-former
invariant-loop-former l = record {
  rise : KeysRise (tables_of l.tables);
  places : HavePlaces (tables_of l.tables) l.formers.items;
  same : taken_back (tables_of l.tables) l.formers.items ≡ taken_back (tables_of l.initial.tables) l.initial.formers.items;
}

abbrev pub decreases-loop-former : goal.decreases-loop-former
decreases-loop-former l = vec_len l.formers
