use Rattle.std.proofs.Common.{◌≡◌, map, take, None}
use Rattle.desk_base.specs.declared.rows.tables.Table.TheVariants.{Resource}
use Rattle.desk_base.specs.rows.Keys.{id_key}
use Rattle.desk_base.specs.asked.Refusing.{picked, unknown_among}
use Rattle.desk_change.proofs.citing.unknown_among_picks.Given as goal

abbrev pub invariant-loop-pick : goal.invariant-loop-pick
invariant-loop-pick l = unknown_among l.tables (map (id_key Resource) (picked (take l.pick-index l.picks))) ≡ None
