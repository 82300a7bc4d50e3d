-- Times off.
use Rattle.std.specs.Prelude.{ℕ, Bool, ◌==◌, ◌&&◌}
use Rattle.std.specs.List.{list_any}
use Rattle.desk_base.specs.declared.rows.tables.Tables.{Tables}
use Rattle.desk_base.specs.meaning.Time.{covers}

-- a time off of the resource covers the minute
abbrev pub is_off : Tables → ℕ → ℕ → Bool
is_off t r m = list_any (λ o. (o.resource == r) && covers o.from o.to m) t.offs
