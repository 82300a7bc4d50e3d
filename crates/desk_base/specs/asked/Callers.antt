-- What is known of callers.
use Rattle.std.specs.Prelude.{ℕ, ◌==◌, find}
use Rattle.std.specs.Option.{option_map_or}
use Rattle.desk_base.specs.rows.Types.{Tables}

-- the number of the caller's last change, or 0 before its first
abbrev pub last_number : Tables → ℕ → ℕ
last_number t caller = option_map_or (λ x. x.last) (find (λ x. x.caller == caller) t.callers) 0
