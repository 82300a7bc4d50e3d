-- Minutes that are all in some spans.
use Rattle.std.specs.Prelude.{ℕ, Bool, ◌&&◌, ◌||◌, nat_le, min, max, List, [], ◌∷◌}
use Rattle.desk_base.specs.declared.rows.resources.MemberRow.{MemberRow}

-- each minute from one on and below another: what the first span leaves on both sides is in the others
abbrev pub are_covered : List MemberRow → ℕ → ℕ → Bool
are_covered [] from to = nat_le to from
are_covered (x ∷ xs) from to = nat_le to from || (are_covered xs from (min to x.from) && are_covered xs (max from x.to) to)
