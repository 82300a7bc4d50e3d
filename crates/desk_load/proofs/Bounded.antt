-- The room of what is no crew is bounded.
use Rattle.std.proofs.Common.{◌≡◌, ℕ, true, false, Option, Some, refl, sym, subst, pos}
use Rattle.std.proofs.lemmas.Bool.{false≢true}
use Rattle.std.specs.Prelude.{option_map, unwrap_or, sum_by}
use Rattle.desk_base.specs.declared.rows.tables.Tables.{Tables}
use Rattle.desk_base.specs.meaning.Capacity.{capacity}
use Rattle.desk_base.specs.meaning.Load.{LoadSort, plain, crew, pool, unknown, sort_of, is_crew, members, room}
use Rattle.desk_load.proofs.Used.{room_as}

pub crew_is : (s : LoadSort) → is_crew s ≡ true → s ≡ crew
crew_is crew e = refl
crew_is plain e = absurd (false≢true e)
crew_is pool e = absurd (false≢true e)
crew_is unknown e = absurd (false≢true e)

bounded : (o : Option ℕ) (n : ℕ) → o ≡ Some n → option_map pos o ≡ Some (pos (unwrap_or o 0))
bounded o n e = subst (λ o. option_map pos o ≡ Some (pos (unwrap_or o 0))) (sym e) refl

pub bounded_room : (t : Tables) (r m : ℕ) → is_crew (sort_of t r) ≡ false → option_map pos (room t r m) ≡ Some (pos (unwrap_or (room t r m) 0))
bounded_room t r m h = by (sort_of t r) refl h
  where
    by : (s : LoadSort) → sort_of t r ≡ s → is_crew s ≡ false → option_map pos (room t r m) ≡ Some (pos (unwrap_or (room t r m) 0))
    by plain e f = bounded (room t r m) (capacity t r m) (room_as plain t r m e)
    by crew e f = absurd (false≢true (sym f))
    by pool e f = bounded (room t r m) (sum_by (λ x. capacity t x m) (members t r m)) (room_as pool t r m e)
    by unknown e f = bounded (room t r m) 0 (room_as unknown t r m e)
