-- How a resource takes load, as the program names it.
use Rattle.std.specs.Prelude.{◌≡◌}
use Rattle.desk_base.specs.meaning.Load.{LoadSort, plain, crew, pool, unknown}
use Rattle.desk_load.specs.declared.view.sorts.Sort.{Sort}
use Rattle.desk_load.specs.declared.view.sorts.Sort.TheVariants.{Plain, Crew, Pool, Unknown}

-- the program's name for a sort of load
abbrev pub Names : Sort → LoadSort → Type 0
Names Plain sort = sort ≡ plain
Names Crew sort = sort ≡ crew
Names Pool sort = sort ≡ pool
Names Unknown sort = sort ≡ unknown
