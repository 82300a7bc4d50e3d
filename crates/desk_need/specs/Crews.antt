-- The crews of a schedule.
use Rattle.std.specs.Prelude.{◌≡◌, ℕ, Bool, List, map, filter}
use Rattle.std.specs.List.{AllByRecursion}
use Rattle.desk_base.specs.declared.rows.tables.Tables.{Tables}
use Rattle.desk_base.specs.declared.rows.resources.ResourceRow.{ResourceRow}
use Rattle.desk_base.specs.declared.rows.groups.Node.{Node}
use Rattle.desk_base.specs.declared.rows.groups.Same.TheVariants.{Crew}
use Rattle.desk_base.specs.meaning.Load.{sort_of_kind, is_crew}

-- the row is of a crew
unfoldable pub is_crew_row : ResourceRow → Bool
is_crew_row x = is_crew (sort_of_kind x.kind)

-- the numbers of all crews, rising
abbrev pub crews_of : Tables → List ℕ
crews_of t = map (λ x. x.id) (filter is_crew_row t.resources)

-- these are all crews, where one of the nodes asks that those who are chosen are of one crew
abbrev pub AreCrewsFor : Tables → List Node → List ℕ → Type 0
AreCrewsFor t nodes crews = AllByRecursion (λ n. n.same ≡ Crew → crews ≡ crews_of t) nodes
