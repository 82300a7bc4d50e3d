use Rattle.std.proofs.Common.{◌≡◌, List, refl, sym, ap, ◌∙◌, subst, []}
use Rattle.desk_base.specs.declared.asked.acts.Change.{Change}
use Rattle.desk_base.specs.declared.rows.tables.AnyRow.{AnyRow}
use Rattle.desk_base.specs.declared.rows.tables.Key.{Key}
use Rattle.desk_base.specs.changes.Changes.{with_change}
use Rattle.desk_base.specs.rows.Trial.{trial}
use Rattle.desk_base.specs.rules.Sound.{AreWellFormed}
use Rattle.tests_load.specs.Teams.{teams}
use Rattle.tests_load.proofs.Teamed.{with_teams, teams_formed}
use Rattle.tests_load.proofs.teams.with_teams.Goals as goal

abbrev change_of : List AnyRow → List Key → Change
change_of puts removes = record { puts = puts; removes = removes; revision = 0; last_booking = 0 }

changed : with_change trial (change_of teams []) ≡ with_teams
unfolding with_change
changed = refl

pub returns-in-Ok : goal.returns-in-Ok
returns-in-Ok c =
    let e = c.in-Ok.ensures in
    let made = e.change ∙ ap (λ l. change_of l c.new.result) c.in_ok-team_rows.ensures ∙ ap (change_of teams) c.new.ensures in
    let t = e.tables ∙ c.in_ok-tables.ensures.same in
    subst AreWellFormed (sym (c.apply.ensures ∙ ap (λ u. with_change u c.in-Ok.prepared.change) t ∙ ap (with_change trial) made ∙ changed)) teams_formed
