-- The trial tables with teams are sound: each row suits those before it.
use Rattle.std.proofs.Common.{refl}
use Rattle.desk_base.specs.declared.rows.tables.Tables.{Tables}
use Rattle.desk_base.specs.rows.Trial.{trial}
use Rattle.desk_base.specs.declared.rows.resources.Kind.TheVariants.{Crew, Pool}
use Rattle.desk_base.specs.changes.Changes.{with_row, with_one}
use Rattle.desk_base.specs.rules.Sound.{IsSound, AreWellFormed}
use Rattle.desk_base.proofs.puts.SoundPuts.{sound_with_row}
use Rattle.desk_base.proofs.puts.Suits.{Suits}
use Rattle.desk_base.proofs.tables.TrialSound.{trial_sound, Fits-none}
use Rattle.desk_base.proofs.tables.Sounds.{well_formed}
use Rattle.tests_load.specs.Teams.{team, early_member, off_late}

abbrev with_crew : Tables
with_crew = with_row trial (team 10 Crew)

abbrev with_pool : Tables
with_pool = with_row with_crew (team 20 Pool)

abbrev with_crew_member : Tables
with_crew_member = with_row with_pool (early_member 10 2)

abbrev with_pool_member : Tables
with_pool_member = with_row with_crew_member (early_member 20 1)

abbrev pub with_teams : Tables
with_teams = with_row with_pool_member off_late

crew_suits : Suits trial (team 10 Crew)
unfolding with_one
crew_suits = record { cited = refl; fields = refl; place = refl; unbooked = refl }

pool_suits : Suits with_crew (team 20 Pool)
unfolding with_one
pool_suits = record { cited = refl; fields = refl; place = refl; unbooked = refl }

crew_member_suits : Suits with_pool (early_member 10 2)
unfolding with_one
crew_member_suits = record { cited = refl; fields = refl; place = refl; unbooked = refl }

pool_member_suits : Suits with_crew_member (early_member 20 1)
unfolding with_one
pool_member_suits = record { cited = refl; fields = refl; place = refl; unbooked = refl }

off_suits : Suits with_pool_member off_late
unfolding with_one
off_suits = record { cited = refl; fields = refl; place = refl; unbooked = refl }

teams_sound : IsSound with_teams
teams_sound =
    sound_with_row with_pool_member off_late
    (sound_with_row with_crew_member (early_member 20 1)
    (sound_with_row with_pool (early_member 10 2)
    (sound_with_row with_crew (team 20 Pool)
    (sound_with_row trial (team 10 Crew) trial_sound crew_suits (Fits-none with_crew))
    pool_suits (Fits-none with_pool))
    crew_member_suits (Fits-none with_crew_member))
    pool_member_suits (Fits-none with_pool_member))
    off_suits (Fits-none with_teams)

pub teams_formed : AreWellFormed with_teams
teams_formed = well_formed with_teams teams_sound
