use Rattle.desk_bench.proofs.works.views.minutes_to.Given as goal

-- the blank that was just made
abbrev pub ghosts-first_of : goal.ghosts-first_of
ghosts-first_of a = record { name = a.blank.name; parts = a.blank.parts }
