use Rattle.desk_bench.proofs.works.views.is_free.Given as goal

-- the blank that was just made
abbrev pub ghosts-probe : goal.ghosts-probe
ghosts-probe a = record { name = a.blank.name; parts = a.blank.parts }
