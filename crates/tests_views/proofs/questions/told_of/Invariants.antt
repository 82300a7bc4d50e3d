use Rattle.tests_views.proofs.questions.told_of.Given as goal

-- the blank that was just made
abbrev pub ghosts-probe : goal.ghosts-probe
ghosts-probe a = record { name = a.blank.name; parts = a.blank.parts }
