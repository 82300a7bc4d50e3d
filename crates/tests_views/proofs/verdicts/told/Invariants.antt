use Rattle.tests_views.proofs.verdicts.told.Given as goal

-- the blank that was just made
abbrev pub ghosts-verdict : goal.ghosts-verdict
ghosts-verdict a = record { name = a.blank.name; parts = a.blank.parts }
