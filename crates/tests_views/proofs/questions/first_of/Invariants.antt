use Rattle.tests_views.proofs.questions.first_of.Given as goal

-- the blank that was just made
abbrev pub ghosts-first_fit : goal.ghosts-first_fit
ghosts-first_fit a = record { name = a.blank.name; parts = a.blank.parts }
