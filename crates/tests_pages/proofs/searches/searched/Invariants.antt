use Rattle.tests_pages.proofs.searches.searched.Given as goal

abbrev pub ghosts-page_over : goal.ghosts-page_over
ghosts-page_over a = record { name = a.blank.name; parts = a.blank.parts }
