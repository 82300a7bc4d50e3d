use Rattle.desk_bench.proofs.works.pages.page_after.Given as goal

-- the blank that was just made
abbrev pub ghosts-page_over : goal.ghosts-page_over
ghosts-page_over a = record { name = a.blank.name; parts = a.blank.parts }
