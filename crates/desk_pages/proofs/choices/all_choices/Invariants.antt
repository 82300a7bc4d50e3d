use Rattle.desk_pages.specs.Spaces.{AreChoicesOf}
use Rattle.desk_pages.proofs.choices.all_choices.Given as goal

abbrev pub invariant-loop-leaf : goal.invariant-loop-leaf
invariant-loop-leaf l = AreChoicesOf l.case.tables l.case.group.leaves l.leaf l.all
