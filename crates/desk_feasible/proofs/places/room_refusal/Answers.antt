use Rattle.std.proofs.Common.{arith}
use Rattle.desk_base.specs.meaning.Picks.{choices_of}
use Rattle.desk_base.proofs.meaning.Shapes.{few_leaves}
use Rattle.desk_feasible.proofs.Asked.{ends_fit}
use Rattle.desk_feasible.proofs.Refusing.{feasible, conflict}
use Rattle.desk_feasible.proofs.places.room_refusal.Goals as goal

pub clash_with_others-requires-clause-few : goal.clash_with_others-requires-clause-few
clash_with_others-requires-clause-few c = omega (arith, few_leaves c.args.tables.now c.args.group.now c.requires.formed c.requires.there)

pub clash_with_others-requires-clause-end : goal.clash_with_others-requires-clause-end
clash_with_others-requires-clause-end c = ends_fit c.args.tables.now c.args.group.now c.args.start (choices_of 0 c.args.group.now.leaves c.args.picks.now) (omega (arith, c.get-end.ensures.value, c.get-end.ensures.high)) c.requires.served.serve

pub returns-in-Some : goal.returns-in-Some
returns-in-Some c = conflict c.args.tables.now c.args.group.now c.args.start c.args.picks.now c.in-Some.clash c.requires.served c.requires.same (rw c.in-Some.is at c.in_ok-clash.ensures)

pub returns-in-None : goal.returns-in-None
returns-in-None c = feasible c.args.tables.now c.args.group.now c.args.start c.args.picks.now c.requires.served c.requires.same (rw c.in-None.is at c.in_ok-clash.ensures)
