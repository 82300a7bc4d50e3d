use Rattle.std.proofs.Common.{refl, sym, subst}
use Rattle.desk_base.specs.declared.asked.answers.Command.{Command}
use Rattle.desk_base.specs.declared.asked.answers.Outcome.{Outcome}
use Rattle.desk_base.specs.asked.Steps.{IsTurn}
use Rattle.desk_core.specs.Built.{IsBuilt}
use Rattle.desk_base.proofs.tables.Sounds.{bookings_fit}
use Rattle.desk_core.proofs.Outcomes.{asked_turn}
use Rattle.desk_core.proofs.Promised.{turn_first, turn_leaves, booked_whole}
use Rattle.desk_core.proofs.book.Book.step.Goals as goal

pub change-outcome-requires : goal.change-outcome-requires
change-outcome-requires c = subst (λ (k : Command). IsBuilt k) c.in-Change.is c.requires

pub returns-in-Change-clause-step : goal.returns-in-Change-clause-step
returns-in-Change-clause-step c =
    subst (λ (o : Outcome). IsTurn c.args.self.now.tables c.args.self.now.journal c.args.pass c.args.command.now o c.change-outcome.new.self.tables c.change-outcome.new.self.journal) (sym c.answered.ensures.outcome)
    (subst (λ (k : Command). IsTurn c.args.self.now.tables c.args.self.now.journal c.args.pass k c.change-outcome.result c.change-outcome.new.self.tables c.change-outcome.new.self.journal) (sym c.in-Change.is) c.change-outcome.ensures.turn)

pub returns-in-Change-clause-revision : goal.returns-in-Change-clause-revision
returns-in-Change-clause-revision c = c.answered.ensures.revision

pub returns-in-Change-clause-opened : goal.returns-in-Change-clause-opened
returns-in-Change-clause-opened c = c.change-outcome.ensures.opened

pub returns-in-Ask-clause-step : goal.returns-in-Ask-clause-step
returns-in-Ask-clause-step c =
    subst (λ (o : Outcome). IsTurn c.args.self.now.tables c.args.self.now.journal c.args.pass c.args.command.now o c.args.self.now.tables c.args.self.now.journal) (sym c.answered-in-Ask.ensures.outcome)
    (subst (λ (k : Command). IsTurn c.args.self.now.tables c.args.self.now.journal c.args.pass k c.told-outcome.result c.args.self.now.tables c.args.self.now.journal) (sym c.in-Ask.is)
    (asked_turn c.args.self.now.tables c.args.self.now.journal c.args.pass c.in-Ask.query c.told-outcome.result c.told-outcome.ensures))

pub returns-in-Ask-clause-revision : goal.returns-in-Ask-clause-revision
returns-in-Ask-clause-revision c = c.answered-in-Ask.ensures.revision

pub returns-in-Ask-clause-opened : goal.returns-in-Ask-clause-opened
returns-in-Ask-clause-opened c = refl

pub returns-in-Change-clause-first_reason : goal.returns-in-Change-clause-first_reason
returns-in-Change-clause-first_reason c =
    turn_first c.args.self.now.tables c.change-outcome.new.self.tables c.args.self.now.journal c.change-outcome.new.self.journal c.args.pass c.args.command.now c.answered.result.outcome (returns-in-Change-clause-step c)

pub returns-in-Change-clause-nothing_done : goal.returns-in-Change-clause-nothing_done
returns-in-Change-clause-nothing_done c =
    turn_leaves c.args.self.now.tables c.change-outcome.new.self.tables c.args.self.now.journal c.change-outcome.new.self.journal c.args.pass c.args.command.now c.answered.result.outcome (returns-in-Change-clause-step c)

pub returns-in-Change-clause-booked_whole : goal.returns-in-Change-clause-booked_whole
returns-in-Change-clause-booked_whole c = booked_whole c.change-outcome.new.self.tables c.answered.ensures.sound

pub returns-in-Change-clause-within_room : goal.returns-in-Change-clause-within_room
returns-in-Change-clause-within_room c = bookings_fit c.change-outcome.new.self.tables c.answered.ensures.sound

pub returns-in-Ask-clause-first_reason : goal.returns-in-Ask-clause-first_reason
returns-in-Ask-clause-first_reason c =
    turn_first c.args.self.now.tables c.args.self.now.tables c.args.self.now.journal c.args.self.now.journal c.args.pass c.args.command.now c.answered-in-Ask.result.outcome (returns-in-Ask-clause-step c)

pub returns-in-Ask-clause-nothing_done : goal.returns-in-Ask-clause-nothing_done
returns-in-Ask-clause-nothing_done c =
    turn_leaves c.args.self.now.tables c.args.self.now.tables c.args.self.now.journal c.args.self.now.journal c.args.pass c.args.command.now c.answered-in-Ask.result.outcome (returns-in-Ask-clause-step c)

pub returns-in-Ask-clause-booked_whole : goal.returns-in-Ask-clause-booked_whole
returns-in-Ask-clause-booked_whole c = booked_whole c.args.self.now.tables c.answered-in-Ask.ensures.sound

pub returns-in-Ask-clause-within_room : goal.returns-in-Ask-clause-within_room
returns-in-Ask-clause-within_room c = bookings_fit c.args.self.now.tables c.answered-in-Ask.ensures.sound
