use Rattle.std.proofs.Common.{refl, sym, ap, subst}
use Rattle.desk_base.specs.declared.asked.answers.Command.TheVariants.{Change}
use Rattle.desk_base.specs.declared.asked.answers.Outcome.{Outcome}
use Rattle.desk_base.specs.declared.asked.answers.Outcome.TheVariants as outcome
use Rattle.desk_base.specs.asked.Steps.{IsTurn}
use Rattle.desk_core.specs.Books.{BookState}
use Rattle.desk_core.proofs.Outcomes.{kept_by, turn_by, repeated_turn}
use Rattle.desk_core.proofs.book.Book.change.Goals as goal

pub same-self : goal.same-self
same-self c = refl

pub kept_receipt-requires : goal.kept_receipt-requires
kept_receipt-requires c = c.self.invariant.0.sound

pub carry_out-requires-clause-sound : goal.carry_out-requires-clause-sound
carry_out-requires-clause-sound c = c.self.invariant.0.sound

pub carry_out-requires-clause-index : goal.carry_out-requires-clause-index
carry_out-requires-clause-index c = c.self.invariant.1

pub carry_out-requires-clause-served : goal.carry_out-requires-clause-served
carry_out-requires-clause-served c = c.requires

pub invariant_of-self : goal.invariant_of-self
invariant_of-self c = (
  kept_by c.self.inside.opened.value c.self.inside.view.tables c.self.inside.journal.items c.args.pass c.args.call.now c.args.act.now (sym c.in-None.ensures) c.carry_out.result c.carry_out.new.view.tables c.carry_out.new.journal.items
      c.self.invariant.0 c.carry_out.ensures.accepted c.carry_out.ensures.sound c.carry_out.ensures.after c.carry_out.ensures.entered c.carry_out.ensures.same_tables c.carry_out.ensures.same_journal,
  c.carry_out.ensures.index,
)

pub returns-in-Some-clause-turn : goal.returns-in-Some-clause-turn
returns-in-Some-clause-turn c =
    subst (λ (b : BookState). IsTurn b.tables b.journal c.args.pass (Change c.args.call.now c.args.act.now) (outcome.Repeated c.in-Some.receipt) b.tables b.journal) c.self.view_is
    (repeated_turn c.self.inside.view.tables c.self.inside.journal.items c.args.pass c.args.call.now c.args.act.now c.in-Some.receipt c.in-Some.ensures)

pub returns-in-Some-clause-opened : goal.returns-in-Some-clause-opened
returns-in-Some-clause-opened c = refl

pub returns-in-None-clause-turn : goal.returns-in-None-clause-turn
returns-in-None-clause-turn c =
    subst (λ (b : BookState). IsTurn b.tables b.journal c.args.pass (Change c.args.call.now c.args.act.now) c.outcome_of.result c.carry_out.new.view.tables c.carry_out.new.journal.items) c.self.view_is
    (subst (λ (o : Outcome). IsTurn c.self.inside.view.tables c.self.inside.journal.items c.args.pass (Change c.args.call.now c.args.act.now) o c.carry_out.new.view.tables c.carry_out.new.journal.items) (sym c.outcome_of.ensures)
    (turn_by c.self.inside.view.tables c.self.inside.journal.items c.args.pass c.args.call.now c.args.act.now (sym c.in-None.ensures) c.carry_out.result c.carry_out.new.view.tables c.carry_out.new.journal.items
    c.carry_out.ensures.accepted c.carry_out.ensures.receipt c.carry_out.ensures.after c.carry_out.ensures.entered c.carry_out.ensures.refused c.carry_out.ensures.same_tables c.carry_out.ensures.same_journal))

pub returns-in-None-clause-opened : goal.returns-in-None-clause-opened
returns-in-None-clause-opened c = ap (λ (b : BookState). b.opened) c.self.view_is
