use Rattle.std.proofs.Common.{◌≡◌, Option, Some, None, sym}
use Rattle.std.proofs.lemmas.Option.{none-some}
use Rattle.std.specs.Prelude.{MatchOption}
use Rattle.desk_core.specs.Effects.{IsPlaced}
use Rattle.desk_core.proofs.Judged.{can_be_entered, fit_entered, late_entered}
use Rattle.desk_core.proofs.Unrefused.{group_known, numbers_left}
use Rattle.desk_core.proofs.changing.judge_and_enter.Goals as goal

none_holds : {A : Type 0} (o : Option A) (P : Type 0) (Q : A → Type 0) → o ≡ None → MatchOption o P Q → P
none_holds None P Q e h = h
none_holds (Some x) P Q e h = absurd (none-some x (sym e))

pub refused_at_place-requires-clause-known : goal.refused_at_place-requires-clause-known
refused_at_place-requires-clause-known c = group_known c.args.view.now.tables c.args.journal.now.items c.args.call.now c.args.act.now c.requires.early

pub enter-requires-clause-can_be_entered : goal.enter-requires-clause-can_be_entered
enter-requires-clause-can_be_entered c = can_be_entered c.args.view.now.tables c.args.journal.now.items c.args.call.now c.requires.sound c.args.act.now c.requires.served c.requires.early (none_holds c.in-Ok-None.field-0 (IsPlaced c.args.view.now.tables c.args.act.now) _ c.in-Ok-None.field-0-is c.in-Ok-None.ensures)

pub enter-requires-clause-numbers : goal.enter-requires-clause-numbers
enter-requires-clause-numbers c = numbers_left c.args.view.now.tables c.args.journal.now.items c.args.call.now c.args.act.now c.requires.sound c.requires.early

pub returns-in-Ok-None-clause-fits : goal.returns-in-Ok-None-clause-fits
returns-in-Ok-None-clause-fits c = fit_entered c.args.view.now.tables c.args.call.now c.args.act.now c.enter.result c.requires.served c.enter.ensures.fits

pub returns-in-Ok-None-clause-refused : goal.returns-in-Ok-None-clause-refused
returns-in-Ok-None-clause-refused c = late_entered c.args.view.now.tables c.args.call.now c.args.act.now c.enter.result c.requires.served c.enter.ensures.refused
