use Rattle.std.proofs.Common.{◌+◌, ◌-◌, ◌/◌, arith}
use Rattle.std.proofs.Math.Nat.{div-mul-le_self}
use Rattle.desk_load.proofs.StartLemmas.{before_next, next_among}
use Rattle.desk_load.proofs.view.starts.start_from.Goals as goal

pub returns-clause-start : goal.returns-clause-start
returns-clause-start c = next_among c.args.among.now c.args.start ((c.args.minute - c.args.start + c.args.among.now.step - 1) / c.args.among.now.step) c.requires.start

pub returns-clause-least : goal.returns-clause-least
returns-clause-least c s a l h =
    let q = (c.args.minute - c.args.start + c.args.among.now.step - 1) / c.args.among.now.step in
    before_next c.args.among.now c.args.start c.args.minute q s c.requires.step (omega (arith, c.requires.step, div-mul-le_self (c.args.minute - c.args.start + c.args.among.now.step - 1) c.args.among.now.step)) c.requires.later c.requires.start a h
