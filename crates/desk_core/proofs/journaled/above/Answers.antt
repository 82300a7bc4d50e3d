use Rattle.std.proofs.Common.{length, drop, ap, ◌∙◌, ◌-◌, arith}
use Rattle.std.proofs.lemmas.List.{take_all, length-drop}
use Rattle.desk_core.proofs.Revisions.{entries_above}
use Rattle.desk_core.proofs.journaled.above.Goals as goal

pub returns : goal.returns
returns c =
    let rest = length-drop c.passed.result c.args.journal.now in
    take_all (length c.args.journal.now - c.passed.result) (drop c.passed.result c.args.journal.now) (omega (arith, rest))
    ∙ ap (λ n. drop n c.args.journal.now) c.passed.ensures ∙ entries_above c.args.last c.args.from c.args.journal.now c.requires
